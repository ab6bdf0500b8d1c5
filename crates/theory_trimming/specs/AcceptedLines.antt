-- What the check of a proof comes to, step by step: it accepts the bytes exactly if some lines end empty, as many as there are steps, and
-- the bytes of each step state its line from the lines before it.
use Rattle.std.proofs.Math.Path.{◌≡◌, refl, ap}
use Rattle.std.proofs.Common.{sym, ◌∙◌, subst, ⊎_elim, eq-or-lt_of_le, take-take, take_at, drop-drop}
use Rattle.std.specs.Prelude.{List, [], ◌∷◌, ◌++◌, take, drop}
use Rattle.std.proofs.Math.Option.{Option, none, some}
use Prim.Native.Nat.{ℕ, zero, suc, ◌+◌, ◌*◌, ◌/◌, ◌≤◌, ◌<◌}
use native.Mathlib.Omega.{arith}
use Rattle.std.proofs.Math.ListN.{length, get_elem?, length-append}
use Rattle.std.proofs.Math.Seq.{take_all}
use Rattle.rules_types.specs.declared.answers.Checked.TheVariants.{Accepted}
use Rattle.rules_types.specs.Limits as limit
use Rattle.rules.specs.Problem.{Problem}
use Rattle.rules.specs.Lines.{Line}
use Rattle.rules.specs.Steps.{Step, step_at}
use Rattle.rules.specs.Elimination.{loadable_of}
use Rattle.rules.specs.Checker.{Followed, fails, follow, stated_line, followed, followed_lines, check_proof}
use Rattle.rules.specs.Trim.{step_count}
use Rattle.theory_lists.specs.Places.{element-last}
use Rattle.theory_checks.specs.EndsEmpty.{EndsEmpty, end-accepted}
use Rattle.theory_trimming.specs.Elements.{element-take, take-element}

module _ (parts : List Step) (bytes : List ℕ) where
  -- line k stands there, and step k states it
  abbrev pub StatedAt : List Line → ℕ → Type 0
  StatedAt ls k = (l : Line) × (get_elem? ls k ≡ some l) × (stated_line parts (take k ls) (step_at bytes k) ≡ some l)

  next-bytes : (m : ℕ) → drop limit.step_bytes (drop (limit.step_bytes * m) bytes) ≡ drop (limit.step_bytes * suc m) bytes
  next-bytes m =
      let e : limit.step_bytes * m + limit.step_bytes ≡ limit.step_bytes * suc m = omega arith in
      drop-drop limit.step_bytes (limit.step_bytes * m) bytes ∙ ap (λ (n : ℕ). drop n bytes) e

  -- ---- from the check to each step, after m of them
  abbrev From : ℕ → ℕ → List Line → List Line → Type 0
  From k m earlier ls = (length ls ≡ m + k) × (take m ls ≡ earlier) × ((i : ℕ) → m ≤ i → i < m + k → StatedAt ls i)

  from_next : (k m : ℕ) (earlier ls : List Line) (l : Line) → length earlier ≡ m → stated_line parts earlier (step_at bytes m) ≡ some l
      → From k (suc m) (earlier ++ (l ∷ [])) ls → From (suc k) m earlier ls
  from_next k m earlier ls l n s (size, front, rest) = (
    omega arith,
    before,
    λ i a b. ⊎_elim (λ e. subst (StatedAt ls) e here) (λ c. rest i c (omega arith)) (eq-or-lt_of_le a),
  )
    where
      before : take m ls ≡ earlier
      before = sym (take-take m (suc m) ls (omega arith)) ∙ ap (take m) front ∙ take_at earlier (l ∷ []) m n

      at : get_elem? ls m ≡ some l
      at = sym (element-take (suc m) ls m (omega arith)) ∙ ap (λ (s : List Line). get_elem? s m) front
          ∙ ap (get_elem? (earlier ++ (l ∷ []))) (sym n) ∙ element-last earlier l

      here : StatedAt ls m
      here = (l, at, ap (λ (s : List Line). stated_line parts s (step_at bytes m)) before ∙ s)

  followed-from : (k m : ℕ) (earlier ls : List Line) → length earlier ≡ m
      → followed parts k earlier (drop (limit.step_bytes * m) bytes) ≡ follow ls → From k m earlier ls
  unfolding followed step_at
  followed-from zero m earlier ls n e =
      let q : earlier ≡ ls = cc in
      let size : length ls ≡ m = ap length (sym q) ∙ n in
      (omega arith, ap (take m) (sym q) ∙ take_all m earlier (omega arith), λ i a b. absurd (omega arith))
  followed-from (suc k) m earlier ls n e =
      by (stated_line parts earlier (step_at bytes m)) refl e
      (λ l s g. followed-from k (suc m) (earlier ++ (l ∷ [])) ls (omega (arith, length-append earlier (l ∷ []))) (rw (next-bytes m) at g))
    where
      by : (o : Option Line) → stated_line parts earlier (step_at bytes m) ≡ o
          → ◌≡◌ {A = Followed} (elim o [
            | none ↦ fails (length earlier)
            | some l ↦ followed parts k (earlier ++ (l ∷ [])) (drop limit.step_bytes (drop (limit.step_bytes * m) bytes))
          ]) (follow ls)
          → ((l : Line) → stated_line parts earlier (step_at bytes m) ≡ some l
          → followed parts k (earlier ++ (l ∷ [])) (drop limit.step_bytes (drop (limit.step_bytes * m) bytes)) ≡ follow ls
          → From k (suc m) (earlier ++ (l ∷ [])) ls) → From (suc k) m earlier ls
      by none s e f = absurd (let z : ◌≡◌ {A = ℕ} 0 1 = cc in omega arith)
      by (some l) s e f = from_next k m earlier ls l n s (f l s e)

  -- ---- and back
  from-followed : (k m : ℕ) (ls : List Line) → length ls ≡ m + k → ((i : ℕ) → i < length ls → StatedAt ls i)
      → followed parts k (take m ls) (drop (limit.step_bytes * m) bytes) ≡ follow ls
  unfolding followed step_at
  from-followed zero m ls n h = ap follow (take_all m ls (omega arith))
  from-followed (suc k) m ls n h =
      let s = h m (omega arith) in
      rw (s.2, followed, next-bytes m, ← take-element ls m s.0 s.1) (from-followed k (suc m) ls (omega arith) h)

-- ---- of a whole proof
pub record AcceptedLines (p : Problem) (proof : List ℕ) : Type 0 where
  pub lines : List Line
  pub size : length lines ≡ step_count proof
  pub each : (k : ℕ) → k < step_count proof → StatedAt (loadable_of p) proof lines k
  pub ends : EndsEmpty lines

pub accepted-lines : (p : Problem) (proof : List ℕ) → check_proof p proof ≡ Accepted → AcceptedLines p proof
unfolding check_proof followed_lines step_count
accepted-lines p proof a =
    let x = (end-accepted (followed_lines p proof)).0 a in
    let r = followed-from (loadable_of p) proof (length proof / limit.step_bytes) 0 [] x.0 refl x.1 in
    record { lines = x.0; size = omega (arith, r.0); each = λ k h. r.2 k (omega arith) (omega arith); ends = x.2 }

pub lines-accepted : (p : Problem) (proof : List ℕ) → AcceptedLines p proof → check_proof p proof ≡ Accepted
unfolding check_proof followed_lines step_count
lines-accepted p proof x =
    (end-accepted (followed_lines p proof)).1 (
      x.lines,
      from-followed (loadable_of p) proof (length proof / limit.step_bytes) 0 x.lines
          (omega (arith, x.size))
          (λ i h. x.each i (omega (arith, x.size))),
      x.ends,
    )
