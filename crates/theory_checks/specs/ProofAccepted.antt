-- The check accepts a proof whose lines are parts or resolvents of earlier lines, and whose last line is empty.
use Rattle.std.specs.Prelude.{◌≡◌, true, ◌&&◌, ℕ, ◌+◌, ◌-◌, ◌*◌, ◌/◌, ◌%◌, ◌≤◌, T}
use Rattle.std.proofs.Common.{sym, ap, subst, ⊎_elim, arith, length-append}
use mathlib.Core.List.{List, [], ◌∷◌, ◌++◌, append_assoc, append-nil}
use Rattle.std.proofs.Math.Option.{some}
use Rattle.std.proofs.Math.Dec.{eqb, leb}
use Rattle.std.proofs.Math.ListN.{length}
use Rattle.std.proofs.Math.Facts.{yes_and, yes_leb, yes_eqb}
use Rattle.rules_types.specs.declared.limits.Limits.{Limits}
use Rattle.rules_types.specs.declared.terms.Terms.{Terms}
use Rattle.rules_types.specs.declared.answers.Checked.TheVariants.{Accepted}
use Rattle.rules_types.specs.Limits as limit
use Rattle.rules.specs.Problem.{Problem, in_edition}
use Rattle.rules.specs.Lines.{Variable}
use Rattle.rules.specs.Steps.{Step, resolved, encode_step, encode_proof}
use Rattle.rules.specs.Elimination.{order_of, loadable_of}
use Rattle.rules.specs.Checker.{follow, pairable, stated_line, followed, followed_lines, ends_empty, with_empty_end, check_proof}
use Rattle.rules.specs.Calls.{read, sound, whole_steps, proof_checked}
use Rattle.theory_lists.specs.Tests.{is_true}
use Rattle.theory_lists.specs.All.{All, all_map, map-append}
use Rattle.theory_lists.specs.Places.{place-below, element-last}
use Rattle.theory_resolution.specs.Formed.{Formed}
use Rattle.theory_elimination.specs.Saturated.{lines}
use Rattle.theory_elimination.specs.Origins.{Each, Derived, Justified}
use Rattle.theory_elimination.specs.Ends.{LastEmpty}
use Rattle.theory_bytes.specs.Lines.{Encodable, AllEncodable}
use Rattle.theory_bytes.specs.Steps.{take_step, drop-step, proof-length}
use Rattle.theory_bytes.specs.Headers.{named_back, parents-back}
use Rattle.theory_checks.specs.EndsEmpty.{EndsEmpty, ends-exactly}
use Rattle.theory_checks.specs.Stated.{stated-part, stated-resolvent, at-element, derived-line, resolvent-named}

-- the two lines that a resolvent names may be paired
abbrev pub Pairable : List Variable → List Step → Step → Type 0
Pairable variables earlier s = (d : Derived variables earlier s) → T (pairable d.variable d.upper d.lower)

-- ---- each line is stated
abbrev Stated : List Step → List Step → Step → Type 0
Stated parts earlier s = stated_line parts (lines earlier) (encode_step s) ≡ some s.line

module _ (variables : List Variable) (parts : List Step) (known : AllEncodable parts) where
  stated-derived : (earlier : List Step) (s : Step) → length earlier ≤ limit.most_steps → Encodable s.line
      → (d : Derived variables earlier s)
      → T (pairable d.variable d.upper d.lower)
      → Stated parts earlier s
  stated-derived earlier s n h d q =
      let v = d.variable in
      let t : Step = record { origin = resolved v d.first d.second; line = s.line } in
      let e : t ≡ s = λ i. record { origin = sym d.names i; line = s.line } in
      let first = place-below (λ x. x.line ≡ d.upper) earlier d.first d.at_first in
      let second = place-below (λ x. x.line ≡ d.lower) earlier d.second d.at_second in
      let b = parents-back v d.first d.second s.line (omega arith) (omega arith) in
      let r = resolvent-named v d.upper d.lower s.line d.first d.second (lines earlier) (encode_step t)
      (named_back v d.first d.second s.line) b.0 b.1
      (at-element earlier d.first d.upper d.at_first) (at-element earlier d.second d.lower d.at_second)
      (derived-line v d.upper d.lower s.line d.positive d.negative q d.result h) in
      subst (Stated parts earlier) e (stated-resolvent t h parts (lines earlier) known r)

  each-stated : (earlier ss : List Step) → length earlier + length ss ≤ limit.most_steps → AllEncodable ss
      → Each (Justified variables parts) earlier ss → Each (Pairable variables) earlier ss
      → Each (Stated parts) earlier ss
  each-stated earlier [] n h j q = tt
  each-stated earlier (s ∷ ss) n h j q = (
    ⊎_elim (λ m. stated-part s h.0 parts (lines earlier) known m) (λ d. stated-derived earlier s (omega arith) h.0 d (q.0 d)) j.0,
    each-stated (earlier ++ (s ∷ [])) ss (rw length-append (omega arith)) h.1 j.1 q.1,
  )

-- ---- so all lines follow
steps-followed : (parts earlier ss : List Step) → All (λ s. Formed s.line) ss → Each (Stated parts) earlier ss
    → followed parts (length ss) (lines earlier) (encode_proof ss) ≡ follow (lines (earlier ++ ss))
unfolding followed
steps-followed parts earlier [] f e = ap (λ (xs : List Step). follow (lines xs)) (sym (append-nil earlier))
steps-followed parts earlier (s ∷ ss) f e =
    let r = steps-followed parts (earlier ++ (s ∷ [])) ss f.1 e.1 in
    rw (take_step s ss f.0, followed, e.0, drop-step s ss f.0)
    (rw (map-append (λ (s : Step). s.line) earlier (s ∷ []), append_assoc earlier (s ∷ []) ss) at r)

-- and the last is empty
last_empty : (steps : List Step) → LastEmpty steps → EndsEmpty (lines steps)
last_empty steps h =
    let n : length (lines h.before) + 1 - 1 ≡ length (lines h.before) = omega arith in (
      h.last.line,
      rw (h.is, map-append (λ (s : Step). s.line) h.before (h.last ∷ []), length-append, n)
          (element-last (lines h.before) h.last.line),
      h.blank,
    )

-- ---- the check of a proof
pub record Refutation (p : Problem) (steps : List Step) : Type 0 where
  pub parts : AllEncodable (loadable_of p)
  pub lines : AllEncodable steps
  pub origins : Each (Justified (order_of p) (loadable_of p)) [] steps
  pub pairs : Each (Pairable (order_of p)) [] steps
  pub few : length steps ≤ limit.most_steps
  pub last : LastEmpty steps

all-formed : (steps : List Step) → AllEncodable steps → All (λ s. Formed s.line) steps
all-formed steps h = all_map (λ s. Encodable s.line) (λ s. Formed s.line) steps (λ s k. k.formed) h

module _ (p : Problem) (steps : List Step) (refutation : Refutation p steps) where
  -- as long as its lines: 64 to 64 N bytes by 64s
  pub refutation-length : length (encode_proof steps) ≡ limit.step_bytes * length steps
  refutation-length = proof-length steps (all-formed steps refutation.lines)

  pub refutation-some : 1 ≤ length steps
  refutation-some = rw (refutation.last.is, length-append) (omega arith)

  pub refutation-accepted : check_proof p (encode_proof steps) ≡ Accepted
  unfolding check_proof followed_lines with_empty_end
  refutation-accepted =
      let n : length (encode_proof steps) / limit.step_bytes ≡ length steps = rw refutation-length (omega arith) in
      let follow = steps-followed (loadable_of p) [] steps (all-formed steps refutation.lines)
      (each-stated (order_of p) (loadable_of p) refutation.parts [] steps (omega (arith, refutation.few)) refutation.lines
      refutation.origins refutation.pairs) in
      let ends = (ends-exactly (lines steps)).1 (last_empty steps refutation.last) in
      rw (n, follow, with_empty_end, is_true (ends_empty (lines steps)) ends)

  module _ (limits : Limits) (few : length steps ≤ limits.steps) where
    whole : whole_steps limits (length (encode_proof steps)) ≡ true
    unfolding whole_steps
    whole =
        let n = length (encode_proof steps) in
        let a : limit.step_bytes ≤ n = omega (arith, refutation-length, refutation-some) in
        let b : n ≤ limits.steps * limit.step_bytes = omega (arith, refutation-length) in
        let c : n % limit.step_bytes ≡ 0 = rw refutation-length (omega arith) in
        is_true (leb limit.step_bytes n && leb n (limit.proof_bytes limits) && eqb (n % limit.step_bytes) 0)
        (yes_and (leb limit.step_bytes n && leb n (limit.proof_bytes limits)) (eqb (n % limit.step_bytes) 0)
        (yes_and (leb limit.step_bytes n) (leb n (limit.proof_bytes limits)) (yes_leb a) (yes_leb b)) (yes_eqb c))

pub proof-accepted : (terms : Terms) (q : List ℕ) (p : Problem) → read q ≡ sound p → (steps : List Step)
    → Refutation (in_edition terms.edition p) steps → length steps ≤ terms.limits.steps
    → proof_checked terms q (encode_proof steps) ≡ Accepted
unfolding proof_checked
proof-accepted terms q p e steps r few =
    let posed = in_edition terms.edition p in
    rw (e, proof_checked, whole posed steps r terms.limits few) (refutation-accepted posed steps r)
