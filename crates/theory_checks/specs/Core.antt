-- A proof that the check accepts refutes the clauses that it loads, whoever wrote it: every line holds under each assignment under which
-- these hold, with values for their split variables, and an empty line never does.
use Rattle.std.proofs.Math.Path.{◌≡◌, sym, ap, subst}
use Rattle.std.proofs.Common.{◌∙◌, drop-drop}
use Rattle.std.specs.Prelude.{List, [], ◌∷◌, ◌++◌, T, length, take, drop}
use Rattle.std.proofs.Math.Option.{Option, none, some}
use Prim.Native.Nat.{ℕ, zero, suc, ◌+◌, ◌*◌, ◌-◌, ◌/◌, ◌≤◌, ◌<◌}
use native.Mathlib.Omega.{arith}
use Rattle.std.proofs.Math.ListN.{get_elem?}
use Rattle.rules_types.specs.declared.answers.Checked.TheVariants.{Accepted}
use Rattle.rules_types.specs.Limits as limit
use Rattle.rules_types.specs.Layout as layout
use Rattle.theory_lists.specs.Tests.{clash}
use Rattle.theory_lists.specs.All.{All, all_both, all_map, all_append}
use Rattle.theory_lists.specs.Places.{element-all, element-below}
use Rattle.rules.specs.Bytes.{field_at}
use Rattle.rules.specs.Problem.{Clause, Problem}
use Rattle.rules.specs.Meaning.{Assignment, clause_holds}
use Rattle.rules.specs.Lines.{Line, Variable, rational, boolean, line_holds}
use Rattle.rules.specs.Resolve.{resolve}
use Rattle.rules.specs.Steps.{Step, header, encode_step, step_at}
use Rattle.rules.specs.Elimination.{loadable_of}
use Rattle.rules.specs.Checker.{Followed, fails, follow, pairable, stated_line, followed, followed_lines, check_proof}
use Rattle.theory_lists.specs.Dropped.{DroppedOr, dropped-both}
use Rattle.theory_resolution.specs.Holds.{Consistent, empty-fails}
use Rattle.theory_resolution.specs.Resolution.{Resolvable, resolve-holds}
use Rattle.theory_resolution.specs.Formed.{resolve-consistent}
use Rattle.theory_resolution.specs.Choosing.{choosing}
use Rattle.theory_bytes.specs.Headers.{how-back, first_back}
use Rattle.theory_layout.specs.Fields.{field-part}
use Rattle.theory_splitting.specs.WellFormed.{WellFormed}
use Rattle.theory_splitting.specs.PartsForm.{LineForm}
use Rattle.theory_splitting.specs.Named.{PartAmong, loadable-parts}
use Rattle.theory_splitting.specs.SplitProblem.{loadable-formed, splitting-holds}
use Rattle.theory_checks.specs.Follows.{Closed, stated-so}
use Rattle.theory_checks.specs.EndsEmpty.{EndsEmpty, end-accepted}

-- a line that holds, with no Boolean variable in both signs
abbrev Follows : Assignment → Line → Type 0
Follows χ l = T (line_holds χ l) × Consistent l

resolvable : (v : Variable) (u l : Line) → Consistent u → Consistent l → T (pairable v u l) → Resolvable v u l
resolvable (rational f) u l h k a = tt
resolvable (boolean i) u l h k a = (h, k, a)

resolve-follows : (χ : Assignment) → 0 < χ.denominator → Closed (Follows χ)
resolve-follows χ d v u l h k p n a =
    dropped-both (λ m. T (line_holds χ m)) Consistent (resolve v u l)
    (resolve-holds χ d v u l (resolvable v u l h.1 k.1 a) p n h.0 k.0) (resolve-consistent v u l)

-- the bytes of step i, a step on
step-later : (bytes : List ℕ) (i : ℕ) → step_at (drop limit.step_bytes bytes) i ≡ step_at bytes (suc i)
unfolding step_at
step-later bytes i =
    let e : limit.step_bytes + limit.step_bytes * i ≡ limit.step_bytes * suc i = omega arith in
    ap (take limit.step_bytes) (drop-drop (limit.step_bytes * i) limit.step_bytes bytes ∙ ap (λ (n : ℕ). drop n bytes) e)

-- ---- where the parts follow that stand in the bytes, all lines do; and none of them is empty
module _ (χ : Assignment) (d : 0 < χ.denominator) (parts : List Step) where
  -- the parts that stand among the first k steps
  abbrev PartsFollow : ℕ → List ℕ → Type 0
  PartsFollow k bytes = (i : ℕ) → i < k → All (λ s. encode_step s ≡ step_at bytes i → Follows χ s.line) parts

  later-follow : (k : ℕ) (bytes : List ℕ) → PartsFollow (suc k) bytes → PartsFollow k (drop limit.step_bytes bytes)
  later-follow k bytes h i l = rw (step-later bytes i) (h (suc i) (omega arith))

  followed-hold : (k : ℕ) (earlier : List Line) (bytes : List ℕ) → PartsFollow k bytes → All (Follows χ) earlier → (lines : List Line)
      → followed parts k earlier bytes ≡ follow lines → All (Follows χ) lines
  unfolding followed step_at
  followed-hold zero earlier bytes h e lines a = let q : earlier ≡ lines = cc in subst (All (Follows χ)) q e
  followed-hold (suc k) earlier bytes h e lines a =
      by (stated_line parts earlier (take limit.step_bytes bytes))
      (stated-so (Follows χ) (resolve-follows χ d) parts earlier (take limit.step_bytes bytes) (h 0 (omega arith)) e)
      (λ l f. followed-hold k (earlier ++ (l ∷ [])) (drop limit.step_bytes bytes) (later-follow k bytes h)
      (all_append (Follows χ) earlier (l ∷ []) e (f, tt)) lines) a
    where
      by : (o : Option Line) → DroppedOr (Follows χ) o
          → ((l : Line) → Follows χ l → followed parts k (earlier ++ (l ∷ [])) (drop limit.step_bytes bytes) ≡ follow lines
          → All (Follows χ) lines)
          → ◌≡◌ {A = Followed} (elim o [
            | none ↦ fails (length earlier)
            | some l ↦ followed parts k (earlier ++ (l ∷ [])) (drop limit.step_bytes bytes)
          ]) (follow lines) → All (Follows χ) lines
      by none f g a = absurd (let z : ◌≡◌ {A = ℕ} 0 1 = cc in omega arith)
      by (some l) f g a = g l f a

  not-empty : (lines : List Line) → All (Follows χ) lines → EndsEmpty lines → ⊥
  not-empty lines f (l, e, t) =
      clash (line_holds χ l) (element-all (Follows χ) lines (length lines - 1) l e f).0 (empty-fails χ l t)

-- ---- the clauses that a proof loads
-- one of its steps is loaded from clause c: "Byte 0: how (0 loaded ...)", "Two bytes: first parent line (loaded: clause)"
abbrev pub LoadsClause : List ℕ → ℕ → Type 0
LoadsClause bytes c =
    (i : ℕ) × (i < length bytes / limit.step_bytes) × (field_at (64 * i) 1 bytes ≡ 0) × (field_at (64 * i + 2) 2 bytes ≡ c)

module _ (p : Problem) (w : WellFormed p) (bytes : List ℕ) where
  -- a part that stands in the bytes is loaded from its clause
  part-loads : (i : ℕ) → i < length bytes / limit.step_bytes → (s : Step) (h : PartAmong 0 p.booleans p.clauses s)
      → encode_step s ≡ step_at bytes i → LoadsClause bytes h.number
  unfolding step_at header
  part-loads i l s h e =
      let few = w.few in
      let below = element-below p.clauses h.number h.clause h.at in
      let z : 64 * i + 0 ≡ 64 * i = omega arith in
      let how : (header s.origin).how ≡ 0 = rw h.part.origin in
      let first : (header s.origin).first ≡ h.number = rw h.part.origin (omega arith) in (
        i,
        l,
        rw z at (sym (field-part bytes (64 * i) 64 0 1 (omega arith)) ∙ ap (field_at layout.step_how 1) (sym e) ∙ how-back s ∙ how),
        sym (field-part bytes (64 * i) 64 2 2 (omega arith)) ∙ ap (field_at layout.step_first 2) (sym e)
            ∙ first_back s (omega arith) ∙ first,
      )

-- the clauses that a proof loads hold
abbrev pub LoadedHold : List ℕ → Problem → Assignment → Type 0
LoadedHold bytes p χ = (c : ℕ) (x : Clause) → LoadsClause bytes c → get_elem? p.clauses c ≡ some x → T (clause_holds χ x)

-- ---- THE THEOREM: "the question reduced to the clauses it loads has no solution either"
pub accepted-core : (p : Problem) → WellFormed p → (bytes : List ℕ) → check_proof p bytes ≡ Accepted → (χ : Assignment)
    → 1 ≤ χ.denominator → LoadedHold bytes p χ → ⊥
unfolding check_proof followed_lines
accepted-core p w bytes a χ d h =
    let c = splitting-holds p w χ d in
    let ψ = choosing c.values χ in
    let parts = loadable_of p in
    let Part : Step → Type 0 = PartAmong 0 p.booleans p.clauses in
    let consistent = all_map (λ s. LineForm (λ i. i < limit.all_booleans) s.line) (λ s. Consistent s.line) parts
    (λ s f. f.consistent) (loadable-formed p w) in
    let known = all_both Part (λ s. Consistent s.line) parts (loadable-parts p) consistent in
    let x = (end-accepted (followed_lines p bytes)).0 a in
    not-empty ψ d parts x.0
    (followed-hold ψ d parts (length bytes / limit.step_bytes) [] bytes
    (λ i l. all_map (λ s. Part s × Consistent s.line) (λ s. encode_step s ≡ step_at bytes i → Follows ψ s.line) parts
    (λ s k e. (c.holds s k.0 (h k.0.number k.0.clause (part-loads p w bytes i l s k.0 e) k.0.at), k.1)) known)
    tt x.0 x.1) x.2
