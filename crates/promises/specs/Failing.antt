-- What a check names where it does not accept: "the first failing line, the line count if only the empty end is missing", "the first clause
-- that fails".
use Rattle.std.proofs.Math.Path.{◌≡◌, refl, sym, ap}
use Rattle.std.proofs.Common.{◌∙◌}
use Rattle.std.specs.Prelude.{Bool, ◌↔◌, ◌⊎◌, length}
use Rattle.std.proofs.Math.Bool.{true, false}
use Rattle.std.proofs.Math.Logic.{⊎_map}
use mathlib.Core.List.{List, [], ◌∷◌}
use Prim.Native.Nat.{ℕ, zero, suc, ◌+◌, ◌/◌, ◌≤◌}
use native.Mathlib.Omega.{arith}
use Rattle.rules_types.specs.declared.answers.Checked.{Checked}
use Rattle.rules_types.specs.declared.answers.Checked.TheVariants.{Fails}
use Rattle.rules_types.specs.declared.limits.Limits.{Limits}
use Rattle.rules_types.specs.declared.terms.Terms.{Terms}
use Rattle.rules_types.specs.Limits as limit
use Rattle.rules.specs.Problem.{Problem, in_edition, Clause}
use Rattle.rules.specs.Meaning.{Assignment, clause_holds}
use Rattle.rules.specs.Lines.{Line}
use Rattle.rules.specs.Steps.{Step}
use Rattle.rules.specs.Elimination.{loadable_of}
use Rattle.rules.specs.Model.{is_open}
use Rattle.rules.specs.Checker.{followed, followed_lines, with_empty_end, check_proof, check_clauses}
use Rattle.rules.specs.Calls.{sound, read, whole_steps, proof_checked, model_checked}
use Rattle.theory_lists.specs.All.{All}
use Rattle.theory_lists.specs.Tests.{of-true}
use Rattle.theory_splitting.specs.WellRead.{posed-well-formed}
use Rattle.theory_bytes.specs.Bytes.{AllBytes}
use Rattle.theory_layout.specs.Offsets.{StatesModel}
use Rattle.theory_layout.specs.Steps.{Writable}
use Rattle.theory_checks.specs.EndsEmpty.{EndsEmpty, end-fails}
use Rattle.theory_checks.specs.LinesFollow.{FirstFails, follow-exactly, fails-exactly}
use Rattle.theory_checks.specs.ModelChecked.{model-checks}
use Rattle.theory_checks.specs.Writable.{parts-writable}
use Rattle.promises.specs.Words.{AllFollow}
use Rattle.promises.specs.Checked.{whole-few}

same_number : {m n : ℕ} → Fails m ≡ Fails n → m ≡ n
same_number e = cc

-- ---- the first clause that does not hold
abbrev pub ClauseFails : Assignment → List Clause → ℕ → Type 0
ClauseFails χ [] k = ⊥
ClauseFails χ (c ∷ cs) zero = clause_holds χ c ≡ false
ClauseFails χ (c ∷ cs) (suc k) = (clause_holds χ c ≡ true) × ClauseFails χ cs k

module _ (χ : Assignment) where
  clauses-from : (cs : List Clause) (j m : ℕ) → check_clauses χ j cs ≡ Fails m → j ≤ m
  unfolding check_clauses
  clauses-from [] j m e = absurd (let z : ◌≡◌ {A = ℕ} 0 1 = cc in omega arith)
  clauses-from (c ∷ cs) j m e = by (clause_holds χ c) (λ e. clauses-from cs (suc j) m e) e
    where
      by : (t : Bool) → (check_clauses χ (suc j) cs ≡ Fails m → suc j ≤ m)
          → ◌≡◌ {A = Checked} (elim t [ true ↦ check_clauses χ (suc j) cs | false ↦ Fails j ]) (Fails m) → j ≤ m
      by true r e = omega (arith, r e)
      by false r e = omega (arith, same_number e)

  clauses-fail : (cs : List Clause) (j k : ℕ) → check_clauses χ j cs ≡ Fails (j + k) ↔ ClauseFails χ cs k
  unfolding check_clauses
  clauses-fail [] j k = (λ e. absurd (let z : ◌≡◌ {A = ℕ} 0 1 = cc in omega arith), λ h. absurd h)
  clauses-fail (c ∷ cs) j zero = by (clause_holds χ c) refl
    where
      by : (t : Bool) → clause_holds χ c ≡ t
          → ◌≡◌ {A = Checked} (elim t [ true ↦ check_clauses χ (suc j) cs | false ↦ Fails j ]) (Fails (j + 0)) ↔ (clause_holds χ c ≡ false)
      by true i = (
        λ e. absurd (omega (arith, clauses-from cs (suc j) (j + 0) e)),
        λ h. absurd (let z : ◌≡◌ {A = Bool} true false = sym i ∙ h in let y : ◌≡◌ {A = ℕ} 0 1 = cc in omega arith),
      )
      by false i = (λ e. i, λ h. ap Fails (omega arith))
  clauses-fail (c ∷ cs) j (suc k) = by (clause_holds χ c) refl (clauses-fail cs (suc j) k)
    where
      by : (t : Bool) → clause_holds χ c ≡ t → check_clauses χ (suc j) cs ≡ Fails (suc j + k) ↔ ClauseFails χ cs k
          → ◌≡◌ {A = Checked} (elim t [ true ↦ check_clauses χ (suc j) cs | false ↦ Fails j ]) (Fails (j + suc k))
          ↔ (clause_holds χ c ≡ true) × ClauseFails χ cs k
      by true i r = let q : suc j + k ≡ j + suc k = omega arith in (λ e. (i, r.0 (e ∙ ap Fails (sym q))), λ h. r.1 h.1 ∙ ap Fails q)
      by false i r = (
        λ e. absurd (omega (arith, same_number e)),
        λ h. absurd (let z : ◌≡◌ {A = Bool} true false = sym h.0 ∙ i in let y : ◌≡◌ {A = ℕ} 0 1 = cc in omega arith),
      )

-- ---- the first line that does not follow, or the end that is not empty
-- all of k lines follow, and the last is not empty
pub record EndMissing (parts : List Step) (k : ℕ) (bytes : List ℕ) : Type 0 where
  pub lines : List Line
  pub follow : AllFollow parts k bytes lines
  pub last : EndsEmpty lines → ⊥

-- "the first failing line, the line count if only the empty end is missing"
abbrev pub LineFails : List Step → ℕ → List ℕ → ℕ → Type 0
LineFails parts k bytes n = FirstFails parts k [] bytes n ⊎ ((n ≡ k) × EndMissing parts k bytes)

lines-fail : (parts : List Step) → All Writable parts → (k : ℕ) (bytes : List ℕ) → AllBytes bytes → k ≤ limit.most_steps → (n : ℕ)
    → with_empty_end (followed parts k [] bytes) ≡ Fails n ↔ LineFails parts k bytes n
lines-fail parts known k bytes b few n =
    let x = end-fails (followed parts k [] bytes) n in
    let first = fails-exactly parts known k bytes b few n in
    let all = follow-exactly parts known k bytes b few in (
      λ e. ⊎_map first.0 (λ h. let f = (all h.0).0 h.1 in
          (h.3 ∙ f.0, record { lines = h.0; follow = record { count = f.0; follow = f.1 }; last = h.2 })) (x.0 e),
      λ h. x.1 (⊎_map first.1 (λ m. let f = m.1.follow in
          (m.1.lines, (all m.1.lines).1 (f.count, f.follow), m.1.last, m.0 ∙ sym f.count)) h),
    )

-- ---- the calls, for a problem read without fault, in its edition
module _ (terms : Terms) (input : List ℕ) (q : Problem) (e : read input ≡ sound q) where
  abbrev limits : Limits
  limits = terms.limits

  abbrev p : Problem
  p = in_edition terms.edition q

  pub model-fails : (bytes : List ℕ) (χ : Assignment) → limit.model_bytes ≤ length bytes
      → StatesModel bytes p.booleans p.rationals (is_open p) χ
      → (k : ℕ) → model_checked terms input bytes ≡ Fails k ↔ ClauseFails χ p.clauses k
  model-fails bytes χ h s k =
      let z : 0 + k ≡ k = omega arith in rw (model-checks terms input bytes q e h χ s) (rw z at (clauses-fail χ p.clauses 0 k))

  pub proof-fails : limits.steps ≤ limit.most_steps → (bytes : List ℕ) → AllBytes bytes
      → whole_steps limits (length bytes) ≡ true
      → (k : ℕ) → proof_checked terms input bytes ≡ Fails k ↔ LineFails (loadable_of p) (length bytes / limit.step_bytes) bytes k
  unfolding proof_checked check_proof followed_lines
  proof-fails few bytes b h k =
      rw (e, proof_checked, h) (lines-fail (loadable_of p) (parts-writable p (posed-well-formed terms.edition input q e))
      (length bytes / limit.step_bytes) bytes b (whole-few limits few (length bytes) (of-true (whole_steps limits (length bytes)) h)) k)
