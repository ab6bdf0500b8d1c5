-- The first clause that does not hold, from clause to clause.
use Rattle.std.specs.Prelude.{◌≡◌, true, false, List, ◌∷◌, ℕ, ◌+◌, ◌-◌, ◌≤◌, ◌<◌}
use Rattle.std.proofs.Math.Path.{sym}
use Rattle.std.proofs.Common.{ap, ◌∙◌, add-one}
use native.Mathlib.Omega.{arith}
use Rattle.rules_types.specs.declared.answers.Checked.TheVariants.{Accepted, Fails}
use Rattle.rules.specs.Meaning.{Assignment, clause_holds}
use Rattle.rules.specs.Checker.{check_clauses}
use Rattle.problem_scan.specs.Values.{clause_at, clause_end}
use Rattle.problem_scan.specs.Sound.{SoundClause, SoundClauses, clauses-first, clauses-rest}
use Rattle.problem_read.specs.Clauses.{clauses_at, clauses-next}

-- ---- the loop: k clauses hold, and the others begin at a place
pub record Checking (q : List ℕ) (r from count : ℕ) (χ : Assignment) (at k : ℕ) : Type 0 where
  pub sound : SoundClauses q r (count - k) at
  pub same : check_clauses χ k (clauses_at q r (count - k) at) ≡ check_clauses χ 0 (clauses_at q r count from)

pub checking-start : {q : List ℕ} {r from count : ℕ} {χ : Assignment} → SoundClauses q r count from → Checking q r from count χ from 0
checking-start {count = count} s = let n : count - 0 ≡ count = omega arith in record { sound = rw n s; same = rw n }

module _ {q : List ℕ} {r from count : ℕ} {χ : Assignment} {at k : ℕ} (run : Checking q r from count χ at k) where
  pub checking-done : count ≤ k → Accepted ≡ check_clauses χ 0 (clauses_at q r count from)
  unfolding check_clauses clauses_at
  checking-done h =
      let e : count - k ≡ 0 = omega arith in sym (ap (λ (n : ℕ). check_clauses χ k (clauses_at q r n at)) e) ∙ run.same

  module _ (more : k < count) where
    some-left : 0 < count - k
    some-left = omega arith

    pub checking-clause : SoundClause q r at
    checking-clause = clauses-first q r (count - k) at some-left run.sound

    first : check_clauses χ k (clause_at q r at ∷ clauses_at q r (count - k - 1) (clause_end q r at)) ≡ check_clauses χ 0
        (clauses_at q r count from)
    first = ap (check_clauses χ k) (sym (clauses-next q r (count - k) at some-left)) ∙ run.same

    pub checking-fails : clause_holds χ (clause_at q r at) ≡ false → Fails k ≡ check_clauses χ 0 (clauses_at q r count from)
    unfolding check_clauses
    checking-fails e = sym (rw (e, check_clauses)) ∙ first

    pub checking-next : clause_holds χ (clause_at q r at) ≡ true → Checking q r from count χ (clause_end q r at) (k + 1)
    unfolding check_clauses
    checking-next e =
        let n : count - (k + 1) ≡ count - k - 1 = omega arith in
        record {
          sound = rw n (clauses-rest q r (count - k) at some-left run.sound);
          same = rw (n, add-one k) (sym (rw (e, check_clauses)) ∙ first);
        }
