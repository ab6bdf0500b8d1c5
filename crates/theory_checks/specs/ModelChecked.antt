-- The call that checks a model: it says accepted exactly if every clause holds, and then the assignment that was read satisfies the
-- problem.
use Rattle.std.specs.Prelude.{◌≡◌, refl, Bool, true, false, not, ◌&&◌, ◌↔◌, List, [], ◌∷◌, ℕ, suc, ◌≤◌, T, ltb}
use Rattle.std.proofs.Common.{◌∙◌, ⊎_elim, arith, nltb→le}
use Rattle.std.proofs.Math.ListN.{length}
use Rattle.std.proofs.Math.Facts.{no_ltb}
use Rattle.rules_types.specs.declared.answers.Refusal.TheVariants as refusal
use Rattle.rules_types.specs.declared.answers.Checked.{Checked}
use Rattle.rules_types.specs.declared.answers.Checked.TheVariants as checked
use Rattle.rules_types.specs.declared.terms.Terms.{Terms}
use Rattle.rules_types.specs.Limits as limit
use Rattle.theory_lists.specs.Tests.{split, is_true, is_false}
use Rattle.rules.specs.Lists.{all}
use Rattle.rules.specs.Problem.{Clause, Problem, in_edition, Read, fault, got}
use Rattle.rules.specs.Meaning.{Assignment, clause_holds, Satisfies}
use Rattle.rules.specs.Model.{is_open, model}
use Rattle.rules.specs.Checker.{check_clauses}
use Rattle.rules.specs.Calls.{Reading, faulty, sound, read, model_checked}
use Rattle.theory_splitting.specs.WellFormed.{WellFormed}
use Rattle.theory_splitting.specs.Occurs.{literals-closed}
use Rattle.theory_splitting.specs.WellRead.{posed-well-formed}
use Rattle.theory_layout.specs.Offsets.{StatesModel}
use Rattle.theory_layout.specs.Models.{Stated, got-states, states-got}
use Rattle.theory_layout.specs.WrittenModels.{same-booleans, same-numerators, same-denominators}
use Rattle.theory_checks.specs.Agreement.{Agree, checks-agree}
use Rattle.theory_checks.specs.ProofChecked.{refused-not}

-- ---- clauses
pub accepted-clauses : (χ : Assignment) (k : ℕ) (cs : List Clause) → check_clauses χ k cs ≡ checked.Accepted ↔ T (all (clause_holds χ) cs)
unfolding check_clauses all
accepted-clauses χ k [] = (λ e. tt, λ h. refl)
accepted-clauses χ k (c ∷ cs) = by (clause_holds χ c) (accepted-clauses χ (suc k) cs)
  where
    by : (b : Bool) → check_clauses χ (suc k) cs ≡ checked.Accepted ↔ T (all (clause_holds χ) cs)
        → (◌≡◌ {A = Checked} (elim b [ true ↦ check_clauses χ (suc k) cs | false ↦ checked.Fails k ]) checked.Accepted)
        ↔ T (b && all (clause_holds χ) cs)
    by true r = r
    by false r = (λ e. let z : ◌≡◌ {A = ℕ} 0 1 = cc in omega arith, λ h. absurd h)

-- ---- the call
pub record CheckedModel (terms : Terms) (input bytes : List ℕ) : Type 0 where
  pub problem : Problem
  pub reads : read input ≡ sound problem
  pub size : limit.model_bytes ≤ length bytes
  pub assignment : Assignment
  pub states : let posed = in_edition terms.edition problem in
      StatesModel bytes posed.booleans posed.rationals (is_open posed) assignment
  pub satisfies : Satisfies assignment (in_edition terms.edition problem)

pub model-checked-satisfies : (terms : Terms) (input bytes : List ℕ) → model_checked terms input bytes ≡ checked.Accepted
    → CheckedModel terms input bytes
unfolding model_checked
model-checked-satisfies terms input bytes a = by (read input) refl
  where
    short : Bool
    short = ltb (length bytes) limit.model_bytes

    posed : Problem → Problem
    posed = in_edition terms.edition

    reading : Problem → Read Assignment
    reading p = model (posed p).booleans (posed p).rationals (is_open (posed p)) bytes 0

    stated : (p : Problem) → read input ≡ sound p → T (not short) → (m : Read Assignment) → reading p ≡ m → CheckedModel terms input bytes
    stated p e t (fault f place) d = absurd (refused-not f place (rw (e, model_checked, is_false short t, d) at a))
    stated p e t (got χ rest place) d =
        let w = posed-well-formed terms.edition input p e in
        let size = nltb→le (length bytes) limit.model_bytes t in
        let s = got-states bytes (posed p).booleans (posed p).rationals (is_open (posed p)) size w.booleans w.rationals χ rest place
        d in
        record {
          problem = p;
          reads = e;
          size = size;
          assignment = χ;
          states = s;
          satisfies = record {
            denominator = s.least;
            clauses = (accepted-clauses χ 0 (posed p).clauses).0 (rw (e, model_checked, is_false short t, d) at a);
          };
        }

    by : (r : Reading) → read input ≡ r → CheckedModel terms input bytes
    by (faulty f place) e = absurd (refused-not f place (rw (e, model_checked) at a))
    by (sound p) e =
        ⊎_elim (λ t. absurd (refused-not refusal.ShortModel 0 (rw (e, model_checked, is_true short t) at a)))
        (λ t. stated p e t (reading p) refl) (split short)

-- ---- and back
-- the assignment that is read agrees with every one that the bytes state
module _ (terms : Terms) (input bytes : List ℕ) (q : Problem) (e : read input ≡ sound q) (size : limit.model_bytes ≤ length bytes)
    (χ : Assignment) where
  abbrev p : Problem
  p = in_edition terms.edition q

  abbrev b : ℕ
  b = p.booleans

  abbrev r : ℕ
  r = p.rationals

  formed : WellFormed p
  formed = posed-well-formed terms.edition input q e

  module _ (s : StatesModel bytes b r (is_open p) χ) where
    was_read : Stated bytes b r (is_open p) size formed.booleans formed.rationals
    was_read = states-got bytes b r (is_open p) size formed.booleans formed.rationals χ s

    read-agrees : Agree b r (is_open p) was_read.assignment χ
    read-agrees =
        record {
          booleans = same-booleans bytes b r (is_open p) was_read.assignment χ was_read.states s;
          numerators = same-numerators bytes b r (is_open p) was_read.assignment χ was_read.states s;
          denominator = same-denominators bytes b r (is_open p) was_read.assignment χ was_read.states s;
        }

    -- so the check is of that assignment
    pub model-checks : model_checked terms input bytes ≡ check_clauses χ 0 p.clauses
    unfolding model_checked
    model-checks =
        rw (
          e,
          model_checked,
          is_false (ltb (length bytes) limit.model_bytes) (no_ltb {a = length bytes} {b = limit.model_bytes} size),
          was_read.is,
        ) (checks-agree b r (is_open p) was_read.assignment χ read-agrees 0 p.clauses formed.clauses (literals-closed p))

    pub satisfying-model-checked : Satisfies χ p → model_checked terms input bytes ≡ checked.Accepted
    satisfying-model-checked h = model-checks ∙ (accepted-clauses χ 0 p.clauses).1 h.clauses
