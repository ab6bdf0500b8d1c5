-- The call: what each of its tests comes to.
use Rattle.std.specs.Prelude.{◌≡◌, List, ℕ, ◌≤◌, ◌<◌, length}
use borrow.Author.Tests.{lt-ltb, le-ltb}
use Rattle.rules_types.specs.declared.answers.Refusal.{Refusal}
use Rattle.rules_types.specs.declared.answers.Refusal.TheVariants as refusal
use Rattle.rules_types.specs.declared.answers.Checked.TheVariants.{Refused}
use Rattle.rules_types.specs.declared.terms.Terms.{Terms}
use Rattle.rules_types.specs.Limits as limit
use Rattle.rules.specs.Problem.{in_edition}
use Rattle.rules.specs.Model.{is_open}
use Rattle.rules.specs.Calls.{read, model_checked}
use Rattle.rules.specs.Checker.{check_clauses}
use Rattle.theory_splitting.specs.Editions.{open-posed}
use Rattle.problem_scan.specs.declared.cursor.Sizes.{Sizes}
use Rattle.problem_scan.specs.declared.cursor.Scan.TheVariants.{Fault}
use Rattle.problem_read.specs.Parsed.{problem_at}
use Rattle.problem_read.specs.ScanOf.{scan_of, scan_of-faulty}
use Rattle.problem_read.specs.Readable.{Readable}
use Rattle.models.specs.Model.{assignment}
use Rattle.models.specs.declared.model.Model.{Model}
use Rattle.models.specs.Read.{ReadModel, RefusedModel}

-- ---- the problem's faults
pub checked-fault : (terms : Terms) (q s : List ℕ) (f : Refusal) (place : ℕ) → scan_of (read q) ≡ Fault f place
    → model_checked terms q s ≡ Refused f place
unfolding model_checked
checked-fault terms q s f place e = rw (scan_of-faulty (read q) f place e, model_checked)

-- ---- the model's, and the clauses
module _ (terms : Terms) {q : List ℕ} {sizes : Sizes} (given : Readable q sizes) (s : List ℕ) where
  pub checked-short : length s < limit.model_bytes → model_checked terms q s ≡ Refused refusal.ShortModel 0
  unfolding model_checked
  checked-short h = rw (given.is_read, lt-ltb (length s) limit.model_bytes h, model_checked)

  module _ (long : limit.model_bytes ≤ length s) where
    pub checked-bad : (place : ℕ) → RefusedModel s sizes.booleans sizes.rationals (is_open (problem_at q sizes)) place
        → model_checked terms q s ≡ Refused refusal.BadModel place
    unfolding model_checked
    checked-bad place read = rw (
      given.is_read,
      le-ltb (length s) limit.model_bytes long,
      open-posed terms.edition (problem_at q sizes),
      read.same,
      model_checked,
    )

    pub checked-clauses : (m : Model) → ReadModel s sizes.booleans sizes.rationals (is_open (problem_at q sizes)) m
        → model_checked terms q s ≡ check_clauses (assignment m) 0 (in_edition terms.edition (problem_at q sizes)).clauses
    unfolding model_checked
    checked-clauses m read = rw (
      given.is_read,
      le-ltb (length s) limit.model_bytes long,
      open-posed terms.edition (problem_at q sizes),
      read.same,
      model_checked,
    )
