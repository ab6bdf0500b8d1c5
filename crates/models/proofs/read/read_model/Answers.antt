-- `read::read_model` meets its contract: what is known of the fields passed, and a law for each return.
use Rattle.std.proofs.Common.{◌≡◌, sym, ap, subst, ◌∙◌, Bool, ℕ, arith, get_or}
use Rattle.std.proofs.lemmas.Result.{err_from_is_err_and}
use Rattle.rules_types.specs.Layout as layout
use Rattle.rules.specs.Bytes.{field_at}
use Rattle.masks.specs.Mask.{outside}
use Rattle.models.specs.Numerators.{ReadNumerators, RefusedNumerators}
use Rattle.models.specs.Read.{is_denominator, denominator-within, Sized, BooleansAhead, BooleansRead, RationalsAhead, NumeratorsAhead}
use Rattle.models.specs.Read.{booleans-differ, boolean-bad, rationals-differ, denominator-bad, numerator-bad, model-read}
use Rattle.models.proofs.read.read_model.Goals as goal
use Rattle.models.proofs.read.read_model.Goals.{Start, Else-s-b, In_ok-booleans, Else-s-count_at}
use Rattle.models.proofs.read.read_model.Goals.{After-is_denominator, Else-not-is_denominator}

-- ---- the fields passed
-- the open variables
abbrev opens : Start → ℕ → Bool
opens s = outside s.args.occurring

sized : (s : Start) → Sized s.args.s.now s.args.b s.args.r
sized s = record { long = s.requires.model_bytes_in_bounds; booleans = s.requires.b_le_booleans; rationals = s.requires.r_le_rationals }

booleans-ahead : (c : Else-s-b) → BooleansAhead c.args.s.now c.args.b c.args.r
booleans-ahead c = record { sized = sized (goal.at.Else-s-b c).Start; count = c.if-s-b.false }

booleans-read : (c : In_ok-booleans) → BooleansRead c.args.s.now c.args.b c.args.r
    (opens (goal.at.In_ok-booleans c).Start) c.in_ok-booleans.booleans
booleans-read c = record { ahead = booleans-ahead (goal.at.In_ok-booleans c).Else-s-b; given = c.in_ok-booleans.ensures }

rationals-ahead : (c : Else-s-count_at) → RationalsAhead c.args.s.now c.args.b c.args.r
    (opens (goal.at.Else-s-count_at c).Start) c.in_ok-booleans.booleans
rationals-ahead c =
    record {
      booleans = booleans-read (goal.at.Else-s-count_at c).In_ok-booleans;
      count = subst (λ (k : ℕ). get_or c.args.s.now k 0 ≡ c.args.r) c.model_rationals-count_at.ensures c.if-s-count_at.false;
    }

-- the denominator, and its test
denominator-is : (c : After-is_denominator)
    → c.u32_at-denominator.result ≡ field_at (layout.model_denominator c.args.b) 4 c.args.s.now
denominator-is c = c.u32_at-denominator.ensures ∙ ap (λ (k : ℕ). field_at k 4 c.args.s.now) c.model_denominator-denominator_at.ensures

tested-is : (c : After-is_denominator)
    → is_denominator (field_at (layout.model_denominator c.args.b) 4 c.args.s.now) ≡ c.is_denominator.result
tested-is c = sym (c.is_denominator.ensures ∙ ap is_denominator (denominator-is c))

numerators-ahead : (c : Else-not-is_denominator) → NumeratorsAhead c.args.s.now c.args.b c.args.r
    (opens (goal.at.Else-not-is_denominator c).Start) c.in_ok-booleans.booleans
numerators-ahead c =
    record {
      ahead = rationals-ahead (goal.at.Else-not-is_denominator c).Else-s-count_at;
      denominator = tested-is (goal.at.Else-not-is_denominator c).After-is_denominator ∙ c.if-not-is_denominator.false;
    }

-- ---- the returns
pub returns-then-s-b : goal.returns-then-s-b
returns-then-s-b c = booleans-differ (opens (goal.at.returns-then-s-b c).Start) (sized (goal.at.returns-then-s-b c).Start) c.if-s-b.true

pub returns-in_err-booleans : goal.returns-in_err-booleans
returns-in_err-booleans c =
    let p = err_from_is_err_and c.from_residual.result c.from_residual.ensures.1 in
    rw (p.1, p.2) (boolean-bad _ (booleans-ahead (goal.at.returns-in_err-booleans c).Else-s-b) c.in_err-booleans.ensures)

pub returns-then-s-count_at : goal.returns-then-s-count_at
returns-then-s-count_at c =
    let n = subst (λ (k : ℕ). get_or c.args.s.now k 0 ≡ c.args.r → ⊥) c.model_rationals-count_at.ensures c.if-s-count_at.true in
    rw c.model_rationals-count_at.ensures (rationals-differ (booleans-read (goal.at.returns-then-s-count_at c).In_ok-booleans) n)

pub returns-then-not-is_denominator : goal.returns-then-not-is_denominator
returns-then-not-is_denominator c =
    rw c.model_denominator-denominator_at.ensures
    (denominator-bad (rationals-ahead (goal.at.returns-then-not-is_denominator c).Else-s-count_at)
    (tested-is (goal.at.returns-then-not-is_denominator c).After-is_denominator ∙ c.if-not-is_denominator.true))

pub returns-in_err-numerators : goal.returns-in_err-numerators
returns-in_err-numerators c =
    let r = c.from_residual-in_err-numerators in
    let p = err_from_is_err_and r.result r.ensures.1 in
    rw (p.1, p.2) (numerator-bad (numerators-ahead (goal.at.returns-in_err-numerators c).Else-not-is_denominator) _
    (subst (λ (k : ℕ). RefusedNumerators c.args.s.now k c.args.r c.in_err-numerators.field-0.0) c.model_numerators.ensures
    c.in_err-numerators.ensures))

pub overflow_cast-result : goal.overflow_cast-result
overflow_cast-result c =
    omega (
      arith,
      denominator-is (goal.at.overflow_cast-result c).After-is_denominator,
      (denominator-within _ (numerators-ahead (goal.at.overflow_cast-result c).Else-not-is_denominator).denominator).1,
    )

pub returns : goal.returns
returns c =
    rw (denominator-is (goal.at.returns c).After-is_denominator)
    (model-read (numerators-ahead (goal.at.returns c).Else-not-is_denominator) c.in_ok-numerators.numerators
    (subst (λ (k : ℕ). ReadNumerators c.args.s.now k c.args.r c.in_ok-numerators.numerators) c.model_numerators.ensures
    c.in_ok-numerators.ensures))
