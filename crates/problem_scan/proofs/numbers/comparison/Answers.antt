-- `numbers::comparison` meets its contract: a law for each return.
use mathlib.Core.Path.{◌≡◌, sym, ap, ◌∙◌}
use mathlib.Core.Bool.{Bool, ◌&&◌}
use Prim.Native.Nat.{◌+◌}
use lib.ListN.{drop, get_or}
use Rattle.rules.specs.Problem.{got, relation_of, is_equality, relation}
use Rattle.problem_scan.specs.Comparisons.{relation-short, relation-bad, relation-second, relation-good, comparison-refused}
use Rattle.problem_scan.specs.Comparisons.{comparison-fault, comparison-within, comparison-bound}
use Rattle.problem_scan.proofs.numbers.comparison.Goals as goal
use Rattle.problem_scan.proofs.numbers.comparison.Goals.{Joined-else-equated, else-equated-via-then-equated+else-is_equality}
use Rattle.problem_scan.proofs.numbers.comparison.Goals.{else-equated-via-else-equated}

-- the relation is read
relation-is : (c : Joined-else-equated) → let q = c.args.input.now in
    let at = c.args.at in
    relation c.args.equated (drop at q) at ≡ got (relation_of (get_or q at 0)) (drop (at + 1) q) (at + 1)
relation-is c =
    let q = c.args.input.now in
    let at = c.args.at in
    relation-good q c.args.equated at c.if-input-at.false (sym c.is_relation.ensures ∙ c.if-not-is_relation.false)
    (elim c.else-equated.branch [
      | else-equated-via-then-equated+else-is_equality w ↦
          ap (λ (t : Bool). t && is_equality (relation_of (get_or q at 0))) w.if-equated.true ∙ sym w.is_equality.ensures
          ∙ w.if-is_equality.false
      | else-equated-via-else-equated w ↦ ap (λ (t : Bool). t && is_equality (relation_of (get_or q at 0))) w.if-equated.false
    ])

pub returns-then-input-at : goal.returns-then-input-at
returns-then-input-at c =
    sym (comparison-refused c.args.input.now c.args.equated c.args.at c.args.r _ _
    (relation-short c.args.input.now c.args.equated c.args.at c.requires c.if-input-at.true))

pub returns-then-not-is_relation : goal.returns-then-not-is_relation
returns-then-not-is_relation c =
    sym (comparison-refused c.args.input.now c.args.equated c.args.at c.args.r _ _
    (relation-bad c.args.input.now c.args.equated c.args.at c.if-input-at.false
    (sym c.is_relation.ensures ∙ c.if-not-is_relation.true)))

pub returns-then-is_equality : goal.returns-then-is_equality
returns-then-is_equality c =
    let q = c.args.input.now in
    let at = c.args.at in
    sym (comparison-refused q c.args.equated at c.args.r _ _
    (relation-second q c.args.equated at c.if-input-at.false (sym c.is_relation.ensures ∙ c.if-not-is_relation.false)
    (ap (λ (t : Bool). t && is_equality (relation_of (get_or q at 0))) c.if-equated.true ∙ sym c.is_equality.ensures
    ∙ c.if-is_equality.true)))

pub returns-in_default : goal.returns-in_default
returns-in_default c =
    comparison-fault c.args.input.now c.args.equated c.args.at c.args.r c.if-input-at.false _
    (relation-is (goal.at.returns-in_default c).Joined-else-equated)
    c.amounts-coefficients.result c.amounts-coefficients.ensures _ _ c.in_default.is

pub amount-requires : goal.amount-requires
amount-requires c =
    comparison-within c.args.input.now c.args.equated c.args.at c.args.r c.if-input-at.false _
    (relation-is (goal.at.amount-requires c).Joined-else-equated)
    c.amounts-coefficients.result c.amounts-coefficients.ensures _ c.in-Next.is

pub returns : goal.returns
returns c =
    c.amount.ensures ∙ sym (comparison-bound c.args.input.now c.args.equated c.args.at c.args.r c.if-input-at.false _
    (relation-is (goal.at.returns c).Joined-else-equated) c.amounts-coefficients.result c.amounts-coefficients.ensures _ c.in-Next.is)
