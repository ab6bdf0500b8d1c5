-- `evidence::evidence` meets its contract: a law for each return. Assumes nothing.
use mathlib.Core.Path.{◌≡◌, sym, ◌∙◌}
use mathlib.Core.Bool.{false}
use native.Mathlib.Omega.{arith}
use borrow.Author.Tests.{eq-eqb, ne_eqb}
use Rattle.handing_back.specs.Evidence.{refused, part-refused, part-model, part-proof, part_none, full}
use Rattle.handing_back.proofs.evidence.evidence.Goals as goal
use Rattle.handing_back.proofs.evidence.evidence.Goals.{Else-refused}

-- nothing is refused
passed : (c : Else-refused) → refused c.args.limits c.args.steps c.args.proof.now c.args.model.now ≡ false
passed c = sym c.refused.ensures ∙ c.if-refused.false

pub returns-then-refused : goal.returns-then-refused
returns-then-refused c =
    sym (part-refused c.args.limits c.args.number c.args.steps c.args.proof.now c.args.model.now
    (sym c.refused.ensures ∙ c.if-refused.true))

pub returns-then-number-eq-SATISFIABLE : goal.returns-then-number-eq-SATISFIABLE
returns-then-number-eq-SATISFIABLE c =
    sym (part-model c.args.limits c.args.number c.args.steps c.args.proof.now c.args.model.now
    (passed (goal.at.returns-then-number-eq-SATISFIABLE c).Else-refused)
    (eq-eqb c.args.number 64 c.if-number-eq-SATISFIABLE.true))

pub overflow_mul-result : goal.overflow_mul-result
overflow_mul-result c =
    let h = full c.args.limits c.args.number c.args.steps c.args.proof.now c.args.model.now
    (passed (goal.at.overflow_mul-result c).Else-refused) in
    omega (arith, h.0, h.2, c.well_formed)

pub returns-then-number-eq-UNSATISFIABLE : goal.returns-then-number-eq-UNSATISFIABLE
returns-then-number-eq-UNSATISFIABLE c =
    sym (part-proof c.args.limits c.args.number c.args.steps c.args.proof.now c.args.model.now
    (passed (goal.at.returns-then-number-eq-UNSATISFIABLE c).Else-refused)
    (ne_eqb c.args.number 64 c.if-number-eq-SATISFIABLE.false) (eq-eqb c.args.number 65 c.if-number-eq-UNSATISFIABLE.true))

pub returns : goal.returns
returns c =
    sym (part_none c.args.limits c.args.number c.args.steps c.args.proof.now c.args.model.now (passed (goal.at.returns c).Else-refused)
    (ne_eqb c.args.number 64 c.if-number-eq-SATISFIABLE.false) (ne_eqb c.args.number 65 c.if-number-eq-UNSATISFIABLE.false))
