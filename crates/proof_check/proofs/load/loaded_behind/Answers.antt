-- `load::loaded_behind` meets its contract. Assumes nothing.
use mathlib.Core.Path.{◌≡◌, ap, ◌∙◌}
use Prim.Native.Nat.{ℕ, ◌-◌}
use native.Mathlib.Omega.{arith}
use Rattle.theory_splitting.specs.Editions.{non_negative_line, length-added}
use Rattle.steps.specs.declared.origin.Origin.{Origin}
use Rattle.step_check.specs.Named.{clause, part}
use Rattle.step_check.specs.Stated.{states-none}
use Rattle.step_check.specs.Resolvents.{states-same}
use Rattle.proof_check.specs.Loaded.{added-beyond, added-second, added-found}
use Rattle.proof_check.proofs.load.loaded_behind.Goals as goal
use Rattle.proof_check.proofs.load.loaded_behind.Goals.{After-origin_at-origin}

-- the clause and the part that the bytes name
named-clause : (k : After-origin_at-origin) → k.origin_at-origin.result.first ≡ clause k.args.bytes
named-clause k = ap (λ (o : Origin). o.first) k.origin_at-origin.ensures

named-part : (k : After-origin_at-origin) → k.origin_at-origin.result.second ≡ part k.args.bytes
named-part k = ap (λ (o : Origin). o.second) k.origin_at-origin.ensures

pub overflow_sub-f : goal.overflow_sub-f
overflow_sub-f c = omega (arith, c.requires.clauses_bound, named-clause (goal.at.overflow_sub-f c).After-origin_at-origin)

pub returns-then-added-f : goal.returns-then-added-f
returns-then-added-f c =
    states-none c.args.bytes c.unstated.result c.unstated.ensures
    (added-beyond c.args.edition c.args.sizes c.args.bytes c.requires.rationals_le_rationals
    (omega (arith, c.if-added-f.true, c.added.ensures, named-clause (goal.at.returns-then-added-f c).After-origin_at-origin)))

pub returns-then-number-ne0 : goal.returns-then-number-ne0
returns-then-number-ne0 c =
    states-none c.args.bytes c.unstated-then-number-ne0.result c.unstated-then-number-ne0.ensures
    (added-second c.args.edition c.args.sizes c.args.bytes c.requires.rationals_le_rationals
    (λ e. c.if-number-ne0.true (named-part (goal.at.returns-then-number-ne0 c).After-origin_at-origin ∙ e)))

pub non_negative-requires : goal.non_negative-requires
non_negative-requires c =
    omega (
      arith,
      c.if-added-f.false,
      c.added.ensures,
      length-added c.args.edition c.args.sizes.rationals,
      c.requires.rationals_le_rationals,
    )

pub returns : goal.returns
returns c =
    let at : c.origin_at-origin.result.first - c.args.sizes.clauses ≡ clause c.args.bytes - c.args.sizes.clauses =
    ap (λ (i : ℕ). i - c.args.sizes.clauses) (named-clause (goal.at.returns c).After-origin_at-origin) in
    states-same (added-found c.args.edition c.args.sizes c.args.bytes c.requires.rationals_le_rationals c.non_negative.result
    (named-clause (goal.at.returns c).After-origin_at-origin)
    (named-part (goal.at.returns c).After-origin_at-origin) c.if-number-ne0.false
    (omega (arith, c.if-added-f.false, c.added.ensures, named-clause (goal.at.returns c).After-origin_at-origin))
    (c.non_negative.ensures.result_value ∙ ap non_negative_line at)) (rw c.loaded.ensures at c.compared.ensures)
