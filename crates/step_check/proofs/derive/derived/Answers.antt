-- `derive::derived` meets its contract. Assumes nothing.
use mathlib.Core.Path.{ap, subst, sym}
use native.Mathlib.Omega.{arith}
use Rattle.lines.specs.Line.{Ready}
use Rattle.steps.specs.declared.origin.Origin.{Origin}
use Rattle.step_check.specs.Stated.{states-none}
use Rattle.step_check.specs.Resolvents.{states-same, first-beyond, second-beyond, resolvent-found}
use Rattle.step_check.proofs.derive.derived.Goals as goal

pub returns-then-i-first : goal.returns-then-i-first
returns-then-i-first c =
    states-none c.args.bytes c.unstated.result c.unstated.ensures (first-beyond c.args.proof.now c.args.bytes c.args.i
    (omega (arith, c.if-i-first.true, ap (λ (o : Origin). o.first) c.origin_at-origin.ensures)))

pub returns-then-i-second : goal.returns-then-i-second
returns-then-i-second c =
    states-none c.args.bytes c.unstated-then-i-second.result c.unstated-then-i-second.ensures
    (second-beyond c.args.proof.now c.args.bytes c.args.i
    (omega (arith, c.if-i-second.true, ap (λ (o : Origin). o.second) c.origin_at-origin.ensures)))

pub by_named-s-requires : goal.by_named-s-requires
by_named-s-requires c = record {
  ready = subst Ready (sym c.line_at-upper.ensures)
      (c.requires.ready_lines c.origin_at-origin.result.first c.if-i-first.false);
  ready_2 =
      subst Ready (sym c.line_at-lower.ensures) (c.requires.ready_lines c.origin_at-origin.result.second c.if-i-second.false);
}

pub returns : goal.returns
returns c =
    states-same
    (resolvent-found c.args.proof.now c.args.bytes c.args.i
    c.origin_at-origin.ensures
    c.if-i-first.false
    c.if-i-second.false
    c.line_at-upper.ensures
    c.line_at-lower.ensures
    c.by_named-s.ensures)
    c.compared.ensures
