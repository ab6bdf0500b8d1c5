-- `pair::pair` meets its contract. Assumes nothing.
use mathlib.Core.Path.{◌≡◌, ◌∙◌}
use Rattle.rules.specs.Resolve.{resolve}
use Rattle.lines.specs.Line.{meaning}
use Rattle.steps.specs.Lines.{line_at}
use Rattle.lines.specs.Order.{variable_of}
use Rattle.rounds.specs.Pairs.{left, settled, resolvent_of}
use Rattle.rounds.proofs.pair.pair.Goals as goal

pub resolve-r-requires : goal.resolve-r-requires
unfolding line_at
resolve-r-requires c =
    let a = c.args in
    let h = c.requires.pairable in
    let k = c.requires.standing.held.steps in
    record {
      ranged = h.ranged;
      ready = rw c.requires.upper_value (k a.parents.upper h.upper-held).ready;
      ready_2 = rw c.line_at-lower.ensures (k a.parents.lower h.lower-held).ready;
      upper_value = rw c.requires.upper_value h.upper;
      lower_value = rw c.line_at-lower.ensures h.lower;
    }

pub settle-requires : goal.settle-requires
settle-requires c = record {
  standing = c.requires.standing;
  pairable = c.requires.pairable;
  gives = rw c.resolve-r.ensures.line c.resolve-r.ensures;
}

pub returns : goal.returns
returns c =
    let a = c.args in
    let resolvent : left c.resolve-r.result ≡ resolvent_of a.proof.now a.parents = c.resolve-r.ensures.line
    ∙ (λ x. resolve (variable_of a.parents.variable) (meaning (c.requires.upper_value x)) (meaning (c.line_at-lower.ensures x))) in
    record {
      is = c.settle.ensures.is ∙ (λ x. settled a.limits a.proof.now a.parents (resolvent x) a.p);
      leads = c.settle.ensures.leads;
    }
