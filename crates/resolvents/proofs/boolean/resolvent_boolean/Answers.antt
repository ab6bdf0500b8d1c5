-- `boolean::resolvent_boolean` meets its contract. Assumes nothing.
use mathlib.Core.Path.{sym, ap, ◌∙◌}
use borrow.Author.Rules.{rules}
use Rattle.rules_types.specs.Limits as limit
use Rattle.rules.specs.Lines.{excluding}
use Rattle.rules.specs.Resolve.{resolvent}
use Rattle.rows.specs.Products.{amount-bits}
use Rattle.lines.specs.Line.{constraint_of, meaning}
use Rattle.masks.specs.Mask.{union-bits}
use Rattle.resolvents.proofs.boolean.resolvent_boolean.Goals as goal

pub returns : goal.returns
unfolding meaning resolvent
returns c =
    let i = c.args.i in
    let u = c.args.upper in
    let l = c.args.lower in
    let from = c.constrained-from.result in
    let ready = c.constrained-from.ensures.ready_3 in
    let p = c.without.ensures ∙ ap (excluding i) (sym (union-bits limit.all_booleans u.positive l.positive)) in
    let n = c.without-2.ensures ∙ ap (excluding i) (sym (union-bits limit.all_booleans u.negative l.negative)) in
    let b = amount-bits from.bound ready.bound in
    let x = ap (constraint_of from.relation from.coefficients) b ∙ c.constrained-from.ensures.result_value in record {
      result_value = λ j. record { positive = p j; negative = n j; constraint = x j };
      ready_3 = record {
        shaped = record {
          related = ready.shaped.related;
          coefficients = ready.shaped.coefficients;
          bound = λ z. b ∙ ready.shaped.bound z;
        };
        coefficients = ready.coefficients;
        bound = rw b ready.bound;
      };
    }
