-- `boolean::without_boolean` meets its contract. Assumes nothing.
use Rattle.std.proofs.Common.{◌≡◌, rules, to_z, of_z}
use Rattle.std.specs.Int.{w64}
use Rattle.rules.specs.Values.{without_boolean}
use Rattle.lines.specs.Line.{constraint_of, meaning}
use Rattle.values.proofs.boolean.without_boolean.Goals as goal

pub returns : goal.returns
unfolding meaning without_boolean
returns c =
    let l = c.args.line in
    let h = c.requires.ready in
    let e : to_z w64 (of_z w64 l.bound) ≡ l.bound = search rules in
    rw e (
      λ k. record {
        positive = c.without.ensures k;
        negative = c.without-2.ensures k;
        constraint = constraint_of l.relation l.coefficients l.bound;
      },
      record {
        shaped = record { related = h.shaped.related; coefficients = h.shaped.coefficients; bound = h.shaped.bound };
        coefficients = h.coefficients;
        bound = h.bound;
      },
    )
