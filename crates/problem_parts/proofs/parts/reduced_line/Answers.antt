-- `parts::reduced_line` meets its contract. Assumes nothing.
use mathlib.Core.Path.{refl, ap, ◌∙◌}
use mathlib.Core.Option.{some}
use Rattle.rules.specs.Lines as rules
use Rattle.problem_scan.specs.Values.{constraint_at}
use Rattle.normalization.specs.Reduced.{ready-bounded, ready-reduced, reduced-line, reduced_line}
use Rattle.problem_parts.specs.Constraint.{line_of, coefficients-of}
use Rattle.problem_parts.proofs.parts.reduced_line.Goals as goal

pub reduce-requires : goal.reduce-requires
reduce-requires c =
    let l = c.constraint_line in
    let e = coefficients-of l.result (constraint_at c.args.input.now c.args.second c.args.r c.args.at)
    (ap (λ (m : rules.Line). m.constraint) l.ensures.result_value) in
    record { shaped = l.ensures.ready.shaped; coefficients_value = rw e c.requires.at_value; bounded = ready-bounded l.ensures.ready }

pub returns : goal.returns
returns c =
    let l = c.constraint_line in
    let k = constraint_at c.args.input.now c.args.second c.args.r c.args.at in record {
      result_value = c.reduce.ensures.result_value ∙ ap reduced_line l.ensures.result_value
          ∙ reduced-line (line_of c.args.positive c.args.negative (some k)) k refl;
      ready = ready-reduced l.result c.reduce.result l.ensures.ready c.reduce.ensures.shaped_2 c.reduce.ensures.result_value;
    }
