-- `access::line_at` meets its contract. Assumes nothing.
use mathlib.Core.Path.{◌∙◌}
use mir.Syntax.{w64}
use mir.Facts.{to_z-of_z}
use borrow.Author.Rules.{sfits_of}
use Rattle.steps.specs.Decoding.{decoded}
use Rattle.steps.specs.Lines.{line_at}
use Rattle.steps.specs.Fields.{relation-bytes, positive-bytes, negative-bytes, bound-bytes}
use Rattle.steps.proofs.access.line_at.Goals as goal

pub returns : goal.returns
unfolding line_at decoded
returns c =
    let proof = c.args.proof.now in
    let i = c.args.i in
    let room = c.requires in
    let bound = to_z-of_z {w = w64} (sfits_of c.bound_at.type_inv) ∙ c.bound_at.ensures ∙ bound-bytes proof i room in
    let positive = c.positive_at.ensures ∙ positive-bytes proof i room in
    let negative = c.negative_at.ensures ∙ negative-bytes proof i room in
    let relation = c.relation_at.ensures ∙ relation-bytes proof i room in
    (λ x. record {
      positive = positive x;
      negative = negative x;
      relation = relation x;
      coefficients = c.coefficients_at-coefficients.ensures x;
      bound = bound x;
    })
