-- `encode::encode` meets its contract. Assumes nothing.
use mathlib.Core.Path.{◌≡◌, ap, ◌∙◌}
use mathlib.Core.List.{List, [], ◌∷◌, ◌++◌}
use Prim.Native.Nat.{ℕ, ◌<◌}
use lib.ListN.{length}
use Rattle.rules_types.specs.Limits.{rationals}
use Rattle.rules_types.specs.Layout.{step_coefficients, step_relation}
use Rattle.rules.specs.Bytes.{amount_bytes}
use Rattle.fields.specs.Field.{stored}
use Rattle.rows.specs.Products.{amount-bits}
use Rattle.steps.specs.Origin.{header_of}
use Rattle.steps.specs.Encoding.{literal_bytes, encoded-is}
use borrow.Author.Rules.{rules}
use Rattle.steps.proofs.encode.encode.Goals as goal
use Rattle.steps.proofs.encode.encode.Goals.{Start}

eight : (s : Start) → length s.args.step.line.coefficients ≡ rationals
eight s = search (rules, s.well_formed)

positive-fits : (s : Start) → s.args.step.line.positive < 4294967296
positive-fits s = search (rules, s.well_formed)

negative_fits : (s : Start) → s.args.step.line.negative < 4294967296
negative_fits s = search (rules, s.well_formed)

pub returns : goal.returns
returns c =
    let l = c.args.step.line in
    let e = rw (amount-bits l.bound c.requires.bound) at c.put_row.ensures in
    e
    ∙ ap (λ (t : List ℕ). stored step_coefficients (amount_bytes (l.coefficients ++ (l.bound ∷ []))) t)
    (c.put_literals.ensures
    ∙ ap (λ (t : List ℕ). stored step_relation (literal_bytes l.relation l.positive l.negative) t) c.put_header.ensures)
    ∙ encoded-is (header_of c.args.step.origin) l c.requires.shaped (eight (goal.at.returns c).Start)
    (positive-fits (goal.at.returns c).Start) (negative_fits (goal.at.returns c).Start)
