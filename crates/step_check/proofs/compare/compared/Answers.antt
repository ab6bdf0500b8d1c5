-- `compare::compared` meets its contract. Assumes nothing.
use mathlib.Core.Path.{◌≡◌, sym, ◌∙◌}
use mathlib.Core.Bool.{true, false}
use Prim.Native.Nat.{◌<◌}
use borrow.Author.Tests.{not-true, not-false}
use lib.Dec.{eqb}
use lib.ListN.{length}
use Rattle.rules_types.specs.Limits as limit
use Rattle.rules.specs.Lists.{same}
use Rattle.rules.specs.Steps.{Header}
use Rattle.steps.specs.Origin.{header_of}
use Rattle.steps.specs.Encoding.{encoded}
use Rattle.lines.specs.Line.{meaning}
use Rattle.step_check.specs.Stated.{states-none, matched-unfound, matched-other, matched-same}
use borrow.Author.Rules.{rules}
use Rattle.step_check.proofs.compare.compared.Goals as goal
use Rattle.step_check.proofs.compare.compared.Goals.{After-same_bytes, Else-not-s, Start, Then-not-s}

abbrev header : Start → Header
header s = header_of s.args.origin

pub returns-then-not-s : goal.returns-then-not-s
returns-then-not-s c =
    let t : c.args.s.found ≡ false = search (rules, not-true, not-false, (goal.at.returns-then-not-s c).Then-not-s) in
    states-none c.args.bytes c.unstated.result c.unstated.ensures
    (matched-unfound (header (goal.at.returns-then-not-s c).Start) c.args.bytes c.args.s t)

eight : (s : Start) → length s.args.s.line.coefficients ≡ limit.rationals
eight s = search (rules, s.well_formed)

positive-fits : (s : Start) → s.args.s.line.positive < 4294967296
positive-fits s = search (rules, s.well_formed)

negative_fits : (s : Start) → s.args.s.line.negative < 4294967296
negative_fits s = search (rules, s.well_formed)

found : (c : Else-not-s) → c.args.s.found ≡ true
found c = search (rules, not-true, not-false, c.if-not-s)

-- what comparing with the own bytes says
test : (c : After-same_bytes) → c.same_bytes.result ≡ same eqb (encoded (header (goal.at.After-same_bytes c).Start)
    (meaning c.args.s.line)) c.args.bytes
test c = rw c.encode-own.ensures at c.same_bytes.ensures

pub returns-then-same_bytes : goal.returns-then-same_bytes
returns-then-same_bytes c =
    matched-same (header (goal.at.returns-then-same_bytes c).Start) c.args.bytes c.args.s
    (found (goal.at.returns-then-same_bytes c).Else-not-s) c.requires (eight (goal.at.returns-then-same_bytes c).Start)
    (positive-fits (goal.at.returns-then-same_bytes c).Start) (negative_fits (goal.at.returns-then-same_bytes c).Start)
    (sym (test (goal.at.returns-then-same_bytes c).After-same_bytes) ∙ c.if-same_bytes.true)

pub returns : goal.returns
returns c =
    states-none c.args.bytes c.unstated-2.result c.unstated-2.ensures
    (matched-other (header (goal.at.returns c).Start) c.args.bytes c.args.s (found (goal.at.returns c).Else-not-s)
    (sym (test (goal.at.returns c).After-same_bytes) ∙ c.if-same_bytes.false))
