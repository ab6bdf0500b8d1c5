-- `Line::is_empty` meets its contract. Assumes nothing.
use mathlib.Core.Path.{◌≡◌, sym, ◌∙◌}
use mathlib.Core.Bool.{◌&&◌}
use Prim.Native.Nat.{◌<◌, ◌^◌}
use borrow.Author.Rules.{rules}
use borrow.Author.Tests.{eq-eqb, ne_eqb}
use lib.Dec.{eqb}
use Rattle.rules.specs.Lines.{is_empty}
use Rattle.lines.specs.Line.{meaning}
use Rattle.lines.specs.Forms.{empty-is}
use Rattle.lines.proofs.line.Line.is_empty.Goals as goal
use Rattle.lines.proofs.line.Line.is_empty.Goals.{Start}

-- what is to be told, at the function's entry
law : (s : Start) → is_empty (meaning s.args.self) ≡ eqb s.args.self.positive 0 && eqb s.args.self.negative 0
    && eqb s.args.self.relation 0
law s =
    let h : s.args.self.positive < 2 ^ 32 = search (rules, s.well_formed) in
    let k : s.args.self.negative < 2 ^ 32 = search (rules, s.well_formed) in
    empty-is s.args.self h k

pub returns-then-self-ne0 : goal.returns-then-self-ne0
returns-then-self-ne0 c = sym (law (goal.at.returns-then-self-ne0 c).Start ∙ rw (ne_eqb c.args.self.positive 0 c.if-self-ne0.true))

pub returns-then-self-ne0-2 : goal.returns-then-self-ne0-2
returns-then-self-ne0-2 c =
    sym (law (goal.at.returns-then-self-ne0-2 c).Start ∙ rw (
      ne_eqb c.args.self.negative 0 c.if-self-ne0-2.true,
      eq-eqb c.args.self.positive 0 c.if-self-ne0.false,
    ))

pub returns : goal.returns
returns c =
    sym (law (goal.at.returns c).Start ∙ rw (
      eq-eqb c.args.self.positive 0 c.if-self-ne0.false,
      eq-eqb c.args.self.negative 0 c.if-self-ne0-2.false,
    ))
