-- `gather::with_line` meets its contract: a return for each thing that a line can be to the variable. Assumes nothing.
use mathlib.Core.Path.{◌≡◌, sym, ap, ◌∙◌}
use mathlib.Core.Bool.{Bool, true, false, not, or-not_self}
use mathlib.Core.List.{List, ◌∷◌}
use mathlib.Core.Option.{some}
use Prim.Native.Nat.{◌<◌}
use borrow.Author.Rules.{rules}
use borrow.Author.Tests.{eqb-true}
use lib.IntN.{pos, nat_abs}
use lib.Dec.{eqb}
use lib.ListN.{length, get_or}
use Rattle.rules_types.specs.Limits as limit
use Rattle.rules.specs.Elimination.{round_of}
use Rattle.rules.specs.Lines as rules
use Rattle.rules.specs.Lines.{a_literal_holds, rational, positively, negatively}
use Rattle.rules.specs.Values.{bound_of}
use Rattle.fractions.specs.Meaning.{meaning as fraction_meaning, bound_meaning}
use Rattle.fractions.specs.Range.{Small}
use Rattle.lines.specs.Order.{variables_of}
use Rattle.lines.specs.Line.{constraint_in, meaning}
use Rattle.lines.specs.Forms.{constraint-is}
use Rattle.models.specs.Model.{assignment}
use Rattle.values.specs.Round.{belongs}
use Rattle.values.specs.Constraint.{bound-small}
use Rattle.values.specs.Leading.{round-coefficient, round-related, round-sides}
use Rattle.values.specs.Gather.{Collected, CollectedIn, with_lower, with_upper, counted, collected-more}
use Rattle.values.specs.Gather.{exceeding-here}
use Rattle.values.proofs.gather.with_line.Goals as goal
use Rattle.values.proofs.gather.with_line.Goals.{After-has_positive_rational, Else-beyond, Start}

-- ---- a line of the variable's round
row-length : (s : Start) → length s.args.line.coefficients ≡ limit.rationals
row-length s = search (rules, s.well_formed.1.0)

own : (c : Start) → belongs c.args.current (meaning c.args.line) ≡ true
own c = (counted (assignment c.args.model) c.args.current (meaning c.args.line) c.requires.counted).0

free : (c : Start) → a_literal_holds (assignment c.args.model) (meaning c.args.line) ≡ false
free c = (counted (assignment c.args.model) c.args.current (meaning c.args.line) c.requires.counted).1

same-round : (c : Start) → round_of (variables_of c.args.current.order) (meaning c.args.line) ≡ c.args.current.number
same-round c =
    eqb-true (round_of (variables_of c.args.current.order) (meaning c.args.line)) c.args.current.number (own c)

bounded : (c : Start) → 0 < nat_abs (get_or c.args.line.coefficients c.args.current.rational (pos 0))
bounded c = round-coefficient c.args.line c.requires.ready.shaped c.args.current c.requires.scheduled_rational (same-round c)

constrained : (c : Start) → (meaning c.args.line).constraint ≡ some (constraint_in c.args.line)
constrained c = constraint-is c.args.line
    (round-related c.args.line c.requires.ready.shaped c.args.current c.requires.scheduled_rational (same-round c))

one_side : (c : Start) → let v = rational c.args.current.rational in
    negatively v (meaning c.args.line) ≡ not (positively v (meaning c.args.line))
one_side c = round-sides c.args.line c.requires.ready.shaped c.args.current c.requires.scheduled_rational (same-round c)

pub bound_of-at-requires-clause-nonzero : goal.bound_of-at-requires-clause-nonzero
bound_of-at-requires-clause-nonzero c = bounded (goal.at.bound_of-at-requires-clause-nonzero c).Start

pub returns-then-beyond : goal.returns-then-beyond
returns-then-beyond c = λ ls h.
    exceeding-here (assignment c.args.model) c.args.current (meaning c.args.line) ls (bound_meaning c.args.earlier.lower)
    (bound_meaning c.args.earlier.upper) h (own (goal.at.returns-then-beyond c).Start)
    (free (goal.at.returns-then-beyond c).Start) (constraint_in c.args.line)
    (constrained (goal.at.returns-then-beyond c).Start)
    (rw (one_side (goal.at.returns-then-beyond c).Start)
    (or-not_self (positively (rational c.args.current.rational) (meaning c.args.line))))
    (rw (← c.bound_of-at.ensures, ← c.beyond.ensures) c.if-beyond.true)

-- the bound is in range
small : (c : Else-beyond) → Small (bound_of (assignment c.args.model) c.args.current.rational (constraint_in c.args.line))
small c =
    bound-small c.args.line c.args.model c.args.current.rational
    (row-length (goal.at.Else-beyond c).Start) c.requires.scheduled_rational.ranged
    c.requires.ready c.requires.in_range
    (bounded (goal.at.Else-beyond c).Start) (rw (← c.bound_of-at.ensures, ← c.beyond.ensures) c.if-beyond.false)

-- the bounds with the line's on its side
more : (c : After-has_positive_rational) (t : Bool) → c.has_positive_rational.result ≡ t
    → let e = c.args.earlier in
    let strict = eqb c.args.line.relation 2 in
    (ls : List rules.Line) → CollectedIn e (assignment c.args.model) c.args.current ls
    → Collected (assignment c.args.model) c.args.current (meaning c.args.line ∷ ls)
    (with_lower t (fraction_meaning c.bound_of-at.result) strict (bound_meaning e.lower))
    (with_upper t (fraction_meaning c.bound_of-at.result) strict (bound_meaning e.upper))
more c t e = λ ls h.
    let p = sym c.has_positive_rational.ensures ∙ e in
    rw c.bound_of-at.ensures
    (collected-more (assignment c.args.model) c.args.current (meaning c.args.line) ls (bound_meaning c.args.earlier.lower)
    (bound_meaning c.args.earlier.upper) h (own (goal.at.After-has_positive_rational c).Start)
    (free (goal.at.After-has_positive_rational c).Start) (constraint_in c.args.line)
    (constrained (goal.at.After-has_positive_rational c).Start)
    t p (one_side (goal.at.After-has_positive_rational c).Start ∙ ap not p)
    (small (goal.at.After-has_positive_rational c).Else-beyond))

pub tighter-requires : goal.tighter-requires
tighter-requires c = (c.requires.within.1, rw c.bound_of-at.ensures (small (goal.at.tighter-requires c).Else-beyond))

pub returns-then-has_positive_rational : goal.returns-then-has_positive_rational
returns-then-has_positive_rational c = λ ls h. rw c.tighter.ensures
    (more (goal.at.returns-then-has_positive_rational c).After-has_positive_rational true c.if-has_positive_rational.true ls h)

pub tighter-requires-2 : goal.tighter-requires-2
tighter-requires-2 c = (c.requires.within.0, rw c.bound_of-at.ensures (small (goal.at.tighter-requires-2 c).Else-beyond))

pub returns : goal.returns
returns c = λ ls h. rw c.tighter-2.ensures
    (more (goal.at.returns c).After-has_positive_rational false c.if-has_positive_rational.false ls h)
