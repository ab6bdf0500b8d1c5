-- `choose::choose` meets its contract. Invariant: the cheapest of the places before j is at `best`. Assumes nothing.
use mathlib.Core.Path.{◌≡◌}
use lib.ListN.{get_or, take}
use Rattle.rules.specs.Elimination.{cost}
use Rattle.steps.specs.Held.{steps_in}
use Rattle.choosing.specs.Choice.{Looked}
use Rattle.choosing.proofs.choose.choose.Given as goal

abbrev pub invariant-loop-j : goal.invariant-loop-j
invariant-loop-j l =
    Looked l.order.rationals l.t l.r (steps_in l.proof l.m) l.best l.j
    × (l.least ≡ cost (take l.t l.order.rationals) (steps_in l.proof l.m) (get_or l.order.rationals l.best 0))
