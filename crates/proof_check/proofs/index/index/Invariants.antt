-- `index::index` meets its contract. Invariant: the first c clauses are indexed, and the next one is at hand. Assumes nothing.
use Prim.Native.Nat.{◌-◌}
use mathlib.Core.Path.{◌≡◌}
use lib.ListN.{length}
use Rattle.proof_check.specs.Index.{Indexing}
use Rattle.proof_check.proofs.index.index.Given as goal

abbrev pub invariant-loop-c : goal.invariant-loop-c
invariant-loop-c l = (length l.places ≡ length l.initial.places)
    × (length l.variables ≡ length l.initial.variables)
    × Indexing l.input (record { booleans = l.initial.variable; rationals = l.r; clauses = l.n }) l.places l.variables l.at l.variable l.c

abbrev pub decreases-loop-c : goal.decreases-loop-c
decreases-loop-c l = l.n - l.c
