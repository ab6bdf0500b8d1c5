-- `load::load_written` meets its contract. Invariant: the clauses that are left come to what all written clauses come to. Assumes nothing.
use Prim.Native.Nat.{◌-◌}
use Rattle.elimination.specs.Loading.{AtClause}
use Rattle.elimination.proofs.load.load_written.Given as goal

abbrev pub invariant-loop-clause : goal.invariant-loop-clause
invariant-loop-clause l =
    AtClause l.limits l.input (record {
      booleans = l.initial.split;
      rationals = l.r;
      clauses = l.n;
    }) l.initial.proof l.proof l.p l.at l.split l.clause

abbrev pub decreases-loop-clause : goal.decreases-loop-clause
decreases-loop-clause l = l.n - l.clause
