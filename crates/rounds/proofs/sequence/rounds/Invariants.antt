-- `rounds::rounds` meets its contract. Invariant: the rounds that are left come to what all rounds come to. Assumes nothing.
use Prim.Native.Nat.{◌-◌}
use Rattle.rules_types.specs.Limits as limit
use Rattle.rounds.specs.Rounds.{AtRound}
use Rattle.rounds.proofs.sequence.rounds.Given as goal

abbrev pub invariant-loop-limits : goal.invariant-loop-limits
invariant-loop-limits l = AtRound l.r l.limits l.initial.proof l.initial.p l.order l.proof l.p l.t

abbrev pub decreases-loop-limits : goal.decreases-loop-limits
decreases-loop-limits l = limit.rounds - l.t
