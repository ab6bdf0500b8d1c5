-- `put_zeros` meets its contract. Invariant: the bytes up to j are 0. Assumes nothing.
use mathlib.Core.Path.{◌≡◌, refl, ap, ◌∙◌}
use mathlib.Core.List.{List}
use Prim.Native.Nat.{ℕ, ◌-◌, ◌≤◌}
use native.Mathlib.Omega.{arith}
use borrow.Author.Rules.{rules}
use lib.ListN.{length, set, replicate, length-set}
use Rattle.fields.specs.Field.{stored}
use Rattle.fields.specs.Filled.{zeros-none, zeros-more}
use Rattle.fields.proofs.put_zeros.Given as goal

abbrev pub invariant-loop-j : goal.invariant-loop-j
invariant-loop-j l = (l.from ≤ l.j) × (l.j ≤ l.to) × (length l.s ≡ length l.initial.s)
    × (l.s ≡ stored l.from (replicate (l.j - l.from) 0) l.initial.s)

abbrev pub decreases-loop-j : goal.decreases-loop-j
decreases-loop-j l = l.to - l.j
