-- `put_bytes` meets its contract. Invariant: the first j bytes are stored. Assumes nothing.
use mathlib.Core.Path.{◌≡◌, refl, ap, ◌∙◌}
use mathlib.Core.List.{List}
use Prim.Native.Nat.{ℕ, ◌+◌, ◌-◌, ◌≤◌}
use native.Mathlib.Omega.{arith}
use borrow.Author.Rules.{rules}
use lib.ListN.{length, get_or, set, take, length-set}
use lib.Seq.{take_all}
use Rattle.fields.specs.Field.{stored, stored-nothing}
use Rattle.fields.specs.Filled.{bytes-more}
use Rattle.fields.proofs.put_bytes.Given as goal

abbrev pub invariant-loop-j : goal.invariant-loop-j
invariant-loop-j l = (l.j ≤ length l.bytes) × (length l.s ≡ length l.initial.s) × (l.s ≡ stored l.at (take l.j l.bytes) l.initial.s)

abbrev pub decreases-loop-j : goal.decreases-loop-j
decreases-loop-j l = length l.bytes - l.j
