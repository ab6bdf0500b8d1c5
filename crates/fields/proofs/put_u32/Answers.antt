-- `fields::put_u32` meets its contract. Assumes nothing.
use Rattle.fields.specs.Field.{stored-4}
use native.Mathlib.Omega.{arith}
use lib.ListN.{length-set}
use borrow.Author.Rules.{rules}
use Rattle.fields.proofs.put_u32.Goals as goal

pub bounds-s-at-2 : goal.bounds-s-at-2
bounds-s-at-2 c = simp length-set (omega arith)

pub bounds-s-at-3 : goal.bounds-s-at-3
bounds-s-at-3 c = simp length-set (omega arith)

pub bounds-s-at-4 : goal.bounds-s-at-4
bounds-s-at-4 c = simp length-set (omega arith)

pub returns : goal.returns
returns c =
    rw (c.byte-4.ensures, c.byte-3.ensures, c.byte-2.ensures, c.byte.ensures)
    (stored-4 c.args.at c.args.n c.args.s.now c.requires)
