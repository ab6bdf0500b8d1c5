-- `fields::put_u16` meets its contract. Assumes nothing.
use Rattle.fields.specs.Field.{stored-2}
use native.Mathlib.Omega.{arith}
use lib.ListN.{length-set}
use borrow.Author.Rules.{rules}
use Rattle.fields.proofs.put_u16.Goals as goal

pub bounds-s-at-2 : goal.bounds-s-at-2
bounds-s-at-2 c = simp length-set (omega arith)

pub returns : goal.returns
returns c =
    rw (c.byte-2.ensures, c.byte.ensures) (stored-2 c.args.at c.args.n c.args.s.now c.requires)
