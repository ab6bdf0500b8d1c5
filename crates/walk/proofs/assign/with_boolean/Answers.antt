-- `assign::with_boolean` meets its contract. Assumes nothing.
use Rattle.rules.specs.Lines.{including, excluding}
use Rattle.walk.specs.Words.{boolean-words}
use Rattle.walk.proofs.assign.with_boolean.Goals as goal
use Rattle.walk.proofs.assign.with_boolean.Goals.{then-yes, else-yes}

pub returns : goal.returns
unfolding including excluding
returns c =
    let k = c.requires.in_range in (
      elim c.if-yes.branch [
        | then-yes w ↦ rw (w.booleans-is, w.if-yes.true)
            (boolean-words c.args.model w.with-booleans.result c.args.i _ c.requires.i_lt_all_booleans w.with-booleans.ensures)
        | else-yes w ↦ rw (w.booleans-is, w.if-yes.false)
            (boolean-words c.args.model w.without-booleans.result c.args.i _ c.requires.i_lt_all_booleans w.without-booleans.ensures)
      ],
      record { amounts = k.amounts; positive = k.positive; small = k.small },
    )
