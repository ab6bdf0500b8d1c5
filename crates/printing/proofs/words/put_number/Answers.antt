-- `put_number` meets its contract. Assumes nothing.
use mathlib.Core.Path.{◌≡◌, ◌∙◌}
use lib.ListN.{take}
use Rattle.rules.specs.Print.{decimal}
use Rattle.printing.specs.Decimals.{decimal-digits}
use Rattle.printing.proofs.words.put_number.Goals as goal

pub returns-clause-appended : goal.returns-clause-appended
returns-clause-appended c =
    let f = c.decimal-k.ensures in
    let e : take c.decimal-k.result c.decimal-k.new.out ≡ decimal c.args.n = f.digits
    ∙ decimal-digits c.decimal-k.result c.args.n f.len in
    rw e at c.put_word.ensures.appended
