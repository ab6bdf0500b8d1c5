-- `put_word` meets its contract. Assumes nothing.
use Rattle.printing.specs.Appended.{appended-word}
use Rattle.printing.proofs.words.put_word.Goals as goal

pub returns-clause-appended : goal.returns-clause-appended
returns-clause-appended c =
    let a = c.args in
    appended-word a.at a.end a.word.now a.out.now c.put_bytes.new.s c.requires c.put_bytes.ensures
