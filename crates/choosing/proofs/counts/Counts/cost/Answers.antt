-- `Counts::cost` meets its contract. Assumes nothing.
use lib.ListN.{get_or}
use mir.Facts.{to_z-of_z}
use Rattle.rules.specs.Elimination.{cost_of}
use Rattle.choosing.specs.Counts.{cost_at, cost-fits}
use Rattle.choosing.proofs.counts.Counts.cost.Goals as goal

pub returns : goal.returns
unfolding cost_at cost_of
returns c =
    let few = c.requires.within c.args.f c.requires.f_lt_rationals in
    rw c.cost_of.ensures
    (to_z-of_z (cost-fits (get_or c.args.self.uppers c.args.f 0) (get_or c.args.self.lowers c.args.f 0) few.0 few.1))
