-- `pair::origin_of` meets its contract. Assumes nothing.
use Rattle.rounds.proofs.pair.origin_of.Goals as goal

pub returns : goal.returns
returns c =
    let x = c.args.parents in
    λ i. record { how = c.how_of.ensures i; which = c.which_of.ensures i; first = x.upper; second = x.lower }
