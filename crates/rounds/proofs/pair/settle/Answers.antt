-- `pair::settle` meets its contract. Assumes nothing.
use native.Mathlib.Omega.{arith}
use Rattle.rounds.specs.Pairs.{named-pair, settle-dropped, settle-overflow, settle-made}
use Rattle.rounds.proofs.pair.settle.Goals as goal

pub admit-requires : goal.admit-requires
admit-requires c =
    let h = c.requires.pairable in record {
      standing = rw c.counted-next.ensures c.requires.standing;
      ready = c.requires.gives.ready c.in-Made.is;
      named = rw c.origin_of-origin.ensures
          (named-pair c.args.parents (omega (arith, h.upper-held, h.few)) (omega (arith, h.lower-held, h.few)));
    }

pub returns-in-Dropped : goal.returns-in-Dropped
returns-in-Dropped c =
    let a = c.args in
    rw c.counted.ensures (settle-dropped a.parents a.r a.p c.requires.standing c.in-Dropped.is)

pub returns-in-Overflows : goal.returns-in-Overflows
returns-in-Overflows c =
    let a = c.args in
    rw c.counted-in-Overflows.ensures
    (settle-overflow a.parents a.r a.p c.requires.gives c.requires.standing c.in-Overflows.is)

pub returns-in-Made : goal.returns-in-Made
returns-in-Made c =
    let a = c.args in
    settle-made a.parents a.r a.p c.requires.gives c.in-Made.is c.admit.new.proof c.admit.result
    (rw (c.origin_of-origin.ensures, c.counted-next.ensures) at c.admit.ensures)
