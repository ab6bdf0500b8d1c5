-- `access::origin_at` meets its contract. Assumes nothing.
use Rattle.steps.proofs.access.origin_at.Goals as goal

pub returns : goal.returns
returns c =
    λ i. record {
      how = c.u8_at.ensures i;
      which = c.u8_at-2.ensures i;
      first = c.u16_at.ensures i;
      second = c.u16_at-2.ensures i;
    }
