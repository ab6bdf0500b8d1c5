-- `sequence::order_for` meets its contract. Assumes nothing.
use mathlib.Core.Path.{refl}
use native.Mathlib.Omega.{arith}
use Rattle.rounds.proofs.sequence.order_for.Goals as goal

pub choose-requires : goal.choose-requires
choose-requires c =
    let k = c.requires.choosable (omega arith) in record {
      held = c.requires.held;
      m_le_most_steps = c.requires.m_le_most_steps;
      r_le_rationals = c.requires.r_le_rationals;
      t_lt_r = omega arith;
      taken = k.0;
      rationals_value = k.1;
    }

pub returns-then-t-r : goal.returns-then-t-r
returns-then-t-r c = (λ h. c.choose.ensures, λ h. absurd (omega arith))

pub returns : goal.returns
returns c = (λ h. absurd (omega arith), λ h. refl)
