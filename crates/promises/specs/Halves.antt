-- Which rational variables are kept, and where the halves of each stand (CarriedOver.antt), proved.
use Rattle.std.specs.Prelude.{◌≡◌, refl, Bool, true, false, ℕ, ◌≤◌}
use Rattle.std.proofs.Common.{arith}
use borrow.Author.Tests.{le-ltb}
use Rattle.rules_types.specs.Limits as limit
use Rattle.rules.specs.Problem.{Problem}
use Rattle.rules.specs.Convert.{kept, place_of, split_problem, written_as, carried_over, over_rationals}
use Rattle.theory_conversion.specs.Kept.{Keeps, kept-exactly}
use Rattle.theory_conversion.specs.Places.{every-half}
use Rattle.promises.specs.CarriedOver.{Halves, new_rationals}

module _ (p : Problem) where
  pub kept-not : (f : ℕ) → (Keeps p f → ⊥) → kept p f ≡ false
  kept-not f n = by (kept p f) refl
    where
      by : (t : Bool) → kept p f ≡ t → kept p f ≡ false
      by true e = absurd (n ((kept-exactly p f).0 e))
      by false e = e

  pub halves : Halves p
  unfolding place_of
  halves = record {
    keeps = kept-exactly p;
    first = refl;
    one = λ f k. rw (place_of, (kept-exactly p f).1 k);
    two = λ f n. rw (place_of, kept-not f n);
    every = every-half (kept p) p.rationals;
  }

  -- 20, as the definition tests it
  pub few-over : new_rationals p ≤ limit.rationals → over_rationals p ≡ false
  unfolding over_rationals carried_over split_problem written_as
  few-over h = le-ltb limit.rationals (new_rationals p) h

-- of two answers that differ
pub impossible : {X : Type 0} → ◌≡◌ {A = ℕ} 0 1 → X
impossible z = absurd (omega arith)
