-- The numerators carried back, one variable after another, up to the first that leaves the range.
use Rattle.std.specs.Prelude.{◌≡◌, refl, Bool, false, cond, List, ℕ, zero, suc, ◌+◌, ◌-◌, ◌≤◌, ◌<◌, ℤ, pos, nat_abs, ◌-ℤ◌, length, get_or}
use Rattle.std.specs.Prelude.{set, replicate}
use Rattle.std.proofs.Common.{sym, ap, ◌∙◌, eq-zero-or-pos, arith, leb-true, get_or-set_same, get_or-set_other, SFits}
use Rattle.std.proofs.Math.Bool.{true}
use Rattle.std.proofs.Math.Logic.{⊎_elim}
use Rattle.std.proofs.Math.Option.{none, some}
use Rattle.std.proofs.Math.Numerals.{add-one}
use Rattle.std.specs.Int.{w64}
use Rattle.rules_types.specs.Limits as limit
use Rattle.rules.specs.Problem.{in_range}
use Rattle.rules.specs.Convert.{place_of, carried_numerator, first_beyond}
use Rattle.theory_lists.specs.All.{get_or-replicate-same}
use Rattle.theory_integers.specs.Size.{abs-minus-≤}
use Rattle.theory_vectors.specs.Amounts.{Small, Amounts}
use Rattle.theory_conversion.specs.Halves.{place_mono}
use Rattle.machine.specs.Signed.{fits-size}
use Rattle.models.specs.Model.{value}
use Rattle.models.specs.Fields.{Filled, filled_none, filled_more}
use Rattle.kept_rationals.specs.Kept.{place-next}

-- r numerators within the range
pub record CarriedRow (keeps : ℕ → Bool) (x : ℕ → ℤ) (r : ℕ) (numerators : List ℤ) : Type 0 where
  pub small : Amounts numerators
  pub within : first_beyond 0 r (carried_numerator keeps x) ≡ none
  pub same : (f : ℕ) → f < r → value numerators f ≡ carried_numerator keeps x f
  pub zeros : (f : ℕ) → r ≤ f → value numerators f ≡ pos 0

-- or 22 at the first that is not
pub record Beyond (keeps : ℕ → Bool) (x : ℕ → ℤ) (r variable : ℕ) : Type 0 where
  pub first : first_beyond 0 r (carried_numerator keeps x) ≡ some variable

-- ---- one numerator
pub half-least : (t : Bool) → 1 ≤ cond t 1 2
half-least true = omega arith
half-least false = omega arith

pub difference-fits : (a b : ℤ) → Small a → Small b → SFits w64 (a -ℤ b)
difference-fits a b h k = fits-size (a -ℤ b) (omega (arith, abs-minus-≤ a b h k))

-- ---- the first beyond the range, of k from number f on
all-within : (f k : ℕ) (x : ℕ → ℤ) → ((g : ℕ) → g < f + k → in_range (x g) ≡ true) → first_beyond f k x ≡ none
unfolding first_beyond
all-within f zero x h = refl
all-within f (suc k) x h = rw (h f (omega arith), first_beyond) (all-within (suc f) k x (λ g l. h g (omega arith)))

first-at : (f k : ℕ) (x : ℕ → ℤ) (n : ℕ) → f ≤ n → n < f + k → ((g : ℕ) → g < n → in_range (x g) ≡ true) → in_range (x n) ≡ false
    → first_beyond f k x ≡ some n
unfolding first_beyond
first-at f zero x n l m h e = absurd (omega arith)
first-at f (suc k) x n l m h e = ⊎_elim
    (λ z. let i : f ≡ n = omega arith in rw (ap (λ (g : ℕ). in_range (x g)) i ∙ e, first_beyond) (ap some i))
    (λ z. rw (h f (omega arith), first_beyond) (first-at (suc f) k x n (omega arith) (omega arith) h e))
    (eq-zero-or-pos (n - f))

-- ---- the loop: the first f are within the range, in front of zeros, and the halves of variable f are at a place
pub record CarriedTo (keeps : ℕ → Bool) (x : ℕ → ℤ) (f at : ℕ) (out : List ℤ) : Type 0 where
  pub place : at ≡ place_of keeps f
  pub filled : Filled (λ j. in_range (carried_numerator keeps x j)) (carried_numerator keeps x) (pos 0) f (λ j. get_or out j (pos 0))

module _ {keeps : ℕ → Bool} {x : ℕ → ℤ} where
  pub carried_none : CarriedTo keeps x 0 0 (replicate limit.rationals (pos 0))
  unfolding place_of
  carried_none = record { place = refl; filled = filled_none (λ j. get_or-replicate-same limit.rationals j (pos 0)) }

  module _ {f at : ℕ} {out : List ℤ} (run : CarriedTo keeps x f at out) where
    amounts : Amounts out
    unfolding in_range
    amounts =
        record {
          small = λ j. ⊎_elim
              (λ z. rw (run.filled.beyond j (omega arith)) (omega arith))
              (λ z. rw (run.filled.here j (omega arith))
              (leb-true (nat_abs (carried_numerator keeps x j)) limit.amount (run.filled.passed j (omega arith))))
              (eq-zero-or-pos (f - j));
        }

    pub carried-done : (r : ℕ) → f ≡ r → CarriedRow keeps x r out
    unfolding value
    carried-done r e =
        record {
          small = amounts;
          within = all-within 0 r (carried_numerator keeps x) (λ g l. run.filled.passed g (omega arith));
          same = λ g l. run.filled.here g (omega arith);
          zeros = λ g l. run.filled.beyond g (omega arith);
        }

    -- with the next variable
    module _ (r : ℕ) (more : f < r) (t : Bool) (known : t ≡ keeps f) where
      pub halves-within : place_of keeps r ≤ limit.rationals → at + cond t 1 2 ≤ limit.rationals
      halves-within h = rw known (omega (arith, run.place, place-next keeps f, place_mono keeps (f + 1) r (omega arith)))

      module _ (z : ℤ) (given : z ≡ cond t (x at) (x at -ℤ x (at + 1))) where
        numerator-is : z ≡ carried_numerator keeps x f
        unfolding carried_numerator
        numerator-is = given ∙ rw (known, run.place, add-one (place_of keeps f))

        pub carried-bad : in_range z ≡ false → Beyond keeps x r f
        carried-bad b =
            record {
              first = first-at 0 r (carried_numerator keeps x) f (omega arith) (omega arith) run.filled.passed
                  (ap in_range (sym numerator-is) ∙ b);
            }

        pub carried-more : in_range z ≡ true → f < length out → (n : ℕ) → n ≡ cond (keeps f) 1 2
            → CarriedTo keeps x (f + 1) (at + n) (set out f z)
        carried-more b l n e =
            record {
              place = omega (arith, run.place, place-next keeps f);
              filled = filled_more run.filled (ap in_range (sym numerator-is) ∙ b) (get_or-set_same out f z (pos 0) l ∙ numerator-is)
                  (λ j o. get_or-set_other out f j z (pos 0) o);
            }
