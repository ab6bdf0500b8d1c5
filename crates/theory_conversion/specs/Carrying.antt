-- When a model is carried back, and what is written then.
use Rattle.std.specs.Prelude.{◌≡◌, Bool, List, ◌++◌, ℕ, zero, suc, ◌+◌, ◌≤◌, ◌<◌, ℤ, nat_abs, length, drop}
use Rattle.std.proofs.Math.Path.{refl}
use Rattle.std.proofs.Common.{sym, ⊎_elim, arith, ltb→lt, nltb→le}
use Rattle.std.proofs.Math.Bool.{true, false}
use Rattle.std.proofs.Math.Option.{Option, none, some}
use borrow.Author.Tests.{ltb-false, le-ltb, leb-true, leb-false}
use Rattle.std.proofs.Math.Dec.{ltb}
use Rattle.rules_types.specs.declared.answers.Refusal.{Refusal}
use Rattle.rules_types.specs.declared.answers.Refusal.TheVariants as refusal
use Rattle.rules_types.specs.declared.answers.Carried.{Carried}
use Rattle.rules_types.specs.declared.answers.Carried.TheVariants.{Done, Refused}
use Rattle.rules_types.specs.Limits as limit
use Rattle.rules.specs.Problem.{Problem, in_range, Read, fault, got}
use Rattle.rules.specs.Written.{meaning}
use Rattle.rules.specs.Meaning.{Assignment}
use Rattle.rules.specs.Model.{is_open, encode_model, model}
use Rattle.rules.specs.Convert.{kept, carried_over, over_rationals, carried_back, first_beyond, carried_into, read_carried, carry_back}
use Rattle.rules.specs.Calls.{sound, read}
use Rattle.theory_vectors.specs.Amounts.{Small, range_small}
use Rattle.theory_lists.specs.Tests.{split, is_true, of-true}

refused-not : (f : Refusal) (place : ℕ) → ◌≡◌ {A = Carried} (Refused f place) Done → ⊥
refused-not f place e = let z : ◌≡◌ {A = ℕ} 0 1 = cc in omega arith

-- ---- 22
none-not-some : (f : ℕ) → ◌≡◌ {A = Option ℕ} (some f) none → ⊥
none-not-some f e = let z : ◌≡◌ {A = ℕ} 0 1 = cc in omega arith

-- no numerator leaves the range
within-range : (f k : ℕ) (x : ℕ → ℤ) → ((g : ℕ) → f ≤ g → g < f + k → Small (x g)) → first_beyond f k x ≡ none
unfolding first_beyond
within-range f zero x h = refl
within-range f (suc k) x h =
    rw (is_true (in_range (x f)) ((range_small (x f)).1 (h f (omega arith) (omega arith))), first_beyond)
    (within-range (suc f) k x (λ g l m. h g (omega arith) (omega arith)))

pub range-within : (f k : ℕ) (x : ℕ → ℤ) → first_beyond f k x ≡ none → (g : ℕ) → f ≤ g → g < f + k → Small (x g)
unfolding first_beyond
range-within f zero x e g l m = absurd (omega arith)
range-within f (suc k) x e g l m = by (in_range (x f)) refl (range-within (suc f) k x)
  where
    by : (t : Bool) → in_range (x f) ≡ t → (first_beyond (suc f) k x ≡ none → (g : ℕ) → suc f ≤ g → g < suc f + k → Small (x g))
        → Small (x g)
    by false q rest = absurd (none-not-some f (rw (q, first_beyond) at e))
    by true q rest = ⊎_elim (λ t. let n = ltb→lt f g t in rest (rw (q, first_beyond) at e) g (omega arith) (omega arith))
        (λ t. let n = nltb→le f g t in let i : f ≡ g = omega arith in rw (← i) ((range_small (x f)).0 (of-true (in_range (x f)) q)))
        (split (ltb f g))

-- the first that does, of k from number f on
pub record Beyond (f k : ℕ) (x : ℕ → ℤ) (g : ℕ) : Type 0 where
  pub from : f ≤ g
  pub below : g < f + k
  pub outside : limit.amount < nat_abs (x g)
  pub first : (h : ℕ) → f ≤ h → h < g → Small (x h)

pub beyond-first : (f k : ℕ) (x : ℕ → ℤ) (g : ℕ) → first_beyond f k x ≡ some g → Beyond f k x g
unfolding first_beyond in_range
beyond-first f zero x g e = absurd (none-not-some g (sym e))
beyond-first f (suc k) x g e = by (in_range (x f)) refl (beyond-first (suc f) k x g)
  where
    by : (t : Bool) → in_range (x f) ≡ t → (first_beyond (suc f) k x ≡ some g → Beyond (suc f) k x g) → Beyond f (suc k) x g
    by false q rest =
        let i : some f ≡ some g = rw (q, first_beyond) at e in
        let j : f ≡ g = cc in
        rw (← j) (record {
          from = omega arith;
          below = omega arith;
          outside = leb-false (nat_abs (x f)) limit.amount q;
          first = λ h l m. absurd (omega arith);
        })
    by true q rest =
        let r = rest (rw (q, first_beyond) at e) in
        record {
          from = (let l = r.from in omega arith);
          below = (let l = r.below in omega arith);
          outside = r.outside;
          first = λ h l m. ⊎_elim (λ t. r.first h (ltb→lt f h t) m)
              (λ t. let n = nltb→le f h t in let i : f ≡ h = omega arith in rw (← i) (leb-true (nat_abs (x f)) limit.amount q))
              (split (ltb f h));
        }

module _ (input bytes target : List ℕ) (p : Problem) (e : read input ≡ sound p) where
  abbrev new : Problem
  new = meaning (carried_over p)

  pub record Carries : Type 0 where
    pub few : over_rationals p ≡ false
    pub size : limit.model_bytes ≤ length bytes
    pub room : limit.model_bytes ≤ length target
    pub assignment : Assignment
    pub rest : List ℕ
    pub place : ℕ
    pub reads : model new.booleans new.rationals (is_open new) bytes 0 ≡ got assignment rest place
    pub range : (f : ℕ) → f < p.rationals → Small ((carried_back (kept p) assignment).numerators f)

  pub carries-done : (c : Carries) → carry_back input bytes target
      ≡ record {
        carried = Done;
        model = encode_model p.booleans p.rationals (is_open p) (carried_back (kept p) c.assignment) ++ drop limit.model_bytes target;
      }
  unfolding carry_back read_carried carried_into
  carries-done c =
      rw (
        e,
        carry_back,
        c.few,
        le-ltb (length bytes) limit.model_bytes c.size,
        le-ltb (length target) limit.model_bytes c.room,
        c.reads,
        read_carried,
        within-range 0 p.rationals (carried_back (kept p) c.assignment).numerators (λ g l m. c.range g (omega arith)),
        carried_into,
      )

  -- ---- and only then
  module _ (done : (carry_back input bytes target).carried ≡ Done) where
    module _ (few : over_rationals p ≡ false) (size : ltb (length bytes) limit.model_bytes ≡ false)
        (room : ltb (length target) limit.model_bytes ≡ false) where
      ranged : (χ : Assignment) (rest : List ℕ) (place : ℕ)
          → model new.booleans new.rationals (is_open new) bytes 0 ≡ got χ rest place
          → (o : Option ℕ) → first_beyond 0 p.rationals (carried_back (kept p) χ).numerators ≡ o → Carries
      unfolding carry_back read_carried carried_into
      ranged χ rest place m none q = record {
        few = few;
        size = ltb-false (length bytes) limit.model_bytes size;
        room = ltb-false (length target) limit.model_bytes room;
        assignment = χ;
        rest = rest;
        place = place;
        reads = m;
        range = λ f l. range-within 0 p.rationals (carried_back (kept p) χ).numerators q f (omega arith) (omega arith);
      }
      ranged χ rest place m (some f) q =
          absurd (refused-not refusal.CarriedRange f (rw (e, carry_back, few, size, room, m, read_carried, q, carried_into) at done))

      stated : (m : Read Assignment) → model new.booleans new.rationals (is_open new) bytes 0 ≡ m → Carries
      unfolding carry_back read_carried
      stated (fault f place) m = absurd (refused-not f place (rw (e, carry_back, few, size, room, m, read_carried) at done))
      stated (got χ rest place) m =
          ranged χ rest place m (first_beyond 0 p.rationals (carried_back (kept p) χ).numerators) refl

    pub done-carries : Carries
    unfolding carry_back
    done-carries = by (over_rationals p) refl (ltb (length bytes) limit.model_bytes) refl (ltb (length target) limit.model_bytes) refl
      where
        by : (s : Bool) → over_rationals p ≡ s → (t : Bool) → ltb (length bytes) limit.model_bytes ≡ t
            → (u : Bool) → ltb (length target) limit.model_bytes ≡ u → Carries
        by true f t g u i = absurd (refused-not refusal.SplitRationals 0 (rw (e, carry_back, f) at done))
        by false f true g u i = absurd (refused-not refusal.ShortModel 0 (rw (e, carry_back, f, g) at done))
        by false f false g true i = absurd (refused-not refusal.ShortModel 0 (rw (e, carry_back, f, g, i) at done))
        by false f false g false i = stated f g i (model new.booleans new.rationals (is_open new) bytes 0) refl
