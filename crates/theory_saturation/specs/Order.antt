-- What the elimination, the walk and the gathering need of an order of rounds; and which orders by their rational variables are such.
use Rattle.std.specs.Prelude.{◌≡◌, refl, Bool, false, not, List, [], ◌∷◌, ◌++◌, map, ℕ, zero, suc, ◌+◌, ◌-◌, ◌≤◌, ◌<◌, T, eqb, leb, length}
use Rattle.std.specs.Prelude.{get_or}
use Rattle.std.proofs.Common.{sym, subst, ⊎_elim, arith, leb→le, length-append}
use Rattle.std.proofs.Math.Path.{subst⁻¹}
use Rattle.std.proofs.Math.Dec.{nleb→lt}
use Rattle.std.proofs.lemmas.List.{length-map}
use Rattle.std.proofs.Math.Facts.{eqb_yes}
use Rattle.rules_types.specs.Limits as limit
use Rattle.rules.specs.Lists.{any, tabulate}
use Rattle.rules.specs.Lines.{Variable, rational, boolean}
use Rattle.rules.specs.Elimination.{order_by}
use Rattle.theory_lists.specs.Tests.{split, or_else}
use Rattle.theory_lists.specs.All.{All}
use Rattle.theory_lists.specs.Places.{place-below}
use Rattle.theory_lists.specs.Tabulated.{length-tabulate}
use Rattle.theory_lists.specs.Distinct.{AllDistinct}
use Rattle.theory_saturation.specs.Rounds.{At, at-unique}
use Rattle.theory_saturation.specs.Once.{names, Once}

pub record Ordered (variables : List Variable) : Type 0 where
  -- the elimination ends behind the last round, and there the walk begins
  pub count : length variables ≡ limit.rounds
  -- the first rounds are those of rational variables, and then the Boolean ones follow by their numbers: so none of these has a constraint
  pub rationals : (t : ℕ) → t < limit.rationals → (f : ℕ) × (f < limit.rationals) × At variables t (rational f)
  pub booleans : (i : ℕ) → i < limit.all_booleans → At variables (limit.rationals + i) (boolean i)
  -- each rational variable has a round, so that every line has one; and no other, so that the walk sets it once
  pub each : (f : ℕ) → f < limit.rationals → (t : ℕ) × (t < limit.rationals) × At variables t (rational f)
  pub once : Once variables

-- a variable that a line can have
abbrev pub Ranged : Variable → Type 0
Ranged (rational f) = f < limit.rationals
Ranged (boolean i) = i < limit.all_booleans

module _ {variables : List Variable} (o : Ordered variables) where
  -- a round's variable, by whether its number is one of the first
  at-round : (P : Variable → Type 0) (t : ℕ) (v : Variable) → At variables t v
      → (t < limit.rationals → (f : ℕ) → f < limit.rationals → P (rational f))
      → (limit.rationals ≤ t → (i : ℕ) → i < limit.all_booleans → P (boolean i)) → P v
  at-round P t v a first later = ⊎_elim behind front (split (leb limit.rationals t))
    where
      is : (w : Variable) → At variables t w → P w → P v
      is w b = subst P (at-unique variables t w v b a)

      front : T (not (leb limit.rationals t)) → P v
      front h =
          let k = nleb→lt limit.rationals t h in
          let r = o.rationals t k in
          is (rational r.0) r.2 (first k r.0 r.1)

      behind : T (leb limit.rationals t) → P v
      behind h =
          let k = leb→le limit.rationals t h in
          let i = t - limit.rationals in
          let few : i < limit.all_booleans = omega (arith, place-below (λ w. w ≡ v) variables t a, o.count) in
          let e : limit.rationals + i ≡ t = omega arith in
          is (boolean i) (subst (λ (s : ℕ). At variables s (boolean i)) e (o.booleans i few)) (later k i few)

  pub at-ranged : (t : ℕ) (v : Variable) → At variables t v → Ranged v
  at-ranged t v a = at-round Ranged t v a (λ k f h. h) (λ k i h. h)

  pub boolean-late : (t i : ℕ) → At variables t (boolean i) → limit.rationals ≤ t
  boolean-late t i a = at-round Late t (boolean i) a (λ k f h. tt) (λ k j h. k)
    where
      Late : Variable → Type 0
      Late (rational f) = Unit {0}
      Late (boolean j) = limit.rationals ≤ t

-- ---- an order by its rational variables
at_front : (fs : List ℕ) (vs : List Variable) (t : ℕ) → t < length fs → At (map rational fs ++ vs) t (rational (get_or fs t 0))
at_front [] vs t h = absurd (omega arith)
at_front (f ∷ fs) vs zero h = refl
at_front (f ∷ fs) vs (suc t) h = at_front fs vs t (omega arith)

pub at-behind : (fs : List ℕ) (vs : List Variable) (i t : ℕ) (v : Variable) → length fs + i ≡ t → At vs i v → At (map rational fs ++ vs) t v
at-behind [] vs i t v e a = let z : i ≡ t = omega arith in subst (λ (k : ℕ). At vs k v) z a
at-behind (f ∷ fs) vs i zero v e a = absurd (omega arith)
at-behind (f ∷ fs) vs i (suc t) v e a = at-behind fs vs i t v (omega arith) a

at-tabulate : (n : ℕ) (f : ℕ → Variable) (i : ℕ) → i < n → At (tabulate n f) i (f i)
unfolding tabulate
at-tabulate zero f i h = absurd (omega arith)
at-tabulate (suc n) f zero h = refl
at-tabulate (suc n) f (suc i) h = at-tabulate n (λ j. f (suc j)) i (omega arith)

pub rational-at : (fs : List ℕ) (t : ℕ) → t < length fs → At (order_by fs) t (rational (get_or fs t 0))
unfolding order_by
rational-at fs t h = at_front fs (tabulate limit.all_booleans boolean) t h

pub boolean-at : (fs : List ℕ) → length fs ≡ limit.rationals → (i : ℕ) → i < limit.all_booleans
    → At (order_by fs) (limit.rationals + i) (boolean i)
unfolding order_by
boolean-at fs n i h = at-behind fs (tabulate limit.all_booleans boolean) i (limit.rationals + i) (boolean i) (omega arith)
    (at-tabulate limit.all_booleans boolean i h)

-- the rational variables by their numbers
abbrev pub rising : List ℕ
rising = tabulate limit.rationals (λ f. f)

-- ---- each rational variable once
once-booleans : (n : ℕ) (f : ℕ → ℕ) → Once (tabulate n (λ i. boolean (f i)))
unfolding tabulate
once-booleans zero f = tt
once-booleans (suc n) f = (tt, once-booleans n (λ i. f (suc i)))

absent-booleans : (f n : ℕ) (g : ℕ → ℕ) → any (names f) (tabulate n (λ i. boolean (g i))) ≡ false
unfolding tabulate any names
absent-booleans f zero g = refl
absent-booleans f (suc n) g = absent-booleans f n (λ i. g (suc i))

names-map : (f : ℕ) (fs : List ℕ) (vs : List Variable) → any (names f) vs ≡ false → any (names f) (map rational fs ++ vs) ≡ any (eqb f) fs
unfolding any names
names-map f [] vs h = h
names-map f (g ∷ fs) vs h = rw (names-map f fs vs h)

once_by : (fs : List ℕ) (vs : List Variable) → ((f : ℕ) → any (names f) vs ≡ false) → Once vs → AllDistinct fs
    → Once (map rational fs ++ vs)
once_by [] vs h k d = k
once_by (f ∷ fs) vs h k d = (subst⁻¹ (λ (b : Bool). T (not b)) (names-map f fs vs (h f)) d.0, once_by fs vs h k d.1)

below_all : (n : ℕ) (fs : List ℕ) (t : ℕ) → All (λ f. f < n) fs → t < length fs → get_or fs t 0 < n
below_all n [] t h k = absurd (omega arith)
below_all n (f ∷ fs) zero h k = h.0
below_all n (f ∷ fs) (suc t) h k = below_all n fs t h.1 (omega arith)

place-of : (f : ℕ) (fs : List ℕ) → T (any (eqb f) fs) → (t : ℕ) × (t < length fs) × (get_or fs t 0 ≡ f)
unfolding any
place-of f [] h = absurd h
place-of f (g ∷ fs) h = ⊎_elim (λ e. (0, omega arith, sym (eqb_yes e)))
    (λ e. let r = place-of f fs (or_else (eqb f g) (any (eqb f) fs) e h) in (suc r.0, omega (arith, r.1), r.2)) (split (eqb f g))

-- so many of them, none twice, below their number; so all of them
pub ordered-by : (fs : List ℕ) → length fs ≡ limit.rationals → All (λ f. f < limit.rationals) fs → AllDistinct fs
    → ((f : ℕ) → f < limit.rationals → T (any (eqb f) fs)) → Ordered (order_by fs)
unfolding order_by
ordered-by fs n b d e =
    record {
      count = rw (
        length-append (map rational fs) (tabulate limit.all_booleans boolean),
        length-map fs,
        length-tabulate limit.all_booleans boolean,
      ) (omega (arith, n));
      rationals = λ t h. (get_or fs t 0, below_all limit.rationals fs t b (omega (arith, n)), rational-at fs t (omega (arith, n)));
      booleans = boolean-at fs n;
      each = λ f h. let r = place-of f fs (e f h) in (
        r.0,
        omega (arith, r.1, n),
        subst (λ (g : ℕ). At (order_by fs) r.0 (rational g)) r.2 (rational-at fs r.0 r.1),
      );
      once = once_by fs (tabulate limit.all_booleans boolean) (λ f. absent-booleans f limit.all_booleans (λ i. i))
          (once-booleans limit.all_booleans (λ i. i)) d;
    }
