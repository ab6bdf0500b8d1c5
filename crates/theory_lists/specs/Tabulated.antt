-- The list f 0, f 1, up to f (n - 1): its length, its elements, its parts, and facts of all of them.
use Rattle.std.specs.Prelude.{◌≡◌, Bool, false, length, get_or, take, drop}
use Rattle.std.proofs.Math.Path.{refl, ap}
use mathlib.Core.List.{List, [], ◌∷◌, ◌++◌, map}
use Rattle.std.proofs.Math.Logic.{inl, inr}
use Rattle.std.proofs.Math.Option.{none, some}
use Prim.Native.Nat.{ℕ, zero, suc, ◌≤◌, ◌<◌}
use Rattle.std.proofs.Common.{arith}
use Rattle.std.proofs.Math.ListN.{get_elem?}
use Rattle.rules.specs.Lists.{any, tabulate}
use Rattle.theory_lists.specs.All.{All, Any}

module _ {A : Type 0} where
  pub length-tabulate : (n : ℕ) (f : ℕ → A) → length (tabulate n f) ≡ n
  unfolding tabulate
  length-tabulate zero f = refl
  length-tabulate (suc n) f = ap suc (length-tabulate n (λ i. f (suc i)))

  -- ---- an element
  pub get_d_tabulate : (n : ℕ) (f : ℕ → A) (i : ℕ) (d : A) → i < n → get_or (tabulate n f) i d ≡ f i
  unfolding tabulate
  get_d_tabulate zero f i d h = absurd (omega arith)
  get_d_tabulate (suc n) f zero d h = refl
  get_d_tabulate (suc n) f (suc i) d h = get_d_tabulate n (λ j. f (suc j)) i d (omega arith)

  pub element-tabulate : (n : ℕ) (f : ℕ → A) (i : ℕ) → i < n → get_elem? (tabulate n f) i ≡ some (f i)
  unfolding tabulate
  element-tabulate zero f i h = absurd (omega arith)
  element-tabulate (suc n) f zero h = refl
  element-tabulate (suc n) f (suc i) h = element-tabulate n (λ j. f (suc j)) i (omega arith)

  pub element-beyond : (n : ℕ) (f : ℕ → A) (i : ℕ) → n ≤ i → get_elem? (tabulate n f) i ≡ none
  unfolding tabulate
  element-beyond zero f i h = refl
  element-beyond (suc n) f zero h = absurd (omega arith)
  element-beyond (suc n) f (suc i) h = element-beyond n (λ j. f (suc j)) i (omega arith)

  -- ---- parts
  -- one element more at the end
  pub tabulate-snoc : (n : ℕ) (f : ℕ → A) → tabulate (suc n) f ≡ tabulate n f ++ (f n ∷ [])
  unfolding tabulate
  tabulate-snoc zero f = refl
  tabulate-snoc (suc n) f = ap (λ (s : List A). f 0 ∷ s) (tabulate-snoc n (λ i. f (suc i)))

  -- a shorter one at the front of a longer one
  pub tabulate-front : (n m : ℕ) (f : ℕ → A) → n ≤ m → (more : List A) × (tabulate m f ≡ tabulate n f ++ more)
  unfolding tabulate
  tabulate-front zero m f h = (tabulate m f, refl)
  tabulate-front (suc n) zero f h = absurd (omega arith)
  tabulate-front (suc n) (suc m) f h =
      let r = tabulate-front n m (λ i. f (suc i)) (omega arith) in (r.0, ap (λ (s : List A). f 0 ∷ s) r.1)

  -- from element i on
  pub drop-tabulate : (n : ℕ) (f : ℕ → A) (i : ℕ) → i < n → drop i (tabulate n f) ≡ f i ∷ drop (suc i) (tabulate n f)
  unfolding tabulate
  drop-tabulate zero f i h = absurd (omega arith)
  drop-tabulate (suc n) f zero h = refl
  drop-tabulate (suc n) f (suc i) h = drop-tabulate n (λ j. f (suc j)) i (omega arith)

  pub drop-tabulated : (n : ℕ) (f : ℕ → A) → drop n (tabulate n f) ≡ []
  unfolding tabulate
  drop-tabulated zero f = refl
  drop-tabulated (suc n) f = drop-tabulated n (λ i. f (suc i))

  -- the first elements of a list
  pub tabulate-take : (n : ℕ) (s : List A) (d : A) → n ≤ length s → tabulate n (λ i. get_or s i d) ≡ take n s
  unfolding tabulate
  tabulate-take zero s d h = refl
  tabulate-take (suc n) [] d h = absurd (omega arith)
  tabulate-take (suc n) (a ∷ s) d h = ap (λ (t : List A). a ∷ t) (tabulate-take n s d (omega arith))

  -- ---- facts of all elements, and of some
  pub tabulate-cong : (n : ℕ) (f g : ℕ → A) → ((i : ℕ) → i < n → f i ≡ g i) → tabulate n f ≡ tabulate n g
  unfolding tabulate
  tabulate-cong zero f g e = refl
  tabulate-cong (suc n) f g e =
      λ k. e 0 (omega arith) k ∷ tabulate-cong n (λ i. f (suc i)) (λ i. g (suc i)) (λ i h. e (suc i) (omega arith)) k

  pub all-tabulate : (P : A → Type 0) (n : ℕ) (f : ℕ → A) → ((i : ℕ) → i < n → P (f i)) → All P (tabulate n f)
  unfolding tabulate
  all-tabulate P zero f h = tt
  all-tabulate P (suc n) f h = (h 0 (omega arith), all-tabulate P n (λ i. f (suc i)) (λ i k. h (suc i) (omega arith)))

  pub any-tabulate : (P : A → Type 0) (n : ℕ) (f : ℕ → A) (i : ℕ) → i < n → P (f i) → Any P (tabulate n f)
  unfolding tabulate
  any-tabulate P zero f i h p = absurd (omega arith)
  any-tabulate P (suc n) f zero h p = inl p
  any-tabulate P (suc n) f (suc i) h p = inr (any-tabulate P n (λ j. f (suc j)) i (omega arith) p)

  pub none-tabulate : (p : A → Bool) (n : ℕ) (f : ℕ → A) → ((i : ℕ) → i < n → p (f i) ≡ false) → any p (tabulate n f) ≡ false
  unfolding any tabulate
  none-tabulate p zero f h = refl
  none-tabulate p (suc n) f h = rw (h 0 (omega arith)) (none-tabulate p n (λ i. f (suc i)) (λ i k. h (suc i) (omega arith)))

pub map-tabulate : {A B : Type 0} (g : A → B) (n : ℕ) (f : ℕ → A) → map g (tabulate n f) ≡ tabulate n (λ i. g (f i))
unfolding tabulate
map-tabulate g zero f = refl
map-tabulate {B = B} g (suc n) f = ap (λ (bs : List B). g (f 0) ∷ bs) (map-tabulate g n (λ i. f (suc i)))
