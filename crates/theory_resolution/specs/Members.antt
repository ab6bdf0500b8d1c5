-- Sets of Boolean variables: the members of a union, of a subset, of a set with one variable more or less, and when some member is yes. No
-- law asks for a length but those that put a member in.
use Rattle.std.specs.Prelude.{◌≡◌, refl, Bool, true, false, not, ◌||◌, ◌&&◌, ◌⊎◌, [], ◌∷◌, ℕ, zero, suc, ◌<◌, max, T, length, get_or, set}
use Rattle.std.proofs.Common.{sym, ap, inl, inr, ⊎_elim, arith, length-set}
use Rattle.std.proofs.Math.Bool.{or-false}
use Rattle.std.proofs.Math.Facts.{or_yes, and_yes, yes_and, not_T}
use Rattle.rules_types.specs.Limits as limit
use Rattle.theory_lists.specs.Tests.{split, clash, or_l, or_r, or_else, or-left-comm, or-or-comm, or-absorb, and-or-both}
use Rattle.theory_lists.specs.All.{get_or-replicate-same}
use Rattle.rules.specs.Lines.{Booleans, no_booleans, including, excluding, union, meet, subset, some_yes}

abbrev pub has : Booleans → ℕ → Bool
has s i = get_or s i false

-- ---- members
pub has-union : (s t : Booleans) (i : ℕ) → has (union s t) i ≡ has s i || has t i
unfolding union
has-union [] t i = refl
has-union (a ∷ s) [] i = sym (or-false (has (a ∷ s) i))
has-union (a ∷ s) (b ∷ t) zero = refl
has-union (a ∷ s) (b ∷ t) (suc i) = has-union s t i

pub union-has : (s t : Booleans) (i : ℕ) → T (has (union s t) i) → T (has s i) ⊎ T (has t i)
union-has s t i h = or_yes (has s i) (has t i) (rw (has-union s t i) at h)

pub excluded : (i : ℕ) (s : Booleans) → has (excluding i s) i ≡ false
unfolding excluding
excluded i [] = refl
excluded zero (a ∷ s) = refl
excluded (suc i) (a ∷ s) = excluded i s

pub excluding-has : (i : ℕ) (s : Booleans) (j : ℕ) → T (has (excluding i s) j) → T (has s j)
unfolding excluding
excluding-has i [] j h = h
excluding-has zero (a ∷ s) zero h = absurd h
excluding-has zero (a ∷ s) (suc j) h = h
excluding-has (suc i) (a ∷ s) zero h = h
excluding-has (suc i) (a ∷ s) (suc j) h = excluding-has i s j h

pub including-has : (i : ℕ) (s : Booleans) (j : ℕ) → T (has (including i s) j) → (j ≡ i) ⊎ T (has s j)
unfolding including
including-has i [] j h = inr h
including-has zero (a ∷ s) zero h = inl refl
including-has zero (a ∷ s) (suc j) h = inr h
including-has (suc i) (a ∷ s) zero h = inr h
including-has (suc i) (a ∷ s) (suc j) h = ⊎_elim (λ e. inl (ap suc e)) (λ k. inr k) (including-has i s j h)

pub none_has : (i : ℕ) → T (has no_booleans i) → ⊥
unfolding no_booleans
none_has i h = rw (get_or-replicate-same limit.all_booleans i false) at h

-- every member is so
abbrev pub Within : (ℕ → Type 0) → Booleans → Type 0
Within P s = (i : ℕ) → T (has s i) → P i

pub excluding-union : (i : ℕ) (s t : Booleans) → excluding i (union s t) ≡ union (excluding i s) (excluding i t)
unfolding excluding union
excluding-union i [] t = refl
excluding-union zero (a ∷ s) [] = refl
excluding-union (suc i) (a ∷ s) [] = refl
excluding-union zero (a ∷ s) (b ∷ t) = refl
excluding-union (suc i) (a ∷ s) (b ∷ t) = ap (λ (r : Booleans). (a || b) ∷ r) (excluding-union i s t)

-- ---- lengths
pub length_none : length no_booleans ≡ limit.all_booleans
unfolding no_booleans
length_none = refl

pub length-including : (i : ℕ) (s : Booleans) → length (including i s) ≡ length s
unfolding including
length-including i s = length-set s i true

pub length-excluding : (i : ℕ) (s : Booleans) → length (excluding i s) ≡ length s
unfolding excluding
length-excluding i s = length-set s i false

pub length_union : (s t : Booleans) → length (union s t) ≡ max (length s) (length t)
unfolding union
length_union [] t = omega arith
length_union (a ∷ s) [] = omega arith
length_union (a ∷ s) (b ∷ t) = omega (arith, length_union s t)

-- ---- some member is yes
pub yes-union : (s t : Booleans) (f : ℕ → Bool) → some_yes (union s t) f ≡ some_yes s f || some_yes t f
unfolding some_yes union
yes-union [] t f = refl
yes-union (a ∷ s) [] f = sym (or-false (some_yes (a ∷ s) f))
yes-union (a ∷ s) (b ∷ t) f =
    rw (yes-union s t (λ i. f (suc i))) (and-or-both a b (f 0) (some_yes s (λ i. f (suc i))) (some_yes t (λ i. f (suc i))))

-- two sets under each of two assignments: the literals of two lines
pub unions-yes : (s t s' t' : Booleans) (f g : ℕ → Bool) → some_yes (union s t) f
    || some_yes (union s' t') g ≡ (some_yes s f || some_yes s' g)
    || (some_yes t f || some_yes t' g)
unions-yes s t s' t' f g = rw (yes-union s t f, yes-union s' t' g)
    (or-or-comm (some_yes s f) (some_yes t f) (some_yes s' g) (some_yes t' g))

pub none-yes : (f : ℕ → Bool) → some_yes no_booleans f ≡ false
unfolding some_yes no_booleans
none-yes f = refl

-- one place and the others
pub yes-at : (i : ℕ) (s : Booleans) (f : ℕ → Bool) → some_yes s f ≡ (has s i && f i) || some_yes (excluding i s) f
unfolding some_yes excluding
yes-at i [] f = refl
yes-at zero (a ∷ s) f = refl
yes-at (suc i) (a ∷ s) f =
    rw (yes-at i s (λ j. f (suc j))) (or-left-comm (a && f 0) (has s i && f (suc i)) (some_yes (set s i false) (λ j. f (suc j))))

-- it is not this one, so it is another
pub yes-else : (i : ℕ) (s : Booleans) (f : ℕ → Bool) → T (not (has s i && f i)) → T (some_yes s f) → T (some_yes (excluding i s) f)
yes-else i s f n h = or_else (has s i && f i) (some_yes (excluding i s) f) n (rw (yes-at i s f) at h)

pub else-yes : (i : ℕ) (s : Booleans) (f : ℕ → Bool) → T (some_yes (excluding i s) f) → T (some_yes s f)
else-yes i s f h = rw (yes-at i s f) (or_r (has s i && f i) (some_yes (excluding i s) f) h)

-- only the members' values count
pub yes-agree : (s : Booleans) (f g : ℕ → Bool) → Within (λ i. f i ≡ g i) s → some_yes s f ≡ some_yes s g
unfolding some_yes
yes-agree [] f g w = refl
yes-agree (true ∷ s) f g w = rw (w 0 tt, yes-agree s (λ i. f (suc i)) (λ i. g (suc i)) (λ i. w (suc i)))
yes-agree (false ∷ s) f g w = yes-agree s (λ i. f (suc i)) (λ i. g (suc i)) (λ i. w (suc i))

pub yes-including : (i : ℕ) (s : Booleans) (f : ℕ → Bool) → i < length s → some_yes (including i s) f ≡ f i || some_yes s f
unfolding some_yes including
yes-including i [] f h = absurd (omega arith)
yes-including zero (a ∷ s) f h = sym (or-absorb a (f 0) (some_yes s (λ j. f (suc j))))
yes-including (suc i) (a ∷ s) f h =
    rw (yes-including i s (λ j. f (suc j)) (omega arith)) (or-left-comm (a && f 0) (f (suc i)) (some_yes s (λ j. f (suc j))))

-- some member that is yes, by its number
pub record Yes (s : Booleans) (f : ℕ → Bool) : Type 0 where
  pub member : ℕ
  pub belongs : T (has s member)
  pub yes : T (f member)

pub yes-member : (s : Booleans) (f : ℕ → Bool) → T (some_yes s f) → Yes s f
unfolding some_yes
yes-member [] f h = absurd h
yes-member (a ∷ s) f h =
    ⊎_elim (λ k. let r = and_yes a (f 0) k in record { member = 0; belongs = r.0; yes = r.1 })
    (λ k. let r = yes-member s (λ i. f (suc i)) k in record { member = suc r.member; belongs = r.belongs; yes = r.yes })
    (or_yes (a && f 0) (some_yes s (λ i. f (suc i))) h)

pub member-yes : (s : Booleans) (f : ℕ → Bool) (i : ℕ) → T (has s i) → T (f i) → T (some_yes s f)
unfolding some_yes
member-yes [] f i h k = absurd h
member-yes (a ∷ s) f zero h k = or_l (a && f 0) (some_yes s (λ j. f (suc j))) (yes_and a (f 0) h k)
member-yes (a ∷ s) f (suc i) h k = or_r (a && f 0) (some_yes s (λ j. f (suc j))) (member-yes s (λ j. f (suc j)) i h k)

-- ---- a member of both
pub meet-member : (s t : Booleans) (i : ℕ) → T (has s i) → T (has t i) → T (meet s t)
unfolding meet
meet-member [] t i h k = absurd h
meet-member (a ∷ s) [] i h k = absurd k
meet-member (a ∷ s) (b ∷ t) zero h k = or_l (a && b) (meet s t) (yes_and a b h k)
meet-member (a ∷ s) (b ∷ t) (suc i) h k = or_r (a && b) (meet s t) (meet-member s t i h k)

pub record Common (s t : Booleans) : Type 0 where
  pub member : ℕ
  pub left : T (has s member)
  pub right : T (has t member)

pub member-meet : (s t : Booleans) → T (meet s t) → Common s t
unfolding meet
member-meet [] t h = absurd h
member-meet (a ∷ s) [] h = absurd h
member-meet (a ∷ s) (b ∷ t) h =
    ⊎_elim (λ k. let r = and_yes a b k in record { member = 0; left = r.0; right = r.1 })
    (λ k. let r = member-meet s t k in record { member = suc r.member; left = r.left; right = r.right })
    (or_yes (a && b) (meet s t) h)

-- ---- a subset
pub subset-member : (s t : Booleans) → T (subset s t) → (i : ℕ) → T (has s i) → T (has t i)
unfolding subset
subset-member [] t h i k = absurd k
subset-member (a ∷ s) [] h zero k = absurd (clash a k (and_yes (not a) (subset s []) h).0)
subset-member (a ∷ s) [] h (suc i) k = subset-member s [] (and_yes (not a) (subset s []) h).1 i k
subset-member (a ∷ s) (b ∷ t) h zero k = ⊎_elim (λ n. clash a k n) (λ y. y) (or_yes (not a) b (and_yes (not a || b) (subset s t) h).0)
subset-member (a ∷ s) (b ∷ t) h (suc i) k = subset-member s t (and_yes (not a || b) (subset s t) h).1 i k

pub member-subset : (s t : Booleans) → ((i : ℕ) → T (has s i) → T (has t i)) → T (subset s t)
unfolding subset
member-subset [] t h = tt
member-subset (a ∷ s) [] h = yes_and (not a) (subset s []) (not_T a (h 0)) (member-subset s [] (λ i. h (suc i)))
member-subset (a ∷ s) (b ∷ t) h =
    yes_and (not a || b) (subset s t) (⊎_elim (λ k. or_r (not a) b (h 0 k)) (λ n. or_l (not a) b n) (split a))
    (member-subset s t (λ i. h (suc i)))
