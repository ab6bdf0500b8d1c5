-- Tests as facts: leaving a Bool for a proof, and entering it again.
use Rattle.std.specs.Prelude.{◌≡◌, refl, Bool, true, false, not, ◌||◌, ◌&&◌, ◌⊎◌, T}
use Rattle.std.proofs.Common.{sym, subst, inl, inr, ⊎_elim}
use Rattle.std.proofs.Math.Bool.{or_assoc, and-or_distrib_right}
use Rattle.std.proofs.Math.Facts.{or_yes}

pub split : (b : Bool) → T b ⊎ T (not b)
split true = inl tt
split false = inr tt

pub is_true : (b : Bool) → T b → b ≡ true
is_true true h = refl
is_true false h = absurd h

pub is_false : (b : Bool) → T (not b) → b ≡ false
is_false true h = absurd h
is_false false h = refl

pub of-true : (b : Bool) → b ≡ true → T b
of-true true e = tt
of-true false e = subst T (sym e) tt

pub of-false : (b : Bool) → b ≡ false → T (not b)
of-false true e = subst (λ (b : Bool). T (not b)) (sym e) tt
of-false false e = tt

pub clash {ℓ} : {X : Type ℓ} (b : Bool) → T b → T (not b) → X
clash true h n = absurd n
clash false h n = absurd h

pub or_l : (a b : Bool) → T a → T (a || b)
or_l true b h = tt
or_l false b h = absurd h

pub or_r : (a b : Bool) → T b → T (a || b)
or_r true b h = tt
or_r false b h = h

-- the first fails, so the second holds
pub or_else : (a b : Bool) → T (not a) → T (a || b) → T b
or_else true b n h = absurd n
or_else false b n h = h

pub or_map : (a b c d : Bool) → (T a → T c) → (T b → T d) → T (a || b) → T (c || d)
or_map a b c d f g h = ⊎_elim (λ k. or_l c d (f k)) (λ k. or_r c d (g k)) (or_yes a b h)

-- neither holds
pub nor : (a b : Bool) → T (not a) → T (not b) → T (not (a || b))
nor true b h k = absurd h
nor false b h k = k

pub neither : (a b : Bool) → T (not (a || b)) → T (not a) × T (not b)
neither true b h = absurd h
neither false b h = (tt, h)

pub tests_agree : (a b : Bool) → (T a → T b) → (T b → T a) → a ≡ b
tests_agree true true f g = refl
tests_agree true false f g = absurd (f tt)
tests_agree false true f g = absurd (g tt)
tests_agree false false f g = refl

-- not "the first without the second": the second follows from the first
pub unless : (a b : Bool) → T (not (a && not b)) → T a → T b
unless true true n h = tt
unless true false n h = absurd n
unless false b n h = absurd h

pub or-left-comm : (a b c : Bool) → a || (b || c) ≡ b || (a || c)
or-left-comm true true c = refl
or-left-comm true false c = refl
or-left-comm false b c = refl

pub or-or-comm : (a b c d : Bool) → (a || b) || (c || d) ≡ (a || c) || (b || d)
or-or-comm a b c d = simp (or_assoc, or-left-comm)

-- an alternative that is part of another one
pub or-absorb : (a b c : Bool) → b || ((a && b) || c) ≡ b || c
or-absorb a true c = refl
or-absorb true false c = refl
or-absorb false false c = refl

pub and-or-both : (a b c x y : Bool) → ((a || b) && c) || (x || y) ≡ ((a && c) || x) || ((b && c) || y)
and-or-both a b c x y = rw (and-or_distrib_right a b c) (simp (or_assoc, or-left-comm))

pub and-noˡ : (a b : Bool) → T (not a) → T (not (a && b))
and-noˡ true b h = absurd h
and-noˡ false b h = tt

pub and-noʳ : (a b : Bool) → T (not b) → T (not (a && b))
and-noʳ true b h = h
and-noʳ false b h = tt
