-- ≤ and < as one relation, by whether it is strict, with one set of laws for both.
use Rattle.std.specs.Prelude.{◌≡◌, Bool, true, false, not, ◌||◌, ◌⊎◌, ℤ, pos, neg_ℤ, ◌+ℤ◌, ◌-ℤ◌, ◌*ℤ◌, ◌≤ℤ◌, ◌<ℤ◌}
use Rattle.std.proofs.Common.{inl, inr, ⊎_elim}
use lib.Dec.{T}
use Rattle.theory_integers.specs.Order.{≤-refl, ≤-reflexive, ≤-antisym, ≤_trans, <-≤-trans, ≤-<-trans, <-trans, <⇒≤, <-≤-clash, <-or-≥}
use Rattle.theory_integers.specs.Order.{≤-or->, +-mono-≤, +-mono-<, +-mono-<-≤, +-mono-≤-<, +-cancelˡ-≤, +-cancelˡ-<, neg-mono-≤}
use Rattle.theory_integers.specs.Order.{neg-mono-<, neg-cancel-≤, neg-cancel-<}
use Rattle.theory_integers.specs.Product.{*-monoˡ-≤, *-monoˡ-<, *-cancelˡ-≤, *-cancelˡ-<}
use Rattle.theory_integers.specs.Ring.{*-comm, +_comm, +-neg-cancelˡ}
use Rattle.rules.specs.Arithmetic.{related}

abbrev By : Bool → ℤ → ℤ → Type 0
By false a b = a ≤ℤ b
By true a b = a <ℤ b

-- a record, so that strictness and both sides are inferred from a hypothesis
pub record Rel (strict : Bool) (a b : ℤ) : Type 0 where
  pub by : By strict a b

-- ---- the test decides it
pub related-yes : (s : Bool) (a b : ℤ) → T (related s a b) → Rel s a b
unfolding related
related-yes false a b t = record { by = record { le = t } }
related-yes true a b t = record { by = record { lt = t } }

pub yes-related : {s : Bool} {a b : ℤ} → Rel s a b → T (related s a b)
unfolding related
yes-related {s = false} h = h.by.le
yes-related {s = true} h = h.by.lt

pub rel-clash {ℓ} : {X : Type ℓ} {s : Bool} {a b : ℤ} → Rel s a b → Rel (not s) b a → X
rel-clash {s = false} h k = <-≤-clash k.by h.by
rel-clash {s = true} h k = <-≤-clash h.by k.by

pub rel-split : (s : Bool) (a b : ℤ) → Rel s a b ⊎ Rel (not s) b a
rel-split false a b = ⊎_elim (λ h. inl (record { by = h })) (λ h. inr (record { by = h })) (≤-or-> a b)
rel-split true a b = ⊎_elim (λ h. inl (record { by = h })) (λ h. inr (record { by = h })) (<-or-≥ a b)

-- a test that fails leaves the other relation, turned
pub related-no : (s : Bool) (a b : ℤ) → T (not (related s a b)) → Rel (not s) b a
related-no s a b n = ⊎_elim (λ h. absurd (lib.Dec.T_not (related s a b) n (yes-related h))) (λ h. h) (rel-split s a b)

-- ---- strict and not
pub rel-refl : (a : ℤ) → Rel false a a
rel-refl a = record { by = ≤-refl a }

pub rel-reflexive : {a b : ℤ} → a ≡ b → Rel false a b
rel-reflexive e = record { by = ≤-reflexive e }

pub rel-antisym : {a b : ℤ} → Rel false a b → Rel false b a → a ≡ b
rel-antisym h k = ≤-antisym h.by k.by

-- < gives either, and either gives ≤
pub rel-strict : {s : Bool} {a b : ℤ} → Rel true a b → Rel s a b
rel-strict {s = false} h = record { by = <⇒≤ h.by }
rel-strict {s = true} h = h

pub rel-weaken : {s : Bool} {a b : ℤ} → Rel s a b → Rel false a b
rel-weaken {s = false} h = h
rel-weaken {s = true} h = record { by = <⇒≤ h.by }

pub rel-orˡ : (s t : Bool) {a b : ℤ} → Rel (s || t) a b → Rel s a b
rel-orˡ false t h = rel-weaken h
rel-orˡ true t h = h

pub rel-orʳ : (s t : Bool) {a b : ℤ} → Rel (s || t) a b → Rel t a b
rel-orʳ false t h = h
rel-orʳ true t h = rel-strict h

-- ---- chains and sums: strict if either is
pub rel-trans : {s t : Bool} {a b c : ℤ} → Rel s a b → Rel t b c → Rel (s || t) a c
rel-trans {s = false} {t = false} h k = record { by = ≤_trans h.by k.by }
rel-trans {s = false} {t = true} h k = record { by = ≤-<-trans h.by k.by }
rel-trans {s = true} {t = false} h k = record { by = <-≤-trans h.by k.by }
rel-trans {s = true} {t = true} h k = record { by = <-trans h.by k.by }

pub rel-+ : {s t : Bool} {a b c d : ℤ} → Rel s a b → Rel t c d → Rel (s || t) (a +ℤ c) (b +ℤ d)
rel-+ {s = false} {t = false} h k = record { by = +-mono-≤ h.by k.by }
rel-+ {s = false} {t = true} h k = record { by = +-mono-≤-< h.by k.by }
rel-+ {s = true} {t = false} h k = record { by = +-mono-<-≤ h.by k.by }
rel-+ {s = true} {t = true} h k = record { by = +-mono-< h.by k.by }

-- a common summand
pub rel-+ˡ : {s : Bool} (c : ℤ) {a b : ℤ} → Rel s a b → Rel s (c +ℤ a) (c +ℤ b)
rel-+ˡ c h = rel-+ (rel-refl c) h

pub rel-+-cancelˡ : {s : Bool} (c a b : ℤ) → Rel s (c +ℤ a) (c +ℤ b) → Rel s a b
rel-+-cancelˡ {s = false} c a b h = record { by = +-cancelˡ-≤ c a b h.by }
rel-+-cancelˡ {s = true} c a b h = record { by = +-cancelˡ-< c a b h.by }

-- ---- a positive factor, both ways
pub rel-*ˡ : {s : Bool} {c a b : ℤ} → pos 0 <ℤ c → Rel s a b → Rel s (c *ℤ a) (c *ℤ b)
rel-*ˡ {s = false} z h = record { by = *-monoˡ-≤ (<⇒≤ z) h.by }
rel-*ˡ {s = true} z h = record { by = *-monoˡ-< z h.by }

pub rel-*-cancelˡ : {s : Bool} {c : ℤ} (a b : ℤ) → pos 0 <ℤ c → Rel s (c *ℤ a) (c *ℤ b) → Rel s a b
rel-*-cancelˡ {s = false} a b z h = record { by = *-cancelˡ-≤ a b z h.by }
rel-*-cancelˡ {s = true} a b z h = record { by = *-cancelˡ-< a b z h.by }

pub rel-*ʳ : {s : Bool} {c a b : ℤ} → pos 0 <ℤ c → Rel s a b → Rel s (a *ℤ c) (b *ℤ c)
rel-*ʳ {c} {a} {b} z h = rw (*-comm a c, *-comm b c) (rel-*ˡ z h)

pub rel-*-cancelʳ : {s : Bool} {c : ℤ} (a b : ℤ) → pos 0 <ℤ c → Rel s (a *ℤ c) (b *ℤ c) → Rel s a b
rel-*-cancelʳ {c} a b z h = rel-*-cancelˡ a b z (rw (*-comm a c, *-comm b c) at h)

-- ---- negation reverses it
pub rel-neg : {s : Bool} {a b : ℤ} → Rel s a b → Rel s (neg_ℤ b) (neg_ℤ a)
rel-neg {s = false} h = record { by = neg-mono-≤ h.by }
rel-neg {s = true} h = record { by = neg-mono-< h.by }

pub rel-neg-cancel : {s : Bool} (a b : ℤ) → Rel s (neg_ℤ b) (neg_ℤ a) → Rel s a b
rel-neg-cancel {s = false} a b h = record { by = neg-cancel-≤ a b h.by }
rel-neg-cancel {s = true} a b h = record { by = neg-cancel-< a b h.by }

-- ---- a summand moves to the other side
back : (b c : ℤ) → b +ℤ (c -ℤ b) ≡ c
back b c = rw (+_comm c (neg_ℤ b)) (+-neg-cancelˡ b c)

pub rel-minus : {s : Bool} (a b c : ℤ) → Rel s (a +ℤ b) c → Rel s a (c -ℤ b)
rel-minus a b c h = rel-+-cancelˡ b a (c -ℤ b) (rw (+_comm b a, back b c) h)

pub minus-rel : {s : Bool} (a b c : ℤ) → Rel s a (c -ℤ b) → Rel s (a +ℤ b) c
minus-rel a b c h = rw (+_comm a b) (rw (back b c) at (rel-+ˡ b h))
