-- Fourier-Motzkin's step for one pair of an upper bound on a variable and a lower one: their combination follows, lacks the variable,
-- and says that the two bounds agree.
use Rattle.std.specs.Prelude.{◌≡◌, Bool, ◌||◌, List, ℕ, ℤ, pos, neg_ℤ, nat_abs, ◌+ℤ◌, ◌-ℤ◌, ◌*ℤ◌, ◌<ℤ◌, T, get_or, set}
use Rattle.std.proofs.Common.{◌∙◌, arith}
use Rattle.theory_integers.specs.Difference.{v, #, ⊝, ◌⊕◌, ◌⊖◌, ◌⊗◌, ≡-by}
use Rattle.theory_integers.specs.Ring.{ring}
use Rattle.theory_integers.specs.Natural.{pos-mono-<}
use Rattle.rules.specs.Arithmetic.{sum, combine, is_positive, is_negative}
use Rattle.theory_vectors.specs.Sign.{positive-yes, negative-is, 0<abs-negative}
use Rattle.theory_vectors.specs.Dot.{get_or-combine, sum-combine, sum-at}
use Rattle.theory_vectors.specs.Relation.{Rel, rel-+, rel-*ˡ, rel-+-cancelˡ}
use Rattle.theory_vectors.specs.Constraint.{Holds}

-- two constraints, added with positive factors
spread : (c β a γ d : ℤ) → (c *ℤ β +ℤ a *ℤ γ) *ℤ d ≡ c *ℤ (β *ℤ d) +ℤ a *ℤ (γ *ℤ d)
spread c β a γ d = simp ring

pub combine-holds : {s t : Bool} (c : ℤ) (us : List ℤ) (β a : ℤ) (ls : List ℤ) (γ : ℤ) (x : ℕ → ℤ) (d : ℤ) → pos 0 <ℤ c → pos 0 <ℤ a
    → Holds s us β x d → Holds t ls γ x d → Holds (s || t) (combine c us a ls) (c *ℤ β +ℤ a *ℤ γ) x d
combine-holds c us β a ls γ x d zc za h k = rw (sum-combine c us a ls x, spread c β a γ d) (rel-+ (rel-*ˡ zc h) (rel-*ˡ za k))

cancels : (c a l : ℤ) → l ≡ neg_ℤ c → c *ℤ a +ℤ a *ℤ l ≡ pos 0
cancels c a l e = rw e (≡-by (v c ⊗ v a ⊕ v a ⊗ ⊝ (v c)) (# 0) (omega arith))

-- ---- the variable is gone, where c is the size of a negative coefficient
pub combination-without : (i : ℕ) (us ls : List ℤ) → T (is_negative (get_or ls i (pos 0)))
    → get_or (combine (pos (nat_abs (get_or ls i (pos 0)))) us (get_or us i (pos 0)) ls) i (pos 0) ≡ pos 0
combination-without i us ls n =
    let a = get_or us i (pos 0) in
    let l = get_or ls i (pos 0) in
    get_or-combine (pos (nat_abs l)) us a ls i ∙ cancels (pos (nat_abs l)) a l (negative-is l n)

-- ---- an upper bound on variable i, with a coefficient a > 0, and a lower one, with a coefficient -c < 0
module _ (i : ℕ) (us : List ℤ) (β : ℤ) (ls : List ℤ) (γ : ℤ) where
  abbrev a : ℤ
  a = get_or us i (pos 0)

  abbrev c : ℤ
  c = pos (nat_abs (get_or ls i (pos 0)))

  pub combination-holds : {s t : Bool} (x : ℕ → ℤ) (d : ℤ) → T (is_positive a) → T (is_negative (get_or ls i (pos 0))) → Holds s us β x d
      → Holds t ls γ x d → Holds (s || t) (combine c us a ls) (c *ℤ β +ℤ a *ℤ γ) x d
  combination-holds x d p n h k = combine-holds c us β a ls γ x d (pos-mono-< (0<abs-negative (get_or ls i (pos 0)) n))
      (positive-yes a p) h k

  -- where the combination holds, the lower bound (γ × d - the other terms) / -c agrees with the upper one (β × d - the other terms) / a:
  -- the terms of i cancel, and the rest is the two numerators' comparison, crossed
  pub combination-agrees : {s : Bool} (x : ℕ → ℤ) (d : ℤ) → T (is_negative (get_or ls i (pos 0)))
      → Holds s (combine c us a ls) (c *ℤ β +ℤ a *ℤ γ) x d
      → Rel s (a *ℤ neg_ℤ (γ *ℤ d -ℤ sum (set ls i (pos 0)) x)) (c *ℤ (β *ℤ d -ℤ sum (set us i (pos 0)) x))
  combination-agrees {s} x d n h =
      crossed a c (sum (set us i (pos 0)) x) (sum (set ls i (pos 0)) x) (β *ℤ d) (γ *ℤ d)
      (rw (
        sum-combine c us a ls x,
        sum-at us i x,
        sum-at ls i x,
        spread c β a γ d,
        rest c a (get_or ls i (pos 0)) (x i)
            (sum (set us i (pos 0)) x) (sum (set ls i (pos 0)) x) (negative-is (get_or ls i (pos 0)) n),
      ) at h)
    where
      rest : (c a l x U L : ℤ) → l ≡ neg_ℤ c → c *ℤ (a *ℤ x +ℤ U) +ℤ a *ℤ (l *ℤ x +ℤ L) ≡ c *ℤ U +ℤ a *ℤ L
      rest c a l x U L e = rw e (≡-by (v c ⊗ (v a ⊗ v x ⊕ v U) ⊕ v a ⊗ (⊝ (v c) ⊗ v x ⊕ v L)) (v c ⊗ v U ⊕ v a ⊗ v L) (omega arith))

      left : (a c U L g : ℤ) → (c *ℤ U +ℤ a *ℤ g) +ℤ a *ℤ neg_ℤ (g -ℤ L) ≡ c *ℤ U +ℤ a *ℤ L
      left a c U L g = ≡-by ((v c ⊗ v U ⊕ v a ⊗ v g) ⊕ v a ⊗ ⊝ (v g ⊖ v L)) (v c ⊗ v U ⊕ v a ⊗ v L) (omega arith)

      right : (a c U b g : ℤ) → (c *ℤ U +ℤ a *ℤ g) +ℤ c *ℤ (b -ℤ U) ≡ c *ℤ b +ℤ a *ℤ g
      right a c U b g = ≡-by ((v c ⊗ v U ⊕ v a ⊗ v g) ⊕ v c ⊗ (v b ⊖ v U)) (v c ⊗ v b ⊕ v a ⊗ v g) (omega arith)

      crossed : (a c U L b g : ℤ) → Rel s (c *ℤ U +ℤ a *ℤ L) (c *ℤ b +ℤ a *ℤ g) → Rel s (a *ℤ neg_ℤ (g -ℤ L)) (c *ℤ (b -ℤ U))
      crossed a c U L b g k = rel-+-cancelˡ (c *ℤ U +ℤ a *ℤ g) (a *ℤ neg_ℤ (g -ℤ L)) (c *ℤ (b -ℤ U))
          (rw (left a c U L g, right a c U b g) k)
