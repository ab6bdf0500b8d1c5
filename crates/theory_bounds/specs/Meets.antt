-- A constraint is a bound on its variable: a value that meets the bound makes the constraint hold, and a combination that holds makes
-- the two bounds of its pair agree.
use Rattle.std.specs.Prelude.{◌≡◌, Bool, ◌↔◌, List, ℕ, ◌*◌, ◌/◌, ◌<◌, ℤ, neg_ℤ, nat_abs, ◌+ℤ◌, ◌-ℤ◌, ◌*ℤ◌, ◌<ℤ◌, T, set}
use Rattle.std.proofs.Common.{ap, ◌∙◌}
use Rattle.std.proofs.Math.Nat.{mul-div_cancel', pos_of_dvd_of_pos, dvd-mul_left}
use Rattle.std.proofs.Math.IntN.{pos}
use Rattle.std.proofs.Math.ListN.{get_or}
use Rattle.theory_integers.specs.Ring.{ring, negation, *-zeroˡ}
use Rattle.theory_integers.specs.Natural.{pos-mono-<}
use Rattle.theory_integers.specs.Product.{*-positive}
use Rattle.rules.specs.Arithmetic.{lcm, sum, combine, is_positive, is_negative}
use Rattle.rules.specs.Meaning.{Assignment}
use Rattle.theory_vectors.specs.Lcm.{lcm-dvdˡ, lcm-dvdʳ, lcm-positive}
use Rattle.theory_vectors.specs.Put.{put_same, put_other}
use Rattle.theory_vectors.specs.Sign.{positive-is, negative-is}
use Rattle.theory_vectors.specs.Relation.{Rel, rel-*ʳ, rel-*-cancelʳ, rel-neg}
use Rattle.theory_vectors.specs.Constraint.{Holds, put_holds, put_keeps}
use Rattle.theory_vectors.specs.Combination.{combination-agrees}
use Rattle.rules.specs.Values.{Fraction, quotient, with_rational}
use Rattle.theory_bounds.specs.Below.{Positive, Below, same-sym, below-sameˡ, below-sameʳ}
use Rattle.theory_bounds.specs.Arithmetic.{quotient-positive, quotient-negative}

-- what the other variables leave of the bound
abbrev pub rest : ℕ → List ℤ → ℤ → (ℕ → ℤ) → ℕ → ℤ
rest i cs β x d = β *ℤ pos d -ℤ sum (set cs i (pos 0)) x

-- ---- the bounds of a pair
agrees : {s : Bool} (l u a c d : ℤ) → pos 0 <ℤ d → Rel s (a *ℤ l) (c *ℤ u) → Rel s (l *ℤ (a *ℤ d)) (u *ℤ (c *ℤ d))
agrees l u a c d z h = rw (swapped l a d, swapped u c d) (rel-*ʳ z h)
  where
    swapped : (l a d : ℤ) → l *ℤ (a *ℤ d) ≡ (a *ℤ l) *ℤ d
    swapped l a d = simp ring

pub bounds-agree : {s : Bool} (i : ℕ) (us : List ℤ) (β : ℤ) (ls : List ℤ) (γ : ℤ) (x : ℕ → ℤ) (d : ℕ) → 0 < d
    → T (is_positive (get_or us i (pos 0))) → T (is_negative (get_or ls i (pos 0)))
    → Holds s (combine (pos (nat_abs (get_or ls i (pos 0)))) us (get_or us i (pos 0)) ls)
    (pos (nat_abs (get_or ls i (pos 0))) *ℤ β +ℤ get_or us i (pos 0) *ℤ γ) x (pos d)
    → Below s (quotient (rest i ls γ x d) (get_or ls i (pos 0)) d) (quotient (rest i us β x d) (get_or us i (pos 0)) d)
bounds-agree {s} i us β ls γ x d z p n h =
    let a = get_or us i (pos 0) in
    let l = get_or ls i (pos 0) in
    let L = rest i ls γ x d in
    let U = rest i us β x d in
    let low = quotient-negative L l d n z in
    let up = quotient-positive U a d p z in
    let k : Rel s (pos (nat_abs a) *ℤ neg_ℤ L) (pos (nat_abs l) *ℤ U) =
    rw (← positive-is a p) (combination-agrees i us β ls γ x (pos d) n h) in
    below-sameˡ low (below-sameʳ up (record {
      left = low.up.left;
      right = up.up.left;
      by = agrees (neg_ℤ L) U (pos (nat_abs a)) (pos (nat_abs l)) (pos d) (pos-mono-< z) k;
    }))

-- ---- the value n / e of variable i, over a common denominator D = d × k = e × m: the comparison of n / e with N / (a × d), times k × m
module _ {s : Bool} (n N a d e k m D : ℤ) (p : d *ℤ k ≡ D) (q : e *ℤ m ≡ D) (zk : pos 0 <ℤ k) (zm : pos 0 <ℤ m) (z_d : pos 0 <ℤ D) where
  above : Rel s (n *ℤ (a *ℤ d)) (N *ℤ e) → Rel s (a *ℤ (n *ℤ m)) (N *ℤ k)
  above h = rel-*-cancelʳ (a *ℤ (n *ℤ m)) (N *ℤ k) z_d (rw (left, right) (rel-*ʳ (*-positive zk zm) h))
    where
      left : (a *ℤ (n *ℤ m)) *ℤ D ≡ (n *ℤ (a *ℤ d)) *ℤ (k *ℤ m)
      left = rw (← p) (simp ring)

      right : (N *ℤ k) *ℤ D ≡ (N *ℤ e) *ℤ (k *ℤ m)
      right = rw (← q) (simp ring)

  below : Rel s (neg_ℤ N *ℤ e) (n *ℤ (a *ℤ d)) → Rel s (neg_ℤ a *ℤ (n *ℤ m)) (N *ℤ k)
  below h = rel-*-cancelʳ (neg_ℤ a *ℤ (n *ℤ m)) (N *ℤ k) z_d (rw (left, right) (rel-*ʳ (*-positive zk zm) (rel-neg h)))
    where
      left : (neg_ℤ a *ℤ (n *ℤ m)) *ℤ D ≡ neg_ℤ (n *ℤ (a *ℤ d)) *ℤ (k *ℤ m)
      left = rw (← p) (simp (ring, negation))

      right : (N *ℤ k) *ℤ D ≡ neg_ℤ (neg_ℤ N *ℤ e) *ℤ (k *ℤ m)
      right = rw (← q) (simp (ring, negation))

-- ---- one variable more in an assignment
module _ (i : ℕ) (q : Fraction) (χ : Assignment) where
  pub with-same : (with_rational i q χ).numerators i ≡ q.numerator *ℤ pos (lcm χ.denominator q.denominator / q.denominator)
  unfolding with_rational
  with-same = let D = lcm χ.denominator q.denominator in
      put_same i (q.numerator *ℤ pos (D / q.denominator)) (λ j. χ.numerators j *ℤ pos (D / χ.denominator))

  pub with-other : (j : ℕ) → (j ≡ i → ⊥)
      → (with_rational i q χ).numerators j ≡ χ.numerators j *ℤ pos (lcm χ.denominator q.denominator / χ.denominator)
  unfolding with_rational
  with-other = let D = lcm χ.denominator q.denominator in
      put_other i (q.numerator *ℤ pos (D / q.denominator)) (λ j. χ.numerators j *ℤ pos (D / χ.denominator))

  -- a 0 stays
  pub with-zero : (j : ℕ) → (j ≡ i → ⊥) → χ.numerators j ≡ pos 0 → (with_rational i q χ).numerators j ≡ pos 0
  with-zero j n e = let D = lcm χ.denominator q.denominator in with-other j n ∙ rw e (*-zeroˡ (pos (D / χ.denominator)))

module _ (i : ℕ) (q : Fraction) (χ : Assignment) (zd : 0 < χ.denominator) (zq : Positive q) where
  abbrev d : ℕ
  d = χ.denominator

  abbrev D : ℕ
  D = lcm d q.denominator

  pub with-denominator : 0 < (with_rational i q χ).denominator
  unfolding with_rational
  with-denominator = lcm-positive d q.denominator zd zq

  pub exactˡ : d * (D / d) ≡ D
  exactˡ = mul-div_cancel' d (lcm-dvdˡ d q.denominator zd)

  pub exactʳ : q.denominator * (D / q.denominator) ≡ D
  exactʳ = mul-div_cancel' q.denominator (lcm-dvdʳ d q.denominator)

  positiveˡ : pos 0 <ℤ pos (D / d)
  positiveˡ = pos-mono-< (pos_of_dvd_of_pos (dvd-mul_left (D / d) d) (rw exactˡ (lcm-positive d q.denominator zd zq)))

  positiveʳ : pos 0 <ℤ pos (D / q.denominator)
  positiveʳ = pos-mono-<
      (pos_of_dvd_of_pos (dvd-mul_left (D / q.denominator) q.denominator) (rw exactʳ (lcm-positive d q.denominator zd zq)))

  abbrev y : ℤ
  y = q.numerator *ℤ pos (D / q.denominator)

  module _ {s : Bool} (cs : List ℤ) (β : ℤ) where
    -- a constraint without the variable keeps its meaning
    pub with-keeps : get_or cs i (pos 0) ≡ pos 0 → Holds s cs β (with_rational i q χ).numerators (pos (with_rational i q χ).denominator)
        ↔ Holds s cs β χ.numerators (pos d)
    unfolding with_rational
    with-keeps e =
        let r = put_keeps {s = s} cs β i y χ.numerators (pos d) (pos (D / d)) positiveˡ e in
        (λ h. r.0 (rw exactˡ h), λ h. rw exactˡ at (r.1 h))

    -- one with a positive coefficient is an upper bound, one with a negative coefficient a lower bound
    pub with-upper : T (is_positive (get_or cs i (pos 0))) → Below s q (quotient (rest i cs β χ.numerators d) (get_or cs i (pos 0)) d)
        → Holds s cs β (with_rational i q χ).numerators (pos (with_rational i q χ).denominator)
    unfolding with_rational
    with-upper p h =
        let a = get_or cs i (pos 0) in
        let N = rest i cs β χ.numerators d in
        let b = below-sameʳ (same-sym (quotient-positive N a d p zd)) h in
        let r : Rel s (pos (nat_abs a) *ℤ y) (N *ℤ pos (D / d)) =
        above q.numerator N (pos (nat_abs a)) (pos d) (pos q.denominator) (pos (D / d)) (pos (D / q.denominator)) (pos D)
        (ap pos exactˡ) (ap pos exactʳ) positiveˡ positiveʳ (pos-mono-< (lcm-positive d q.denominator zd zq)) b.by in
        rw exactˡ at ((put_holds {s = s} cs β i y χ.numerators (pos d) (pos (D / d))).1 (rw (positive-is a p) r))

    pub with-lower : T (is_negative (get_or cs i (pos 0))) → Below s (quotient (rest i cs β χ.numerators d) (get_or cs i (pos 0)) d) q
        → Holds s cs β (with_rational i q χ).numerators (pos (with_rational i q χ).denominator)
    unfolding with_rational
    with-lower n h =
        let a = get_or cs i (pos 0) in
        let N = rest i cs β χ.numerators d in
        let b = below-sameˡ (same-sym (quotient-negative N a d n zd)) h in
        let r : Rel s (neg_ℤ (pos (nat_abs a)) *ℤ y) (N *ℤ pos (D / d)) =
        below q.numerator N (pos (nat_abs a)) (pos d) (pos q.denominator) (pos (D / d)) (pos (D / q.denominator)) (pos D)
        (ap pos exactˡ) (ap pos exactʳ) positiveˡ positiveʳ (pos-mono-< (lcm-positive d q.denominator zd zq)) b.by in
        rw exactˡ at ((put_holds {s = s} cs β i y χ.numerators (pos d) (pos (D / d))).1 (rw (negative-is a n) r))
