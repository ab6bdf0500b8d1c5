-- `Fraction::quotient` meets its contract: by the sign of the coefficient, the sign goes into the numerator.
use Rattle.std.proofs.Common.{◌≡◌, refl, sym, ◌∙◌, true, false, ℕ, ◌*◌, ℤ, pos, negsuc, neg_ℤ, nat_abs, arith, rules, ltb-true}
use Rattle.std.specs.Int.Signed.{lt_z}
use Rattle.rules.specs.Values.{reduce, quotient}
use Rattle.fractions.proofs.Signed.{same, negated}
use Rattle.fractions.proofs.fraction.Fraction.quotient.Goals as goal
use Rattle.fractions.proofs.fraction.Fraction.quotient.Goals.{then-a-lt0, else-a-lt0}

by-negative : (n a : ℤ) (d : ℕ) → lt_z a (pos 0) ≡ true → quotient n a d ≡ reduce (neg_ℤ n) (nat_abs a * d)
unfolding quotient
by-negative n (pos a) d h = absurd (omega (arith, ltb-true a 0 h))
by-negative n (negsuc a) d h = refl

by-positive : (n a : ℤ) (d : ℕ) → lt_z a (pos 0) ≡ false → quotient n a d ≡ reduce n (nat_abs a * d)
unfolding quotient
by-positive n (pos a) d h = refl
by-positive n (negsuc a) d h = let e : ◌≡◌ {A = ℕ} 0 1 = cc in absurd (omega arith)

pub returns : goal.returns
returns c =
    let n = c.args.n in
    let a = c.args.a in
    let d = c.args.d in
    let e : c.size.result ≡ nat_abs a = search rules in
    elim c.if-a-lt0.branch [
      | then-a-lt0 w ↦ (rw (w.numerator-is, negated n (omega arith), e) at c.reduce.ensures)
          ∙ sym (by-negative n a d (rw (same a (omega arith)) at w.if-a-lt0.true))
      | else-a-lt0 w ↦ (rw (w.numerator-is, same n (omega arith), e) at c.reduce.ensures)
          ∙ sym (by-positive n a d (rw (same a (omega arith)) at w.if-a-lt0.false))
    ]
