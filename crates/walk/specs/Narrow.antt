-- The lines of a proof that have no coefficient from rational variable r on: only the first r numerators count.
use Rattle.std.specs.Prelude.{◌≡◌, Bool, false, ◌||◌, List, ℕ, zero, suc, ◌≤◌, ◌<◌, ℤ, pos, nat_abs, ltb, get_or}
use Rattle.std.proofs.Common.{ap, ◌∙◌, arith, le-ltb}
use Rattle.rules_types.specs.Limits as limit
use Rattle.rules_types.specs.Limits.{amount}
use Rattle.rules.specs.Lists.{any, tabulate}
use Rattle.rules.specs.Meaning.{Assignment}
use Rattle.rules.specs.Lines.{coefficient}
use Rattle.rules.specs.Model.{too_large}
use Rattle.theory_lists.specs.Tabulated.{all-tabulate, none-tabulate}
use Rattle.theory_saturation.specs.Unbounded.{Without}
use Rattle.lines.specs.Line.{meaning}
use Rattle.lines.specs.Forms.{coefficient-is}
use Rattle.steps.specs.Lines.{line_at, lines_in, ReadyLines}

pub record Narrow (proof : List ℕ) (n r : ℕ) : Type 0 where
  pub zeros : (i : ℕ) → i < n → (f : ℕ) → r ≤ f → get_or (line_at proof i).coefficients f (pos 0) ≡ pos 0

-- ---- numerators that are 0
any-front : (p : ℤ → Bool) (n r : ℕ) (g : ℕ → ℤ) → r ≤ n → ((j : ℕ) → r ≤ j → p (g j) ≡ false) → any p (tabulate n g) ≡ any p (tabulate r g)
unfolding any tabulate
any-front p n zero g l h = none-tabulate p n g (λ i k. h i (omega arith))
any-front p zero (suc r) g l h = absurd (omega arith)
any-front p (suc n) (suc r) g l h =
    ap (λ (b : Bool). p (g 0) || b) (any-front p n r (λ i. g (suc i)) (omega arith) (λ j k. h (suc j) (omega arith)))

pub large-narrow : (r : ℕ) (χ : Assignment) → r ≤ limit.rationals → ((f : ℕ) → r ≤ f → χ.numerators f ≡ pos 0)
    → too_large limit.rationals χ ≡ too_large r χ
unfolding too_large
large-narrow r χ l h =
    ap (λ (b : Bool). ltb amount χ.denominator || b)
    (any-front (λ z. ltb amount (nat_abs z)) limit.rationals r χ.numerators l
    (λ j k. ap (λ (z : ℤ). ltb amount (nat_abs z)) (h j k) ∙ le-ltb amount 0 (omega arith)))

-- ---- of the lines that a proof holds
pub narrow-lines : (proof : List ℕ) (n r : ℕ) → ReadyLines proof n → Narrow proof n r → (f : ℕ) → r ≤ f → Without f (lines_in proof n)
unfolding lines_in
narrow-lines proof n r k h f l = all-tabulate (λ l. coefficient f l.constraint ≡ pos 0) n (λ i. meaning (line_at proof i))
    (λ i b. coefficient-is (line_at proof i) (k i b).shaped f ∙ h.zeros i b f l)
