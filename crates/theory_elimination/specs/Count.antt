-- Counting elements that pass a test, and squares of parts.
use Rattle.std.specs.Prelude.{◌≡◌, Bool, true, false, cond, ℕ, ◌+◌, ◌*◌, ◌-◌, ◌≤◌, T, leb, length}
use Rattle.std.proofs.Common.{⊎_elim, mul-le-mul, le_of_lt, leb→le}
use mathlib.Core.List.{List, [], ◌∷◌, ◌++◌}
use native.Mathlib.Omega.{arith}
use Rattle.std.proofs.Math.Dec.{nleb→lt}
use Rattle.theory_lists.specs.Tests.{split}
use Rattle.theory_lists.specs.All.{All}

at_most_one : (b : Bool) → cond b 1 0 ≤ 1
at_most_one true = omega arith
at_most_one false = omega arith

apart : (a b c : Bool) → (T a → T b → ⊥) → (T a → T c) → (T b → T c) → cond a 1 0 + cond b 1 0 ≤ cond c 1 0
apart true true c f g h = absurd (f tt tt)
apart true false true f g h = omega arith
apart true false false f g h = absurd (g tt)
apart false true true f g h = omega arith
apart false true false f g h = absurd (h tt)
apart false false c f g h = omega arith

module _ {A : Type 0} where
  unfoldable pub count : (A → Bool) → List A → ℕ
  count p [] = 0
  count p (x ∷ xs) = cond (p x) 1 0 + count p xs

  pub count-append : (p : A → Bool) (xs ys : List A) → count p (xs ++ ys) ≡ count p xs + count p ys
  unfolding count
  count-append p [] ys = omega arith
  count-append p (x ∷ xs) ys = omega (arith, count-append p xs ys)

  pub count-length : (p : A → Bool) (xs : List A) → count p xs ≤ length xs
  unfolding count
  count-length p [] = omega arith
  count-length p (x ∷ xs) = omega (arith, count-length p xs, at_most_one (p x))

  -- two tests that none passes both count at most what a wider test does
  pub count-apart : (p q r : A → Bool) (xs : List A) → All (λ x. T (p x) → T (q x) → ⊥) xs → ((x : A) → T (p x) → T (r x))
      → ((x : A) → T (q x) → T (r x)) → count p xs + count q xs ≤ count r xs
  unfolding count
  count-apart p q r [] d f g = omega arith
  count-apart p q r (x ∷ xs) d f g = omega (arith, apart (p x) (q x) (r x) d.0 (f x) (g x), count-apart p q r xs d.1 f g)

-- ---- squares
-- 4 × u × l is at most the square of u + l
apart-square : (u d : ℕ) → 4 * (u * (u + d)) ≤ (u + (u + d)) * (u + (u + d))
apart-square u d = omega arith

difference : (a b : ℕ) → a ≤ b → a + (b - a) ≡ b
difference a b h = omega arith

pub four-times : (u l : ℕ) → 4 * (u * l) ≤ (u + l) * (u + l)
four-times u l = ⊎_elim (λ h. less u l (leb→le u l h)) (λ h. omega (arith, less l u (le_of_lt (nleb→lt u l h)))) (split (leb u l))
  where
    less : (u l : ℕ) → u ≤ l → 4 * (u * l) ≤ (u + l) * (u + l)
    less u l h = rw (difference u l h) at (apart-square u (l - u))

pub square-mono : {a b : ℕ} → a ≤ b → a * a ≤ b * b
square-mono h = mul-le-mul h h

-- squares of two parts are at most the square of the whole
pub squares : (c m : ℕ) → c * c + m * m ≤ (c + m) * (c + m)
squares c m = omega arith
