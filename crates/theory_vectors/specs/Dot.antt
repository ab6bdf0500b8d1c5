-- Sums of coefficient × value. A coefficient that is not there counts as 0, so no law asks for a length.
use Rattle.std.specs.Prelude.{◌≡◌, refl, List, [], ◌∷◌, ℕ, zero, suc, ◌+◌, ◌*◌, ◌≤◌, max, ℤ, pos, nat_abs, ◌+ℤ◌, ◌*ℤ◌, T, length, get_or}
use Rattle.std.specs.Prelude.{set}
use Rattle.std.proofs.Common.{sym, ap, ◌∙◌, arith}
use Rattle.std.proofs.Math.Facts.{and_yes}
use Rattle.theory_integers.specs.Ring.{ring, +-identityˡ, *-zeroˡ, *-zeroʳ}
use Rattle.theory_integers.specs.Size.{abs-+-≤, abs-*-≤}
use Rattle.rules.specs.Lists.{all, put}
use Rattle.rules.specs.Arithmetic.{sum, scale, combine, is_zero}
use Rattle.theory_vectors.specs.Sign.{zero-yes}

-- ---- places
pub get_or-scale : (c : ℤ) (us : List ℤ) (i : ℕ) → get_or (scale c us) i (pos 0) ≡ c *ℤ get_or us i (pos 0)
unfolding scale
get_or-scale c [] i = sym (*-zeroʳ c)
get_or-scale c (u ∷ us) zero = refl
get_or-scale c (u ∷ us) (suc i) = get_or-scale c us i

noneˡ : (c y : ℤ) → y ≡ c *ℤ pos 0 +ℤ y
noneˡ c y = simp ring

noneʳ : (c y : ℤ) → y ≡ y +ℤ c *ℤ pos 0
noneʳ c y = simp ring

pub get_or-combine : (c : ℤ) (us : List ℤ) (a : ℤ) (ls : List ℤ) (i : ℕ)
    → get_or (combine c us a ls) i (pos 0) ≡ c *ℤ get_or us i (pos 0) +ℤ a *ℤ get_or ls i (pos 0)
unfolding combine
get_or-combine c [] a ls i = get_or-scale a ls i ∙ noneˡ c _
get_or-combine c (u ∷ us) a [] i = get_or-scale c (u ∷ us) i ∙ noneʳ a _
get_or-combine c (u ∷ us) a (l ∷ ls) zero = refl
get_or-combine c (u ∷ us) a (l ∷ ls) (suc i) = get_or-combine c us a ls i

-- a place that both lack
pub combine-zero : (c : ℤ) (us : List ℤ) (a : ℤ) (ls : List ℤ) (i : ℕ) → get_or us i (pos 0) ≡ pos 0 → get_or ls i (pos 0) ≡ pos 0
    → get_or (combine c us a ls) i (pos 0) ≡ pos 0
combine-zero c us a ls i h k = get_or-combine c us a ls i ∙ rw (h, k) (simp ring)

pub length-scale : (c : ℤ) (us : List ℤ) → length (scale c us) ≡ length us
unfolding scale
length-scale c [] = refl
length-scale c (u ∷ us) = ap suc (length-scale c us)

pub length-combine : (c : ℤ) (us : List ℤ) (a : ℤ) (ls : List ℤ) → length (combine c us a ls) ≡ max (length us) (length ls)
unfolding combine
length-combine c [] a ls = omega (arith, length-scale a ls)
length-combine c (u ∷ us) a [] = omega (arith, length-scale c (u ∷ us))
length-combine c (u ∷ us) a (l ∷ ls) = omega (arith, length-combine c us a ls)

-- ---- sums whose terms are equal are equal
none-zero : (ds : List ℤ) (y : ℕ → ℤ) → ((i : ℕ) → get_or ds i (pos 0) *ℤ y i ≡ pos 0) → sum ds y ≡ pos 0
unfolding sum
none-zero [] y h = refl
none-zero (d ∷ ds) y h = rw (h 0, none-zero ds (λ i. y (suc i)) (λ i. h (suc i)))

pub sum-terms : (cs ds : List ℤ) (x y : ℕ → ℤ) → ((i : ℕ) → get_or cs i (pos 0) *ℤ x i ≡ get_or ds i (pos 0) *ℤ y i) → sum cs x ≡ sum ds y
unfolding sum
sum-terms [] ds x y h = sym (none-zero ds y (λ i. sym (h i) ∙ *-zeroˡ (x i)))
sum-terms (c ∷ cs) [] x y h = none-zero (c ∷ cs) x (λ i. h i ∙ *-zeroˡ (y i))
sum-terms (c ∷ cs) (d ∷ ds) x y h = rw (h 0, sum-terms cs ds (λ i. x (suc i)) (λ i. y (suc i)) (λ i. h (suc i)))

pub sum-values : (cs : List ℤ) {x y : ℕ → ℤ} → ((i : ℕ) → x i ≡ y i) → sum cs x ≡ sum cs y
sum-values cs {x} {y} h = sum-terms cs cs x y (λ i. rw (h i))

pub sum-coefficients : (cs ds : List ℤ) (x : ℕ → ℤ) → ((i : ℕ) → get_or cs i (pos 0) ≡ get_or ds i (pos 0)) → sum cs x ≡ sum ds x
sum-coefficients cs ds x h = sum-terms cs ds x x (λ i. rw (h i))

-- all coefficients are 0
pub get_or-zero : (cs : List ℤ) (i : ℕ) → T (all is_zero cs) → get_or cs i (pos 0) ≡ pos 0
unfolding all
get_or-zero [] i h = refl
get_or-zero (c ∷ cs) zero h = zero-yes c (and_yes (is_zero c) (all is_zero cs) h).0
get_or-zero (c ∷ cs) (suc i) h = get_or-zero cs i (and_yes (is_zero c) (all is_zero cs) h).1

pub sum-zero : (cs : List ℤ) (x : ℕ → ℤ) → T (all is_zero cs) → sum cs x ≡ pos 0
sum-zero cs x h = none-zero cs x (λ i. rw (get_or-zero cs i h) (*-zeroˡ (x i)))

-- ---- linear in the coefficients
scale-step : (c u x D E : ℤ) → E ≡ c *ℤ D → (c *ℤ u) *ℤ x +ℤ E ≡ c *ℤ (u *ℤ x +ℤ D)
scale-step c u x D E e = rw e (simp ring)

pub sum-scale : (c : ℤ) (us : List ℤ) (x : ℕ → ℤ) → sum (scale c us) x ≡ c *ℤ sum us x
unfolding sum scale
sum-scale c [] x = sym (*-zeroʳ c)
sum-scale c (u ∷ us) x = scale-step c u (x 0) (sum us (λ j. x (suc j))) _ (sum-scale c us (λ j. x (suc j)))

combine-step : (c u a l x D E F : ℤ) → F ≡ c *ℤ D +ℤ a *ℤ E → (c *ℤ u +ℤ a *ℤ l) *ℤ x +ℤ F ≡ c *ℤ (u *ℤ x +ℤ D) +ℤ a *ℤ (l *ℤ x +ℤ E)
combine-step c u a l x D E F e = rw e (simp ring)

pub sum-combine : (c : ℤ) (us : List ℤ) (a : ℤ) (ls : List ℤ) (x : ℕ → ℤ) → sum (combine c us a ls) x ≡ c *ℤ sum us x +ℤ a *ℤ sum ls x
unfolding sum combine
sum-combine c [] a ls x = sum-scale a ls x ∙ noneˡ c _
sum-combine c (u ∷ us) a [] x = sum-scale c (u ∷ us) x ∙ noneʳ a _
sum-combine c (u ∷ us) a (l ∷ ls) x =
    combine-step c u a l (x 0) (sum us (λ j. x (suc j))) (sum ls (λ j. x (suc j))) _ (sum-combine c us a ls (λ j. x (suc j)))

-- ---- linear in the values
values-step : (c x e D E : ℤ) → E ≡ D *ℤ e → c *ℤ (x *ℤ e) +ℤ E ≡ (c *ℤ x +ℤ D) *ℤ e
values-step c x e D E h = rw h (simp ring)

pub sum-* : (cs : List ℤ) (x : ℕ → ℤ) (e : ℤ) → sum cs (λ j. x j *ℤ e) ≡ sum cs x *ℤ e
unfolding sum
sum-* [] x e = sym (*-zeroˡ e)
sum-* (c ∷ cs) x e = values-step c (x 0) e (sum cs (λ j. x (suc j))) _ (sum-* cs (λ j. x (suc j)) e)

sum_step : (c x y D E F : ℤ) → F ≡ D +ℤ E → c *ℤ (x +ℤ y) +ℤ F ≡ (c *ℤ x +ℤ D) +ℤ (c *ℤ y +ℤ E)
sum_step c x y D E F h = rw h (simp ring)

pub sum-+ : (cs : List ℤ) (x y : ℕ → ℤ) → sum cs (λ j. x j +ℤ y j) ≡ sum cs x +ℤ sum cs y
unfolding sum
sum-+ [] x y = refl
sum-+ (c ∷ cs) x y =
    sum_step c (x 0) (y 0) (sum cs (λ j. x (suc j))) (sum cs (λ j. y (suc j))) _ (sum-+ cs (λ j. x (suc j)) (λ j. y (suc j)))

-- ---- one place and the others
alone : (y : ℤ) → pos 0 ≡ pos 0 *ℤ y +ℤ pos 0
alone y = simp ring

first : (c y x D : ℤ) → c *ℤ y +ℤ D ≡ c *ℤ y +ℤ (pos 0 *ℤ x +ℤ D)
first c y x D = simp ring

later : (c x C y D E : ℤ) → E ≡ C *ℤ y +ℤ D → c *ℤ x +ℤ E ≡ C *ℤ y +ℤ (c *ℤ x +ℤ D)
later c x C y D E h = rw h (simp ring)

pub sum-put : (cs : List ℤ) (i : ℕ) (y : ℤ) (x : ℕ → ℤ) → sum cs (put i y x) ≡ get_or cs i (pos 0) *ℤ y +ℤ sum (set cs i (pos 0)) x
unfolding sum put
sum-put [] i y x = alone y
sum-put (c ∷ cs) zero y x = first c y (x 0) (sum cs (λ j. x (suc j)))
sum-put (c ∷ cs) (suc i) y x =
    later c (x 0) (get_or cs i (pos 0)) y (sum (set cs i (pos 0)) (λ j. x (suc j))) _ (sum-put cs i y (λ j. x (suc j)))

pub sum-at : (cs : List ℤ) (i : ℕ) (x : ℕ → ℤ) → sum cs x ≡ get_or cs i (pos 0) *ℤ x i +ℤ sum (set cs i (pos 0)) x
unfolding sum
sum-at [] i x = alone (x i)
sum-at (c ∷ cs) zero x = first c (x 0) (x 0) (sum cs (λ j. x (suc j)))
sum-at (c ∷ cs) (suc i) x =
    later c (x 0) (get_or cs i (pos 0)) (x (suc i)) (sum (set cs i (pos 0)) (λ j. x (suc j))) _ (sum-at cs i (λ j. x (suc j)))

-- a value whose coefficient is 0 does not count
gone : (C y z D : ℤ) → C ≡ pos 0 → C *ℤ y +ℤ D ≡ C *ℤ z +ℤ D
gone C y z D e = rw e (simp ring)

pub sum-without : (cs : List ℤ) (i : ℕ) (y : ℤ) (x : ℕ → ℤ) → get_or cs i (pos 0) ≡ pos 0 → sum cs (put i y x) ≡ sum cs x
sum-without cs i y x e = sum-put cs i y x ∙ gone (get_or cs i (pos 0)) y (x i) (sum (set cs i (pos 0)) x) e ∙ sym (sum-at cs i x)

-- ---- sizes
pub abs-sum : (cs : List ℤ) (x : ℕ → ℤ) (m n : ℕ) → ((i : ℕ) → nat_abs (get_or cs i (pos 0)) ≤ m) → ((i : ℕ) → nat_abs (x i) ≤ n)
    → nat_abs (sum cs x) ≤ length cs * (m * n)
unfolding sum
abs-sum [] x m n h k = omega arith
abs-sum (c ∷ cs) x m n h k =
    let t = abs-*-≤ c (x 0) (h 0) (k 0) in
    let r = abs-sum cs (λ j. x (suc j)) m n (λ i. h (suc i)) (λ i. k (suc i)) in
    omega (arith, abs-+-≤ (c *ℤ x 0) (sum cs (λ j. x (suc j))) t r)

pub abs-combine : (c : ℤ) (us : List ℤ) (a : ℤ) (ls : List ℤ) (i : ℕ) {m n m' n' : ℕ} → nat_abs c ≤ m → nat_abs (get_or us i (pos 0)) ≤ n
    → nat_abs a ≤ m' → nat_abs (get_or ls i (pos 0)) ≤ n' → nat_abs (get_or (combine c us a ls) i (pos 0)) ≤ m * n + m' * n'
abs-combine c us a ls i hc hu ha hl =
    rw (get_or-combine c us a ls i) (abs-+-≤ (c *ℤ get_or us i (pos 0)) (a *ℤ get_or ls i (pos 0)) (abs-*-≤ c (get_or us i (pos 0)) hc hu)
    (abs-*-≤ a (get_or ls i (pos 0)) ha hl))

-- without one of l + 1 terms
pub abs-sum-without : (l : ℕ) (cs : List ℤ) (i : ℕ) (x : ℕ → ℤ) (m n : ℕ) → length cs ≡ suc l → i ≤ l
    → ((j : ℕ) → nat_abs (get_or cs j (pos 0)) ≤ m) → ((j : ℕ) → nat_abs (x j) ≤ n)
    → nat_abs (sum (set cs i (pos 0)) x) ≤ l * (m * n)
unfolding sum
abs-sum-without l [] i x m n e z h k = absurd (omega arith)
abs-sum-without l (c ∷ cs) zero x m n e z h k =
    let f : length cs ≡ l = omega arith in
    rw (*-zeroˡ (x 0), +-identityˡ (sum cs (λ j. x (suc j))), ← f) (abs-sum cs (λ j. x (suc j)) m n (λ j. h (suc j)) (λ j. k (suc j)))
abs-sum-without zero (c ∷ cs) (suc i) x m n e z h k = absurd (omega arith)
abs-sum-without (suc l) (c ∷ cs) (suc i) x m n e z h k =
    let t = abs-*-≤ c (x 0) (h 0) (k 0) in
    let r = abs-sum-without l cs i (λ j. x (suc j)) m n (omega arith) (omega arith) (λ j. h (suc j)) (λ j. k (suc j)) in
    omega (arith, abs-+-≤ (c *ℤ x 0) (sum (set cs i (pos 0)) (λ j. x (suc j))) t r)
