-- Lists that the rules count with.
use Rattle.std.specs.Prelude.{Bool, true, false, ◌&&◌, ◌||◌, List, [], ◌∷◌, ◌++◌, ℕ, zero, suc}

module _ {A : Type 0} where
  -- some element passes the test; every one does
  unfoldable pub any : (A → Bool) → List A → Bool
  any test [] = false
  any test (x ∷ xs) = test x || any test xs

  unfoldable pub all : (A → Bool) → List A → Bool
  all test [] = true
  all test (x ∷ xs) = test x && all test xs

  -- the elements that pass the test, in order
  unfoldable pub filter : (A → Bool) → List A → List A
  filter test [] = []
  filter test (x ∷ xs) = elim (test x) [ true ↦ x ∷ filter test xs | false ↦ filter test xs ]

  unfoldable pub concat : List (List A) → List A
  concat [] = []
  concat (xs ∷ xss) = xs ++ concat xss

  -- as long as each other, and equal element by element
  unfoldable pub same : (A → A → Bool) → List A → List A → Bool
  same equal [] [] = true
  same equal [] (y ∷ ys) = false
  same equal (x ∷ xs) [] = false
  same equal (x ∷ xs) (y ∷ ys) = equal x y && same equal xs ys

  -- f 0, f 1, up to f (n - 1)
  unfoldable pub tabulate : ℕ → (ℕ → A) → List A
  tabulate zero f = []
  tabulate (suc n) f = f 0 ∷ tabulate n (λ i. f (suc i))

  -- f, but a at place i
  unfoldable pub put : ℕ → A → (ℕ → A) → ℕ → A
  put zero a f zero = a
  put zero a f (suc j) = f (suc j)
  put (suc i) a f zero = f zero
  put (suc i) a f (suc j) = put i a (λ k. f (suc k)) j
