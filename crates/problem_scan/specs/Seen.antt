-- What a reader comes to without its value, and what that is of one reader after another.
use Rattle.std.proofs.Math.Path.{◌≡◌, refl, ap}
use Rattle.std.proofs.Common.{◌∙◌, arith}
use Rattle.std.specs.Prelude.{List, ℕ, ◌≤◌, length}
use Rattle.std.proofs.Math.ListN.{drop}
use Rattle.rules_types.specs.declared.answers.Refusal.{Refusal}
use Rattle.rules.specs.Problem.{Read, fault, got, Reader, after, return}
use Rattle.problem_scan.specs.declared.cursor.Cursor.{Cursor}
use Rattle.problem_scan.specs.declared.cursor.Cursor.TheVariants.{Next, Fault}

module _ {A : Type 0} where
  -- the place of the next byte, or the fault
  unfoldable pub seen : Read A → Cursor
  seen (fault f place) = Fault f place
  seen (got a bytes place) = Next place

-- ---- of a slice q: what is left is what stands from the next place on, which is in it
module _ (q : List ℕ) {A : Type 0} where
  abbrev pub Aligned : Read A → Type 0
  Aligned (fault f place) = Unit {0}
  Aligned (got a bytes place) = (bytes ≡ drop place q) × (place ≤ length q)

  abbrev pub Steady : Reader A → Type 0
  Steady reader = (at : ℕ) → at ≤ length q → Aligned (reader (drop at q) at)

  pub next-within : (r : Read A) (n : ℕ) → Aligned r → seen r ≡ Next n → n ≤ length q
  unfolding seen
  next-within (fault f place) n k e = let z : ◌≡◌ {A = ℕ} 0 1 = cc in absurd (omega arith)
  next-within (got a bytes place) n k e = let z : place ≡ n = cc in omega (arith, k.1)

-- ---- one after another
module _ {A B : Type 0} where
  pub seen-fault : (r : Read A) (next : A → Reader B) (f : Refusal) (p : ℕ) → seen r ≡ Fault f p → seen (after r next) ≡ Fault f p
  unfolding seen after
  seen-fault (fault f place) next g p e = e
  seen-fault (got a bytes place) next g p e = let z : ◌≡◌ {A = ℕ} 0 1 = cc in absurd (omega arith)

  -- what comes next is the same to see for every value
  pub seen_next : (q : List ℕ) (r : Read A) (next : A → Reader B) (n : ℕ) (w : Cursor) → Aligned q r → seen r ≡ Next n
      → ((a : A) → seen (next a (drop n q) n) ≡ w) → seen (after r next) ≡ w
  unfolding seen after
  seen_next q (fault f place) next n w k e h = let z : ◌≡◌ {A = ℕ} 0 1 = cc in absurd (omega arith)
  seen_next q (got a bytes place) next n w k e h =
      let z : place ≡ n = cc in
      let b : bytes ≡ drop n q = k.0 ∙ ap (λ (i : ℕ). drop i q) z in
      rw (b, z) (h a)

  -- a value that is only put in another's place
  pub seen-map : (r : Read A) (make : A → B) → seen (after r (λ a. return (make a))) ≡ seen r
  unfolding seen after
  seen-map (fault f place) make = refl
  seen-map (got a bytes place) make = refl

-- the same, of the second of two readers
module _ {A B C : Type 0} where
  pub seen-then-map : (r : Read A) (next : A → Reader B) (make : A → B → C)
      → seen (after r (λ a bytes place. after (next a bytes place) (λ b. return (make a b)))) ≡ seen (after r next)
  unfolding after seen
  seen-then-map (fault f place) next make = refl
  seen-then-map (got a bytes place) next make = seen-map (next a bytes place) (make a)
