-- What is loaded is every part of every clause, in the order of clauses and parts: "Pieces load in order."
use Rattle.std.specs.Prelude.{◌≡◌, refl, ◌⊎◌, List, [], ◌∷◌, ◌++◌, ℕ, zero, suc, ◌+◌, ◌≤◌, ◌<◌, take}
use Rattle.std.proofs.Common.{inl, inr, arith}
use Rattle.std.proofs.Math.Option.{some}
use Rattle.std.proofs.Math.ListN.{get_elem?}
use Rattle.rules.specs.Problem.{Clause, Problem}
use Rattle.rules.specs.Lines.{Line}
use Rattle.rules.specs.Split.{parts_of, splits_of}
use Rattle.rules.specs.Steps.{Step, loaded, header}
use Rattle.rules.specs.Elimination.{part_steps, loadable, loadable_of}
use Rattle.theory_lists.specs.All.{All, Any, all_map, all_append, any_left, any-right}
use Rattle.theory_splitting.specs.WellFormed.{splits_in}
use Rattle.theory_splitting.specs.Named.{PartAmong, loadable-parts}

-- the clause and the part that a loaded step names
abbrev pub clause_of : Step → ℕ
clause_of s = (header s.origin).first

abbrev pub part_of : Step → ℕ
part_of s = (header s.origin).second

-- of a clause before, or of the same clause and a part before
abbrev pub Earlier : Step → Step → Type 0
Earlier s t = (clause_of s < clause_of t) ⊎ ((clause_of s ≡ clause_of t) × (part_of s < part_of t))

abbrev pub Ordered : List Step → Type 0
Ordered [] = Unit {0}
Ordered (s ∷ ss) = All (Earlier s) ss × Ordered ss

pub record EveryPart (p : Problem) (steps : List Step) : Type 0 where
  pub each : All (PartAmong 0 p.booleans p.clauses) steps
  pub all : (c : ℕ) (x : Clause) → get_elem? p.clauses c ≡ some x → (j : ℕ) (l : Line)
      → get_elem? (parts_of (p.booleans + splits_in (take c p.clauses)) x) j ≡ some l
      → Any (λ s. s ≡ record { origin = loaded c j; line = l }) steps
  pub ordered : Ordered steps

-- ---- all
parts_all : (c from : ℕ) (ls : List Line) (j : ℕ) (l : Line) → get_elem? ls j ≡ some l
    → Any (λ s. s ≡ record { origin = loaded c (from + j); line = l }) (part_steps c from ls)
unfolding part_steps
parts_all c from [] j l e = absurd (let z : ◌≡◌ {A = ℕ} 0 1 = cc in omega arith)
parts_all c from (x ∷ ls) zero l e =
    let q : x ≡ l = cc in
    let z : from ≡ from + zero = omega arith in
    inl (λ i. record { origin = loaded c (z i); line = q i })
parts_all c from (x ∷ ls) (suc j) l e =
    let z : suc from + j ≡ from + suc j = omega arith in
    inr (rw z at (parts_all c (suc from) ls j l e))

loadable-all : (c k : ℕ) (clauses : List Clause) (n : ℕ) (x : Clause) → get_elem? clauses n ≡ some x → (j : ℕ) (l : Line)
    → get_elem? (parts_of (k + splits_in (take n clauses)) x) j ≡ some l
    → Any (λ s. s ≡ record { origin = loaded (c + n) j; line = l }) (loadable c k clauses)
unfolding loadable
loadable-all c k [] n x e j l h = absurd (let z : ◌≡◌ {A = ℕ} 0 1 = cc in omega arith)
loadable-all c k (y ∷ ys) zero x e j l h =
    let q : y ≡ x = cc in
    let z : c + 0 ≡ c = omega arith in
    let f : k + 0 ≡ k = omega arith in
    let g : 0 + j ≡ j = omega arith in
    any_left (λ s. s ≡ record { origin = loaded (c + zero) j; line = l }) (part_steps c 0 (parts_of k y))
    (loadable (suc c) (k + splits_of y) ys)
    (rw (q, z) (rw g at (parts_all c 0 (parts_of k x) j l (rw f at h))))
loadable-all c k (y ∷ ys) (suc n) x e j l h =
    let z : suc c + n ≡ c + suc n = omega arith in
    let f : k + (splits_of y + splits_in (take n ys)) ≡ k + splits_of y + splits_in (take n ys) = omega arith in
    any-right (λ s. s ≡ record { origin = loaded (c + suc n) j; line = l }) (part_steps c 0 (parts_of k y))
    (loadable (suc c) (k + splits_of y) ys) (rw z at (loadable-all (suc c) (k + splits_of y) ys n x e j l (rw f at h)))

-- ---- in order
parts_from : (c from : ℕ) (ls : List Line) → All (λ s. (clause_of s ≡ c) × (from ≤ part_of s)) (part_steps c from ls)
unfolding part_steps header
parts_from c from [] = tt
parts_from c from (l ∷ ls) = (
  (refl, omega arith),
  all_map (λ s. (clause_of s ≡ c) × (suc from ≤ part_of s)) (λ s. (clause_of s ≡ c) × (from ≤ part_of s)) (part_steps c (suc from) ls)
      (λ s h. (h.0, omega (arith, h.1))) (parts_from c (suc from) ls),
)

parts-ordered : (c from : ℕ) (ls : List Line) → Ordered (part_steps c from ls)
unfolding part_steps header
parts-ordered c from [] = tt
parts-ordered c from (l ∷ ls) = (
  all_map (λ s. (clause_of s ≡ c) × (suc from ≤ part_of s)) (Earlier (record { origin = loaded c from; line = l }))
      (part_steps c (suc from) ls) (λ s h. inr (omega (arith, h.0), omega (arith, h.1))) (parts_from c (suc from) ls),
  parts-ordered c (suc from) ls,
)

loadable-from : (c k : ℕ) (xs : List Clause) → All (λ s. c ≤ clause_of s) (loadable c k xs)
unfolding loadable
loadable-from c k [] = tt
loadable-from c k (x ∷ xs) =
    all_append (λ s. c ≤ clause_of s) (part_steps c 0 (parts_of k x)) (loadable (suc c) (k + splits_of x) xs)
    (all_map (λ s. (clause_of s ≡ c) × (0 ≤ part_of s)) (λ s. c ≤ clause_of s) (part_steps c 0 (parts_of k x)) (λ s h. omega (arith, h.0))
    (parts_from c 0 (parts_of k x)))
    (all_map (λ s. suc c ≤ clause_of s) (λ s. c ≤ clause_of s) (loadable (suc c) (k + splits_of x) xs) (λ s h. omega (arith, h))
    (loadable-from (suc c) (k + splits_of x) xs))

ordered-append : (c : ℕ) (ss ts : List Step) → All (λ s. clause_of s ≡ c) ss → All (λ t. suc c ≤ clause_of t) ts → Ordered ss → Ordered ts
    → Ordered (ss ++ ts)
ordered-append c [] ts h k o q = q
ordered-append c (s ∷ ss) ts h k o q = (
  all_append (Earlier s) ss ts o.0
      (all_map (λ t. suc c ≤ clause_of t) (Earlier s) ts (λ t g. inl (omega (arith, h.0, g))) k),
  ordered-append c ss ts h.1 k o.1 q,
)

loadable-ordered : (c k : ℕ) (xs : List Clause) → Ordered (loadable c k xs)
unfolding loadable
loadable-ordered c k [] = tt
loadable-ordered c k (x ∷ xs) =
    ordered-append c (part_steps c 0 (parts_of k x)) (loadable (suc c) (k + splits_of x) xs)
    (all_map (λ s. (clause_of s ≡ c) × (0 ≤ part_of s)) (λ s. clause_of s ≡ c) (part_steps c 0 (parts_of k x)) (λ s h. h.0)
    (parts_from c 0 (parts_of k x))) (loadable-from (suc c) (k + splits_of x) xs)
    (parts-ordered c 0 (parts_of k x)) (loadable-ordered (suc c) (k + splits_of x) xs)

pub every-part : (p : Problem) → EveryPart p (loadable_of p)
unfolding loadable_of
every-part p =
    record {
      each = loadable-parts p;
      all = λ c x e j l h. let z : 0 + c ≡ c = omega arith in rw z at (loadable-all 0 p.booleans p.clauses c x e j l h);
      ordered = loadable-ordered 0 p.booleans p.clauses;
    }
