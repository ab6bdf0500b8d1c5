-- Each line that is loaded is the part that its origin names, with the split variables of its clause.
use Rattle.std.specs.Prelude.{◌≡◌, refl, List, [], ◌∷◌, ℕ, zero, suc, ◌+◌, ◌≤◌, ◌<◌, T, take}
use Rattle.std.proofs.Common.{ap, ◌∙◌, arith}
use Rattle.std.proofs.Math.Option.{some}
use Rattle.std.proofs.Math.ListN.{get_elem?}
use Rattle.rules.specs.Problem.{Clause, Problem}
use Rattle.rules.specs.Lines.{Line, boolean, contains}
use Rattle.rules.specs.Split.{parts_of, splits_of}
use Rattle.rules.specs.Steps.{Step, loaded}
use Rattle.rules.specs.Elimination.{part_steps, loadable, loadable_of}
use Rattle.theory_lists.specs.All.{All, all_map, all_append}
use Rattle.theory_lists.specs.Places.{element-any, element-all}
use Rattle.theory_splitting.specs.WellFormed.{WellFormedClause, splits_in, WellFormed}
use Rattle.theory_splitting.specs.SplitReadings.{splits-apart}

-- a part of these, the first of which is named `from`
pub record PartOf (c from : ℕ) (ls : List Line) (s : Step) : Type 0 where
  pub part : ℕ
  pub origin : s.origin ≡ loaded c (from + part)
  pub at : get_elem? ls part ≡ some s.line

parts-named : (c from : ℕ) (ls : List Line) → All (PartOf c from ls) (part_steps c from ls)
unfolding part_steps
parts-named c from [] = tt
parts-named c from (l ∷ ls) = (
  record { part = 0; origin = ap (loaded c) (let z : from ≡ from + 0 = omega arith in z); at = refl },
  all_map (PartOf c (suc from) ls) (PartOf c from (l ∷ ls)) (part_steps c (suc from) ls)
      (λ s h. record {
        part = suc h.part;
        origin = h.origin ∙ ap (loaded c)
            (let z : suc from + h.part ≡ from + suc h.part = omega arith in z);
        at = h.at;
      }) (parts-named c (suc from) ls),
)

-- a part of one of these clauses, the first of which is clause c and has split variables from k on
pub record PartAmong (c k : ℕ) (clauses : List Clause) (s : Step) : Type 0 where
  pub number : ℕ
  pub clause : Clause
  pub at : get_elem? clauses number ≡ some clause
  pub part : PartOf (c + number) 0 (parts_of (k + splits_in (take number clauses)) clause) s

loadable-named : (c k : ℕ) (clauses : List Clause) → All (PartAmong c k clauses) (loadable c k clauses)
unfolding loadable
loadable-named c k [] = tt
loadable-named c k (x ∷ xs) =
    all_append (PartAmong c k (x ∷ xs)) (part_steps c 0 (parts_of k x)) (loadable (suc c) (k + splits_of x) xs)
    (all_map (PartOf c 0 (parts_of k x)) (PartAmong c k (x ∷ xs)) (part_steps c 0 (parts_of k x)) first (parts-named c 0 (parts_of k x)))
    (all_map (PartAmong (suc c) (k + splits_of x) xs) (PartAmong c k (x ∷ xs)) (loadable (suc c) (k + splits_of x) xs) later
    (loadable-named (suc c) (k + splits_of x) xs))
  where
    first : (s : Step) → PartOf c 0 (parts_of k x) s → PartAmong c k (x ∷ xs) s
    first s h =
        let e : c + 0 ≡ c = omega arith in
        let f : k + 0 ≡ k = omega arith in
        record { number = 0; clause = x; at = refl; part = rw (e, f) h }

    later : (s : Step) → PartAmong (suc c) (k + splits_of x) xs s → PartAmong c k (x ∷ xs) s
    later s h =
        let n = h.number in
        let e : c + suc n ≡ suc c + n = omega arith in
        let f : k + (splits_of x + splits_in (take n xs)) ≡ k + splits_of x + splits_in (take n xs) = omega arith in
        record { number = suc n; clause = h.clause; at = h.at; part = rw (e, f) h.part }

pub loadable-parts : (p : Problem) → All (PartAmong 0 p.booleans p.clauses) (loadable_of p)
unfolding loadable_of
loadable-parts p = loadable-named 0 p.booleans p.clauses

-- ---- so the split variables of different clauses never meet
-- a later clause's split variables begin after this one's
split-variables-before : (clauses : List Clause) (i j : ℕ) (x : Clause) → get_elem? clauses i ≡ some x → i < j
    → splits_in (take i clauses) + splits_of x ≤ splits_in (take j clauses)
split-variables-before [] i j x e h = absurd (let z : ◌≡◌ {A = ℕ} 0 1 = cc in omega arith)
split-variables-before (c ∷ cs) zero zero x e h = absurd (omega arith)
split-variables-before (c ∷ cs) zero (suc j) x e h = let q : c ≡ x = cc in rw q (omega arith)
split-variables-before (c ∷ cs) (suc i) zero x e h = absurd (omega arith)
split-variables-before (c ∷ cs) (suc i) (suc j) x e h = let r = split-variables-before cs i j x e (omega arith) in omega arith

-- what occurs in parts of two clauses is a variable of the problem
pub split-variables-apart : (p : Problem) → WellFormed p
    → (s t : Step) (h : PartAmong 0 p.booleans p.clauses s) (k : PartAmong 0 p.booleans p.clauses t) → h.number < k.number
    → (i : ℕ) → T (contains (boolean i) s.line) → T (contains (boolean i) t.line) → i < p.booleans
split-variables-apart p w s t h k less i a b =
    let z = split-variables-before p.clauses h.number k.number h.clause h.at less in
    let occurs : Line → Type 0 = λ l. T (contains (boolean i) l) in
    let before : ℕ → ℕ = λ n. p.booleans + splits_in (take n p.clauses) in
    splits-apart p.booleans p.rationals h.clause k.clause (element-all (WellFormedClause p.booleans p.rationals)
    p.clauses h.number h.clause h.at w.clauses) (element-all (WellFormedClause p.booleans p.rationals) p.clauses
    k.number k.clause k.at w.clauses) (before h.number) (before k.number) (omega arith) (omega arith) i
    (element-any occurs (parts_of (before h.number) h.clause) h.part.part s.line h.part.at a)
    (element-any occurs (parts_of (before k.number) k.clause) k.part.part t.line k.part.at b)
