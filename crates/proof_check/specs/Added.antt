-- The parts of the clauses that an edition adds, by their numbers: one each, whatever the split variables before them.
use Rattle.std.specs.Prelude.{◌≡◌, refl}
use Rattle.std.proofs.Common.{sym, ◌∙◌, ⊎_elim, eq-zero-or-pos, arith}
use Rattle.std.proofs.Math.Path.{ap}
use mathlib.Core.List.{List, [], ◌∷◌, ◌++◌}
use Rattle.std.proofs.Math.Option.{none}
use Prim.Native.Nat.{ℕ, zero, suc, ◌+◌, ◌-◌, ◌≤◌, ◌<◌}
use Rattle.std.proofs.Math.ListN.{length, get_elem?}
use Rattle.rules_types.specs.declared.terms.Edition.{Edition}
use Rattle.rules_types.specs.declared.terms.Edition.TheVariants.{First, Second}
use Rattle.rules_types.specs.Limits as limit
use Rattle.rules.specs.Lists.{tabulate}
use Rattle.rules.specs.Problem.{Clause, non_negative, added}
use Rattle.rules.specs.Lines.{Line}
use Rattle.rules.specs.Split.{parts_of, splits_of}
use Rattle.theory_lists.specs.Tabulated.{length-tabulate}
use Rattle.theory_splitting.specs.WellFormed.{splits_in}
use Rattle.theory_splitting.specs.Editions.{non_negative_line, parts_added}
use Rattle.step_check.specs.Named.{part_named, Few}

-- ---- clauses in front of others
pub few-append : (xs ys : List Clause) → Few xs → Few ys → Few (xs ++ ys)
few-append [] ys h k = k
few-append (x ∷ xs) ys h k = (h.0, few-append xs ys h.1 k)

pub named-front : (base : ℕ) (xs ys : List Clause) (c k : ℕ) → c < length xs → part_named base (xs ++ ys) c k ≡ part_named base xs c k
unfolding part_named
named-front base [] ys c k h = absurd (omega arith)
named-front base (x ∷ xs) ys zero k h = refl
named-front base (x ∷ xs) ys (suc c) k h = named-front (base + splits_of x) xs ys c k (omega arith)

pub named-behind : (base : ℕ) (xs ys : List Clause) (c k : ℕ) → length xs ≤ c
    → part_named base (xs ++ ys) c k ≡ part_named (base + splits_in xs) ys (c - length xs) k
unfolding part_named
named-behind base [] ys c k h =
    let e : base ≡ base + 0 = omega arith in
    let f : c ≡ c - 0 = omega arith in
    λ i. part_named (e i) ys (f i) k
named-behind base (x ∷ xs) ys zero k h = absurd (omega arith)
named-behind base (x ∷ xs) ys (suc c) k h =
    let e : base + splits_of x + splits_in xs ≡ base + (splits_of x + splits_in xs) = omega arith in
    let f : c - length xs ≡ suc c - suc (length xs) = omega arith in
    named-behind (base + splits_of x) xs ys c k (omega arith) ∙ (λ i. part_named (e i) ys (f i) k)

pub named-beyond : (base : ℕ) (xs : List Clause) (c k : ℕ) → length xs ≤ c → part_named base xs c k ≡ none
unfolding part_named
named-beyond base [] c k h = refl
named-beyond base (x ∷ xs) zero k h = absurd (omega arith)
named-beyond base (x ∷ xs) (suc c) k h = named-beyond (base + splits_of x) xs c k (omega arith)

-- ---- those of an edition
module _ (e : Edition) (r : ℕ) (small : r ≤ limit.rationals) where
  pub few-added : Few (added e r)
  unfolding added tabulate
  few-added = by e
    where
      ones : (n : ℕ) (g : ℕ → Clause) (l : ℕ → Line) → ((k f : ℕ) → f < n → parts_of k (g f) ≡ l f ∷ []) → Few (tabulate n g)
      ones zero g l h = tt
      ones (suc n) g l h = (
        λ base. omega (arith, ap length (h base 0 (omega arith))),
        ones n (λ f. g (suc f)) (λ f. l (suc f)) (λ k f t. h k (suc f) (omega arith)),
      )

      by : (e : Edition) → Few (added e r)
      by First = tt
      by Second = ones r non_negative non_negative_line (λ k f h. parts_added k f (omega arith))

  -- the one part of a clause
  pub named-added : (base c k : ℕ) → c < length (added e r) → part_named base (added e r) c k ≡ get_elem? (non_negative_line c ∷ []) k
  unfolding added tabulate part_named
  named-added = by e
    where
      ones : (n : ℕ) (g : ℕ → Clause) (l : ℕ → Line) → ((k f : ℕ) → f < n → parts_of k (g f) ≡ l f ∷ [])
          → (base c k : ℕ) → c < n → part_named base (tabulate n g) c k ≡ get_elem? (l c ∷ []) k
      ones zero g l h base c k t = absurd (omega arith)
      ones (suc n) g l h base zero k t = ap (λ (ls : List Line). get_elem? ls k) (h base 0 (omega arith))
      ones (suc n) g l h base (suc c) k t =
          ones n (λ f. g (suc f)) (λ f. l (suc f)) (λ k f u. h k (suc f) (omega arith)) (base + splits_of (g 0)) c k (omega arith)

      by : (e : Edition) (base c k : ℕ) → c < length (added e r) → part_named base (added e r) c k ≡ get_elem? (non_negative_line c ∷ []) k
      by First base c k h = absurd (omega arith)
      by Second base c k h = ones r non_negative non_negative_line (λ k f t. parts_added k f (omega arith)) base c k
          (omega (arith, length-tabulate r non_negative))

  -- whatever the split variables before
  pub named-free : (base c k : ℕ) → part_named base (added e r) c k ≡ part_named 0 (added e r) c k
  named-free base c k = ⊎_elim
      (λ z. named-beyond base (added e r) c k (omega arith) ∙ sym (named-beyond 0 (added e r) c k (omega arith)))
      (λ z. named-added base c k (omega arith) ∙ sym (named-added 0 c k (omega arith)))
      (eq-zero-or-pos (length (added e r) - c))
