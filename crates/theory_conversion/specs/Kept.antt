-- Which rational variables are kept, in the document's words, and that a kept one is not below 0 in any solution.
use Rattle.std.specs.Prelude.{◌≡◌, refl, ◌↔◌, ◌⊎◌, true, ◌&&◌, List, [], ◌∷◌, ℕ, zero, suc, ◌*◌, ℤ, negsuc, ◌+ℤ◌, ◌*ℤ◌, ◌≤ℤ◌, ◌<ℤ◌, get_or}
use Rattle.std.proofs.Common.{ap, ◌∙◌, inl, inr, arith}
use Rattle.std.proofs.Math.Logic.{⊎_elim}
use Rattle.std.proofs.Math.Bool.{false}
use Rattle.std.proofs.Math.IntN.{pos}
use Rattle.std.specs.Int.Signed.{le_z}
use Rattle.std.proofs.Math.Dec.{T}
use Rattle.std.proofs.Math.Facts.{and_yes, yes_and, or_yes}
use Rattle.rules.specs.Lists.{any, all}
use Rattle.rules.specs.Arithmetic.{sum, is_negative, is_zero}
use Rattle.rules.specs.Problem.{Literal, Relation, le, lt, eq, ge, Comparison, Clause, Problem}
use Rattle.rules.specs.Meaning.{Assignment, compared, comparison_holds, clause_holds, Satisfies}
use Rattle.rules.specs.Convert.{negative_alone, is_upper, sole_bound, kept_by, kept}
use Rattle.theory_lists.specs.Tests.{is_true, of-true}
use Rattle.theory_lists.specs.All.{Any, all_any, any-map, any-yes, yes-any, all_yes}
use Rattle.theory_integers.specs.Difference.{#, ⊝, ≤-by, ≤-from, <-from}
use Rattle.theory_integers.specs.Order.{≤_trans, <⇒≤}
use Rattle.theory_integers.specs.Ring.{ring, +-identityʳ}
use Rattle.theory_vectors.specs.Sign.{negative-yes, yes-negative, zero-yes, yes-zero}
use Rattle.theory_vectors.specs.Dot.{get_or-zero, sum-zero}

-- ---- the words
-- "some clause without literals has as its sole condition a negative multiple of this figure alone, written with relation 1 or 2 and a
-- bound of at most 0"
pub record KeptBy (f : ℕ) (c : Clause) : Type 0 where
  pub literals : c.literals ≡ []
  pub condition : Comparison
  pub sole : c.comparisons ≡ condition ∷ []
  pub relation : (condition.relation ≡ le) ⊎ (condition.relation ≡ lt)
  pub bound : condition.bound ≤ℤ pos 0
  pub negative : get_or condition.coefficients f (pos 0) <ℤ pos 0
  pub alone : (g : ℕ) → (g ≡ f → ⊥) → get_or condition.coefficients g (pos 0) ≡ pos 0

-- "A converter keeps a figure if some clause" is so
abbrev pub Keeps : Problem → ℕ → Type 0
Keeps p f = Any (KeptBy f) p.clauses

-- ---- the test of the coefficients
abbrev Alone : ℕ → List ℤ → Type 0
Alone f cs = (get_or cs f (pos 0) <ℤ pos 0) × ((g : ℕ) → (g ≡ f → ⊥) → get_or cs g (pos 0) ≡ pos 0)

alone-yes : (f : ℕ) (cs : List ℤ) → T (negative_alone f cs) → Alone f cs
unfolding negative_alone
alone-yes f [] h = absurd h
alone-yes zero (c ∷ cs) h =
    let r = and_yes (is_negative c) (all is_zero cs) h in
    (negative-yes c r.0, elim [ zero ↦ λ n. absurd (n refl) | suc g ↦ λ n. get_or-zero cs g r.1 ])
alone-yes (suc f) (c ∷ cs) h =
    let r = and_yes (is_zero c) (negative_alone f cs) h in
    let k = alone-yes f cs r.1 in
    (k.0, elim [ zero ↦ λ n. zero-yes c r.0 | suc g ↦ λ n. k.1 g (λ e. n (ap suc e)) ])

zero-all : (cs : List ℤ) → ((g : ℕ) → get_or cs g (pos 0) ≡ pos 0) → T (all is_zero cs)
unfolding all
zero-all [] h = tt
zero-all (c ∷ cs) h = yes_and (is_zero c) (all is_zero cs) (yes-zero (h 0)) (zero-all cs (λ g. h (suc g)))

yes-alone : (f : ℕ) (cs : List ℤ) → Alone f cs → T (negative_alone f cs)
unfolding negative_alone
yes-alone f [] h = absurd h.0.lt
yes-alone zero (c ∷ cs) h =
    yes_and (is_negative c) (all is_zero cs) (yes-negative h.0) (zero-all cs (λ g. h.1 (suc g) (λ e. omega arith)))
yes-alone (suc f) (c ∷ cs) h =
    yes_and (is_zero c) (negative_alone f cs) (yes-zero (h.1 0 (λ e. omega arith)))
    (yes-alone f cs (h.0, λ g n. h.1 (suc g) (λ e. n (omega arith))))

-- ---- the test of the clause
upper-yes : (ρ : Relation) → T (is_upper ρ) → (ρ ≡ le) ⊎ (ρ ≡ lt)
unfolding is_upper
upper-yes le h = inl refl
upper-yes lt h = inr refl
upper-yes eq h = absurd h
upper-yes ge h = absurd h

yes-upper : (ρ : Relation) → (ρ ≡ le) ⊎ (ρ ≡ lt) → T (is_upper ρ)
unfolding is_upper
yes-upper ρ (inl e) = rw e tt
yes-upper ρ (inr e) = rw e tt

kept-by-yes : (f start : ℕ) (ls : List Literal) (cs : List Comparison)
    → T (kept_by f (record { start = start; literals = ls; comparisons = cs }))
    → KeptBy f (record { start = start; literals = ls; comparisons = cs })
unfolding kept_by sole_bound
kept-by-yes f start [] [] h = absurd h
kept-by-yes f start [] (c ∷ []) h =
    let r = and_yes (is_upper c.relation && le_z c.bound (pos 0)) (negative_alone f c.coefficients) h in
    let q = and_yes (is_upper c.relation) (le_z c.bound (pos 0)) r.0 in
    let k = alone-yes f c.coefficients r.1 in
    record {
      literals = refl;
      condition = c;
      sole = refl;
      relation = upper-yes c.relation q.0;
      bound = record { le = q.1 };
      negative = k.0;
      alone = k.1;
    }
kept-by-yes f start [] (c ∷ d ∷ cs) h = absurd h
kept-by-yes f start (l ∷ ls) cs h = absurd h

yes-kept-by : (f : ℕ) (c : Clause) → KeptBy f c → T (kept_by f c)
unfolding kept_by sole_bound
yes-kept-by f c h =
    let k = h.condition in
    rw (h.literals, h.sole, kept_by)
    (yes_and (is_upper k.relation && le_z k.bound (pos 0)) (negative_alone f k.coefficients)
    (yes_and (is_upper k.relation) (le_z k.bound (pos 0)) (yes-upper k.relation h.relation) h.bound.le)
    (yes-alone f k.coefficients (h.negative, h.alone)))

pub kept-exactly : (p : Problem) (f : ℕ) → (kept p f ≡ true) ↔ Keeps p f
unfolding kept
kept-exactly p f = (
  λ e. any-map _ _ p.clauses (λ c h. kept-by-yes f c.start c.literals c.comparisons h)
      (any-yes (kept_by f) p.clauses (of-true (kept p f) e)),
  λ h. is_true (kept p f) (yes-any (kept_by f) p.clauses (any-map _ _ p.clauses (yes-kept-by f) h)),
)

-- ---- it is not below 0
-- a negative multiple of it
sum-alone : (f : ℕ) (cs : List ℤ) (x : ℕ → ℤ) → T (negative_alone f cs) → sum cs x ≡ get_or cs f (pos 0) *ℤ x f
unfolding sum negative_alone
sum-alone f [] x h = absurd h
sum-alone zero (c ∷ cs) x h =
    ap (λ (z : ℤ). c *ℤ x 0 +ℤ z) (sum-zero cs (λ i. x (suc i)) (and_yes (is_negative c) (all is_zero cs) h).1) ∙ +-identityʳ (c *ℤ x 0)
sum-alone (suc f) (c ∷ cs) x h =
    let r = and_yes (is_zero c) (negative_alone f cs) h in
    (λ i. zero-yes c r.0 i *ℤ x 0 +ℤ sum-alone f cs (λ i. x (suc i)) r.1 i) ∙ first (x 0) (get_or cs f (pos 0) *ℤ x (suc f))
  where
    first : (a b : ℤ) → pos 0 *ℤ a +ℤ b ≡ b
    first a b = simp ring

over_zero : (a x : ℤ) → a <ℤ pos 0 → (a *ℤ x) ≤ℤ pos 0 → pos 0 ≤ℤ x
over_zero a (pos n) h k = ≤-by (# 0) (# n) (omega arith)
over_zero (pos m) (negsuc n) h k = absurd (omega (arith, <-from (# m) (# 0) h))
over_zero (negsuc m) (negsuc n) h k = absurd (omega (arith, ≤-from (# (suc m * suc n)) (# 0) k))

bound-zero : (β : ℤ) (d : ℕ) → β ≤ℤ pos 0 → (β *ℤ pos d) ≤ℤ pos 0
bound-zero (pos n) d h = let e : n ≡ 0 = omega (arith, ≤-from (# n) (# 0) h) in ≤-by (# (n * d)) (# 0) (rw e (omega arith))
bound-zero (negsuc n) d h = ≤-by (⊝ (# (suc n * d))) (# 0) (omega arith)

module _ (χ : Assignment) (f : ℕ) where
  at-most : (ρ : Relation) (a b : ℤ) → T (is_upper ρ) → T (compared ρ a b) → a ≤ℤ b
  unfolding compared is_upper
  at-most le a b r h = record { le = h }
  at-most lt a b r h = <⇒≤ (record { lt = h })
  at-most eq a b r h = absurd r
  at-most ge a b r h = absurd r

  clause-bounds : (c : Clause) → T (clause_holds χ c) → KeptBy f c → pos 0 ≤ℤ χ.numerators f
  unfolding clause_holds any comparison_holds
  clause-bounds c t h =
      let k = h.condition in
      let cs = k.coefficients in
      let x = χ.numerators in
      let holds : T (comparison_holds χ k) =
      ⊎_elim (λ z. z) (λ z. absurd z) (or_yes (comparison_holds χ k) false (rw (h.literals, h.sole, clause_holds) at t)) in
      let less = at-most k.relation (sum cs x) (k.bound *ℤ pos χ.denominator) (yes-upper k.relation h.relation) holds in
      over_zero (get_or cs f (pos 0)) (x f) h.negative
      (rw (← sum-alone f cs x (yes-alone f cs (h.negative, h.alone))) (≤_trans less (bound-zero k.bound χ.denominator h.bound)))

  pub kept-bounds : (p : Problem) → kept p f ≡ true → Satisfies χ p → pos 0 ≤ℤ χ.numerators f
  kept-bounds p e s =
      all_any _ (KeptBy f) p.clauses clause-bounds (all_yes (clause_holds χ) p.clauses s.clauses) ((kept-exactly p f).0 e)
