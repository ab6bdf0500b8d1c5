-- 02, (iv): which Boolean variables stand in a clause, as it is written, and which are open.
use Rattle.std.specs.Prelude.{◌≡◌, refl, ◌↔◌, not, false, List, [], ◌∷◌, ℕ, T, eqb}
use Rattle.std.proofs.Common.{inl, inr, ⊎_elim, eqb→eq}
use Rattle.std.proofs.lemmas.Bool.{not-false}
use Rattle.std.proofs.Math.Dec.{eqb_refl}
use Rattle.rules.specs.Lists.{any}
use Rattle.rules.specs.Problem.{Literal, Clause, Problem}
use Rattle.rules.specs.Model.{occurs, is_open}
use Rattle.theory_lists.specs.Tests.{split, of-true, is_false, clash}
use Rattle.theory_lists.specs.All.{All, Any, all_map, any-map, any-yes, yes-any}

-- a literal of a clause has the variable
abbrev pub Stands : ℕ → List Clause → Type 0
Stands i cs = Any (λ c. Any (λ l. l.boolean ≡ i) c.literals) cs

pub occurs-exactly : (i : ℕ) (cs : List Clause) → T (occurs i cs) ↔ Stands i cs
unfolding occurs
occurs-exactly i cs = (
  λ t. any-map _ _ cs (λ c h. any-map _ _ c.literals (λ l e. eqb→eq l.boolean i e)
      (any-yes (λ l. eqb l.boolean i) c.literals h))
      (any-yes (λ c. any (λ l. eqb l.boolean i) c.literals) cs t),
  λ h. yes-any (λ c. any (λ l. eqb l.boolean i) c.literals) cs
      (any-map _ _ cs (λ c k. yes-any (λ l. eqb l.boolean i) c.literals
      (any-map _ _ c.literals (λ l e. rw e (eqb_refl i)) k)) h),
)

-- "a mark that stands in no clause as read"
pub open-exactly : (p : Problem) (i : ℕ) → T (is_open p i) ↔ (Stands i p.clauses → ⊥)
unfolding is_open
open-exactly p i =
    let stands = occurs i p.clauses in
    let e = occurs-exactly i p.clauses in
    (λ t h. clash stands (e.1 h) t, λ n. ⊎_elim (λ t. absurd (n (e.0 t))) (λ t. t) (split stands))

pub closed-stands : (p : Problem) (i : ℕ) → is_open p i ≡ false → Stands i p.clauses
unfolding is_open
closed-stands p i e = let stands = occurs i p.clauses in (occurs-exactly i p.clauses).0 (of-true stands (not-false stands e))

-- ---- every literal's variable stands in its clause, so it is not open
its_own : (ls : List Literal) → All (λ l. Any (λ k. k.boolean ≡ l.boolean) ls) ls
its_own [] = tt
its_own (l ∷ ls) = (inl refl, all_map _ _ ls (λ k h. inr h) (its_own ls))

literals-stand : (cs : List Clause) → All (λ c. All (λ l. Stands l.boolean cs) c.literals) cs
literals-stand [] = tt
literals-stand (c ∷ cs) = (
  all_map _ _ c.literals (λ l h. inl h) (its_own c.literals),
  all_map _ _ cs (λ d h. all_map _ _ d.literals (λ l k. inr k) h) (literals-stand cs),
)

pub literals-closed : (p : Problem) → All (λ c. All (λ l. is_open p l.boolean ≡ false) c.literals) p.clauses
literals-closed p =
    all_map _ _ p.clauses (λ c h. all_map _ _ c.literals (λ l k. is_false (is_open p l.boolean) (closed l.boolean k)) h)
    (literals-stand p.clauses)
  where
    closed : (i : ℕ) → Stands i p.clauses → T (not (is_open p i))
    closed i h = ⊎_elim (λ t. absurd ((open-exactly p i).0 t h)) (λ t. t) (split (is_open p i))
