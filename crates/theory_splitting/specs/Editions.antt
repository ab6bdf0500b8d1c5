-- 02, (v): the clauses that an edition adds. Each has one part and no literal, takes no split variable, is well formed, and says that a
-- rational variable is not below 0.
use Rattle.std.specs.Prelude.{◌≡◌, refl, Bool, true, false, not, cond, ◌||◌, List, [], ◌∷◌, ◌++◌, ℕ, zero, suc, ◌+◌, ◌-◌, ◌≤◌, ◌<◌, ℤ, pos}
use Rattle.std.specs.Prelude.{negsuc, ◌+ℤ◌, ◌*ℤ◌, T, eqb, length, get_or, set, replicate}
use Rattle.std.proofs.Common.{sym, ap, ◌∙◌, append-nil, append_assoc, ⊎_elim, eq-zero-or-pos, arith, ne_eqb, length-append}
use Rattle.std.proofs.Math.Bool.{or-false}
use Rattle.std.proofs.Math.Option.{some}
use Rattle.std.specs.Int.Signed.{le_z}
use Rattle.std.proofs.Math.ListN.{get_or-eq_default}
use Rattle.rules_types.specs.declared.terms.Edition.{Edition}
use Rattle.rules_types.specs.declared.terms.Edition.TheVariants.{First, Second}
use Rattle.rules_types.specs.Limits as limit
use Rattle.rules.specs.Lists.{any, all, tabulate}
use Rattle.rules.specs.Arithmetic.{is_zero, sum}
use Rattle.rules.specs.Problem.{Clause, Problem, non_negative, added, in_edition, is_equality}
use Rattle.rules.specs.Lines.{Line, no_booleans}
use Rattle.rules.specs.Meaning.{Assignment, compared, comparison_holds, clause_holds}
use Rattle.rules.specs.Model.{occurs, is_open}
use Rattle.rules.specs.Split.{parts_of, splits_of}
use Rattle.rules.specs.Steps.{Step, loaded}
use Rattle.rules.specs.Elimination.{part_steps, loadable, loadable_of}
use Rattle.rules.specs.Compute.{definitions}
use Rattle.theory_lists.specs.All.{All, all_append}
use Rattle.theory_lists.specs.Scan.{any_append}
use Rattle.theory_lists.specs.Tabulated.{length-tabulate, get_d_tabulate, all-tabulate}
use Rattle.theory_integers.specs.Ring.{+-identityʳ, *-zeroˡ, *-identityˡ}
use Rattle.theory_vectors.specs.Amounts.{Small}
use Rattle.theory_vectors.specs.Dot.{sum-at, sum-zero}
use Rattle.theory_splitting.specs.WellFormed.{WellFormedClause, equalities, splits_in, WellFormed}

-- ---- the first edition adds none
pub posed-first : (p : Problem) → in_edition First p ≡ p
unfolding added
posed-first p = λ i. record { booleans = p.booleans; rationals = p.rationals; clauses = append-nil p.clauses i }

-- ---- the line of such a clause of the second: -x ≤ 0
abbrev pub unit : ℤ → ℕ → List ℤ
unit z f = tabulate limit.rationals (λ i. cond (eqb i f) z (pos 0))

unfoldable pub non_negative_line : ℕ → Line
non_negative_line f = record {
  positive = no_booleans;
  negative = no_booleans;
  constraint = some (record { strict = false; coefficients = unit (negsuc 0) f; bound = pos 0 });
}

-- by the eight numbers
each-rational : (P : ℕ → Type 0) → P 0 → P 1 → P 2 → P 3 → P 4 → P 5 → P 6 → P 7 → (f : ℕ) → f < limit.rationals → P f
each-rational P a b c d e g h i zero l = a
each-rational P a b c d e g h i (suc zero) l = b
each-rational P a b c d e g h i (suc (suc zero)) l = c
each-rational P a b c d e g h i (suc (suc (suc zero))) l = d
each-rational P a b c d e g h i (suc (suc (suc (suc zero)))) l = e
each-rational P a b c d e g h i (suc (suc (suc (suc (suc zero))))) l = g
each-rational P a b c d e g h i (suc (suc (suc (suc (suc (suc zero)))))) l = h
each-rational P a b c d e g h i (suc (suc (suc (suc (suc (suc (suc zero))))))) l = i
each-rational P a b c d e g h i (suc (suc (suc (suc (suc (suc (suc (suc f)))))))) l = absurd (omega arith)

-- a row of zeros with -1 in it
pub row-added : (f : ℕ) → f < limit.rationals → set (replicate limit.rationals (pos 0)) f (negsuc 0) ≡ unit (negsuc 0) f
unfolding tabulate
row-added = each-rational (λ f. set (replicate limit.rationals (pos 0)) f (negsuc 0) ≡ unit (negsuc 0) f)
    refl refl refl refl refl refl refl refl

pub parts_added : (k f : ℕ) → f < limit.rationals → parts_of k (non_negative f) ≡ non_negative_line f ∷ []
unfolding definitions non_negative_line
parts_added k = each-rational (λ f. parts_of k (non_negative f) ≡ non_negative_line f ∷ []) refl refl refl refl refl refl refl refl

pub splits-added : (f : ℕ) → f < limit.rationals → splits_of (non_negative f) ≡ 0
unfolding definitions
splits-added = each-rational (λ f. splits_of (non_negative f) ≡ 0) refl refl refl refl refl refl refl refl

-- ---- what it says
sum-unit : (x : ℕ → ℤ) (f : ℕ) → f < limit.rationals → sum (unit (pos 1) f) x ≡ x f
unfolding tabulate all is_zero
sum-unit x f h =
    sum-at (unit (pos 1) f) f x
    ∙ (λ i. is_one f h i *ℤ x f +ℤ sum-zero (set (unit (pos 1) f) f (pos 0)) x (others f h) i)
    ∙ +-identityʳ (pos 1 *ℤ x f) ∙ *-identityˡ (x f)
  where
    is_one : (f : ℕ) → f < limit.rationals → get_or (unit (pos 1) f) f (pos 0) ≡ pos 1
    is_one = each-rational (λ f. get_or (unit (pos 1) f) f (pos 0) ≡ pos 1) refl refl refl refl refl refl refl refl

    others : (f : ℕ) → f < limit.rationals → T (all is_zero (set (unit (pos 1) f) f (pos 0)))
    others = each-rational (λ f. T (all is_zero (set (unit (pos 1) f) f (pos 0)))) tt tt tt tt tt tt tt tt

pub holds-added : (χ : Assignment) (f : ℕ) → f < limit.rationals → clause_holds χ (non_negative f) ≡ le_z (pos 0) (χ.numerators f)
unfolding clause_holds comparison_holds compared non_negative any
holds-added χ f h =
    or-false (le_z (pos 0 *ℤ pos χ.denominator) (sum (unit (pos 1) f) χ.numerators))
    ∙ (λ i. le_z (*-zeroˡ (pos χ.denominator) i) (sum-unit χ.numerators f h i))

-- ---- it has no literal
occurs-added : (i : ℕ) (e : Edition) (r : ℕ) → occurs i (added e r) ≡ false
unfolding occurs added any tabulate non_negative
occurs-added i First r = refl
occurs-added i Second r = none r non_negative (λ f. refl)
  where
    none : (n : ℕ) (g : ℕ → Clause) → ((f : ℕ) → any (λ l. eqb l.boolean i) (g f).literals ≡ false)
        → any (λ c. any (λ l. eqb l.boolean i) c.literals) (tabulate n g) ≡ false
    none zero g h = refl
    none (suc n) g h = rw (h 0, none n (λ f. g (suc f)) (λ f. h (suc f)))

-- so it is open where it was
pub open-posed : (e : Edition) (p : Problem) → is_open (in_edition e p) ≡ is_open p
unfolding is_open occurs
open-posed e p = λ k i. not (same i k)
  where
    same : (i : ℕ) → occurs i (p.clauses ++ added e p.rationals) ≡ occurs i p.clauses
    same i =
        any_append (λ c. any (λ l. eqb l.boolean i) c.literals) p.clauses (added e p.rationals)
        ∙ ap (λ (t : Bool). occurs i p.clauses || t) (occurs-added i e p.rationals) ∙ or-false (occurs i p.clauses)

-- ---- well formed
one-zero : (t : Bool) → Small (cond t (pos 1) (pos 0))
one-zero true = omega arith
one-zero false = omega arith

pub formed-added : (b r f : ℕ) → r ≤ limit.rationals → f < r → WellFormedClause b r (non_negative f)
unfolding non_negative equalities is_equality
formed-added b r f few h = record {
  literals = tt;
  comparisons = (
    record {
      coefficients = length-tabulate limit.rationals (λ i. cond (eqb i f) (pos 1) (pos 0));
      beyond = beyond;
      amounts = all-tabulate Small limit.rationals (λ i. cond (eqb i f) (pos 1) (pos 0)) (λ i l. one-zero (eqb i f));
      bound = omega arith;
    },
    tt,
  );
  single = omega arith;
}
  where
    beyond : (i : ℕ) → r ≤ i → get_or (unit (pos 1) f) i (pos 0) ≡ pos 0
    beyond i l = ⊎_elim
        (λ z. get_or-eq_default (unit (pos 1) f) (pos 0)
        (omega (arith, length-tabulate limit.rationals (λ j. cond (eqb j f) (pos 1) (pos 0)))))
        (λ z. get_d_tabulate limit.rationals (λ j. cond (eqb j f) (pos 1) (pos 0)) i (pos 0) (omega arith)
        ∙ ap (λ (t : Bool). cond t (pos 1) (pos 0)) (ne_eqb i f (λ e. omega arith)))
        (eq-zero-or-pos (limit.rationals - i))

splits-none : (e : Edition) (r : ℕ) → r ≤ limit.rationals → splits_in (added e r) ≡ 0
unfolding added tabulate
splits-none First r few = refl
splits-none Second r few = none r non_negative (λ f h. splits-added f (omega arith))
  where
    none : (n : ℕ) (g : ℕ → Clause) → ((f : ℕ) → f < n → splits_of (g f) ≡ 0) → splits_in (tabulate n g) ≡ 0
    none zero g h = refl
    none (suc n) g h = omega (arith, h 0 (omega arith), none n (λ f. g (suc f)) (λ f l. h (suc f) (omega arith)))

splits-append : (xs ys : List Clause) → splits_in (xs ++ ys) ≡ splits_in xs + splits_in ys
splits-append [] ys = omega arith
splits-append (x ∷ xs) ys = omega (arith, splits-append xs ys)

pub length-added : (e : Edition) (r : ℕ) → length (added e r) ≤ r
unfolding added
length-added First r = omega arith
length-added Second r = omega (arith, length-tabulate r non_negative)

-- the first so many of them
pub added-tabulated : (e : Edition) (r : ℕ) → added e r ≡ tabulate (length (added e r)) non_negative
unfolding added tabulate
added-tabulated First r = refl
added-tabulated Second r = ap (λ (n : ℕ). tabulate n non_negative) (sym (length-tabulate r non_negative))

pub posed-formed : (p : Problem) → p.booleans ≤ limit.booleans → p.rationals ≤ limit.rationals → length p.clauses ≤ limit.clauses
    → All (WellFormedClause p.booleans p.rationals) p.clauses → splits_in p.clauses ≤ limit.splits
    → (e : Edition) → WellFormed (in_edition e p)
unfolding added
posed-formed p b r few c s e = record {
  booleans = b;
  rationals = r;
  few = omega (arith, few, length-append p.clauses (added e p.rationals), length-added e p.rationals);
  clauses = all_append (WellFormedClause p.booleans p.rationals) p.clauses (added e p.rationals) c (formed e);
  splits = omega (arith, splits-append p.clauses (added e p.rationals), splits-none e p.rationals r);
}
  where
    formed : (e : Edition) → All (WellFormedClause p.booleans p.rationals) (added e p.rationals)
    formed First = tt
    formed Second = all-tabulate (WellFormedClause p.booleans p.rationals) p.rationals non_negative
        (λ f h. formed-added p.booleans p.rationals f r h)

-- ---- loading
pub loadable-append : (c k : ℕ) (xs ys : List Clause)
    → loadable c k (xs ++ ys) ≡ loadable c k xs ++ loadable (c + length xs) (k + splits_in xs) ys
unfolding loadable
loadable-append c k [] ys = let e : c ≡ c + 0 = omega arith in let f : k ≡ k + 0 = omega arith in λ i. loadable (e i) (f i) ys
loadable-append c k (x ∷ xs) ys =
    let e : suc c + length xs ≡ c + suc (length xs) = omega arith in
    let f : k + splits_of x + splits_in xs ≡ k + (splits_of x + splits_in xs) = omega arith in
    ap (λ (ss : List Step). part_steps c 0 (parts_of k x) ++ ss)
    (loadable-append (suc c) (k + splits_of x) xs ys ∙ (λ i. loadable (suc c) (k + splits_of x) xs ++ loadable (e i) (f i) ys))
    ∙ sym (append_assoc (part_steps c 0 (parts_of k x)) (loadable (suc c) (k + splits_of x) xs) _)

-- clause c + f, part 0
abbrev pub added_step : ℕ → ℕ → Step
added_step c f = record { origin = loaded (c + f) 0; line = non_negative_line f }

pub loadable-added : (c k n : ℕ) → n ≤ limit.rationals → loadable c k (tabulate n non_negative) ≡ tabulate n (added_step c)
unfolding loadable part_steps tabulate
loadable-added c k n few = one_each c k n non_negative non_negative_line (λ k f h. parts_added k f (omega arith))
    (λ f h. splits-added f (omega arith))
  where
    one_each : (c k n : ℕ) (g : ℕ → Clause) (l : ℕ → Line) → ((k f : ℕ) → f < n → parts_of k (g f) ≡ l f ∷ [])
        → ((f : ℕ) → f < n → splits_of (g f) ≡ 0)
        → loadable c k (tabulate n g) ≡ tabulate n (λ f. record { origin = loaded (c + f) 0; line = l f })
    one_each c k zero g l h z = refl
    one_each c k (suc n) g l h z =
        let e : c ≡ c + 0 = omega arith in
        rw (h k 0 (omega arith), z 0 (omega arith))
        ((λ i. record { origin = loaded (e i) 0; line = l 0 } ∷ one_each (suc c) (k + 0) n (λ f. g (suc f)) (λ f. l (suc f))
        (λ k f t. h k (suc f) (omega arith)) (λ f t. z (suc f) (omega arith)) i)
        ∙ (λ i. record { origin = loaded (c + 0) 0; line = l 0 }
        ∷ tabulate n (λ f. record { origin = loaded (shift f i) 0; line = l (suc f) })))
      where
        shift : (f : ℕ) → suc c + f ≡ c + suc f
        shift f = omega arith

-- a problem's parts, then those that its edition adds
pub loadable-posed : (e : Edition) (p : Problem) → p.rationals ≤ limit.rationals
    → loadable_of (in_edition e p) ≡ loadable_of p ++ tabulate (length (added e p.rationals)) (added_step (length p.clauses))
unfolding loadable_of loadable added tabulate
loadable-posed e p few =
    let n = length p.clauses in
    let z : 0 + n ≡ n = omega arith in
    loadable-append 0 p.booleans p.clauses (added e p.rationals)
    ∙ ap (λ (ss : List Step). loadable_of p ++ ss)
    (by e (0 + n) ∙ ap (λ (c : ℕ). tabulate (length (added e p.rationals)) (added_step c)) z)
  where
    by : (e : Edition) (c : ℕ) → loadable c (p.booleans + splits_in p.clauses) (added e p.rationals)
        ≡ tabulate (length (added e p.rationals)) (added_step c)
    by First c = refl
    by Second c =
        loadable-added c (p.booleans + splits_in p.clauses) p.rationals few
        ∙ ap (λ (m : ℕ). tabulate m (added_step c)) (sym (length-tabulate p.rationals non_negative))
