-- The new problem beside the old, place by place: each coefficient, and its negative behind it where the variable is split; all else as it
-- was.
use Rattle.std.specs.Prelude.{◌≡◌, ◌⊎◌, Bool, true, false, cond, ℕ, zero, suc, ◌+◌, ◌-◌, ◌≤◌, ◌<◌, ℤ, pos, ltb, get_or}
use Rattle.std.proofs.Math.Path.{refl, sym, ap}
use Rattle.std.proofs.Common.{subst, ◌∙◌, inl, inr, ⊎_elim, arith, ltb→lt, nltb→le}
use mathlib.Core.List.{List, [], ◌∷◌, map}
use Rattle.std.proofs.Math.IntN.{neg_ℤ}
use Rattle.std.proofs.Math.ListN.{length, get_or-eq_default}
use Rattle.rules_types.specs.Limits as limit
use Rattle.rules_types.specs.Layout as layout
use Rattle.rules.specs.Bytes.{from_unsigned}
use Rattle.rules.specs.Problem.{Comparison, Clause, Problem}
use Rattle.rules.specs.Written.{WrittenComparison, WrittenClause, bytes_of, clause_fields, comparison_meant, clause_meant, clauses_meant}
use Rattle.rules.specs.Written.{meaning}
use Rattle.rules.specs.Convert.{kept, place_of, split_row, split_comparison, split_clause, split_problem, written_as, carried_over}
use Rattle.rules.specs.Calls.{sound, read}
use Rattle.theory_lists.specs.Tests.{split}
use Rattle.theory_lists.specs.All.{All, all_both, all_map}
use Rattle.theory_bytes.specs.Bytes.{AllBytes}
use Rattle.theory_conversion.specs.WrittenBack.{FitsAmount, FitsRow, read-as-written, read-rows}
use Rattle.theory_conversion.specs.Length.{length-split_row}
use Rattle.theory_conversion.specs.Turned.{turned-means}
use Rattle.theory_conversion.specs.Rows.{row_first, row-second, meant-at, zero-meant, all-at}

-- ---- the words
-- place i holds a half of a variable below r: its first, or the second of one that is split
pub record HalfOf (keeps : ℕ → Bool) (r i : ℕ) : Type 0 where
  pub variable : ℕ
  pub below : variable < r
  pub is : (i ≡ place_of keeps variable) ⊎ ((keeps variable ≡ false) × (i ≡ suc (place_of keeps variable)))

-- "Any other figure becomes two, the first minus the second, the pair side by side"
pub record SplitRow (keeps : ℕ → Bool) (r : ℕ) (old new : List ℤ) : Type 0 where
  pub first : (f : ℕ) → f < r → get_or new (place_of keeps f) (pos 0) ≡ get_or old f (pos 0)
  pub second : (f : ℕ) → f < r → keeps f ≡ false → get_or new (suc (place_of keeps f)) (pos 0) ≡ neg_ℤ (get_or old f (pos 0))
  pub beyond : (i : ℕ) → place_of keeps r ≤ i → get_or new i (pos 0) ≡ pos 0

-- "all else is copied"
pub record SplitComparison (keeps : ℕ → Bool) (r : ℕ) (old new : Comparison) : Type 0 where
  pub relation : new.relation ≡ old.relation
  pub coefficients : SplitRow keeps r old.coefficients new.coefficients
  pub bound : new.bound ≡ old.bound

-- as many, and each of the one so with its own of the other
abbrev pub Paired : {A : Type 0} → (A → A → Type 0) → List A → List A → Type 0
Paired R [] [] = Unit {0}
Paired R [] (b ∷ t) = ⊥
Paired R (a ∷ s) [] = ⊥
Paired R (a ∷ s) (b ∷ t) = R a b × Paired R s t

pub record SplitClause (keeps : ℕ → Bool) (r : ℕ) (old new : Clause) : Type 0 where
  pub literals : new.literals ≡ old.literals
  pub comparisons : Paired (SplitComparison keeps r) old.comparisons new.comparisons

-- ---- every place is a half's
pub every-half : (keeps : ℕ → Bool) (r i : ℕ) → i < place_of keeps r → HalfOf keeps r i
unfolding place_of
every-half keeps zero i h = absurd (omega arith)
every-half keeps (suc r) i h = ⊎_elim (λ t. earlier (every-half keeps r i (ltb→lt i (place_of keeps r) t)))
    (λ t. by (keeps r) refl h (nltb→le i (place_of keeps r) t)) (split (ltb i (place_of keeps r)))
  where
    earlier : HalfOf keeps r i → HalfOf keeps (suc r) i
    earlier k = record { variable = k.variable; below = (let l = k.below in omega arith); is = k.is }

    by : (t : Bool) → keeps r ≡ t → i < place_of keeps r + cond t 1 2 → place_of keeps r ≤ i → HalfOf keeps (suc r) i
    by true e l m = record { variable = r; below = omega arith; is = inl (omega arith) }
    by false e l m = record {
      variable = r;
      below = omega arith;
      is = ⊎_elim (λ t. let n = ltb→lt (place_of keeps r) i t in inr (e, omega arith))
          (λ t. let n = nltb→le (place_of keeps r) i t in inl (omega arith)) (split (ltb (place_of keeps r) i));
    }

-- ---- a comparison, a clause and the problem
module _ (keeps : ℕ → Bool) (r : ℕ) where
  -- it has r coefficients, which fit
  abbrev Row : WrittenComparison → Type 0
  Row c = FitsRow c × (length c.coefficients ≡ r)

  row-split : (c : WrittenComparison) → Row c
      → SplitRow keeps r (comparison_meant c).coefficients (comparison_meant (split_comparison keeps c)).coefficients
  unfolding split_comparison place_of
  row-split c h =
      let ns = c.coefficients in
      let new = split_comparison keeps c in
      record {
        first = λ f l. let k : f < length ns = omega (arith, h.1) in
            meant-at new (place_of keeps f) ∙ ap from_unsigned (row_first keeps ns f k) ∙ sym (meant-at c f);
        second = λ f l t. let k : f < length ns = omega (arith, h.1) in
            meant-at new (suc (place_of keeps f)) ∙ ap from_unsigned (row-second keeps ns f k t)
            ∙ turned-means (get_or ns f 0) (all-at FitsAmount ns f 0 k h.0) ∙ ap neg_ℤ (sym (meant-at c f));
        beyond = λ i l. let z : 0 + length ns ≡ r = omega (arith, h.1) in
            meant-at new i ∙ ap from_unsigned (get_or-eq_default (split_row keeps 0 ns) 0
            (omega (arith, rw z at (length-split_row keeps 0 ns)))) ∙ zero-meant;
      }

  comparison-split : (c : WrittenComparison) → Row c
      → SplitComparison keeps r (comparison_meant c) (comparison_meant (split_comparison keeps c))
  unfolding comparison_meant split_comparison
  comparison-split c h = record { relation = refl; coefficients = row-split c h; bound = refl }

  comparisons-split : (cs : List WrittenComparison) → All Row cs
      → Paired (SplitComparison keeps r) (map comparison_meant cs) (map comparison_meant (map (split_comparison keeps) cs))
  comparisons-split [] h = tt
  comparisons-split (c ∷ cs) h = (comparison-split c h.0, comparisons-split cs h.1)

  clauses-split : (b start start' : ℕ) (cs : List WrittenClause) → All (λ c. All Row c.comparisons) cs
      → Paired (SplitClause keeps r) (clauses_meant b start' cs) (clauses_meant b start (map (split_clause keeps) cs))
  unfolding clauses_meant clause_meant split_clause
  clauses-split b start start' [] h = tt
  clauses-split b start start' (c ∷ cs) h = (
    record { literals = refl; comparisons = comparisons-split c.comparisons h.0 },
    clauses-split b (start + length (bytes_of (clause_fields b (split_clause keeps c)))) (start' + length (bytes_of (clause_fields b c))) cs
        h.1,
  )

pub carried-clauses : (input : List ℕ) → AllBytes input → (p : Problem) → read input ≡ sound p
    → Paired (SplitClause (kept p) p.rationals) p.clauses (meaning (carried_over p)).clauses
unfolding carried_over split_problem written_as meaning
carried-clauses input h p e =
    let w = read-as-written input h p e in
    let clauses = (written_as p).clauses in
    subst (λ (q : Problem). Paired (SplitClause (kept p) p.rationals) q.clauses (meaning (carried_over p)).clauses) w.means
    (clauses-split (kept p) p.rationals p.booleans layout.first_clause layout.first_clause clauses
    (all_map _ _ clauses (λ c k. all_both FitsRow (λ d. length d.coefficients ≡ p.rationals) c.comparisons k.0 k.1)
    (all_both _ _ clauses (read-rows input h p e) w.writes.writable.coefficients)))
