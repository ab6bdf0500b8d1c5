-- The new problem's length: four bytes more for each comparison and each rational variable that becomes two.
use Rattle.std.specs.Prelude.{◌≡◌, refl, Bool, true, cond, ◌||◌, ℕ, zero, suc, ◌+◌, ◌*◌, ◌-◌, ◌≤◌}
use Rattle.std.proofs.Common.{ap, length-append}
use Rattle.std.proofs.Math.Bool.{false}
use mathlib.Core.List.{List, [], ◌∷◌, ◌++◌, map}
use native.Mathlib.Omega.{arith}
use Rattle.std.proofs.Math.Dec.{eqb}
use Rattle.std.proofs.Math.ListN.{length}
use Rattle.std.proofs.lemmas.List.{length-map}
use Rattle.rules.specs.Lists.{concat}
use Rattle.rules.specs.Problem.{Clause, Problem}
use Rattle.rules.specs.Written.{Field, field_bytes, bytes_of, amount_fields, relation_field, comparison_fields, comparisons_fields}
use Rattle.rules.specs.Written.{literals_fields, comparison_list_fields, clause_fields, header_fields, fields_of}
use Rattle.rules.specs.Written.{WrittenComparison, WrittenClause}
use Rattle.rules.specs.Convert.{kept, place_of, turned, split_row, split_comparison, split_clause, split_problem, written_as}
use Rattle.rules.specs.Convert.{written_comparison, written_clause, carried_over, carried_over_bytes}
use Rattle.rules.specs.Calls.{sound, read}
use Rattle.theory_lists.specs.All.{All}
use Rattle.theory_bytes.specs.Bytes.{AllBytes, length-to_bytes}
use Rattle.theory_conversion.specs.WrittenBack.{read-as-written}

-- ---- how many there are
-- the comparisons of all clauses
unfoldable pub comparisons_in : List Clause → ℕ
comparisons_in [] = 0
comparisons_in (c ∷ cs) = length c.comparisons + comparisons_in cs

-- of r rational variables come at least r, and at most twice as many
pub place-low : (keeps : ℕ → Bool) (r : ℕ) → r ≤ place_of keeps r
unfolding place_of
place-low keeps zero = omega arith
place-low keeps (suc f) = by (keeps f) (place-low keeps f)
  where
    by : (t : Bool) → f ≤ place_of keeps f → suc f ≤ place_of keeps f + cond t 1 2
    by true h = omega arith
    by false h = omega arith

pub place-high : (keeps : ℕ → Bool) (r : ℕ) → place_of keeps r ≤ 2 * r
unfolding place_of
place-high keeps zero = omega arith
place-high keeps (suc f) = by (keeps f) (place-high keeps f)
  where
    by : (t : Bool) → place_of keeps f ≤ 2 * f → place_of keeps f + cond t 1 2 ≤ 2 * suc f
    by true h = omega arith
    by false h = omega arith

-- the halves of the variables from f on, behind those before
pub length-split_row : (keeps : ℕ → Bool) (f : ℕ) (ns : List ℕ)
    → place_of keeps f + length (split_row keeps f ns) ≡ place_of keeps (f + length ns)
unfolding split_row place_of
length-split_row keeps f [] = let e : f + 0 ≡ f = omega arith in rw e (omega arith)
length-split_row keeps f (n ∷ ns) =
    let e : f + suc (length ns) ≡ suc f + length ns = omega arith in
    let here = cond (keeps f) (n ∷ []) (n ∷ turned n ∷ []) in
    rw (e, ← length-split_row keeps (suc f) ns) (omega (arith, length-append here (split_row keeps (suc f) ns), halves (keeps f)))
  where
    halves : (t : Bool) → length (cond t (n ∷ []) (n ∷ turned n ∷ [])) ≡ cond t 1 2
    halves true = refl
    halves false = refl

-- ---- the bytes of fields
abbrev sizes : List Field → ℕ
sizes [] = 0
sizes (x ∷ xs) = x.size + sizes xs

length-bytes : (xs : List Field) → length (bytes_of xs) ≡ sizes xs
unfolding bytes_of concat
length-bytes [] = refl
length-bytes (x ∷ xs) =
    omega (arith, length-append (field_bytes x) (bytes_of xs), length-to_bytes x.size x.number, length-bytes xs)

sizes-append : (xs ys : List Field) → sizes (xs ++ ys) ≡ sizes xs + sizes ys
sizes-append [] ys = omega arith
sizes-append (x ∷ xs) ys = omega (arith, sizes-append xs ys)

row-sizes : (ns : List ℕ) → sizes (concat (map amount_fields ns)) ≡ 4 * length ns
unfolding concat amount_fields
row-sizes [] = omega arith
row-sizes (n ∷ ns) = omega (arith, row-sizes ns)

comparison-sizes : (equated : Bool) (c : WrittenComparison) → sizes (comparison_fields equated c) ≡ 5 + 4 * length c.coefficients
unfolding comparison_fields relation_field amount_fields
comparison-sizes equated c =
    omega (arith, sizes-append (concat (map amount_fields c.coefficients)) (amount_fields c.bound), row-sizes c.coefficients)

-- ---- of the new problem, beside those of the old
module _ (keeps : ℕ → Bool) (r : ℕ) where
  -- what each comparison gains
  abbrev gain : ℕ
  gain = 4 * (place_of keeps r - r)

  comparison-gains : (equated : Bool) (c : WrittenComparison) → length c.coefficients ≡ r
      → sizes (comparison_fields equated (split_comparison keeps c)) ≡ sizes (comparison_fields equated c) + gain
  unfolding split_comparison place_of
  comparison-gains equated c e =
      let z : 0 + length c.coefficients ≡ r = omega arith in
      let k = rw z at (length-split_row keeps 0 c.coefficients) in
      omega (arith, comparison-sizes equated c, comparison-sizes equated (split_comparison keeps c), place-low keeps r)

  comparisons-gain : (equated : Bool) (cs : List WrittenComparison) → All (λ c. length c.coefficients ≡ r) cs
      → sizes (comparisons_fields equated (map (split_comparison keeps) cs)) ≡ sizes (comparisons_fields equated cs) + length cs * gain
  unfolding comparisons_fields split_comparison
  comparisons-gain equated [] e = omega arith
  comparisons-gain equated (c ∷ cs) e =
      let later = equated || eqb c.relation 3 in
      omega (
        arith,
        comparison-gains equated c e.0,
        comparisons-gain later cs e.1,
        sizes-append (comparison_fields equated c) (comparisons_fields later cs),
        sizes-append (comparison_fields equated (split_comparison keeps c)) (comparisons_fields later (map (split_comparison keeps) cs)),
      )

  clause-gains : (b : ℕ) (c : WrittenClause) → All (λ c. length c.coefficients ≡ r) c.comparisons
      → sizes (clause_fields b (split_clause keeps c)) ≡ sizes (clause_fields b c) + length c.comparisons * gain
  unfolding clause_fields comparison_list_fields split_clause
  clause-gains b c e =
      let ls = literals_fields b c.literals in
      omega (
        arith,
        sizes-append ls (comparison_list_fields c.comparisons),
        comparisons-gain false c.comparisons e,
        sizes-append ls (comparison_list_fields (map (split_comparison keeps) c.comparisons)),
      )

  clauses-gain : (b : ℕ) (cs : List Clause)
      → All (λ c. All (λ c. length c.coefficients ≡ r) c.comparisons) (map (written_clause r) cs)
      → sizes (concat (map (clause_fields b) (map (split_clause keeps) (map (written_clause r) cs))))
      ≡ sizes (concat (map (clause_fields b) (map (written_clause r) cs))) + comparisons_in cs * gain
  unfolding concat comparisons_in written_clause
  clauses-gain b [] e = omega arith
  clauses-gain b (c ∷ cs) e =
      let w = written_clause r c in
      let old = map (written_clause r) cs in
      omega (
        arith,
        rw (length-map c.comparisons (written_comparison r)) at (clause-gains b w e.0),
        clauses-gain b cs e.1,
        sizes-append (clause_fields b w) (concat (map (clause_fields b) old)),
        sizes-append (clause_fields b (split_clause keeps w)) (concat (map (clause_fields b) (map (split_clause keeps) old))),
      )

pub length-carried_over : (input : List ℕ) → AllBytes input → (p : Problem) → read input ≡ sound p
    → length (carried_over_bytes p) ≡ length input + comparisons_in p.clauses * (4 * (place_of (kept p) p.rationals - p.rationals))
unfolding carried_over_bytes carried_over split_problem written_as fields_of header_fields
length-carried_over input h p e =
    let w = (read-as-written input h p e).writes in
    omega (
      arith,
      ap length w.are,
      length-bytes (fields_of (written_as p)),
      length-bytes (fields_of (carried_over p)),
      clauses-gain (kept p) p.rationals p.booleans p.clauses w.writable.coefficients,
    )
