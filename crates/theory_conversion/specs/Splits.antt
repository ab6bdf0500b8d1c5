-- The new problem takes as many split variables as the old: the same constraints are struck out and the same clauses dropped.
use Rattle.std.specs.Prelude.{◌≡◌, Bool, cond, ◌&&◌, ◌||◌, ℤ, pos, neg_ℤ, replicate}
use Rattle.std.proofs.Math.Path.{refl, sym, ap}
use Rattle.std.proofs.Common.{◌∙◌}
use Rattle.std.proofs.Math.Bool.{true, false, and-true, and_assoc}
use mathlib.Core.List.{List, [], ◌∷◌, ◌++◌, map}
use Rattle.std.proofs.Math.Option.{Option, none, some}
use Prim.Native.Nat.{ℕ, zero, suc, ◌+◌, ◌-◌}
use native.Mathlib.Omega.{arith}
use Rattle.std.proofs.Math.ListN.{length}
use Rattle.rules_types.specs.Limits as limit
use Rattle.rules.specs.Lists.{any, all}
use Rattle.rules.specs.Arithmetic.{is_zero, related}
use Rattle.rules.specs.Bytes.{from_unsigned}
use Rattle.rules.specs.Problem.{Constraint, Clause, is_equality}
use Rattle.rules.specs.Readings.{Disjunction, signed, turns, read_as, reading, has_equality}
use Rattle.rules.specs.Normalize.{settled, settled_all, normal_clause}
use Rattle.rules.specs.Split.{reading_splits, splits_of}
use Rattle.rules.specs.Written.{WrittenComparison, WrittenClause, bytes_of, clause_fields, comparison_meant, clause_meant, clauses_meant}
use Rattle.rules.specs.Convert.{split_comparison, split_clause}
use Rattle.theory_lists.specs.All.{All}
use Rattle.theory_splitting.specs.WellFormed.{splits_in}
use Rattle.theory_splitting.specs.NormalClause.{meets}
use Rattle.theory_splitting.specs.Twice.{splits-once, splits-twice}
use Rattle.theory_conversion.specs.WrittenBack.{FitsRow}
use Rattle.theory_conversion.specs.Turned.{zero-neg, row_zero}

-- ---- how many constraints stay, by what decides it
abbrev counted : Option (List Constraint) → Option ℕ
counted none = none
counted (some ds) = some (length ds)

-- whether all coefficients are 0, and whether the constraint is then true
abbrev one_more : Bool → Bool → Option ℕ → Option ℕ
one_more true true o = none
one_more true false o = o
one_more false holds none = none
one_more false holds (some n) = some (suc n)

counted-more : (c : Constraint) (cs : List Constraint) → counted (settled_all (c ∷ cs))
    ≡ one_more (all is_zero c.coefficients) (related c.strict (pos 0) c.bound) (counted (settled_all cs))
unfolding settled_all settled
counted-more c cs = by (all is_zero c.coefficients) refl (related c.strict (pos 0) c.bound) refl (settled_all cs) refl
  where
    by : (s : Bool) → all is_zero c.coefficients ≡ s → (t : Bool) → related c.strict (pos 0) c.bound ≡ t
        → (o : Option (List Constraint)) → settled_all cs ≡ o → counted (settled_all (c ∷ cs)) ≡ one_more s t (counted o)
    by true e true f o g = rw (e, f, settled_all)
    by true e false f o g = rw (e, f, settled_all, g)
    by false e t f none g = rw (e, settled_all, g)
    by false e t f (some ds) g = rw (e, settled_all, g)

-- of a reading, by whether some Boolean variable is in both signs
abbrev splits_by : Bool → Option ℕ → ℕ
splits_by true o = 0
splits_by false none = 0
splits_by false (some n) = n - 1

splits-by : (d : Disjunction) → reading_splits d ≡ splits_by (meets d) (counted (settled_all d.constraints))
unfolding reading_splits normal_clause
splits-by d = by (meets d) refl (settled_all d.constraints) refl
  where
    by : (t : Bool) → meets d ≡ t → (o : Option (List Constraint)) → settled_all d.constraints ≡ o
        → reading_splits d ≡ splits_by t (counted o)
    by true e o f = rw (e, reading_splits)
    by false e none f = rw (e, f, reading_splits)
    by false e (some ds) f = rw (e, f, reading_splits)

-- ---- a row is all zero exactly if its halves are
all_append : (p : ℤ → Bool) (xs ys : List ℤ) → all p (xs ++ ys) ≡ all p xs && all p ys
unfolding all
all_append p [] ys = refl
all_append p (x ∷ xs) ys = ap (λ (b : Bool). p x && b) (all_append p xs ys) ∙ sym (and_assoc (p x) (all p xs) (all p ys))

all-signed : (t : Bool) (zs : List ℤ) → all is_zero (map (signed t) zs) ≡ all is_zero zs
unfolding all signed
all-signed t [] = refl
all-signed t (z ∷ zs) = λ i. one t i && all-signed t zs i
  where
    one : (t : Bool) → is_zero (cond t (neg_ℤ z) z) ≡ is_zero z
    one true = zero-neg z
    one false = refl

zeros-zero : (n : ℕ) → all is_zero (replicate n (pos 0)) ≡ true
unfolding all is_zero
zeros-zero zero = refl
zeros-zero (suc n) = zeros-zero n

meant-zero : (second : Bool) (c : WrittenComparison)
    → all is_zero (read_as second (comparison_meant c)).coefficients ≡ all is_zero (map from_unsigned c.coefficients)
unfolding read_as comparison_meant
meant-zero second c =
    let zs = map from_unsigned c.coefficients in
    let n = limit.rationals - length c.coefficients in
    all-signed (turns second _) (zs ++ replicate n (pos 0)) ∙ all_append is_zero zs (replicate n (pos 0))
    ∙ ap (λ (b : Bool). all is_zero zs && b) (zeros-zero n) ∙ and-true (all is_zero zs)

-- ---- so each reading keeps as many constraints
module _ (keeps : ℕ → Bool) where
  counted_same : (second : Bool) (cs : List WrittenComparison) → All FitsRow cs
      → counted (settled_all (map (read_as second) (map comparison_meant (map (split_comparison keeps) cs))))
      ≡ counted (settled_all (map (read_as second) (map comparison_meant cs)))
  unfolding read_as comparison_meant split_comparison
  counted_same second [] h = refl
  counted_same second (c ∷ cs) h =
      let new = read_as second (comparison_meant (split_comparison keeps c)) in
      let old = read_as second (comparison_meant c) in
      let zero : all is_zero new.coefficients ≡ all is_zero old.coefficients =
      meant-zero second (split_comparison keeps c) ∙ row_zero keeps 0 c.coefficients h.0 ∙ sym (meant-zero second c) in
      counted-more new (map (read_as second) (map comparison_meant (map (split_comparison keeps) cs)))
      ∙ (λ i. one_more (zero i) (related old.strict (pos 0) old.bound) (counted_same second cs h.1 i))
      ∙ sym (counted-more old (map (read_as second) (map comparison_meant cs)))

  equality-same : (cs : List WrittenComparison) → has_equality (map comparison_meant (map (split_comparison keeps) cs))
      ≡ has_equality (map comparison_meant cs)
  unfolding has_equality any comparison_meant split_comparison
  equality-same [] = refl
  equality-same (c ∷ cs) = ap (λ (b : Bool). is_equality (comparison_meant c).relation || b) (equality-same cs)

  module _ (start start' : ℕ) (c : WrittenClause) (h : All FitsRow c.comparisons) where
    abbrev new : Clause
    new = clause_meant start (split_clause keeps c)

    abbrev old : Clause
    old = clause_meant start' c

    reading-same : (second : Bool) → reading_splits (reading second new) ≡ reading_splits (reading second old)
    unfolding reading clause_meant split_clause
    reading-same second =
        splits-by (reading second new) ∙ (λ i. splits_by (meets (reading second old)) (counted_same second c.comparisons h i))
        ∙ sym (splits-by (reading second old))

    pub splits-same : splits_of new ≡ splits_of old
    unfolding clause_meant split_clause
    splits-same = by (has_equality old.comparisons) refl
      where
        by : (t : Bool) → has_equality old.comparisons ≡ t → splits_of new ≡ splits_of old
        by true e =
            omega (arith, splits-twice new (equality-same c.comparisons ∙ e), splits-twice old e, reading-same false, reading-same true)
        by false e = omega (arith, splits-once new (equality-same c.comparisons ∙ e), splits-once old e, reading-same false)

  pub splits-in-same : (b start start' : ℕ) (cs : List WrittenClause) → All (λ c. All FitsRow c.comparisons) cs
      → splits_in (clauses_meant b start (map (split_clause keeps) cs)) ≡ splits_in (clauses_meant b start' cs)
  unfolding clauses_meant
  splits-in-same b start start' [] h = refl
  splits-in-same b start start' (c ∷ cs) h =
      omega (
        arith,
        splits-same start start' c h.0,
        splits-in-same b (start + length (bytes_of (clause_fields b (split_clause keeps c))))
            (start' + length (bytes_of (clause_fields b c))) cs h.1,
      )
