-- An assignment satisfies the new problem exactly if, carried back, it satisfies the old: clause by clause, and condition by condition.
use Rattle.std.specs.Prelude.{◌≡◌, ◌↔◌, Bool, true, false, cond, ◌&&◌, ◌||◌, ℕ, zero, suc, ◌+◌, ◌-◌, ℤ, neg_ℤ, ◌+ℤ◌, ◌-ℤ◌, ◌*ℤ◌, replicate}
use Rattle.std.proofs.Math.Path.{refl, sym, ap, subst}
use Rattle.std.proofs.Common.{◌∙◌}
use mathlib.Core.List.{List, [], ◌∷◌, ◌++◌, map}
use native.Mathlib.Omega.{arith}
use Rattle.std.proofs.Math.IntN.{pos}
use Rattle.std.proofs.Math.Dec.{T}
use Rattle.std.proofs.Math.ListN.{length}
use Rattle.rules_types.specs.Limits as limit
use Rattle.rules_types.specs.Layout as layout
use Rattle.rules.specs.Lists.{any, all}
use Rattle.rules.specs.Arithmetic.{sum}
use Rattle.rules.specs.Bytes.{from_unsigned}
use Rattle.rules.specs.Problem.{Problem, relation_of}
use Rattle.rules.specs.Meaning.{Assignment, literal_holds, compared, comparison_holds, clause_holds, Satisfies}
use Rattle.rules.specs.Written.{WrittenComparison, WrittenClause, bytes_of, clause_fields, comparison_meant, clause_meant}
use Rattle.rules.specs.Written.{clauses_meant, meaning}
use Rattle.rules.specs.Convert.{kept, place_of, turned, split_row, split_comparison, split_clause, split_problem, written_as, carried_over}
use Rattle.rules.specs.Convert.{carried_numerator, carried_back}
use Rattle.rules.specs.Calls.{sound, read}
use Rattle.theory_lists.specs.All.{All}
use Rattle.theory_integers.specs.Ring.{ring}
use Rattle.theory_integers.specs.Difference.{v, ⊝, ◌⊕◌, ◌⊖◌, ◌⊗◌, ≡-by}
use Rattle.theory_bytes.specs.Bytes.{AllBytes}
use Rattle.theory_conversion.specs.WrittenBack.{FitsAmount, FitsRow, read-as-written, read-rows}
use Rattle.theory_conversion.specs.Turned.{turned-means}

-- ---- a row over the halves is the old row over their differences
two-terms : (a b x y D E : ℤ) → b ≡ neg_ℤ a → D ≡ E → a *ℤ x +ℤ (b *ℤ y +ℤ D) ≡ a *ℤ (x -ℤ y) +ℤ E
two-terms a b x y D E e d =
    (λ i. a *ℤ x +ℤ (e i *ℤ y +ℤ d i)) ∙ ≡-by (v a ⊗ v x ⊕ (⊝ (v a) ⊗ v y ⊕ v E)) (v a ⊗ (v x ⊖ v y) ⊕ v E) (omega arith)

sum-padded : (cs : List ℤ) (n : ℕ) (x : ℕ → ℤ) → sum (cs ++ replicate n (pos 0)) x ≡ sum cs x
unfolding sum
sum-padded [] zero x = refl
sum-padded [] (suc n) x = rw (sum-padded [] n (λ i. x (suc i))) (simp ring)
sum-padded (c ∷ cs) n x = ap (λ (z : ℤ). c *ℤ x 0 +ℤ z) (sum-padded cs n (λ i. x (suc i)))

-- ---- one variable
module _ (keeps : ℕ → Bool) (x : ℕ → ℤ) (f : ℕ) where
  pub carried-kept : keeps f ≡ true → carried_numerator keeps x f ≡ x (place_of keeps f)
  unfolding carried_numerator
  carried-kept e = rw e

  pub carried-split : keeps f ≡ false → carried_numerator keeps x f ≡ x (place_of keeps f) -ℤ x (suc (place_of keeps f))
  unfolding carried_numerator
  carried-split e = rw e

-- ---- a row, from variable f on
module _ (keeps : ℕ → Bool) (x : ℕ → ℤ) where
  abbrev Halves : ℕ → (ℕ → ℤ) → Type 0
  Halves f X = (i : ℕ) → X i ≡ x (place_of keeps f + i)

  abbrev Differences : ℕ → (ℕ → ℤ) → Type 0
  Differences f Y = (i : ℕ) → Y i ≡ carried_numerator keeps x (f + i)

  abbrev SplitsSum : ℕ → List ℕ → Type 0
  SplitsSum f ns = (X Y : ℕ → ℤ) → Halves f X → Differences f Y
      → sum (map from_unsigned (split_row keeps f ns)) X ≡ sum (map from_unsigned ns) Y

  one-variable : (f n : ℕ) (ns : List ℕ) → FitsAmount n → SplitsSum (suc f) ns → SplitsSum f (n ∷ ns)
  unfolding sum split_row place_of
  one-variable f n ns h rest X Y p q = by (keeps f) refl
    where
      first : Y 0 ≡ carried_numerator keeps x f
      first = let k : f + 0 ≡ f = omega arith in q 0 ∙ ap (carried_numerator keeps x) k

      after : (X' : ℕ → ℤ) → Halves (suc f) X'
          → sum (map from_unsigned (split_row keeps (suc f) ns)) X' ≡ sum (map from_unsigned ns) (λ i. Y (suc i))
      after X' p' = rest X' (λ i. Y (suc i)) p'
          (λ i. let k : f + suc i ≡ suc f + i = omega arith in q (suc i) ∙ ap (carried_numerator keeps x) k)

      half : (i j : ℕ) → place_of keeps f + i ≡ j → X i ≡ x j
      half i j e = p i ∙ ap x e

      by : (t : Bool) → keeps f ≡ t → sum (map from_unsigned (cond t (n ∷ []) (n ∷ turned n ∷ []) ++ split_row keeps (suc f) ns)) X
          ≡ from_unsigned n *ℤ Y 0 +ℤ sum (map from_unsigned ns) (λ i. Y (suc i))
      by true e =
          (λ i. from_unsigned n *ℤ X 0 +ℤ after (λ i. X (suc i)) (λ i. half (suc i) _ (rw (e, place_of) (omega arith))) i)
          ∙ ap (λ (z : ℤ). from_unsigned n *ℤ z +ℤ sum (map from_unsigned ns) (λ i. Y (suc i)))
          (half 0 _ (omega arith) ∙ sym (carried-kept keeps x f e) ∙ sym first)
      by false e =
          two-terms (from_unsigned n) (from_unsigned (turned n)) (X 0) (X 1) _ _ (turned-means n h)
          (after (λ i. X (suc (suc i))) (λ i. half (suc (suc i)) _ (rw (e, place_of) (omega arith))))
          ∙ ap (λ (z : ℤ). from_unsigned n *ℤ z +ℤ sum (map from_unsigned ns) (λ i. Y (suc i)))
          ((λ i. half 0 (place_of keeps f) (omega arith) i -ℤ half 1 (suc (place_of keeps f)) (omega arith) i)
          ∙ sym (carried-split keeps x f e) ∙ sym first)

  sum-split : (f : ℕ) (ns : List ℕ) → All FitsAmount ns → SplitsSum f ns
  unfolding sum split_row
  sum-split f [] h X Y p q = refl
  sum-split f (n ∷ ns) h X Y p q = one-variable f n ns h.0 (sum-split (suc f) ns h.1) X Y p q

-- ---- each condition, each clause and the whole problem hold of the one as of the other
module _ (keeps : ℕ → Bool) (χ : Assignment) where
  pub same-condition : (c : WrittenComparison) → FitsRow c
      → comparison_holds χ (comparison_meant (split_comparison keeps c)) ≡ comparison_holds (carried_back keeps χ) (comparison_meant c)
  unfolding comparison_holds comparison_meant split_comparison carried_back place_of
  same-condition c h =
      let ns = c.coefficients in
      let new = split_row keeps 0 ns in
      let x = χ.numerators in
      let rows : sum (map from_unsigned new) x ≡ sum (map from_unsigned ns) (carried_numerator keeps x) =
      sum-split keeps x 0 ns h x (carried_numerator keeps x) (λ i. let k : i ≡ 0 + i = omega arith in ap x k)
      (λ i. let k : i ≡ 0 + i = omega arith in ap (carried_numerator keeps x) k) in
      ap (λ (z : ℤ). compared (relation_of c.relation) z (from_unsigned c.bound *ℤ pos χ.denominator))
      (sum-padded (map from_unsigned new) (limit.rationals - length new) x ∙ rows
      ∙ sym (sum-padded (map from_unsigned ns) (limit.rationals - length ns) (carried_numerator keeps x)))

  same-conditions : (cs : List WrittenComparison) → All FitsRow cs
      → any (comparison_holds χ) (map comparison_meant (map (split_comparison keeps) cs))
      ≡ any (comparison_holds (carried_back keeps χ)) (map comparison_meant cs)
  unfolding any
  same-conditions [] h = refl
  same-conditions (c ∷ cs) h = λ i. same-condition c h.0 i || same-conditions cs h.1 i

  same-clause : (start start' : ℕ) (c : WrittenClause) → All FitsRow c.comparisons
      → clause_holds χ (clause_meant start (split_clause keeps c)) ≡ clause_holds (carried_back keeps χ) (clause_meant start' c)
  unfolding clause_holds clause_meant split_clause literal_holds carried_back
  same-clause start start' c h =
      ap (λ (t : Bool). any (literal_holds χ) (clause_meant start' c).literals || t) (same-conditions c.comparisons h)

  same-clauses : (b start start' : ℕ) (cs : List WrittenClause) → All (λ c. All FitsRow c.comparisons) cs
      → all (clause_holds χ) (clauses_meant b start (map (split_clause keeps) cs))
      ≡ all (clause_holds (carried_back keeps χ)) (clauses_meant b start' cs)
  unfolding all clauses_meant
  same-clauses b start start' [] h = refl
  same-clauses b start start' (c ∷ cs) h =
      λ i. same-clause start start' c h.0 i
      && same-clauses b (start + length (bytes_of (clause_fields b (split_clause keeps c))))
      (start' + length (bytes_of (clause_fields b c))) cs h.1 i

module _ (input : List ℕ) (h : AllBytes input) (p : Problem) (e : read input ≡ sound p) (χ : Assignment) where
  pub same-holds : all (clause_holds χ) (meaning (carried_over p)).clauses ≡ all (clause_holds (carried_back (kept p) χ)) p.clauses
  unfolding carried_over split_problem written_as meaning
  same-holds =
      same-clauses (kept p) χ p.booleans layout.first_clause layout.first_clause (written_as p).clauses (read-rows input h p e)
      ∙ ap (λ (q : Problem). all (clause_holds (carried_back (kept p) χ)) q.clauses) (read-as-written input h p e).means

  pub satisfies-carried : Satisfies χ (meaning (carried_over p)) ↔ Satisfies (carried_back (kept p) χ) p
  unfolding carried_back
  satisfies-carried = (
    λ s. record { denominator = s.denominator; clauses = subst T same-holds s.clauses },
    λ s. record { denominator = s.denominator; clauses = subst T (sym same-holds) s.clauses },
  )
