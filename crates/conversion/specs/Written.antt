-- What the definition writes of comparisons and clauses is what their places give.
use Rattle.std.specs.Prelude.{◌≡◌, Bool, true, ◌||◌, pos, length, drop, replicate}
use Rattle.std.proofs.Math.Path.{refl, sym, ap}
use Rattle.std.proofs.Common.{◌∙◌, add-one, arith, drop-cons, take_at}
use Rattle.std.proofs.Math.Bool.{false}
use mathlib.Core.List.{List, [], ◌∷◌, ◌++◌, map, append-nil, append_assoc}
use Prim.Native.Nat.{ℕ, zero, suc, ◌+◌, ◌-◌, ◌%◌, ◌≤◌, ◌<◌}
use Rattle.std.proofs.Math.Dec.{eqb}
use Rattle.std.proofs.Math.ListN.{get_or, take, length-map}
use Rattle.rules_types.specs.Limits as limit
use Rattle.rules_types.specs.Layout as layout
use Rattle.rules.specs.Lists.{concat}
use Rattle.rules.specs.Bytes.{to_bytes, to_unsigned, field_at}
use Rattle.rules.specs.Problem.{is_relation}
use Rattle.rules.specs.Written.{Field, field_bytes, bytes_of, WrittenComparison, WrittenClause}
use Rattle.rules.specs.Written.{amount_fields, relation_field, comparison_fields, comparisons_fields}
use Rattle.rules.specs.Written.{literal_fields, literals_fields, comparison_list_fields, clause_fields, literal_meant}
use Rattle.rules.specs.Convert.{literal_code, written_comparison, written_clause, split_comparison, split_clause}
use Rattle.theory_lists.specs.Tests.{of-true}
use Rattle.theory_lists.specs.All.{All}
use Rattle.theory_bytes.specs.Fields.{field_at-<}
use Rattle.theory_bytes.specs.Amounts.{to_unsigned-from_unsigned}
use Rattle.theory_conversion.specs.WrittenBack.{code-back, known-back}
use Rattle.problem_scan.specs.Values.{values_at, behind, behind-is, amount_at, literal_at, bound_of, comparison_at, comparisons_at}
use Rattle.problem_scan.specs.Values.{count_of}
use Rattle.problem_scan.specs.Values.{clause_at}
use Rattle.problem_scan.specs.Values.{clause_end}
use Rattle.problem_scan.specs.Sound.{Each, SoundComparison, SoundClause, SoundClauses}
use Rattle.problem_clauses.specs.Passes.{length-values}
use Rattle.problem_clauses.specs.Walk.{count_of-is, count-within}
use Rattle.problem_read.specs.Clauses.{clauses_at}
use Rattle.conversion.specs.Writing.{parts_from}
use Rattle.conversion.specs.Row.{word_bytes, row_at}
use Rattle.conversion.specs.Comparisons.{split_comparison_at, split_comparisons_at}
use Rattle.conversion.specs.Clauses.{head_at, split_clause_at, split_clauses_at}

-- ---- lists
map-values : {A B : Type 0} (f : A → B) (one : ℕ → A) (other : ℕ → B) (size k at : ℕ) → ((i : ℕ) → f (one i) ≡ other i)
    → map f (values_at one size k at) ≡ values_at other size k at
unfolding values_at
map-values f one other size zero at e = refl
map-values f one other size (suc k) at e = λ i. e at i ∷ map-values f one other size k (at + size) e i

pub bytes-++ : (xs ys : List Field) → bytes_of (xs ++ ys) ≡ bytes_of xs ++ bytes_of ys
unfolding bytes_of concat
bytes-++ [] ys = refl
bytes-++ (x ∷ xs) ys = rw (bytes-++ xs ys) (sym (append_assoc (field_bytes x) (bytes_of xs) (bytes_of ys)))

values-last : {A : Type 0} (one : ℕ → A) (k at : ℕ) → values_at one 1 (suc k) at ≡ values_at one 1 k at ++ (one (at + k) ∷ [])
unfolding values_at
values-last one zero at = let e : at + 0 ≡ at = omega arith in rw e
values-last {A} one (suc k) at =
    let e : at + 1 + k ≡ at + suc k = omega arith in
    ap (λ (l : List A). one at ∷ l) (values-last one k (at + 1) ∙ ap (λ (i : ℕ). values_at one 1 k (at + 1) ++ (one i ∷ [])) e)

-- the bytes of a slice, one by one
bytes-at : (q : List ℕ) (k at : ℕ) → at + k ≤ length q → values_at (λ i. get_or q i 0) 1 k at ≡ take k (drop at q)
unfolding values_at
bytes-at q zero at h = refl
bytes-at q (suc k) at h = rw (drop-cons q at 0 (omega arith), ← add-one at) (ap (λ (l : List ℕ). get_or q at 0 ∷ l) (bytes-at q k (at + 1)
    (omega arith)))

-- ---- the parts of a comparison, and of literals
amounts-bytes : (ns : List ℕ) → bytes_of (concat (map amount_fields ns)) ≡ word_bytes ns
unfolding bytes_of concat amount_fields word_bytes
amounts-bytes [] = refl
amounts-bytes (n ∷ ns) = ap (λ (l : List ℕ). to_bytes 4 n ++ l) (amounts-bytes ns)

comparison-parts : (equated : Bool) (c : WrittenComparison)
    → bytes_of (comparison_fields equated c) ≡ c.relation % 256 ∷ (word_bytes c.coefficients ++ to_bytes 4 c.bound)
unfolding comparison_fields relation_field amount_fields to_bytes bytes_of concat
comparison-parts equated c =
    ap (λ (l : List ℕ). c.relation % 256 ∷ l)
    (bytes-++ (concat (map amount_fields c.coefficients)) (amount_fields c.bound)
    ∙ λ i. amounts-bytes c.coefficients i ++ append-nil (to_bytes 4 c.bound) i)

literals-bytes : (b : ℕ) (codes : List ℕ) → All (λ n. n < 256) codes → bytes_of (concat (map (literal_fields b) codes)) ≡ codes
unfolding bytes_of concat literal_fields to_bytes
literals-bytes b [] h = refl
literals-bytes b (n ∷ ns) h = let e : n % 256 ≡ n = omega (arith, h.0) in rw e (ap (λ (l : List ℕ). n ∷ l) (literals-bytes b ns h.1))

clause-parts : (b : ℕ) (c : WrittenClause) → All (λ n. n < 256) c.literals → bytes_of (clause_fields b c)
    ≡ length c.literals % 256 ∷ (c.literals ++ (length c.comparisons % 256 ∷ bytes_of (comparisons_fields false c.comparisons)))
unfolding clause_fields literals_fields comparison_list_fields to_bytes bytes_of concat
clause-parts b c h =
    ap (λ (l : List ℕ). length c.literals % 256 ∷ l)
    (bytes-++ (concat (map (literal_fields b) c.literals)) (comparison_list_fields c.comparisons)
    ∙ ap (λ (l : List ℕ). l ++ bytes_of (comparison_list_fields c.comparisons)) (literals-bytes b c.literals h))

-- ---- of a slice of bytes
module _ (q : List ℕ) (bytes : (i : ℕ) → get_or q i 0 < 256) where
  amount-back : (at : ℕ) → to_unsigned (amount_at q at) ≡ field_at at 4 q
  unfolding amount_at
  amount-back at = to_unsigned-from_unsigned (field_at at 4 q) (field_at-< at 4 q bytes)

  literal-back : (at : ℕ) → literal_code (literal_at q at) ≡ get_or q at 0
  unfolding literal_at literal_meant
  literal-back at = code-back (get_or q at 0) (bytes at)

  module _ (keeps : ℕ → Bool) (r : ℕ) where
    -- ---- a comparison
    row_back : (at : ℕ) → (written_comparison r (comparison_at q r at)).coefficients
        ≡ values_at (λ i. field_at i 4 q) 4 r (at + layout.comparison_coefficients)
    unfolding written_comparison comparison_at
    row_back at =
        let from = at + layout.comparison_coefficients in
        ap (map to_unsigned) (take_at (values_at (amount_at q) 4 r from) (replicate (limit.rationals - r) (pos 0)) r (length-values
        (amount_at q) 4 r from))
        ∙ map-values to_unsigned (amount_at q) (λ i. field_at i 4 q) 4 r from amount-back

    bound-back : (at : ℕ) → (written_comparison r (comparison_at q r at)).bound ≡ field_at (at + layout.comparison_bound r) 4 q
    unfolding written_comparison comparison_at bound_of
    bound-back at =
        let e : behind 4 r (at + layout.comparison_coefficients) ≡ at + layout.comparison_bound r =
        omega (arith, behind-is 4 r (at + layout.comparison_coefficients)) in
        amount-back (behind 4 r (at + layout.comparison_coefficients)) ∙ ap (λ (i : ℕ). field_at i 4 q) e

    relation-back : (at : ℕ) → is_relation (get_or q at 0) ≡ true
        → (written_comparison r (comparison_at q r at)).relation % 256 ≡ get_or q at 0
    unfolding written_comparison comparison_at is_relation
    relation-back at known =
        let e = known-back (get_or q at 0) (of-true (is_relation (get_or q at 0)) known) in
        rw e (omega (arith, bytes at))

    comparison-bytes : (equated : Bool) (at : ℕ) → is_relation (get_or q at 0) ≡ true
        → bytes_of (comparison_fields equated (split_comparison keeps (written_comparison r (comparison_at q r at))))
        ≡ split_comparison_at keeps q r at
    unfolding split_comparison split_comparison_at row_at
    comparison-bytes equated at known =
        comparison-parts equated (split_comparison keeps (written_comparison r (comparison_at q r at)))
        ∙ rw (relation-back at known, row_back at, bound-back at)

    comparisons-bytes : (equated : Bool) (k at : ℕ) → Each (SoundComparison q r) (layout.comparison_bytes r) k at
        → bytes_of (comparisons_fields equated (map (split_comparison keeps) (map (written_comparison r) (comparisons_at q r k at))))
        ≡ split_comparisons_at keeps q r k at
    unfolding values_at Each comparisons_fields parts_from bytes_of concat
    comparisons-bytes equated zero at h = refl
    comparisons-bytes equated (suc k) at h =
        let c = split_comparison keeps (written_comparison r (comparison_at q r at)) in
        let later = equated || eqb c.relation 3 in
        bytes-++ (comparison_fields equated c) _
        ∙ λ i. comparison-bytes equated at h.0.relation i ++ comparisons-bytes later k (at + layout.comparison_bytes r) h.1 i

    -- ---- a clause
    abbrev codes : ℕ → List ℕ
    codes at = values_at (λ i. get_or q i 0) 1 (get_or q at 0) (at + 1)

    head_bytes : (at : ℕ) → clause_end q r at ≤ length q → head_at q at ≡ get_or q at 0 ∷ (codes at ++ (get_or q (count_of q at) 0 ∷ []))
    unfolding head_at values_at
    head_bytes at h =
        let m = get_or q at 0 in
        let e : count_of q at + 1 - at ≡ suc (suc m) = omega (arith, count_of-is q at) in
        let p : at + 1 + m ≡ count_of q at = omega (arith, count_of-is q at) in
        ap (λ (k : ℕ). take k (drop at q)) e
        ∙ sym (bytes-at q (suc (suc m)) at (omega (arith, count_of-is q at, count-within q r at h)))
        ∙ ap (λ (l : List ℕ). m ∷ l) (values-last (λ i. get_or q i 0) m (at + 1) ∙ ap (λ (i : ℕ). codes at ++ (get_or q i 0 ∷ [])) p)

    codes-small : (k at : ℕ) → All (λ n. n < 256) (values_at (λ i. get_or q i 0) 1 k at)
    unfolding values_at
    codes-small zero at = tt
    codes-small (suc k) at = (bytes at, codes-small k (at + 1))

    literals-back : (at : ℕ) → (split_clause keeps (written_clause r (clause_at q r at))).literals ≡ codes at
    unfolding split_clause written_clause clause_at
    literals-back at = map-values literal_code (literal_at q) (λ i. get_or q i 0) 1 (get_or q at 0) (at + 1) literal-back

    comparisons-length : (at : ℕ) → length (split_clause keeps (written_clause r (clause_at q r at))).comparisons ≡ get_or q
        (count_of q at) 0
    unfolding split_clause written_clause clause_at
    comparisons-length at =
        let cs = comparisons_at q r (get_or q (count_of q at) 0) (count_of q at + 1) in
        length-map (map (written_comparison r) cs) (split_comparison keeps) ∙ length-map cs (written_comparison r)
        ∙ length-values (comparison_at q r) (layout.comparison_bytes r) (get_or q (count_of q at) 0) (count_of q at + 1)

    joined : (at : ℕ) → SoundClause q r at
        → (get_or q at 0 ∷ (codes at ++ (get_or q (count_of q at) 0 ∷ [])))
        ++ bytes_of (comparisons_fields false (split_clause keeps (written_clause r (clause_at q r at))).comparisons)
        ≡ split_clause_at keeps q r at
    unfolding split_clause written_clause clause_at split_clause_at
    joined at h = λ i. sym (head_bytes at h.within) i
        ++ comparisons-bytes false (get_or q (count_of q at) 0) (count_of q at + 1) h.comparisons i

    clause-bytes : (b at : ℕ) → SoundClause q r at
        → bytes_of (clause_fields b (split_clause keeps (written_clause r (clause_at q r at)))) ≡ split_clause_at keeps q r at
    clause-bytes b at h =
        let c = split_clause keeps (written_clause r (clause_at q r at)) in
        let m = get_or q at 0 in
        let t = get_or q (count_of q at) 0 in
        let small : m % 256 ≡ m = omega (arith, bytes at) in
        let few : t % 256 ≡ t = omega (arith, bytes (count_of q at)) in
        let rest = bytes_of (comparisons_fields false c.comparisons) in
        clause-parts b c (rw (literals-back at) (codes-small m (at + 1)))
        ∙ rw (literals-back at, comparisons-length at, length-values (λ i. get_or q i 0) 1 m (at + 1), small, few)
        (sym (append_assoc (m ∷ codes at) (t ∷ []) rest) ∙ joined at h)

    pub clauses-bytes : (b n at : ℕ) → SoundClauses q r n at
        → bytes_of (concat (map (clause_fields b) (map (split_clause keeps) (map (written_clause r) (clauses_at q r n at)))))
        ≡ split_clauses_at keeps q r n at
    unfolding clauses_at SoundClauses parts_from bytes_of concat
    clauses-bytes b zero at h = refl
    clauses-bytes b (suc n) at h =
        bytes-++ (clause_fields b (split_clause keeps (written_clause r (clause_at q r at)))) _
        ∙ λ i. clause-bytes b at h.0 i ++ clauses-bytes b n (clause_end q r at) h.1 i
