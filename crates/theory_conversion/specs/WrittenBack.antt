-- A problem that was read tells how it was written: every field, so every byte.
use Rattle.std.specs.Prelude.{◌≡◌, Bool, true, not, cond, ◌&&◌, ◌||◌, ℕ, ◌+◌, ◌-◌, ◌%◌, ◌^◌, ◌≤◌, ◌<◌, pos, T, leb, take}
use Rattle.std.proofs.Math.Path.{refl, ap}
use Rattle.std.proofs.Common.{sym, subst, ◌∙◌, arith, leb-true, leb-false, leb→le, take_at}
use Rattle.std.proofs.Math.Bool.{false}
use mathlib.Core.List.{List, [], ◌∷◌, ◌++◌, map}
use Rattle.std.proofs.lemmas.Bool.{eqb-false}
use Rattle.std.proofs.Math.Dec.{eqb}
use Rattle.std.proofs.Math.ListN.{length, replicate}
use Rattle.std.proofs.lemmas.List.{length-map}
use Rattle.std.proofs.Math.Facts.{and_yes}
use Rattle.rules_types.specs.Limits as limit
use Rattle.rules_types.specs.Layout as layout
use Rattle.rules.specs.Lists.{concat}
use Rattle.rules.specs.Bytes.{to_unsigned, from_unsigned}
use Rattle.rules.specs.Problem.{Problem, relation_of}
use Rattle.rules.specs.Written.{Field, bytes_of, amount_fields, relation_field, comparison_fields, comparisons_fields, literal_fields}
use Rattle.rules.specs.Written.{literals_fields, comparison_list_fields, clause_fields, header_fields, fields_of, literal_meant}
use Rattle.rules.specs.Written.{WrittenComparison, WrittenClause, WrittenProblem, comparison_meant, clause_meant, clauses_meant, meaning}
use Rattle.rules.specs.Convert.{literal_code, relation_code, written_comparison, written_clause, written_as}
use Rattle.rules.specs.Calls.{sound, read}
use Rattle.theory_lists.specs.Tests.{of-true}
use Rattle.theory_lists.specs.All.{All, all_map, all_both, append-all}
use Rattle.theory_bytes.specs.Bytes.{AllBytes}
use Rattle.theory_bytes.specs.Amounts.{to_unsigned-from_unsigned}
use Rattle.theory_bytes.specs.Relations.{by_code}
use Rattle.theory_splitting.specs.WellFormed.{splits_in}
use Rattle.theory_reading.specs.Statements.{Writable, AllWithin, Writes, IsProblem}
use Rattle.theory_reading.specs.Theorems.{reads-exactly}

-- ---- fields
-- the number fits its bytes and is within its limits
abbrev pub Fits : Field → Type 0
Fits x = (x.number < 256 ^ x.size) × (x.within ≡ true)

-- of an amount
abbrev pub FitsAmount : ℕ → Type 0
FitsAmount n = All Fits (amount_fields n)

pub each_fits : {A : Type 0} (fields : A → List Field) (s : List A) → All Fits (concat (map fields s)) → All (λ a. All Fits (fields a)) s
unfolding concat
each_fits fields [] h = tt
each_fits fields (a ∷ s) h =
    let r = append-all Fits (fields a) (concat (map fields s)) h in (r.0, each_fits fields s r.1)

-- ---- the amounts of a clause
abbrev pub FitsRow : WrittenComparison → Type 0
FitsRow c = All FitsAmount c.coefficients

rows_fit : (equated : Bool) (cs : List WrittenComparison) → All Fits (comparisons_fields equated cs) → All FitsRow cs
unfolding comparisons_fields comparison_fields
rows_fit equated [] h = tt
rows_fit equated (c ∷ cs) h =
    let later = equated || eqb c.relation 3 in
    let k = append-all Fits (comparison_fields equated c) (comparisons_fields later cs) h in
    let row = append-all Fits (concat (map amount_fields c.coefficients)) (amount_fields c.bound) k.0.1 in
    (each_fits amount_fields c.coefficients row.0, rows_fit later cs k.1)

clause-rows : (b : ℕ) (c : WrittenClause) → All Fits (clause_fields b c) → All FitsRow c.comparisons
unfolding clause_fields comparison_list_fields
clause-rows b c h =
    rows_fit false c.comparisons (append-all Fits (literals_fields b c.literals) (comparison_list_fields c.comparisons) h).1.1

-- ---- back, field by field
map_back : {A B : Type 0} (P : A → Type 0) (f : A → B) (g : B → A) (s : List A) → ((a : A) → P a → g (f a) ≡ a) → All P s
    → map g (map f s) ≡ s
map_back P f g [] back h = refl
map_back P f g (a ∷ s) back h = λ i. back a h.0 i ∷ map_back P f g s back h.1 i

amount-back : (n : ℕ) → FitsAmount n → to_unsigned (from_unsigned n) ≡ n
unfolding amount_fields
amount-back n h = to_unsigned-from_unsigned n h.0.0

pub code-back : (code : ℕ) → code < 256 → literal_code (literal_meant code) ≡ code
unfolding literal_meant literal_code
code-back code h = by (leb 128 code) refl
  where
    by : (t : Bool) → leb 128 code ≡ t → cond (leb 128 code) (128 + code % 128) (code % 128) ≡ code
    by true e = let l = leb-true 128 code e in rw e (omega arith)
    by false e = let l = leb-false 128 code e in rw e (omega arith)

literal-back : (b code : ℕ) → All Fits (literal_fields b code) → literal_code (literal_meant code) ≡ code
unfolding literal_fields
literal-back b code h = code-back code h.0.0

pub known-back : (n : ℕ) → T (leb 1 n && leb n 4) → relation_code (relation_of n) ≡ n
unfolding relation_code
known-back n h =
    let r = and_yes (leb 1 n) (leb n 4) h in
    by_code (λ n ρ. 1 ≤ n → n ≤ 4 → relation_code ρ ≡ n) (λ l k. refl) (λ l k. refl) (λ l k. refl)
    (λ n s t u l k. omega (arith, eqb-false n 2 s, eqb-false n 3 t, eqb-false n 4 u))
    n (leb→le 1 n r.0) (leb→le n 4 r.1)

relation-back : (equated : Bool) (n : ℕ) → Fits (relation_field equated n) → relation_code (relation_of n) ≡ n
unfolding relation_field
relation-back equated n h =
    let known = leb 1 n && leb n 4 in
    let single = not (equated && eqb n 3) in
    known-back n (and_yes known single (of-true (known && single) h.1)).0

-- ---- comparisons and clauses
module _ (r : ℕ) where
  comparison-back : (equated : Bool) (c : WrittenComparison) → length c.coefficients ≡ r → All Fits (comparison_fields equated c)
      → written_comparison r (comparison_meant c) ≡ c
  unfolding comparison_fields comparison_meant written_comparison
  comparison-back equated c e h =
      let ns = c.coefficients in
      let k = append-all Fits (concat (map amount_fields ns)) (amount_fields c.bound) h.1 in
      let zeros = replicate (limit.rationals - length ns) (pos 0) in
      let row : map to_unsigned (take r (map from_unsigned ns ++ zeros)) ≡ ns =
      ap (map to_unsigned) (take_at (map from_unsigned ns) zeros r (length-map ns from_unsigned ∙ e))
      ∙ map_back FitsAmount from_unsigned to_unsigned ns amount-back (each_fits amount_fields ns k.0) in
      λ i. record {
        relation = relation-back equated c.relation h.0 i;
        coefficients = row i;
        bound = amount-back c.bound k.1 i;
      }

  comparisons-back : (equated : Bool) (cs : List WrittenComparison) → All (λ c. length c.coefficients ≡ r) cs
      → All Fits (comparisons_fields equated cs) → map (written_comparison r) (map comparison_meant cs) ≡ cs
  unfolding comparisons_fields
  comparisons-back equated [] e h = refl
  comparisons-back equated (c ∷ cs) e h =
      let later = equated || eqb c.relation 3 in
      let k = append-all Fits (comparison_fields equated c) (comparisons_fields later cs) h in
      λ i. comparison-back equated c e.0 k.0 i ∷ comparisons-back later cs e.1 k.1 i

  clause-back : (b start : ℕ) (c : WrittenClause) → All (λ c. length c.coefficients ≡ r) c.comparisons
      → All Fits (clause_fields b c) → written_clause r (clause_meant start c) ≡ c
  unfolding clause_fields literals_fields comparison_list_fields clause_meant written_clause
  clause-back b start c e h =
      let k = append-all Fits (literals_fields b c.literals) (comparison_list_fields c.comparisons) h in
      λ i. record {
        literals = map_back (λ n. All Fits (literal_fields b n)) literal_meant literal_code c.literals (literal-back b)
            (each_fits (literal_fields b) c.literals k.0.1) i;
        comparisons = comparisons-back false c.comparisons e k.1.1 i;
      }

  clauses-back : (b start : ℕ) (cs : List WrittenClause)
      → All (λ c. All (λ c. length c.coefficients ≡ r) c.comparisons) cs → All (λ c. All Fits (clause_fields b c)) cs
      → map (written_clause r) (clauses_meant b start cs) ≡ cs
  unfolding clauses_meant
  clauses-back b start [] e h = refl
  clauses-back b start (c ∷ cs) e h = λ i. clause-back b start c e.0 h.0 i
      ∷ clauses-back b (start + length (bytes_of (clause_fields b c))) cs e.1 h.1 i

-- ---- problems
clauses-fit : (w : WrittenProblem) → Writable w → AllWithin (fields_of w)
    → All (λ c. All Fits (clause_fields w.booleans c)) w.clauses
unfolding fields_of
clauses-fit w h k =
    each_fits (clause_fields w.booleans) w.clauses
    (append-all Fits (header_fields w.booleans w.rationals (length w.clauses))
    (concat (map (clause_fields w.booleans) w.clauses)) (all_both _ _ (fields_of w) h.numbers k)).1

pub written_back : (w : WrittenProblem) → Writable w → AllWithin (fields_of w) → written_as (meaning w) ≡ w
unfolding meaning written_as
written_back w h k = λ i. record {
  booleans = w.booleans;
  rationals = w.rationals;
  clauses = clauses-back w.rationals w.booleans layout.first_clause w.clauses h.coefficients (clauses-fit w h k) i;
}

-- ---- a problem that was read
-- as written, it is the one that the bytes write
pub record WrittenAs (input : List ℕ) (p : Problem) : Type 0 where
  pub writes : Writes input (written_as p)
  pub means : meaning (written_as p) ≡ p
  pub short : length input ≤ limit.problem_bytes
  pub splits : splits_in p.clauses ≤ limit.splits

pub read-as-written : (input : List ℕ) → AllBytes input → (p : Problem) → read input ≡ sound p → WrittenAs input p
read-as-written input h p e = of ((reads-exactly input h p).0 e)
  where
    of : IsProblem input p → WrittenAs input p
    of q =
        let w = q.writes in
        let same : written_as p ≡ q.written = ap written_as (sym q.means) ∙ written_back q.written w.writable w.within in
        record {
          writes = subst (Writes input) (sym same) w;
          means = ap meaning same ∙ q.means;
          short = q.short;
          splits = q.splits;
        }

-- "all else is copied": its bytes are those of its fields
pub bytes_back : (input : List ℕ) → AllBytes input → (p : Problem) → read input ≡ sound p → input ≡ bytes_of (fields_of (written_as p))
bytes_back input h p e = (read-as-written input h p e).writes.are

pub read-rows : (input : List ℕ) → AllBytes input → (p : Problem) → read input ≡ sound p
    → All (λ c. All FitsRow c.comparisons) (written_as p).clauses
read-rows input h p e =
    let w = (read-as-written input h p e).writes in
    all_map _ _ (written_as p).clauses (clause-rows (written_as p).booleans) (clauses-fit (written_as p) w.writable w.within)
