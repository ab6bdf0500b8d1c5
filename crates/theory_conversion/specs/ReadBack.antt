-- The new problem is read without fault exactly if it has at most 8 rational variables and is not too long.
use Rattle.std.specs.Prelude.{◌≡◌, refl, Bool, ◌||◌, ℕ, ◌+◌, ◌%◌, ◌≤◌, ◌<◌}
use Rattle.std.proofs.Math.Path.{sym, ap}
use Rattle.std.proofs.Common.{◌∙◌}
use Rattle.std.proofs.Math.Bool.{false}
use mathlib.Core.List.{List, [], ◌∷◌, map}
use native.Mathlib.Omega.{arith}
use borrow.Author.Tests.{ltb-false, le-ltb, le-leb}
use Rattle.std.proofs.Math.Dec.{eqb}
use Rattle.std.proofs.Math.ListN.{length, get_or}
use Rattle.std.proofs.lemmas.List.{length-map}
use Rattle.rules_types.specs.Limits as limit
use Rattle.rules_types.specs.Layout as layout
use Rattle.rules.specs.Lists.{concat}
use Rattle.rules.specs.Bytes.{to_bytes}
use Rattle.rules.specs.Problem.{Problem}
use Rattle.rules.specs.Written.{Field, field_bytes, bytes_of, amount_fields, comparison_fields, comparisons_fields}
use Rattle.rules.specs.Written.{literals_fields, comparison_list_fields, clause_fields, header_fields, fields_of}
use Rattle.rules.specs.Written.{WrittenComparison, WrittenClause, WrittenProblem, meaning}
use Rattle.rules.specs.Convert.{kept, place_of, split_row, split_comparison, split_clause, split_problem, written_as}
use Rattle.rules.specs.Convert.{carried_over, carried_over_bytes, over_rationals}
use Rattle.rules.specs.Calls.{sound, read}
use Rattle.theory_lists.specs.All.{All, all_map, all_both, all_append, append-all, all-mapped}
use Rattle.theory_bytes.specs.Bytes.{AllBytes, bytes-to_bytes}
use Rattle.theory_splitting.specs.WellFormed.{splits_in}
use Rattle.theory_splitting.specs.WellRead.{read-well-formed}
use Rattle.theory_reading.specs.Statements.{Writable, AllWithin, Writes, IsProblem}
use Rattle.theory_reading.specs.Answered.{answered}
use Rattle.theory_conversion.specs.WrittenBack.{Fits, each_fits, read-as-written, read-rows}
use Rattle.theory_conversion.specs.Length.{place-high, length-split_row}
use Rattle.theory_conversion.specs.Turned.{row_fits}
use Rattle.theory_conversion.specs.Splits.{splits-in-same}

-- ---- its fields fit
fits_each : {A : Type 0} (fields : A → List Field) (s : List A) → All (λ a. All Fits (fields a)) s → All Fits (concat (map fields s))
unfolding concat
fits_each fields [] h = tt
fits_each fields (a ∷ s) h = all_append Fits (fields a) (concat (map fields s)) h.0 (fits_each fields s h.1)

-- it has so many coefficients
abbrev Long : ℕ → WrittenComparison → Type 0
Long r c = length c.coefficients ≡ r

module _ (keeps : ℕ → Bool) where
  comparison-fits : (equated : Bool) (c : WrittenComparison) → All Fits (comparison_fields equated c)
      → All Fits (comparison_fields equated (split_comparison keeps c))
  unfolding comparison_fields split_comparison
  comparison-fits equated c h =
      let ns = c.coefficients in
      let k = append-all Fits (concat (map amount_fields ns)) (amount_fields c.bound) h.1 in
      let new = split_row keeps 0 ns in (
        h.0,
        all_append Fits (concat (map amount_fields new)) (amount_fields c.bound)
            (fits_each amount_fields new (row_fits keeps 0 ns (each_fits amount_fields ns k.0))) k.1,
      )

  comparisons-fit : (equated : Bool) (cs : List WrittenComparison) → All Fits (comparisons_fields equated cs)
      → All Fits (comparisons_fields equated (map (split_comparison keeps) cs))
  unfolding comparisons_fields split_comparison
  comparisons-fit equated [] h = tt
  comparisons-fit equated (c ∷ cs) h =
      let later = equated || eqb c.relation 3 in
      let k = append-all Fits (comparison_fields equated c) (comparisons_fields later cs) h in
      all_append Fits (comparison_fields equated (split_comparison keeps c)) (comparisons_fields later (map (split_comparison keeps) cs))
      (comparison-fits equated c k.0) (comparisons-fit later cs k.1)

  clause-fits : (b : ℕ) (c : WrittenClause) → All Fits (clause_fields b c) → All Fits (clause_fields b (split_clause keeps c))
  unfolding clause_fields comparison_list_fields split_clause
  clause-fits b c h =
      let ls = literals_fields b c.literals in
      let k = append-all Fits ls (comparison_list_fields c.comparisons) h in
      all_append Fits ls (comparison_list_fields (map (split_comparison keeps) c.comparisons)) k.0
      (rw (length-map c.comparisons (split_comparison keeps)) k.1.0, comparisons-fit false c.comparisons k.1.1)

  split-fits : (w : WrittenProblem) → place_of keeps w.rationals ≤ limit.rationals → All Fits (fields_of w)
      → All Fits (fields_of (split_problem keeps w))
  unfolding fields_of header_fields split_problem
  split-fits w few h =
      let b = w.booleans in
      let clauses = all_map _ _ w.clauses (clause-fits b) (each_fits (clause_fields b) w.clauses h.1.1.1) in (
        h.0,
        (
          (omega arith, le-leb (place_of keeps w.rationals) limit.rationals few),
          (
            rw (length-map w.clauses (split_clause keeps)) h.1.1.0,
            fits_each (clause_fields b) (map (split_clause keeps) w.clauses)
                (all-mapped (λ c. All Fits (clause_fields b c)) (split_clause keeps) w.clauses clauses),
          ),
        ),
      )

  -- as many coefficients as there are variables
  row-long : (r : ℕ) (c : WrittenComparison) → Long r c → Long (place_of keeps r) (split_comparison keeps c)
  unfolding split_comparison place_of
  row-long r c e =
      let z : 0 + length c.coefficients ≡ r = omega arith in omega (arith, rw z at (length-split_row keeps 0 c.coefficients))

  pub split-writes : (w : WrittenProblem) → Writable w → AllWithin (fields_of w) → place_of keeps w.rationals ≤ limit.rationals
      → Writes (bytes_of (fields_of (split_problem keeps w))) (split_problem keeps w)
  unfolding split_problem split_clause
  split-writes w h k few =
      let fits = split-fits w few (all_both _ _ (fields_of w) h.numbers k) in
      let new = fields_of (split_problem keeps w) in
      record {
        writable = record {
          numbers = all_map Fits _ new (λ x t. t.0) fits;
          coefficients = all-mapped (λ c. All (Long (place_of keeps w.rationals)) c.comparisons) (split_clause keeps) w.clauses
              (all_map (λ c. All (Long w.rationals) c.comparisons) _ w.clauses (λ c t.
              all-mapped (Long (place_of keeps w.rationals)) (split_comparison keeps) c.comparisons
              (all_map (Long w.rationals) _ c.comparisons (row-long w.rationals) t)) h.coefficients);
        };
        within = all_map Fits _ new (λ x t. t.1) fits;
        are = refl;
      }

-- ---- its bytes are bytes
pub bytes-of-fields : (xs : List Field) → AllBytes (bytes_of xs)
unfolding bytes_of concat
bytes-of-fields [] = tt
bytes-of-fields (x ∷ xs) = all_append (λ n. n < 256) (field_bytes x) (bytes_of xs) (bytes-to_bytes x.size x.number) (bytes-of-fields xs)

pub carried-bytes : (p : Problem) → AllBytes (carried_over_bytes p)
unfolding carried_over_bytes
carried-bytes p = bytes-of-fields (fields_of (carried_over p))

-- the second byte says how many rational variables there are
second-byte : (w : WrittenProblem) → get_or (bytes_of (fields_of w)) 1 0 ≡ w.rationals % 256
unfolding bytes_of concat fields_of header_fields to_bytes
second-byte w = refl

-- ---- so it is read
module _ (input : List ℕ) (h : AllBytes input) (p : Problem) (e : read input ≡ sound p) where
  -- 13 is named for both or for neither
  pub carried-splits : splits_in (meaning (carried_over p)).clauses ≡ splits_in p.clauses
  unfolding carried_over split_problem written_as meaning
  carried-splits =
      splits-in-same (kept p) p.booleans layout.first_clause layout.first_clause (written_as p).clauses (read-rows input h p e)
      ∙ ap (λ (q : Problem). splits_in q.clauses) (read-as-written input h p e).means

  module _ (few : over_rationals p ≡ false) where
    pub carried-writes : Writes (carried_over_bytes p) (carried_over p)
    unfolding carried_over carried_over_bytes over_rationals split_problem written_as
    carried-writes =
        let w = (read-as-written input h p e).writes in
        split-writes (kept p) (written_as p) w.writable w.within (ltb-false limit.rationals (place_of (kept p) p.rationals) few)

    pub carried-is : length (carried_over_bytes p) ≤ limit.problem_bytes → IsProblem (carried_over_bytes p) (meaning (carried_over p))
    carried-is short = record {
      written = carried_over p;
      writes = carried-writes;
      means = refl;
      short = short;
      splits = omega (arith, carried-splits, (read-as-written input h p e).splits);
    }

    pub carried-read : length (carried_over_bytes p) ≤ limit.problem_bytes → read (carried_over_bytes p) ≡ sound (meaning (carried_over p))
    carried-read short = answered (carried_over_bytes p) (sound (meaning (carried_over p))) (carried-is short)

  -- ---- and only then
  module _ (q : Problem) (f : read (carried_over_bytes p) ≡ sound q) where
    pub read-few : over_rationals p ≡ false
    unfolding carried_over_bytes carried_over over_rationals split_problem written_as
    read-few =
        let new = read-as-written (carried_over_bytes p) (carried-bytes p) q f in
        let s = place_of (kept p) p.rationals in
        let same : s % 256 ≡ q.rationals % 256 =
        sym (second-byte (carried_over p)) ∙ ap (λ (bytes : List ℕ). get_or bytes 1 0) new.writes.are ∙ second-byte (written_as q) in
        let most = (read-well-formed (carried_over_bytes p) q f).rationals in
        let few = (read-well-formed input p e).rationals in
        le-ltb limit.rationals s (omega (arith, place-high (kept p) p.rationals))

    pub read_short : length (carried_over_bytes p) ≤ limit.problem_bytes
    read_short = (read-as-written (carried_over_bytes p) (carried-bytes p) q f).short

    pub read-new : q ≡ meaning (carried_over p)
    read-new = let g = carried-read read-few read_short in cc
