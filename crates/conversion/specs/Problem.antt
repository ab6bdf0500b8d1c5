-- The bytes of the new problem by the places of the old one, and what each test of the call comes to.
use Rattle.std.specs.Prelude.{◌≡◌, refl, Bool, List, ◌∷◌, ◌++◌, map, get_or, set}
use Rattle.std.proofs.Math.Path.{sym}
use Rattle.std.proofs.Common.{ap, ◌∙◌}
use Prim.Native.Nat.{ℕ, ◌+◌, ◌*◌, ◌-◌, ◌%◌, ◌≤◌, ◌<◌}
use native.Mathlib.Omega.{arith}
use borrow.Author.Tests.{lt-ltb, le-ltb}
use Rattle.std.proofs.Math.ListN.{length, length-append, length-set}
use Rattle.std.proofs.lemmas.List.{length-map}
use Rattle.rules_types.specs.declared.answers.Refusal.{Refusal}
use Rattle.rules_types.specs.declared.answers.Refusal.TheVariants as refusal
use Rattle.rules_types.specs.declared.answers.Converted.TheVariants as converted
use Rattle.rules_types.specs.Limits as limit
use Rattle.rules_types.specs.Layout as layout
use Rattle.rules.specs.Lists.{concat}
use Rattle.rules.specs.Bytes.{to_bytes}
use Rattle.rules.specs.Problem.{Problem}
use Rattle.rules.specs.Calls.{read}
use Rattle.rules.specs.Written.{WrittenClause, bytes_of, header_fields, fields_of, clause_fields}
use Rattle.rules.specs.Convert.{kept, place_of, split_clause, split_problem, written_clause, written_as, carried_over, carried_over_bytes}
use Rattle.rules.specs.Convert.{over_rationals, converted_into, convert}
use Rattle.theory_bytes.specs.Bytes.{all-bytes, length-to_bytes}
use Rattle.theory_conversion.specs.Length.{comparisons_in, place-low, length-carried_over}
use Rattle.theory_conversion.specs.WrittenBack.{read-as-written}
use Rattle.fields.specs.Field.{stored}
use Rattle.kept_rationals.specs.Kept.{inside}
use Rattle.problem_scan.specs.declared.cursor.Sizes.{Sizes}
use Rattle.problem_scan.specs.declared.cursor.Scan.TheVariants.{Fault}
use Rattle.problem_read.specs.Clauses.{length-clauses_at}
use Rattle.problem_read.specs.Parsed.{all_clauses, problem_at}
use Rattle.problem_read.specs.ScanOf.{scan_of, scan_of-faulty}
use Rattle.problem_read.specs.Readable.{Readable}
use Rattle.conversion.specs.Writing.{Wrote, wrote-size, wrote-++, wrote-byte}
use Rattle.conversion.specs.Clauses.{split_clauses_at}
use Rattle.conversion.specs.Written.{bytes-++, clauses-bytes}

-- b, the new r and n, then the clauses
unfoldable pub header_of : ℕ → ℕ → ℕ → List ℕ
header_of b r n = b ∷ r ∷ to_bytes 2 n

unfoldable pub split_problem_at : (ℕ → Bool) → ℕ → List ℕ → Sizes → List ℕ
split_problem_at keeps r q sizes =
    header_of sizes.booleans r sizes.clauses ++ split_clauses_at keeps q sizes.rationals sizes.clauses layout.first_clause

-- ---- how it is written
module _ (keeps : ℕ → Bool) (r : ℕ) (q : List ℕ) (sizes : Sizes) (old : List ℕ)
    (fits : length (split_problem_at keeps r q sizes) ≤ length old) where
  abbrev rest : List ℕ
  rest = split_clauses_at keeps q sizes.rationals sizes.clauses layout.first_clause

  whole : length (split_problem_at keeps r q sizes) ≡ 4 + length rest
  unfolding split_problem_at header_of
  whole = omega (arith, length-append (to_bytes 2 sizes.clauses) rest, length-to_bytes 2 sizes.clauses)

  pub header-fits : 4 ≤ length old
  header-fits = omega (arith, whole)

  module _ {third : List ℕ} (header : third ≡ stored 2 (to_bytes 2 sizes.clauses) (set (set old 0 sizes.booleans) 1 r)) where
    wrote-header : Wrote old 0 (header_of sizes.booleans r sizes.clauses) third 4
    unfolding header_of
    wrote-header =
        let n = length-set old 0 sizes.booleans in
        wrote-++ (omega arith) (wrote-byte 0 sizes.booleans (omega (arith, header-fits)) refl)
        (wrote-++ (omega (arith, header-fits, n)) (wrote-byte 1 r (omega (arith, header-fits, n)) refl)
        (record { same = header; behind = omega (arith, length-to_bytes 2 sizes.clauses) }))

    header-length : length (header_of sizes.booleans r sizes.clauses) ≡ 4
    unfolding header_of
    header-length = omega (arith, length-to_bytes 2 sizes.clauses)

    pub rest-fits : layout.first_clause + length rest ≤ length third
    rest-fits = omega (arith, whole, wrote-size (omega (arith, header-fits, header-length)) wrote-header)

    pub wrote-problem : {new : List ℕ} {end : ℕ} → Wrote third layout.first_clause rest new end
        → Wrote old 0 (split_problem_at keeps r q sizes) new end
    unfolding split_problem_at
    wrote-problem w = wrote-++ (omega arith) wrote-header w

-- ---- it is what the definition writes
module _ {q : List ℕ} {sizes : Sizes} (given : Readable q sizes) (bytes : (i : ℕ) → get_or q i 0 < 256) where
  abbrev p : Problem
  p = problem_at q sizes

  header-bytes : (b r n : ℕ) → b < 256 → r < 256 → bytes_of (header_fields b r n) ≡ header_of b r n
  unfolding header_fields bytes_of concat header_of to_bytes
  header-bytes b r n h l =
      let e : b % 256 ≡ b = omega arith in
      let d : r % 256 ≡ r = omega arith in
      rw (e, d)

  pub carried-at : place_of (kept p) sizes.rationals ≤ limit.rationals
      → split_problem_at (kept p) (place_of (kept p) sizes.rationals) q sizes ≡ carried_over_bytes p
  unfolding split_problem_at carried_over_bytes carried_over split_problem written_as fields_of
  carried-at few = sym (
      bytes-++ (header_fields sizes.booleans r (length new)) (concat (map (clause_fields sizes.booleans) new))
      ∙ λ i. (ap (λ (n : ℕ). bytes_of (header_fields sizes.booleans r n)) count
      ∙ header-bytes sizes.booleans r sizes.clauses (omega (arith, given.parsed.booleans)) (omega arith)) i
      ++ clauses-bytes q bytes (kept p) sizes.rationals sizes.booleans sizes.clauses layout.first_clause given.parsed.sound i)
    where
      r : ℕ
      r = place_of (kept p) sizes.rationals

      new : List WrittenClause
      new = map (split_clause (kept p)) (map (written_clause sizes.rationals) (all_clauses q sizes))

      count : length new ≡ sizes.clauses
      count = length-map (map (written_clause sizes.rationals) (all_clauses q sizes)) (split_clause (kept p))
          ∙ length-map (all_clauses q sizes) (written_clause sizes.rationals)
          ∙ length-clauses_at q sizes.rationals sizes.clauses layout.first_clause

  -- its length, and that of the old one
  pub carried-length : length (carried_over_bytes p)
      ≡ length q + comparisons_in (all_clauses q sizes) * (4 * (place_of (kept p) sizes.rationals - sizes.rationals))
  carried-length = length-carried_over q (all-bytes q bytes) p given.is_read

  -- as the code counts them, with the mask of the variables that are kept
  module _ (mask r comparisons : ℕ) (masked : inside mask ≡ kept p) (count : r ≡ place_of (inside mask) sizes.rationals)
      (counted : comparisons ≡ comparisons_in (all_clauses q sizes)) where
    pub count-is : r ≡ place_of (kept p) sizes.rationals
    count-is = count ∙ ap (λ (keeps : ℕ → Bool). place_of keeps sizes.rationals) masked

    pub count_low : sizes.rationals ≤ r
    count_low = rw count (place-low (inside mask) sizes.rationals)

    pub length-is : length q + comparisons * (4 * (r - sizes.rationals)) ≡ length (carried_over_bytes p)
    length-is = rw (count-is, counted) (sym carried-length)

    pub written_is : r ≤ limit.rationals → split_problem_at (inside mask) r q sizes ≡ carried_over_bytes p
    written_is few =
        (λ i. split_problem_at (masked i) (count-is i) q sizes) ∙ carried-at (omega (arith, count-is))

  pub old-short : length q ≤ limit.problem_bytes
  old-short = (read-as-written q (all-bytes q bytes) p given.is_read).short

-- ---- the problem's faults
pub convert-fault : (q out : List ℕ) (f : Refusal) (place : ℕ) → scan_of (read q) ≡ Fault f place
    → convert q out ≡ record { converted = converted.Refused f place; output = out }
unfolding convert
convert-fault q out f place e = rw (scan_of-faulty (read q) f place e, convert)

-- ---- the call's own tests
module _ {q : List ℕ} {sizes : Sizes} (given : Readable q sizes) (out : List ℕ) where
  abbrev of : Problem
  of = problem_at q sizes

  pub convert-over : limit.rationals < place_of (kept of) sizes.rationals
      → convert q out ≡ record { converted = converted.Refused refusal.SplitRationals 0; output = out }
  unfolding convert over_rationals carried_over split_problem written_as
  convert-over h = rw (given.is_read, lt-ltb limit.rationals (place_of (kept of) sizes.rationals) h, convert)

  module _ (few : place_of (kept of) sizes.rationals ≤ limit.rationals) where
    within : convert q out ≡ converted_into (carried_over_bytes of) out
    unfolding convert over_rationals carried_over split_problem written_as
    within = rw (given.is_read, le-ltb limit.rationals (place_of (kept of) sizes.rationals) few, convert)

    pub convert-long : limit.problem_bytes < length (carried_over_bytes of)
        → convert q out ≡ record { converted = converted.Refused refusal.OutputSpace 0; output = out }
    unfolding converted_into
    convert-long h = within ∙ rw (lt-ltb limit.problem_bytes (length (carried_over_bytes of)) h, converted_into)

    module _ (short : length (carried_over_bytes of) ≤ limit.problem_bytes) where
      pub convert-space : length out < length (carried_over_bytes of)
          → convert q out ≡ record { converted = converted.Refused refusal.OutputSpace 0; output = out }
      unfolding converted_into
      convert-space h =
          within ∙ rw (
            le-ltb limit.problem_bytes (length (carried_over_bytes of)) short,
            lt-ltb (length out) (length
                (carried_over_bytes of)) h,
            converted_into,
          )

      pub convert-done : length (carried_over_bytes of) ≤ length out
          → convert q out ≡ record {
            converted = converted.Length (length (carried_over_bytes of));
            output = stored 0
                (carried_over_bytes of) out;
          }
      unfolding converted_into
      convert-done h =
          let n = length (carried_over_bytes of) in
          let e : 0 + n ≡ n = omega arith in
          within ∙ rw (le-ltb limit.problem_bytes n short, le-ltb (length out) n h, converted_into, e)
