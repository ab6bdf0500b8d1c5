-- Request (vi): first-edition problems carried over to the second edition, and models carried back.
use Rattle.std.specs.Prelude.{◌≡◌, refl, Bool, true, false, cond, List, [], ◌∷◌, ◌++◌, map, ℕ, ℤ, pos, negsuc, eqb, length, replicate}
use Rattle.rules_types.specs.declared.answers.Refusal.TheVariants as refusal
use Rattle.rules_types.specs.declared.answers.Converted.{Converted}
use Rattle.rules_types.specs.declared.answers.Converted.TheVariants.{Length, Refused}
use Rattle.rules_types.specs.declared.answers.Carried.{Carried}
use Rattle.rules_types.specs.declared.answers.Carried.TheVariants as carried
use Rattle.rules.specs.Lists.{tabulate}
use Rattle.rules.specs.Bytes.{to_bytes, amount_bytes, padded}
use Rattle.rules.specs.Written.{bytes_of, amount_fields, relation_field, comparison_fields, comparisons_fields, literal_fields}
use Rattle.rules.specs.Written.{literals_fields, comparison_list_fields, clause_fields, header_fields, fields_of, literal_meant}
use Rattle.rules.specs.Written.{comparison_meant, clause_meant, clauses_meant, meaning}
use Rattle.rules.specs.Calls.{faulty, sound, read}
use Rattle.rules.specs.Convert.{negative_alone, is_upper, sole_bound, kept_by, kept, place_of, turned, split_row, split_comparison}
use Rattle.rules.specs.Convert.{split_clause, split_problem, literal_code, relation_code, written_comparison, written_clause, written_as}
use Rattle.rules.specs.Convert.{carried_over, carried_over_bytes, over_rationals, converted_into, convert, carried_numerator}
use Rattle.rules.specs.Convert.{carried_back, first_beyond, carried_into, read_carried, carry_back}
use Rattle.rules.specs.Write.{at_most, below, equals, at_least, clause_of, alone, problem_of}
use Rattle.rules.specs.Compute.{definitions}

unfoldable abbrev conversions : Unit {0}
unfolding definitions bytes_of amount_fields relation_field comparison_fields comparisons_fields literal_fields literals_fields
    comparison_list_fields clause_fields header_fields fields_of literal_meant comparison_meant clause_meant clauses_meant meaning
    negative_alone
    is_upper sole_bound kept_by kept place_of turned split_row split_comparison split_clause split_problem literal_code relation_code
    written_comparison written_clause written_as carried_over carried_over_bytes over_rationals converted_into convert carried_numerator
    carried_back first_beyond carried_into read_carried carry_back
conversions = tt

abbrev minus : ℤ
minus = negsuc 0

-- ---- which rational variables are kept
-- of a problem with b Boolean and r rational variables
abbrev keeps : ℕ → ℕ → List (List ℕ) → List Bool
keeps b r clauses = elim (read (problem_of b r clauses)) [ faulty f place ↦ [] | sound p ↦ tabulate r (kept p) ]

-- -x ≤ 0, -7x < 0, -x ≤ -3: each keeps x
pub bounded-kept :
    map (λ c. keeps 0 1 (alone c ∷ [])) (at_most (minus ∷ []) (pos 0) ∷ below (negsuc 6 ∷ []) (pos 0) ∷ at_most (minus ∷ []) (negsuc 2)
    ∷ [])
    ≡ replicate 3 (true ∷ [])
unfolding conversions
bounded-kept = refl

-- -x ≤ 1, x ≤ 0, x ≥ 0, -x ≥ 0, -x = 0, 0 ≤ 0: none does
pub others-split :
    map (λ c. keeps 0 1 (alone c ∷ []))
    (at_most (minus ∷ []) (pos 1) ∷ at_most (pos 1 ∷ []) (pos 0) ∷ at_least (pos 1 ∷ []) (pos 0) ∷ at_least (minus ∷ []) (pos 0)
    ∷ equals (minus ∷ []) (pos 0)
    ∷ at_most (pos 0 ∷ []) (pos 0) ∷ [])
    ≡ replicate 6 (false ∷ [])
unfolding conversions
others-split = refl

-- a literal beside it, another condition beside it, another figure in it, and no clause
pub company-splits :
    keeps 1 1 (clause_of (0 ∷ []) (at_most (minus ∷ []) (pos 0) ∷ []) ∷ [])
    ++ keeps 0 1 (clause_of [] (at_most (minus ∷ []) (pos 0) ∷ at_most (minus ∷ []) (pos 0) ∷ []) ∷ [])
    ++ keeps 0 2 (alone (at_most (minus ∷ minus ∷ []) (pos 0)) ∷ []) ++ keeps 0 1 []
    ≡ replicate 5 false
unfolding conversions
company-splits = refl

-- the second of three, by the last of three clauses
pub second-kept :
    keeps 0 3 (alone (at_most (pos 1 ∷ pos 1 ∷ pos 0 ∷ []) (pos 9)) ∷ clause_of [] [] ∷ alone (below (pos 0 ∷ negsuc 4 ∷ pos 0 ∷ [])
    (pos 0)) ∷ [])
    ≡ false ∷ true ∷ false ∷ []
unfolding conversions
second-kept = refl

-- ---- converting
-- x + y ≤ -5; -x ≤ 0: 34 bytes become 42, y its two halves; 7 lies behind the result
abbrev shared : List ℕ
shared = problem_of 0 2 (alone (at_most (pos 1 ∷ pos 1 ∷ []) (negsuc 4)) ∷ alone (at_most (minus ∷ pos 0 ∷ []) (pos 0)) ∷ [])

abbrev carried_shared : List ℕ
carried_shared =
    problem_of 0 3
    (alone (at_most (pos 1 ∷ pos 1 ∷ minus ∷ []) (negsuc 4)) ∷ alone (at_most (minus ∷ pos 0 ∷ pos 0 ∷ []) (pos 0)) ∷ [])

pub shared-sizes : length shared ∷ length carried_shared ∷ [] ≡ 34 ∷ 42 ∷ []
unfolding conversions
shared-sizes = refl

pub shared-converted : convert shared (replicate 43 7) ≡ record { converted = Length 42; output = carried_shared ++ (7 ∷ []) }
unfolding conversions
shared-converted = refl

-- 21 by one byte, and no byte altered
pub one-byte-short : convert shared (replicate 41 7) ≡ record { converted = Refused refusal.OutputSpace 0; output = replicate 41 7 }
unfolding conversions
one-byte-short = refl

-- literals, relations and bounds are copied: a or not b or 2x = 3 or x < -1, as written
abbrev several : List ℕ → List (List ℕ) → List ℕ
several row others = clause_of (0 ∷ 129 ∷ []) ((3 ∷ row ++ amount_bytes (pos 3 ∷ [])) ∷ others)

pub rest-copied :
    convert (problem_of 2 1 (several (amount_bytes (pos 2 ∷ [])) (below (pos 1 ∷ []) minus ∷ []) ∷ [])) (replicate 34 0)
    ≡ record {
      converted = Length 34;
      output = problem_of 2 2 (several (amount_bytes (pos 2 ∷ negsuc 1 ∷ [])) (below (pos 1 ∷ minus ∷ []) minus ∷ []) ∷ []);
    }
unfolding conversions
rest-copied = refl

-- 20: five become ten, four eight; eight of which seven are kept become nine, and eight that are kept stay eight
abbrev answers : ℕ → List (List ℕ) → Converted
answers r clauses = (convert (problem_of 0 r clauses) (replicate 400 0)).converted

abbrev bounding : ℕ → List ℕ
bounding f = alone (at_most (tabulate 8 (λ i. cond (eqb i f) minus (pos 0))) (pos 0))

pub many-split :
    answers 5 [] ∷ answers 4 [] ∷ answers 8 (tabulate 7 bounding) ∷ answers 8 (tabulate 8 bounding) ∷ []
    ≡ Refused refusal.SplitRationals 0 ∷ Length 4 ∷ Refused refusal.SplitRationals 0 ∷ Length 316 ∷ []
unfolding conversions
many-split = refl

-- the problem's faults come first: 4 at its length
pub faults-first : (convert (0 ∷ 5 ∷ 0 ∷ []) []).converted ≡ Refused refusal.Truncated 3
unfolding conversions
faults-first = refl

-- ---- carrying back
abbrev valued : List ℤ → List ℕ
valued xs = padded 64 (0 ∷ length xs ∷ to_bytes 4 1 ++ amount_bytes xs)

-- 0, 0, 5 goes back to 0, -5, over the target's old bytes, and 8 lies beyond
pub shared-carried : carry_back shared (valued (pos 0 ∷ pos 0 ∷ pos 5 ∷ [])) (replicate 65 8)
    ≡ record {
      carried = carried.Done;
      model = valued (pos 0 ∷ negsuc 4 ∷ []) ++ (8 ∷ []);
    }
unfolding conversions
shared-carried = refl

-- 17 for an old model, at its count of figures; 2 for either that is short; 22 at the second figure, and no byte altered
abbrev carries : List ℕ → List ℕ → Carried
carries bytes target = (carry_back shared bytes target).carried

pub carrying-refused :
    carries (valued (pos 0 ∷ negsuc 4 ∷ [])) (replicate 64 0)
    ∷ carries (replicate 63 0) (replicate 64 0)
    ∷ carries (replicate 64 0) (replicate 63 0)
    ∷ carries (valued (pos 0 ∷ pos 1000000000 ∷ minus ∷ [])) (replicate 64 0)
    ∷ []
    ≡ carried.Refused refusal.BadModel 1
    ∷ carried.Refused refusal.ShortModel 0
    ∷ carried.Refused refusal.ShortModel 0
    ∷ carried.Refused refusal.CarriedRange 1
    ∷ []
unfolding conversions
carrying-refused = refl
