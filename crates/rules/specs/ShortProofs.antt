-- Request (xi): proofs trimmed, with every byte of the target.
use Rattle.std.specs.Prelude.{◌≡◌, refl, false, List, [], ◌∷◌, ◌++◌, map, ℕ, ◌*◌, ◌-◌, ℤ, pos, negsuc, length, replicate, take}
use Rattle.std.proofs.Math.Option.{none, some}
use Rattle.rules_types.specs.declared.answers.Refusal.TheVariants as refusal
use Rattle.rules_types.specs.declared.answers.Trimmed.{Trimmed}
use Rattle.rules_types.specs.declared.answers.Trimmed.TheVariants.{Steps, Fails, Refused}
use Rattle.rules_types.specs.declared.limits.Limits.{Limits}
use Rattle.rules.specs.Lines.{Booleans, Line, no_booleans, including, rational, boolean}
use Rattle.rules.specs.Steps.{Origin, loaded, resolved, Step, encode_proof}
use Rattle.rules.specs.Trim.{is_loaded, parents, ancestors, step_count, needed, count_below, renumbered, kept_steps, trimmed}
use Rattle.rules.specs.Trim.{Trimming, trim_checked, trim, trim_in}
use Rattle.rules.specs.Write.{at_most, equals, alone, clause_of, problem_of}
use Rattle.rules.specs.Compute.{definitions}

unfoldable abbrev trimmings : Unit {0}
unfolding definitions is_loaded parents ancestors step_count needed count_below renumbered kept_steps trimmed trim_checked trim trim_in
trimmings = tt

-- ---- lines in x and y, and proofs of them
-- ax + by ≤ k
abbrev up_to : ℤ → ℤ → ℤ → Line
up_to a b k = record {
  positive = no_booleans;
  negative = no_booleans;
  constraint = some (record { coefficients = a ∷ b ∷ replicate 6 (pos 0); strict = false; bound = k });
}

abbrev empty : Line
empty = record { positive = no_booleans; negative = no_booleans; constraint = none }

abbrev step : Origin → Line → Step
step o l = record { origin = o; line = l }

abbrev minus : ℤ
minus = negsuc 0

-- a buffer for five steps, and two bytes beyond
abbrev five : Limits
five = record { steps = 5 }

abbrev lent : List ℕ
lent = replicate 322 171

-- what a call leaves there: these steps, zeros, and the bytes beyond
abbrev short : List Step → Trimming
short ss = record {
  trimmed = Steps (length ss);
  target = encode_proof ss ++ replicate (320 - 64 * length ss) 0 ++ replicate 2 171;
}

abbrev call : ℕ → List ℕ → List Step → Trimming
call edition input ss = trim_in five edition input (encode_proof ss) lent

-- ---- example 7 keeps its five lines: x + y ≤ 10; -x ≤ -7; -y ≤ -4
abbrev seven : List ℕ
seven = problem_of 0 2 (alone (at_most (pos 1 ∷ pos 1 ∷ []) (pos 10)) ∷ alone (at_most (minus ∷ pos 0 ∷ []) (negsuc 6))
    ∷ alone (at_most (pos 0 ∷ minus ∷ []) (negsuc 3)) ∷ [])

abbrev seven_steps : List Step
seven_steps = step (loaded 0 0) (up_to (pos 1) (pos 1) (pos 10)) ∷ step (loaded 1 0) (up_to minus (pos 0) (negsuc 6))
    ∷ step (loaded 2 0) (up_to (pos 0) minus (negsuc 3)) ∷ step (resolved (rational 0) 0 1) (up_to (pos 0) (pos 1) (pos 3))
    ∷ step (resolved (rational 1) 3 2) empty ∷ []

pub seven-kept : call 1 seven seven_steps ≡ short seven_steps
unfolding trimmings
seven-kept = refl

-- ---- x ≤ -1, -x ≤ 0, x ≤ -2
abbrev three : List ℕ
three = problem_of 0 1 (alone (at_most (pos 1 ∷ []) minus) ∷ alone (at_most (minus ∷ []) (pos 0))
    ∷ alone (at_most (pos 1 ∷ []) (negsuc 1)) ∷ [])

abbrev first : Step
first = step (loaded 0 0) (up_to (pos 1) (pos 0) minus)

abbrev second : Step
second = step (loaded 1 0) (up_to minus (pos 0) (pos 0))

abbrev third : Step
third = step (loaded 2 0) (up_to (pos 1) (pos 0) (negsuc 1))

abbrev end : ℕ → ℕ → Step
end i j = step (resolved (rational 0) i j) empty

-- lines after an empty one: the last counts, not the first empty one; its parents, 3 and 1, become 1 and 0, and clause 2 stays clause 2
pub last-counts : call 1 three (first ∷ second ∷ end 0 1 ∷ third ∷ end 3 1 ∷ []) ≡ short (second ∷ third ∷ end 1 0 ∷ [])
unfolding trimmings
last-counts = refl

-- a line that stands twice: the one that is named as a parent stays
pub twice : map (λ i. call 1 three (first ∷ first ∷ second ∷ end i 2 ∷ [])) (0 ∷ 1 ∷ [])
    ≡ replicate 2 (short (first ∷ second ∷ end 0 1 ∷ []))
unfolding trimmings
twice = refl

-- in edition 2 clause 3 states that -x ≤ 0
pub added-clause : call 2 three (second ∷ third ∷ step (loaded 3 0) (up_to minus (pos 0) (pos 0)) ∷ end 1 2 ∷ [])
    ≡ short (third ∷ step (loaded 3 0) (up_to minus (pos 0) (pos 0)) ∷ end 0 1 ∷ [])
unfolding trimmings
added-clause = refl

-- x = 5, x ≤ 4: part 1 of clause 0 stays part 1
abbrev equal : List ℕ
equal = problem_of 0 1 (alone (equals (pos 1 ∷ []) (pos 5)) ∷ alone (at_most (pos 1 ∷ []) (pos 4)) ∷ [])

pub second-part : call 1 equal (step (loaded 0 0) (up_to (pos 1) (pos 0) (pos 5)) ∷ step (loaded 0 1) (up_to minus (pos 0) (negsuc 4))
    ∷ step (loaded 1 0) (up_to (pos 1) (pos 0) (pos 4)) ∷ end 2 1 ∷ [])
    ≡ short (step (loaded 0 1) (up_to minus (pos 0) (negsuc 4)) ∷ step (loaded 1 0) (up_to (pos 1) (pos 0) (pos 4)) ∷ end 1 0 ∷ [])
unfolding trimmings
second-part = refl

-- x ≤ 1; a; not a: by a mark
abbrev by_mark : Booleans → Booleans → Line
by_mark p n = record { positive = p; negative = n; constraint = none }

abbrev a : Booleans
a = including 0 no_booleans

pub by-a-mark : call 1 (problem_of 1 1 (alone (at_most (pos 1 ∷ []) (pos 1)) ∷ clause_of (0 ∷ []) [] ∷ clause_of (128 ∷ []) [] ∷ []))
    (step (loaded 0 0) (up_to (pos 1) (pos 0) (pos 1)) ∷ step (loaded 2 0) (by_mark no_booleans a)
    ∷ step (loaded 1 0) (by_mark a no_booleans)
    ∷ step (resolved (boolean 0) 2 1) empty ∷ [])
    ≡ short (step (loaded 2 0) (by_mark no_booleans a) ∷ step (loaded 1 0) (by_mark a no_booleans) ∷ step (resolved (boolean 0) 1 0) empty
    ∷ [])
unfolding trimmings
by-a-mark = refl

-- x ≤ 1, and a clause of nothing: the last line is loaded, and has no parent, though it names clause 1 and part 0
pub loaded-empty : call 1 (problem_of 0 1 (alone (at_most (pos 1 ∷ []) (pos 1)) ∷ clause_of [] [] ∷ []))
    (step (loaded 0 0) (up_to (pos 1) (pos 0) (pos 1)) ∷ step (loaded 1 0) empty ∷ [])
    ≡ short (step (loaded 1 0) empty ∷ [])
unfolding trimmings
loaded-empty = refl

-- ---- the tests in their order; nothing is written
-- 19 and 1, before a question without bytes: of a target that is a byte too short
abbrev without : ℕ → List ℕ → Trimming
without edition target = trim_in five edition [] [] target

pub edition-first : map (λ e. without e (171 ∷ [])) (0 ∷ 3 ∷ [])
    ≡ replicate 2 (record { trimmed = Refused refusal.Edition 0; target = 171 ∷ [] })
unfolding trimmings
edition-first = refl

pub then-target : without 1 (take 319 lent) ≡ record { trimmed = Refused refusal.ShortProof 0; target = take 319 lent }
unfolding trimmings
then-target = refl

pub then-question : without 1 lent ≡ record { trimmed = Refused refusal.Truncated 0; target = lent }
unfolding trimmings
then-question = refl

abbrev untouched : List Trimmed → List Trimming
untouched ts = map (λ t. record { trimmed = t; target = lent }) ts

-- 16, of no line and of a part of one
pub then-length : map (λ n. trim_in five 1 three (take n (encode_proof (first ∷ second ∷ []))) lent) (0 ∷ 127 ∷ [])
    ≡ untouched (Refused refusal.ProofLength 0 ∷ Refused refusal.ProofLength 127 ∷ [])
unfolding trimmings
then-length = refl

-- the first line that fails, edition 2's clause in edition 1 too; the line count if the end is not empty
pub then-checked :
    map (call 1 three)
    ((first ∷ end 0 1 ∷ second ∷ []) ∷ (first ∷ step (loaded 3 0) (up_to minus (pos 0) (pos 0)) ∷ end 0 1 ∷ []) ∷ (first ∷ second ∷ [])
    ∷ [])
    ≡ untouched (Fails 1 ∷ Fails 1 ∷ Fails 2 ∷ [])
unfolding trimmings
then-checked = refl
