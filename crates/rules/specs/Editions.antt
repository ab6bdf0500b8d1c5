-- Request (v): the second edition, in which no rational variable ("figure") is below 0, and what a call says of an edition's number.
use Rattle.std.specs.Prelude.{◌≡◌, refl, List, [], ◌∷◌, ◌++◌, map, ℕ, ℤ, pos, negsuc, replicate}
use Rattle.rules_types.specs.declared.answers.Refusal.TheVariants as refusal
use Rattle.rules_types.specs.declared.answers.Answer.TheVariants as answer
use Rattle.rules_types.specs.declared.answers.Checked.TheVariants.{Accepted, Fails, Refused}
use Rattle.rules_types.specs.declared.terms.Edition.TheVariants.{Second}
use Rattle.rules_types.specs.declared.terms.Terms.{Terms}
use Rattle.rules_types.specs.Limits as limit
use Rattle.rules.specs.Bytes.{to_bytes, amount_bytes, padded}
use Rattle.rules.specs.Lines.{rational, boolean}
use Rattle.rules.specs.Steps.{loaded, resolved, encode_proof}
use Rattle.rules.specs.Calls.{Outcome, faulted, stopped, decided, outcome, Solving, solve_in, proof_checked_in, model_checked_in}
use Rattle.rules.specs.Write.{at_most, below, at_least, clause_of, alone, problem_of}
use Rattle.rules.specs.Compute.{definitions, Example, satisfiable, unsatisfiable, shown, shown_on}

abbrev second : Terms
second = record { limits = limit.standard; edition = Second }

abbrev minus : ℤ
minus = negsuc 0

-- ---- solving
-- x ≤ -1
abbrev negative : List ℕ
negative = problem_of 0 1 (alone (at_most (pos 1 ∷ []) minus) ∷ [])

-- agrees, 1, 0 in the first edition; cannot agree, 3, 1 in the second: clause 1 states that x ≥ 0
pub negative-first : shown negative ≡ satisfiable 1 0 (loaded 0 0 ∷ []) [] (minus ∷ []) 1
unfolding definitions
negative-first = refl

abbrev below_zero : Example
below_zero = record { input = negative; shows = unsatisfiable 3 1 (loaded 0 0 ∷ loaded 1 0 ∷ resolved (rational 0) 0 1 ∷ []) }

-- no clause: those of x and y are 0 and 1
abbrev no_clause : Example
no_clause = record {
  input = problem_of 0 2 [];
  shows = satisfiable 2 0 (loaded 0 0 ∷ loaded 1 0 ∷ []) [] (pos 0 ∷ pos 0 ∷ []) 1;
}

-- no rational variable: nothing is added
abbrev no_rational : Example
no_rational = record {
  input = problem_of 1 0 (clause_of (0 ∷ []) [] ∷ []);
  shows = satisfiable 1 0 (loaded 0 0 ∷ []) (1 ∷ []) [] 1;
}

-- -x ≤ -3; -y ≤ 5: x ≥ 0 is dropped behind the first, y ≥ 0 is clause 3 all the same
abbrev behind_a_stronger : Example
behind_a_stronger = record {
  input = problem_of 0 2 (alone (at_most (minus ∷ pos 0 ∷ []) (negsuc 2)) ∷ alone (at_most (pos 0 ∷ minus ∷ []) (pos 5)) ∷ []);
  shows = satisfiable 3 0 (loaded 0 0 ∷ loaded 1 0 ∷ loaded 3 0 ∷ []) [] (pos 3 ∷ pos 0 ∷ []) 1;
}

-- x ≥ 0, and -x < 0: it is written already, or a stricter one is
abbrev behind_an_equal : Example
behind_an_equal = record {
  input = problem_of 0 1 (alone (at_least (pos 1 ∷ []) (pos 0)) ∷ []);
  shows = satisfiable 1 0 (loaded 0 0 ∷ []) [] (pos 0 ∷ []) 1;
}

abbrev behind_a_stricter : Example
behind_a_stricter = record {
  input = problem_of 0 1 (alone (below (minus ∷ []) (pos 0)) ∷ []);
  shows = satisfiable 1 0 (loaded 0 0 ∷ []) [] (pos 1 ∷ []) 1;
}

-- a or -x ≤ 0: a line with a literal drops none without
abbrev beside_a_literal : Example
beside_a_literal = record {
  input = problem_of 2 1 (clause_of (0 ∷ []) (at_most (minus ∷ []) (pos 0) ∷ []) ∷ []);
  shows = satisfiable 2 0 (loaded 0 0 ∷ loaded 1 0 ∷ []) (0 ∷ 2 ∷ []) (pos 0 ∷ []) 1;
}

-- x ≤ -1 or y ≤ -1, which takes split variable 0: no other follows
abbrev beside_splits : Example
beside_splits = record {
  input = problem_of 0 2 (clause_of [] (at_most (pos 1 ∷ pos 0 ∷ []) minus ∷ at_most (pos 0 ∷ pos 1 ∷ []) minus ∷ []) ∷ []);
  shows = unsatisfiable 7 3 (loaded 0 0 ∷ loaded 0 1 ∷ loaded 1 0 ∷ loaded 2 0 ∷ resolved (rational 0) 0 2 ∷ resolved (rational 1) 1 3
      ∷ resolved (boolean 0) 4 5 ∷ []);
}

abbrev table : List Example
table =
    below_zero ∷ no_clause ∷ no_rational ∷ behind_a_stronger ∷ behind_an_equal ∷ behind_a_stricter ∷ beside_a_literal ∷ beside_splits ∷ []

pub second-edition : map (λ e. shown_on second e.input) table ≡ map (λ e. e.shows) table
unfolding definitions
second-edition = refl

-- ---- the checks of a proof and of a model, of x ≤ -1
abbrev proof_of : Outcome → List ℕ
proof_of (faulted f place) = []
proof_of (stopped f steps pairs) = []
proof_of (decided v steps pairs bytes) = encode_proof steps

-- the second edition's proof: line 1 is a clause of that edition alone
pub second-proof : map (λ e. proof_checked_in limit.standard e negative (proof_of (outcome second negative))) (1 ∷ 2 ∷ [])
    ≡ Fails 1 ∷ Accepted ∷ []
unfolding definitions
second-proof = refl

-- the first edition's model: clause 1 fails in the second
abbrev valued : ℤ → List ℕ
valued x = padded 64 (0 ∷ 1 ∷ to_bytes 4 1 ++ amount_bytes (x ∷ []))

pub first-model : map (λ e. model_checked_in limit.standard e negative (valued minus)) (1 ∷ 2 ∷ []) ≡ Accepted ∷ Fails 1 ∷ []
unfolding definitions
first-model = refl

-- the written clauses come before it
pub written-first : map (λ e. model_checked_in limit.standard e negative (valued (pos 0))) (1 ∷ 2 ∷ []) ≡ Fails 0 ∷ Fails 0 ∷ []
unfolding definitions
written-first = refl

-- ---- 19, "any other edition, tested first"
abbrev others : List ℕ
others = 0 ∷ 3 ∷ 255 ∷ 257 ∷ 18446744073709551615 ∷ []

-- before 1, 2 and 3 to 13: the problem has no byte, and the buffers have one each
abbrev nineteen : Solving
nineteen = record { solved = record { answer = answer.Refused refusal.Edition 0; pairs = 0 }; proof = 7 ∷ []; model = 9 ∷ [] }

pub others-refused : map (λ e. solve_in limit.standard e [] (7 ∷ []) (9 ∷ [])) others ≡ replicate 5 nineteen
unfolding definitions
others-refused = refl

pub others-unchecked : map (λ e. proof_checked_in limit.standard e [] []) others
    ++ map (λ e. model_checked_in limit.standard e [] []) others
    ≡ replicate 10 (Refused refusal.Edition 0)
unfolding definitions
others-unchecked = refl

-- 1 and 4 in both editions
pub known-tested : map (λ e. (solve_in limit.standard e [] (7 ∷ []) (9 ∷ [])).solved.answer) (1 ∷ 2 ∷ [])
    ≡ replicate 2 (answer.Refused refusal.ShortProof 0)
unfolding definitions
known-tested = refl

pub known_read : map (λ e. model_checked_in limit.standard e [] []) (1 ∷ 2 ∷ []) ≡ replicate 2 (Refused refusal.Truncated 0)
unfolding definitions
known_read = refl
