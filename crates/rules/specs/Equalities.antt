-- Request (i): questions with = and ≥ on which wrong readings answer otherwise. `starred` has them in its table.
use Rattle.std.specs.Prelude.{List, [], ◌∷◌, ◌++◌, ℤ, pos, negsuc}
use Rattle.rules_types.specs.declared.answers.Refusal.TheVariants as refusal
use Rattle.rules_types.specs.declared.answers.Answer.TheVariants.{Refused}
use Rattle.rules.specs.Lines.{rational, boolean}
use Rattle.rules.specs.Lists.{tabulate}
use Rattle.rules.specs.Steps.{loaded, resolved}
use Rattle.rules.specs.Write.{at_most, below, equals, at_least, clause_of, alone, problem_of}
use Rattle.rules.specs.Compute.{Example, bare, satisfiable, unsatisfiable}

-- x = 5: agrees, 2, 1, x = 5
abbrev equality : Example
equality = record {
  input = problem_of 0 1 (alone (equals (pos 1 ∷ []) (pos 5)) ∷ []);
  shows = satisfiable 2 1 (loaded 0 0 ∷ loaded 0 1 ∷ []) [] (pos 5 ∷ []) 1;
}

-- constants are settled in each reading: a or 0 = 5. With ≤ it is true and the reading is dropped, with ≥ it is struck out; the part that
-- is left is the first. With 0 = -5 the second reading is the one that is dropped
abbrev constant_half : ℤ → Example
constant_half bound = record {
  input = problem_of 1 1 (clause_of (0 ∷ []) (equals (pos 0 ∷ []) bound ∷ []) ∷ []);
  shows = satisfiable 1 0 (loaded 0 0 ∷ []) (1 ∷ []) (pos 0 ∷ []) 1;
}

-- 0 = 5 or x ≤ 3 or y ≤ 2
abbrev constant_beside : Example
constant_beside =
    record {
      input = problem_of 0 2 (clause_of [] (equals (pos 0 ∷ pos 0 ∷ []) (pos 5) ∷ at_most (pos 1 ∷ pos 0 ∷ []) (pos 3)
          ∷ at_most (pos 0 ∷ pos 1 ∷ []) (pos 2) ∷ []) ∷ []);
      shows = satisfiable 2 0 (loaded 0 0 ∷ loaded 0 1 ∷ []) [] (pos 3 ∷ pos 0 ∷ []) 1;
    }

-- a constant that is true in both: 0 = 0; in neither: 0 ≥ 1
abbrev constant_both : Example
constant_both = record { input = problem_of 0 0 (alone (equals [] (pos 0)) ∷ []); shows = satisfiable 0 0 [] [] [] 1 }

abbrev constant_neither : Example
constant_neither = record { input = problem_of 0 0 (alone (at_least [] (pos 1)) ∷ []); shows = unsatisfiable 1 0 (loaded 0 0 ∷ []) }

-- "the second's pieces numbered on and its links counted": x = 5 or y ≤ 1. With one split variable for both readings the last part would
-- equal the second
abbrev beside : Example
beside =
    record {
      input = problem_of 0 2 (clause_of [] (equals (pos 1 ∷ pos 0 ∷ []) (pos 5) ∷ at_most (pos 0 ∷ pos 1 ∷ []) (pos 1) ∷ []) ∷ []);
      shows = satisfiable 4 1 (loaded 0 0 ∷ loaded 0 1 ∷ loaded 0 2 ∷ loaded 0 3 ∷ []) [] (pos 5 ∷ pos 0 ∷ []) 1;
    }

-- y ≤ 1 or x = 5 or z ≥ 2; x ≥ 6; y = 3; z < 2: the other comparisons and their signs stand in both readings
abbrev of_three : Example
of_three =
    record {
      input = problem_of 0 3 (clause_of [] (at_most (pos 0 ∷ pos 1 ∷ pos 0 ∷ []) (pos 1) ∷ equals (pos 1 ∷ pos 0 ∷ pos 0 ∷ []) (pos 5)
          ∷ at_least (pos 0 ∷ pos 0 ∷ pos 1 ∷ []) (pos 2) ∷ [])
          ∷ alone (at_least (pos 1 ∷ pos 0 ∷ pos 0 ∷ []) (pos 6)) ∷ alone (equals (pos 0 ∷ pos 1 ∷ pos 0 ∷ []) (pos 3))
          ∷ alone (below (pos 0 ∷ pos 0 ∷ pos 1 ∷ []) (pos 2)) ∷ []);
      shows = unsatisfiable 17 9 (tabulate 6 (loaded 0) ++ (loaded 1 0 ∷ loaded 2 0 ∷ loaded 2 1 ∷ loaded 3 0
          ∷ resolved (rational 0) 1 6 ∷ resolved (rational 1) 0 8 ∷ resolved (rational 1) 3 8 ∷ resolved (rational 2) 9 2
          ∷ resolved (rational 2) 9 5 ∷ resolved (boolean 0) 11 10 ∷ resolved (boolean 1) 15 13 ∷ []));
    }

-- not a or x = 5; a; x ≤ 4: so do the literals
abbrev with_literal : Example
with_literal =
    record {
      input = problem_of 1 1 (clause_of (128 ∷ []) (equals (pos 1 ∷ []) (pos 5) ∷ []) ∷ clause_of (0 ∷ []) []
          ∷ alone (at_most (pos 1 ∷ []) (pos 4)) ∷ []);
      shows = unsatisfiable 6 3 (loaded 0 0 ∷ loaded 0 1 ∷ loaded 1 0 ∷ loaded 2 0 ∷ resolved (rational 0) 3 1
          ∷ resolved (boolean 0) 2 4 ∷ []);
    }

-- each reading is loaded for itself: x ≤ 5; x = 5. Behind x ≥ 5 it is the second that is dropped
abbrev first_dropped : Example
first_dropped = record {
  input = problem_of 0 1 (alone (at_most (pos 1 ∷ []) (pos 5)) ∷ alone (equals (pos 1 ∷ []) (pos 5)) ∷ []);
  shows = satisfiable 2 1 (loaded 0 0 ∷ loaded 1 1 ∷ []) [] (pos 5 ∷ []) 1;
}

abbrev second_dropped : Example
second_dropped = record {
  input = problem_of 0 1 (alone (at_least (pos 1 ∷ []) (pos 5)) ∷ alone (equals (pos 1 ∷ []) (pos 5)) ∷ []);
  shows = satisfiable 2 1 (loaded 0 0 ∷ loaded 1 0 ∷ []) [] (pos 5 ∷ []) 1;
}

-- a or not a or x = 5: the literals drop both
abbrev neither_loaded : Example
neither_loaded = record {
  input = problem_of 1 1 (clause_of (0 ∷ 128 ∷ []) (equals (pos 1 ∷ []) (pos 5) ∷ []) ∷ []);
  shows = satisfiable 0 0 [] (0 ∷ []) (pos 0 ∷ []) 1;
}

-- "with all signs turned": 2x + 2y = 4; x - y ≥ 1
abbrev all_signs : Example
all_signs =
    record {
      input = problem_of 0 2 (alone (equals (pos 2 ∷ pos 2 ∷ []) (pos 4)) ∷ alone (at_least (pos 1 ∷ negsuc 0 ∷ []) (pos 1)) ∷ []);
      shows = satisfiable 4 2 (loaded 0 0 ∷ loaded 0 1 ∷ loaded 1 0 ∷ resolved (rational 0) 0 2 ∷ []) [] (pos 3 ∷ pos 1 ∷ []) 2;
    }

-- at the ends of the amounts' range: x ≥ -1,000,000,000; x = 1,000,000,000
abbrev ends_of_range : Example
ends_of_range =
    record {
      input = problem_of 0 1 (alone (at_least (pos 1 ∷ []) (negsuc 999999999)) ∷ alone (equals (pos 1 ∷ []) (pos 1000000000)) ∷ []);
      shows = satisfiable 3 2 (loaded 0 0 ∷ loaded 1 0 ∷ loaded 1 1 ∷ []) [] (pos 1000000000 ∷ []) 1;
    }

-- 18, before the amounts: x = 1 or x = with no bytes behind it; so with constants alone: 0 = 1 or 0 = 2
abbrev second : Example
second = record {
  input = problem_of 0 1 (clause_of [] (equals (pos 1 ∷ []) (pos 1) ∷ (3 ∷ []) ∷ []) ∷ []);
  shows = bare (record { answer = Refused refusal.SecondEquality 15; pairs = 0 }) [];
}

abbrev second_constant : Example
second_constant = record {
  input = problem_of 0 0 (clause_of [] (equals [] (pos 1) ∷ equals [] (pos 2) ∷ []) ∷ []);
  shows = bare (record { answer = Refused refusal.SecondEquality 11; pairs = 0 }) [];
}

abbrev pub equalities : List Example
equalities =
    equality ∷ constant_half (pos 5) ∷ constant_half (negsuc 4) ∷ constant_beside ∷ constant_both ∷ constant_neither ∷ beside ∷ of_three
    ∷ with_literal ∷ first_dropped ∷ second_dropped ∷ neither_loaded ∷ all_signs ∷ ends_of_range ∷ second ∷ second_constant ∷ []
