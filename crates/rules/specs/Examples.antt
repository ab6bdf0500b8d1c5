-- Document 01's starred examples 1 to 10, each variant; example 12 and questions that tell readings of requests (vii), (viii), in
-- Equalities (i) and in OpenVariables (iv) apart; computed from the problem's bytes.
use Rattle.std.specs.Prelude.{◌≡◌, refl, List, [], ◌∷◌, ◌++◌, map, ℕ, ◌+◌, ◌*◌, ℤ, pos, negsuc, neg_ℤ}
use Rattle.rules_types.specs.declared.answers.Refusal.TheVariants as refusal
use Rattle.rules_types.specs.declared.answers.Answer.TheVariants.{Refused}
use Rattle.rules.specs.Lines.{rational, boolean}
use Rattle.rules.specs.Lists.{tabulate}
use Rattle.rules.specs.Steps.{Origin, loaded, resolved}
use Rattle.rules_types.specs.Terms.{standard}
use Rattle.rules.specs.Print.{ascii, printed}
use Rattle.rules.specs.Write.{at_most, below, clause_of, alone, problem_of}
use Rattle.rules.specs.Compute.{definitions, Example, bare, satisfiable, unsatisfiable, shown}
use Rattle.rules.specs.Equalities.{equalities}
use Rattle.rules.specs.OpenVariables.{open_variables}

-- 1. Bytes 0 0 0 0: agrees, 0, 0.
abbrev one : Example
one = record { input = 0 ∷ 0 ∷ 0 ∷ 0 ∷ []; shows = satisfiable 0 0 [] [] [] 1 }

-- 2. One empty clause: cannot, 1, 0.
abbrev two : Example
two = record { input = problem_of 0 0 (clause_of [] [] ∷ []); shows = unsatisfiable 1 0 (loaded 0 0 ∷ []) }

-- 3. x ≤ 5; -x ≤ -5: agrees, 2, 1, x = 5.
abbrev three : Example
three =
    record {
      input = problem_of 0 1 (alone (at_most (pos 1 ∷ []) (pos 5)) ∷ alone (at_most (negsuc 0 ∷ []) (negsuc 4)) ∷ []);
      shows = satisfiable 2 1 (loaded 0 0 ∷ loaded 1 0 ∷ []) [] (pos 5 ∷ []) 1;
    }

-- 4. x < 5; -x ≤ -5: cannot, 3, 1.
abbrev four : Example
four =
    record {
      input = problem_of 0 1 (alone (below (pos 1 ∷ []) (pos 5)) ∷ alone (at_most (negsuc 0 ∷ []) (negsuc 4)) ∷ []);
      shows = unsatisfiable 3 1 (loaded 0 0 ∷ loaded 1 0 ∷ resolved (rational 0) 0 1 ∷ []);
    }

-- 5. x < 5; -x < -4: agrees, 2, 1, x = 9/2.
abbrev five : Example
five =
    record {
      input = problem_of 0 1 (alone (below (pos 1 ∷ []) (pos 5)) ∷ alone (below (negsuc 0 ∷ []) (negsuc 3)) ∷ []);
      shows = satisfiable 2 1 (loaded 0 0 ∷ loaded 1 0 ∷ []) [] (pos 9 ∷ []) 2;
    }

-- 6. 3x ≤ 1: agrees, 1, 0, x = 1/3.
abbrev six : Example
six = record {
  input = problem_of 0 1 (alone (at_most (pos 3 ∷ []) (pos 1)) ∷ []);
  shows = satisfiable 1 0 (loaded 0 0 ∷ []) [] (pos 1 ∷ []) 3;
}

-- 7. x + y ≤ 10; -x ≤ -7; -y ≤ -4: cannot, 5, 2. With -y ≤ -3: agrees, 4, 2, x = 7, y = 3.
abbrev seven : Example
seven =
    record {
      input = problem_of 0 2 (alone (at_most (pos 1 ∷ pos 1 ∷ []) (pos 10)) ∷ alone (at_most (negsuc 0 ∷ pos 0 ∷ []) (negsuc 6)) ∷ alone
          (at_most (pos 0 ∷ negsuc 0 ∷ []) (negsuc 3)) ∷ []);
      shows = unsatisfiable 5 2 (loaded 0 0 ∷ loaded 1 0 ∷ loaded 2 0 ∷ resolved (rational 0) 0 1 ∷ resolved (rational 1) 3 2 ∷ []);
    }

abbrev seven_with_three : Example
seven_with_three =
    record {
      input = problem_of 0 2 (alone (at_most (pos 1 ∷ pos 1 ∷ []) (pos 10)) ∷ alone (at_most (negsuc 0 ∷ pos 0 ∷ []) (negsuc 6)) ∷ alone
          (at_most (pos 0 ∷ negsuc 0 ∷ []) (negsuc 2)) ∷ []);
      shows = satisfiable 4 2 (loaded 0 0 ∷ loaded 1 0 ∷ loaded 2 0 ∷ resolved (rational 0) 0 1 ∷ []) [] (pos 7 ∷ pos 3 ∷ []) 1;
    }

-- 8. a; not a: cannot, 3, 1.
abbrev eight : Example
eight =
    record {
      input = problem_of 1 0 (clause_of (0 ∷ []) [] ∷ clause_of (128 ∷ []) [] ∷ []);
      shows = unsatisfiable 3 1 (loaded 0 0 ∷ loaded 1 0 ∷ resolved (boolean 0) 0 1 ∷ []);
    }

-- 9. a or x ≤ 0 or -x ≤ -5; not a: agrees, 3, 1, a no, x = 0.
abbrev nine : Example
nine =
    record {
      input = problem_of 1 1
          (clause_of (0 ∷ []) (at_most (pos 1 ∷ []) (pos 0) ∷ at_most (negsuc 0 ∷ []) (negsuc 4) ∷ []) ∷ clause_of (128 ∷ []) [] ∷ []);
      shows = satisfiable 3 1 (loaded 0 0 ∷ loaded 0 1 ∷ loaded 1 0 ∷ []) (0 ∷ []) (pos 0 ∷ []) 1;
    }

-- 10. 1,000,000,000x + 3y ≤ 0; -999,999,999x + z ≤ 0: 14, 2, 1. With y for 3y: agrees, 3, 1.
abbrev ten : Example
ten =
    record {
      input = problem_of 0 3 (alone (at_most (pos 1000000000 ∷ pos 3 ∷ pos 0 ∷ []) (pos 0)) ∷ alone
          (at_most (negsuc 999999998 ∷ pos 0 ∷ pos 1 ∷ []) (pos 0)) ∷ []);
      shows = bare (record { answer = Refused refusal.Overflow 2; pairs = 1 }) [];
    }

abbrev ten_with_y : Example
ten_with_y =
    record {
      input = problem_of 0 3 (alone (at_most (pos 1000000000 ∷ pos 1 ∷ pos 0 ∷ []) (pos 0)) ∷ alone
          (at_most (negsuc 999999998 ∷ pos 0 ∷ pos 1 ∷ []) (pos 0)) ∷ []);
      shows = satisfiable 3 1 (loaded 0 0 ∷ loaded 1 0 ∷ resolved (rational 0) 0 1 ∷ []) [] (pos 0 ∷ pos 0 ∷ pos 0 ∷ []) 1;
    }

-- ---- request (vii): the order of the rational variables, which the starred examples hardly tell
abbrev xy : ℤ → ℤ → ℤ → List ℕ
xy x y bound = alone (at_most (x ∷ y ∷ []) bound)

abbrev xyz : ℤ → ℤ → ℤ → ℤ → List ℕ
xyz x y z bound = alone (at_most (x ∷ y ∷ z ∷ []) bound)

abbrev minus : ℤ
minus = negsuc 0

-- these clauses are the lines
abbrev loaded_only : ℕ → List Origin
loaded_only n = tabulate n (λ c. loaded c 0)

-- "among the lines without a figure already taken": -y + z ≤ 0; -x - z ≤ 0; y ≤ 3; z ≤ 2. All cost -1, so x goes first; then z costs -2, as
-- -x - z ≤ 0 counts no more, and goes before y
abbrev untaken : Example
untaken =
    record {
      input = problem_of 0 3 (xyz (pos 0) minus (pos 1) (pos 0) ∷ xyz minus (pos 0) minus (pos 0) ∷ xyz (pos 0) (pos 1) (pos 0) (pos 3)
          ∷ xyz (pos 0) (pos 0) (pos 1) (pos 2) ∷ []);
      shows = satisfiable 4 0 (loaded_only 4) [] (negsuc 1 ∷ pos 3 ∷ pos 2 ∷ []) 1;
    }

-- "U × L - U - L", not U × L: x + y ≤ 5; -x ≤ -1. Both cost -1, so x goes first, and its pair is tried
abbrev not_the_product : Example
not_the_product =
    record {
      input = problem_of 0 2 (xy (pos 1) (pos 1) (pos 5) ∷ xy minus (pos 0) minus ∷ []);
      shows = satisfiable 3 1 (loaded 0 0 ∷ loaded 1 0 ∷ resolved (rational 0) 0 1 ∷ []) [] (pos 1 ∷ pos 4 ∷ []) 1;
    }

-- below 0, too: x + y ≤ 5; x ≤ 6; -x ≤ 0; -x ≤ -1. x costs 0 and y -1, so y goes first
abbrev below_zero : Example
below_zero =
    record {
      input = problem_of 0 2
          (xy (pos 1) (pos 1) (pos 5) ∷ xy (pos 1) (pos 0) (pos 6) ∷ xy minus (pos 0) (pos 0) ∷ xy minus (pos 0) minus ∷ []);
      shows = satisfiable 4 2 (loaded_only 4) [] (pos 1 ∷ pos 4 ∷ []) 1;
    }

-- and below 0 is the cheaper: y ≤ 3; -y ≤ -1; x - y ≤ 0; y ≤ 2. x costs -1 and y 0
abbrev below_zero_is_less : Example
below_zero_is_less =
    record {
      input = problem_of 0 2
          (xy (pos 0) (pos 1) (pos 3) ∷ xy (pos 0) minus minus ∷ xy (pos 1) minus (pos 0) ∷ xy (pos 0) (pos 1) (pos 2) ∷ []);
      shows = satisfiable 4 2 (loaded_only 4) [] (pos 1 ∷ pos 1 ∷ []) 1;
    }

-- "At each figure turn", not once: -z ≤ -1; -x + z ≤ 0; y ≤ 3; -y - z ≤ 0. All cost -1, so x goes first; then z costs -2 and y -1
abbrev each_round : Example
each_round =
    record {
      input = problem_of 0 3 (xyz (pos 0) (pos 0) minus minus ∷ xyz minus (pos 0) (pos 1) (pos 0) ∷ xyz (pos 0) (pos 1) (pos 0) (pos 3)
          ∷ xyz (pos 0) minus minus (pos 0) ∷ []);
      shows = satisfiable 4 0 (loaded_only 4) [] (pos 1 ∷ pos 3 ∷ pos 1 ∷ []) 1;
    }

-- results count as well: x - y ≤ 1; -x - z ≤ 1; z ≤ 2. Behind x, -y - z ≤ 2 makes y and z cost -1 each, and y goes before z
abbrev with_results : Example
with_results =
    record {
      input = problem_of 0 3
          (xyz (pos 1) minus (pos 0) (pos 1) ∷ xyz minus (pos 0) minus (pos 1) ∷ xyz (pos 0) (pos 0) (pos 1) (pos 2) ∷ []);
      shows = satisfiable 4 1 (loaded 0 0 ∷ loaded 1 0 ∷ loaded 2 0 ∷ resolved (rational 0) 0 1 ∷ []) []
          (negsuc 2 ∷ negsuc 3 ∷ pos 2 ∷ []) 1;
    }

-- "ties to the lower number": x + y ≤ 1. x goes first, so the walk sets it last
abbrev ties : Example
ties = record {
  input = problem_of 0 2 (xy (pos 1) (pos 1) (pos 1) ∷ []);
  shows = satisfiable 1 0 (loaded_only 1) [] (pos 1 ∷ pos 0 ∷ []) 1;
}

-- "a line belongs to the earliest turn in that order", and the walk goes backwards in it: x ≤ -1; -x + y ≤ 0; y ≤ 0. y goes first
abbrev walked_back : Example
walked_back =
    record {
      input = problem_of 0 2 (xy (pos 1) (pos 0) minus ∷ xy minus (pos 1) (pos 0) ∷ xy (pos 0) (pos 1) (pos 0) ∷ []);
      shows = satisfiable 3 0 (loaded_only 3) [] (minus ∷ minus ∷ []) 1;
    }

-- x - y ≤ 0; -y ≤ -1. y costs -2 and goes first; its value is taken from both lines, that of x from none
abbrev walked_back_in_it : Example
walked_back_in_it =
    record {
      input = problem_of 0 2 (xy (pos 1) minus (pos 0) ∷ xy (pos 0) minus minus ∷ []);
      shows = satisfiable 2 0 (loaded_only 2) [] (pos 0 ∷ pos 1 ∷ []) 1;
    }

-- lines with literals, and with <, count: y ≤ -1; a or x - y < -1. x and y cost -1, so x goes first; if they did not, y would, and its pair
-- be tried
abbrev all_kinds : Example
all_kinds =
    record {
      input = problem_of 1 2 (xy (pos 0) (pos 1) minus ∷ clause_of (0 ∷ []) (below (pos 1 ∷ minus ∷ []) minus ∷ []) ∷ []);
      shows = satisfiable 2 0 (loaded_only 2) (0 ∷ []) (negsuc 2 ∷ minus ∷ []) 1;
    }

-- a book names the figure, not its turn: y ≤ -1; -y ≤ 0. y costs -1 and x, which stands in no line, 0
abbrev named : Example
named =
    record {
      input = problem_of 0 2 (xy (pos 0) (pos 1) minus ∷ xy (pos 0) minus (pos 0) ∷ []);
      shows = unsatisfiable 3 1 (loaded 0 0 ∷ loaded 1 0 ∷ resolved (rational 1) 0 1 ∷ []);
    }

-- ---- request (viii): which line an earlier one drops
-- "a subset of its literals": a or b; a; a or not c. The second drops the third, the first not the second
abbrev subsets : Example
subsets =
    record {
      input = problem_of 3 0 (clause_of (0 ∷ 1 ∷ []) [] ∷ clause_of (0 ∷ []) [] ∷ clause_of (0 ∷ 130 ∷ []) [] ∷ []);
      shows = satisfiable 2 0 (loaded_only 2) (1 ∷ 0 ∷ 0 ∷ []) [] 1;
    }

-- "in each sign": a; not a or b. The first does not drop the second, nor the second their resolvent b
abbrev each_sign : Example
each_sign =
    record {
      input = problem_of 2 0 (clause_of (0 ∷ []) [] ∷ clause_of (128 ∷ 1 ∷ []) [] ∷ []);
      shows = satisfiable 3 1 (loaded 0 0 ∷ loaded 1 0 ∷ resolved (boolean 0) 0 1 ∷ []) (1 ∷ 1 ∷ []) [] 1;
    }

-- "either no condition": a; a or x ≤ 1; b or x ≤ 1; b. The first drops the second, the third, which has one, not the fourth, which has none
abbrev bare_lines : Example
bare_lines =
    record {
      input = problem_of 2 1 (clause_of (0 ∷ []) [] ∷ clause_of (0 ∷ []) (at_most (pos 1 ∷ []) (pos 1) ∷ [])
          ∷ clause_of (1 ∷ []) (at_most (pos 1 ∷ []) (pos 1) ∷ []) ∷ clause_of (1 ∷ []) [] ∷ []);
      shows = satisfiable 3 0 (loaded 0 0 ∷ loaded 2 0 ∷ loaded 3 0 ∷ []) (1 ∷ 1 ∷ []) (pos 0 ∷ []) 1;
    }

abbrev xy_below : ℤ → ℤ → ℤ → List ℕ
xy_below x y bound = alone (below (x ∷ y ∷ []) bound)

-- "a bound that is smaller", by its sign, whatever the relations: x ≤ -2; x < 1; -y ≤ 1; -y < -2; -y ≤ -1; -y < -1. The first drops the
-- second, the fourth the fifth and the sixth
abbrev smaller : Example
smaller =
    record {
      input = problem_of 0 2 (xy (pos 1) (pos 0) (negsuc 1) ∷ xy_below (pos 1) (pos 0) (pos 1) ∷ xy (pos 0) minus (pos 1)
          ∷ xy_below (pos 0) minus (negsuc 1) ∷ xy (pos 0) minus minus ∷ xy_below (pos 0) minus minus ∷ []);
      shows = satisfiable 3 0 (loaded 0 0 ∷ loaded 2 0 ∷ loaded 3 0 ∷ []) [] (negsuc 1 ∷ pos 3 ∷ []) 1;
    }

-- "or equal under a relation at least as strict": x < 1; x ≤ 1; x < 1; y ≤ 1; y ≤ 1; y < 1. The first drops the second and the third, the
-- fourth the fifth and not the sixth
abbrev as_strict : Example
as_strict =
    record {
      input = problem_of 0 2 (xy_below (pos 1) (pos 0) (pos 1) ∷ xy (pos 1) (pos 0) (pos 1) ∷ xy_below (pos 1) (pos 0) (pos 1)
          ∷ xy (pos 0) (pos 1) (pos 1) ∷ xy (pos 0) (pos 1) (pos 1) ∷ xy_below (pos 0) (pos 1) (pos 1) ∷ []);
      shows = satisfiable 3 0 (loaded 0 0 ∷ loaded 3 0 ∷ loaded 5 0 ∷ []) [] (pos 0 ∷ pos 0 ∷ []) 1;
    }

-- "equal coefficients", as normalized: 2x ≤ 3; x ≤ 2; 4x ≤ 10. The third is 2x ≤ 5, which the first drops; the second it does not
abbrev as_normalized : Example
as_normalized =
    record {
      input = problem_of 0 1
          (alone (at_most (pos 2 ∷ []) (pos 3)) ∷ alone (at_most (pos 1 ∷ []) (pos 2)) ∷ alone (at_most (pos 4 ∷ []) (pos 10)) ∷ []);
      shows = satisfiable 2 0 (loaded_only 2) [] (pos 3 ∷ []) 2;
    }

-- "Loading does the same", part by part: x ≤ 0; x ≤ 0 or y ≤ 0
abbrev parts_too : Example
parts_too =
    record {
      input = problem_of 0 2 (xy (pos 1) (pos 0) (pos 0)
          ∷ clause_of [] (at_most (pos 1 ∷ pos 0 ∷ []) (pos 0) ∷ at_most (pos 0 ∷ pos 1 ∷ []) (pos 0) ∷ []) ∷ []);
      shows = satisfiable 2 0 (loaded 0 0 ∷ loaded 1 1 ∷ []) [] (pos 0 ∷ pos 0 ∷ []) 1;
    }

-- split variables are literals: x ≤ 0 or -x ≤ -1; x ≤ 1. The first part has one, so it does not drop x ≤ 1
abbrev split_variables : Example
split_variables =
    record {
      input = problem_of 0 1 (clause_of [] (at_most (pos 1 ∷ []) (pos 0) ∷ at_most (minus ∷ []) minus ∷ [])
          ∷ alone (at_most (pos 1 ∷ []) (pos 1)) ∷ []);
      shows = satisfiable 3 2 (loaded 0 0 ∷ loaded 0 1 ∷ loaded 1 0 ∷ []) [] (pos 0 ∷ []) 1;
    }

-- "an earlier line" is any: a; not a or c; b or d; not b or c. The resolvent by a is c, and drops the one by b, c or d
abbrev by_resolvents : Example
by_resolvents =
    record {
      input = problem_of 4 0
          (clause_of (0 ∷ []) [] ∷ clause_of (128 ∷ 2 ∷ []) [] ∷ clause_of (1 ∷ 3 ∷ []) [] ∷ clause_of (129 ∷ 2 ∷ []) [] ∷ []);
      shows = satisfiable 5 2 (loaded_only 4 ++ (resolved (boolean 0) 0 1 ∷ [])) (1 ∷ 1 ∷ 1 ∷ 0 ∷ []) [] 1;
    }

-- a resolvent that is dropped had its pair: x + y ≤ 5; y ≤ 2; -x ≤ 0; -y ≤ 0. The resolvent by x is y ≤ 5
abbrev pairs_count : Example
pairs_count =
    record {
      input = problem_of 0 2
          (xy (pos 1) (pos 1) (pos 5) ∷ xy (pos 0) (pos 1) (pos 2) ∷ xy minus (pos 0) (pos 0) ∷ xy (pos 0) minus (pos 0) ∷ []);
      shows = satisfiable 4 2 (loaded_only 4) [] (pos 0 ∷ pos 0 ∷ []) 1;
    }

-- overflowing is asked first: a or b; a or x + y ≤ 1,000,000,000; b or -x ≤ 1. The first would drop a or b or y ≤ 1,000,000,001
abbrev overflow_first : Example
overflow_first =
    record {
      input = problem_of 2 2 (clause_of (0 ∷ 1 ∷ []) [] ∷ clause_of (0 ∷ []) (at_most (pos 1 ∷ pos 1 ∷ []) (pos 1000000000) ∷ [])
          ∷ clause_of (1 ∷ []) (at_most (minus ∷ pos 0 ∷ []) (pos 1) ∷ []) ∷ []);
      shows = bare (record { answer = Refused refusal.Overflow 3; pairs = 1 }) [];
    }

-- 12. x + y ≤ 100i for i from 1 to 24; -x ≤ -j for j from 0 to 39. With requests (vii) and (viii) 41 lines are loaded, x + y ≤ 100 and
-- all -x ≤ -j; x and y cost -1, x goes first: agrees, 81, 40; so it does with i = 25
abbrev twelve : ℕ → Example
twelve n =
    record {
      input = problem_of 0 2
          (tabulate n (λ i. xy (pos 1) (pos 1) (pos (100 * (i + 1)))) ++ tabulate 40 (λ j. xy minus (pos 0) (neg_ℤ (pos j))));
      shows = satisfiable 81 40 (loaded 0 0 ∷ tabulate 40 (λ j. loaded (n + j) 0) ++ tabulate 40 (λ j. resolved (rational 0) 0 (1 + j)))
          [] (pos 39 ∷ pos 61 ∷ []) 1;
    }

abbrev table : List Example
table =
    one ∷ two ∷ three ∷ four ∷ five ∷ six ∷ seven ∷ seven_with_three ∷ eight ∷ nine ∷ ten ∷ ten_with_y
    ∷ untaken ∷ not_the_product ∷ below_zero ∷ below_zero_is_less ∷ each_round ∷ with_results ∷ ties ∷ walked_back ∷ walked_back_in_it
    ∷ all_kinds ∷ named
    ∷ subsets ∷ each_sign ∷ bare_lines ∷ smaller ∷ as_strict ∷ as_normalized ∷ parts_too ∷ split_variables
    ∷ by_resolvents ∷ pairs_count ∷ overflow_first
    ∷ twelve 24 ∷ twelve 25 ∷ (equalities ++ open_variables)

-- the tabled result
pub starred : map (λ e. shown e.input) table ≡ map (λ e. e.shows) table
unfolding definitions
starred = refl

-- ---- what the program prints
-- "Example 7's first question prints"
pub seven-printed : printed standard seven.input ≡ ascii "cannot 5 2\nlines 5\n0 0 0 0\n0 0 1 0\n0 0 2 0\n1 0 0 1\n1 1 3 2\n"
unfolding definitions
seven-printed = refl

-- "Example 5 prints"
pub five-printed : printed standard five.input ≡ ascii "agrees 2 1\nmarks 0\nfigures 1\n9 2\n"
unfolding definitions
five-printed = refl

-- "or refused with number, place, pairs"
pub ten-printed : printed standard ten.input ≡ ascii "refused 14 2 1\n"
unfolding definitions
ten-printed = refl
