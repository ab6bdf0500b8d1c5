-- What the examples show of an answer, and the one list of all definitions, for the checker to compute with.
use Rattle.std.specs.Prelude.{List, [], map, ℕ, ◌+◌, ◌*◌, ℤ, get_or}
use Rattle.rules_types.specs.declared.answers.Verdict.TheVariants.{Satisfiable, Unsatisfiable, Unwritten}
use Rattle.rules_types.specs.declared.answers.Answer.TheVariants.{Decided}
use Rattle.rules_types.specs.declared.answers.Solved.{Solved}
use Rattle.rules_types.specs.Answers.{refusal_number, verdict_number, answer_number, answer_value, checked_number, checked_value}
use Rattle.rules_types.specs.Answers.{evidence_number}
use Rattle.rules_types.specs.Answers.{evidence_length}
use Rattle.rules_types.specs.Layout as layout
use Rattle.rules_types.specs.declared.terms.Terms.{Terms}
use Rattle.rules_types.specs.Terms.{standard, edition_named}
use Rattle.rules.specs.Lists.{any, all, filter, concat, same, tabulate, put}
use Rattle.rules.specs.Arithmetic.{gcd_within, gcd, gcd_all, lcm, sum, scale, combine, related, is_positive, is_negative, is_zero, equal}
use Rattle.rules.specs.Bytes.{to_bytes, from_bytes, from_unsigned, to_unsigned, amount_bytes, field_at, padded}
use Rattle.rules.specs.Problem.{non_negative, added}
use Rattle.rules.specs.Problem.{after, repeat, each, byte, number, tested, field, in_range, amount, literal, clause, end}
use Rattle.rules.specs.Problem.{problem, is_relation, relation_of, is_equality, relation, comparison, comparisons}
use Rattle.rules.specs.Meaning.{literal_holds, compared, comparison_holds, constraint_holds, clause_holds}
use Rattle.rules.specs.Lines.{no_booleans, including, excluding, union, meet, some_yes, a_literal_holds, the_constraint_holds, line_holds}
use Rattle.rules.specs.Lines.{coefficient, positively, negatively, contains, no_constraint, is_empty, subset}
use Rattle.rules.specs.Readings.{is_strict, turns, signed, read_as, reading, has_equality, readings}
use Rattle.rules.specs.Normalize.{members_of, reduced, settled, settled_all, normal_clause, settled_line, normal_line}
use Rattle.rules.specs.Split.{chain, parts, reading_parts, reading_splits, all_parts, all_splits, parts_of, splits_of, over_split}
use Rattle.rules.specs.Resolve.{combination, combination_of, one_of, resolvent, resolve}
use Rattle.rules.specs.Steps.{Origin, header, header_bytes, relation_byte, mask, row, line_bytes, encode_step, encode_proof, step_at}
use Rattle.rules.specs.Elimination.{order_by, remaining, rationals_after, order_after, round_of, overflows, limited, unlimited}
use Rattle.rules.specs.Elimination.{placed, as_tight, drops, covered, select, pair_up, side_of, round_pairs, part_steps, loadable}
use Rattle.rules.specs.Elimination.{loadable_of, add, load, tried, try_all}
use Rattle.rules.specs.Elimination.{without, count, cost_of, cost, cheapest, pick, rounds, eliminate, chosen_rounds}
use Rattle.rules.specs.Elimination.{other_rounds, chosen_run, elimination, order_of}
use Rattle.rules.specs.Values.{reduce, quotient, less, midpoint, plus, beyond, tighter, value, bound_of, bounds_of, gather, tightest}
use Rattle.rules.specs.Values.{rational_value, without_boolean, boolean_value, with_rational, with_boolean, assign, exceeds, start}
use Rattle.rules.specs.Values.{walk_from, walk}
use Rattle.rules.specs.Model.{occurs, is_open, boolean_byte, is_boolean_byte, encode_model, too_large, written, model}
use Rattle.rules.specs.Checker.{pairable, derived, variable_named, resolvent_named, line_among, stated_line, followed, check_proof}
use Rattle.rules.specs.Checker.{followed_lines, ends_empty, with_empty_end, check_clauses}
use Rattle.rules.specs.Calls.{Outcome, faulted, stopped, decided, within_splits, read, no_model, concluded, outcome, lent, said}
use Rattle.rules.specs.Calls.{proof_after, model_after, solve, whole_steps, proof_checked, model_checked, in_named, solve_in}
use Rattle.rules.specs.Calls.{proof_checked_in, model_checked_in, evidence, evidence_bytes}
use Rattle.rules.specs.Print.{ascii, digits_within, decimal, signed_decimal, print_line, print_step, print_proof, print_model}
use Rattle.rules.specs.Print.{print_refusal}
use Rattle.rules.specs.Print.{printed}
use Rattle.rules.specs.Needs.{steps_of, pairs_of, needs, listed, tried_resolvents, round_resolvents, resolvents}

-- `unfolding definitions` lets a theorem compute
unfoldable abbrev pub definitions : Unit {0}
unfolding any all filter concat same tabulate put gcd_within gcd gcd_all lcm sum scale combine related is_positive is_negative is_zero equal
    to_bytes from_bytes from_unsigned to_unsigned amount_bytes field_at padded non_negative added after repeat each byte number tested field
    in_range amount literal
    is_relation relation_of is_equality relation comparison comparisons clause end problem literal_holds compared comparison_holds
    constraint_holds clause_holds is_strict turns signed read_as reading has_equality readings reading_parts reading_splits all_parts
    all_splits no_booleans including excluding union meet some_yes a_literal_holds
    the_constraint_holds line_holds coefficient positively negatively contains no_constraint is_empty subset members_of reduced settled
    settled_all normal_clause settled_line normal_line chain parts parts_of splits_of over_split combination combination_of one_of resolvent
    resolve header header_bytes relation_byte mask row line_bytes encode_step encode_proof step_at order_by remaining rationals_after
    order_after
    round_of
    overflows limited unlimited placed as_tight drops covered select pair_up side_of round_pairs part_steps loadable loadable_of add load
    tried
    try_all without count cost_of cost cheapest pick rounds eliminate chosen_rounds other_rounds chosen_run elimination order_of reduce
    quotient
    less midpoint plus beyond tighter value bound_of bounds_of gather tightest rational_value without_boolean boolean_value with_rational
    with_boolean assign exceeds start walk_from walk occurs is_open boolean_byte is_boolean_byte encode_model too_large written model
    pairable
    derived variable_named resolvent_named line_among stated_line followed followed_lines ends_empty with_empty_end check_proof
    check_clauses
    within_splits read no_model
    concluded outcome lent said proof_after model_after solve whole_steps proof_checked model_checked edition_named in_named solve_in
    proof_checked_in
    model_checked_in evidence evidence_bytes ascii digits_within decimal signed_decimal print_line print_step print_proof print_model
    print_refusal printed steps_of pairs_of needs listed tried_resolvents
    round_resolvents resolvents refusal_number verdict_number answer_number answer_value checked_number checked_value evidence_number
    evidence_length
definitions = tt

-- the answer with its pairs; the lines' origins; and the model's bytes of the Boolean variables, numerators and denominator (0 without a
-- model)
pub record Shown : Type 0 where
  pub solved : Solved
  pub origins : List Origin
  pub booleans : List ℕ
  pub numerators : List ℤ
  pub denominator : ℕ

abbrev pub bare : Solved → List Origin → Shown
bare a os = record { solved = a; origins = os; booleans = []; numerators = []; denominator = 0 }

abbrev pub satisfiable : ℕ → ℕ → List Origin → List ℕ → List ℤ → ℕ → Shown
satisfiable steps pairs os booleans numerators denominator =
    record {
      solved = record { answer = Decided Satisfiable steps; pairs = pairs };
      origins = os;
      booleans = booleans;
      numerators = numerators;
      denominator = denominator;
    }

abbrev pub unsatisfiable : ℕ → ℕ → List Origin → Shown
unsatisfiable steps pairs os = bare (record { answer = Decided Unsatisfiable steps; pairs = pairs }) os

-- what the model's bytes say, for b Boolean variables and r rational variables
abbrev pub with_model : Solved → List Origin → ℕ → ℕ → List ℕ → Shown
with_model a os b r bytes =
    record {
      solved = a;
      origins = os;
      booleans = tabulate b (λ i. field_at (layout.model_flags + i) 1 bytes);
      numerators = tabulate r (λ f. from_unsigned (field_at (layout.model_numerators b + 4 * f) 4 bytes));
      denominator = field_at (layout.model_denominator b) 4 bytes;
    }

abbrev pub shown_of : List ℕ → Outcome → Shown
shown_of q (faulted f place) = bare (said (faulted f place)) []
shown_of q (stopped f steps pairs) = bare (said (stopped f steps pairs)) []
shown_of q (decided Satisfiable steps pairs bytes) =
    with_model (said (decided Satisfiable steps pairs bytes)) (map (λ s. s.origin) steps) (get_or q 0 0) (get_or q 1 0) bytes
shown_of q (decided Unsatisfiable steps pairs bytes) = bare (said (decided Unsatisfiable steps pairs bytes)) (map (λ s. s.origin) steps)
shown_of q (decided Unwritten steps pairs bytes) = bare (said (decided Unwritten steps pairs bytes)) (map (λ s. s.origin) steps)

abbrev pub shown_on : Terms → List ℕ → Shown
shown_on terms q = shown_of q (outcome terms q)

abbrev pub shown : List ℕ → Shown
shown q = shown_on standard q

-- an example: a problem, and what the paper says of it
pub record Example : Type 0 where
  pub input : List ℕ
  pub shows : Shown
