-- Demand 3, sentence by sentence, about the definition of solving: for every problem Q read without fault, full-size buffers
-- whatever they hold, and every limit N of lines up to 65,536. Document 01's limit is 1,024, and N × N / 4 is then 262,144; a preview's is
-- 256 (02, (iii)), and then it is 16,384.
use Rattle.std.specs.Prelude.{◌≡◌, ◌↔◌, not, List, ℕ, ◌*◌, ◌/◌, ◌≤◌, T, length, take}
use Rattle.std.proofs.Common.{sym, subst, arith}
use Rattle.std.proofs.Math.Option.{none, some}
use Rattle.rules_types.specs.declared.answers.Refusal.TheVariants as refusal
use Rattle.rules_types.specs.declared.answers.Verdict.{Verdict}
use Rattle.rules_types.specs.declared.answers.Verdict.TheVariants.{Satisfiable, Unsatisfiable, Unwritten}
use Rattle.rules_types.specs.declared.answers.Checked.TheVariants.{Accepted}
use Rattle.rules_types.specs.declared.terms.Terms.{Terms}
use Rattle.rules_types.specs.Limits as limit
use Rattle.rules_types.specs.Terms.{standard, preview}
use Rattle.rules_types.specs.Answers.{answer_value}
use Rattle.rules.specs.Problem.{Problem, in_edition}
use Rattle.rules.specs.Lines.{Line}
use Rattle.rules.specs.Elimination.{limited, overflows, overflow, out_of_steps, order_of, loadable_of, elimination}
use Rattle.rules.specs.Needs.{steps_of, pairs_of, Fits}
use Rattle.rules.specs.Calls.{sound, read, Solving, solve, proof_checked}
use Rattle.theory_vectors.specs.Amounts.{SmallAmounts, overflows-no}
use Rattle.theory_elimination.specs.Events.{events}
use Rattle.promises.specs.Decided.{NoAssignment}
use Rattle.theory_splitting.specs.WellRead.{posed-well-formed}
use Rattle.theory_checks.specs.ProofChecked.{proof-checked-refutes}
use Rattle.promises.specs.Words.{SomeAssignment, model_of, GivesModel, OurModel, HoldsLines, Comes, IsRefused, LimitMet, first_stop}
use Rattle.promises.specs.Words.{FullSize}
use Rattle.promises.specs.Unwritten.{RuleSaysSo, rule-says-so}
use Rattle.promises.specs.Outcomes.{unsatisfiable-exactly, satisfiable-exactly, unwritten-exactly, otherwise}
use Rattle.promises.specs.Reported.{solve-is, reported-lines, reported-pairs, at-most, lines-held}
use Rattle.promises.specs.First.{overflow-first, out-of-steps-first}
use Rattle.promises.specs.Evidence.{our-model, our-proof}

-- for Q, the problem that was read, in its edition: `p`
pub record Demand3 (terms : Terms) (input : List ℕ) (p : Problem) (lent_proof lent_model : List ℕ) (ours : Solving) : Type 0 where
  -- "Suppose Q's course, to its first empty line or its end, needs at most 1,024 lines and no amount in a tidied result beyond
  -- 1,000,000,000 in size. Then "cannot agree" comes exactly when no choice of marks and rational figures satisfies Q."
  pub unsatisfiable : Fits terms.limits p → Comes Unsatisfiable ours.solved.answer ↔ NoAssignment p
  -- ""Agrees" comes exactly when one does and 01's value rule gives a sheet; ours is that sheet, and the choice on it satisfies Q."
  pub satisfiable : Fits terms.limits p → Comes Satisfiable ours.solved.answer ↔ (SomeAssignment p × GivesModel p)
  pub model_is : Comes Satisfiable ours.solved.answer → OurModel p ours lent_model
  -- ""Unwritten" comes exactly when one does and the rule says so."
  pub unwritten : Fits terms.limits p → Comes Unwritten ours.solved.answer ↔ (SomeAssignment p × (model_of p ≡ none))
  pub says_so : (model_of p ≡ none) ↔ RuleSaysSo p
  -- "Otherwise, and only otherwise, "wide" or "full" comes, whichever the course meets first."
  pub otherwise : LimitMet ours.solved.answer ↔ (Fits terms.limits p → ⊥)
  pub is_overflow : IsRefused refusal.Overflow ours.solved.answer
      ↔ (first_stop (limited terms.limits) (events (order_of p) (loadable_of p)) ≡ some overflow)
  pub is_out_of_steps : IsRefused refusal.OutOfSteps ours.solved.answer
      ↔ (first_stop (limited terms.limits) (events (order_of p) (loadable_of p)) ≡ some out_of_steps)
  pub wide : (l : Line) → T (not (overflows l)) ↔ SmallAmounts l.constraint
  -- "In every case the lines and pairs reported are those the course holds and tries, the pairs at most 262,144,"
  pub lines : answer_value ours.solved.answer ≡ length (steps_of (elimination (limited terms.limits) p))
  pub pairs : ours.solved.pairs ≡ pairs_of (elimination (limited terms.limits) p)
  pub at_most : ours.solved.pairs ≤ terms.limits.steps * terms.limits.steps / 4
  -- "and after a verdict the book holds just those lines as 01 writes them."
  pub holds : (v : Verdict) → Comes v ours.solved.answer → HoldsLines terms.limits p ours.proof lent_proof
  -- "And whenever the check accepts a book for Q, as it does the used lines of ours after "cannot agree", no choice satisfies Q,
  -- whoever wrote the book."
  pub refutes : (other : List ℕ) → proof_checked terms input other ≡ Accepted → NoAssignment p
  pub accepted : Comes Unsatisfiable ours.solved.answer
      → proof_checked terms input (take (limit.step_bytes * answer_value ours.solved.answer) ours.proof) ≡ Accepted

pub demand3 : (terms : Terms) → terms.limits.steps ≤ limit.most_steps → (input : List ℕ) (p : Problem) → read input ≡ sound p
    → (proof model : List ℕ) → FullSize terms.limits proof model
    → Demand3 terms input (in_edition terms.edition p) proof model (solve terms input proof model)
demand3 terms few input q e proof model full =
    let limits = terms.limits in
    let p = in_edition terms.edition q in
    let w = posed-well-formed terms.edition input q e in
    subst (Demand3 terms input p proof model) (sym (solve-is terms input q e proof model full))
    (record {
      unsatisfiable = unsatisfiable-exactly limits p w;
      satisfiable = satisfiable-exactly limits p w;
      model_is = our-model limits p w proof model;
      unwritten = unwritten-exactly limits p w;
      says_so = rule-says-so p;
      otherwise = otherwise limits p w;
      is_overflow = overflow-first p limits;
      is_out_of_steps = out-of-steps-first p limits;
      wide = overflows-no;
      lines = reported-lines p (elimination (limited limits) p);
      pairs = reported-pairs p (elimination (limited limits) p);
      at_most = at-most limits p w;
      holds = lines-held limits few p w proof;
      refutes = λ other a. proof-checked-refutes terms input other a q e;
      accepted = our-proof terms input q e few proof;
    })

-- with document 01's limit, and with a preview's
pub pairs-262144 : (input : List ℕ) (p : Problem) → read input ≡ sound p → (proof model : List ℕ) → FullSize limit.standard proof model
    → (solve standard input proof model).solved.pairs ≤ 262144
pairs-262144 input p e proof model full = (demand3 standard (omega arith) input p e proof model full).at_most

pub pairs-16384 : (input : List ℕ) (p : Problem) → read input ≡ sound p → (proof model : List ℕ) → FullSize limit.preview proof model
    → (solve preview input proof model).solved.pairs ≤ 16384
pairs-16384 input p e proof model full = (demand3 preview (omega arith) input p e proof model full).at_most
