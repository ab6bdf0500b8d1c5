-- What each call says, and what it leaves in the lent buffers: for bytes of every kind and buffers of every length.
use Rattle.std.specs.Prelude.{Bool, true, false, ◌&&◌, ◌||◌, List, ◌++◌, map, ℕ, ◌-◌, ◌*◌, ◌%◌, eqb, leb, ltb, length, replicate, take}
use Rattle.std.specs.Prelude.{drop}
use Rattle.std.proofs.Math.Option.{none, some}
use Rattle.rules_types.specs.declared.answers.Refusal.{Refusal}
use Rattle.rules_types.specs.declared.answers.Refusal.TheVariants as refusal
use Rattle.rules_types.specs.declared.answers.Verdict.{Verdict}
use Rattle.rules_types.specs.declared.answers.Verdict.TheVariants.{Satisfiable, Unsatisfiable, Unwritten}
use Rattle.rules_types.specs.declared.answers.Answer.TheVariants as answer
use Rattle.rules_types.specs.declared.answers.Solved.{Solved}
use Rattle.rules_types.specs.declared.answers.Checked.{Checked}
use Rattle.rules_types.specs.declared.answers.Checked.TheVariants as checked
use Rattle.rules_types.specs.declared.answers.Evidence.{Evidence}
use Rattle.rules_types.specs.declared.answers.Evidence.TheVariants.{OfProof, OfModel}
use Rattle.rules_types.specs.declared.limits.Limits.{Limits}
use Rattle.rules_types.specs.declared.terms.Named.TheVariants.{Known, Unknown}
use Rattle.rules_types.specs.declared.terms.Terms.{Terms}
use Rattle.rules_types.specs.Limits as limit
use Rattle.rules_types.specs.Answers.{verdict_number}
use Rattle.rules_types.specs.Terms.{edition_named}
use Rattle.rules.specs.Problem.{Problem, in_edition, Read, fault, got, problem}
use Rattle.rules.specs.Split.{over_split}
use Rattle.rules.specs.Steps.{Step, encode_proof}
use Rattle.rules.specs.Elimination.{State, running, ended, empty, overflow, out_of_steps, order_of, limited, elimination}
use Rattle.rules.specs.Values.{walk}
use Rattle.rules.specs.Model.{is_open, written, model}
use Rattle.rules.specs.Checker.{check_proof, check_clauses}

-- ---- a problem, or its first fault 3 to 13; 18, too: "wherever 3 to 13 are named, it is one of them"
pub data Reading : Type 0 where
  faulty : Refusal → ℕ → Reading
  sound : Problem → Reading

-- 13, after 4 to 12 and 18
unfoldable pub within_splits : Read Problem → Reading
within_splits (fault f place) = faulty f place
within_splits (got p bytes place) = elim (over_split 0 p.clauses) [ none ↦ sound p | some start ↦ faulty refusal.Splits start ]

-- 3, before them: "question over 32,768 bytes; 32,768"
unfoldable pub read : List ℕ → Reading
read input =
    elim (ltb limit.problem_bytes (length input)) [
      | true ↦ faulty refusal.LongProblem limit.problem_bytes
      | false ↦ within_splits (problem input 0)
    ]

-- ---- what solving comes to
-- a fault 1 to 13 or 18; 14 or 15 with the lines held and the pairs tried; or a verdict with the proof's lines, the pairs and the model
pub data Outcome : Type 0 where
  faulted : Refusal → ℕ → Outcome
  stopped : Refusal → ℕ → ℕ → Outcome
  decided : Verdict → List Step → ℕ → List ℕ → Outcome

unfoldable pub no_model : List ℕ
no_model = replicate limit.model_bytes 0

-- after the elimination: "Without an empty line, turns are walked backwards."
unfoldable pub concluded : Problem → State → Outcome
concluded p (ended overflow steps pairs) = stopped refusal.Overflow (length steps) pairs
concluded p (ended out_of_steps steps pairs) = stopped refusal.OutOfSteps (length steps) pairs
concluded p (ended empty steps pairs) = decided Unsatisfiable steps pairs no_model
concluded p (running steps pairs) =
    elim (written p.booleans p.rationals (is_open p) (walk (order_of p) (map (λ s. s.line) steps))) [
      | none ↦ decided Unwritten steps pairs no_model
      | some bytes ↦ decided Satisfiable steps pairs bytes
    ]

unfoldable pub outcome : Terms → List ℕ → Outcome
outcome terms input =
    elim (read input) [
      | faulty f place ↦ faulted f place
      | sound p ↦ let posed = in_edition terms.edition p in concluded posed (elimination (limited terms.limits) posed)
    ]

-- ---- solving
-- 1 and 2, before the problem is looked at
unfoldable pub lent : Terms → List ℕ → List ℕ → List ℕ → Outcome
lent terms input proof model =
    elim (ltb (length proof) (limit.proof_bytes terms.limits)) [
      | true ↦ faulted refusal.ShortProof 0
      | false ↦ elim (ltb (length model) limit.model_bytes) [ true ↦ faulted refusal.ShortModel 0 | false ↦ outcome terms input ]
    ]

-- what it says: "1 to 13 report no pairs"; (i): "Like 1 to 13, it and all later refusals report no pairs and alter no byte, unless said."
unfoldable pub said : Outcome → Solved
said (faulted f place) = record { answer = answer.Refused f place; pairs = 0 }
said (stopped f steps pairs) = record { answer = answer.Refused f steps; pairs = pairs }
said (decided v steps pairs bytes) = record { answer = answer.Decided v (length steps); pairs = pairs }

-- what the proof holds then: 1 to 13 "alter no byte"; 14 and 15 "zero the book's 65,536 bytes and leave the sheet"; "The book's unused
-- lines are 0"; "Bytes beyond 65,536 and 64 keep their content." 02, (iii): they "read their sizes from N", the limit of lines, and so do 1
-- above, and 16 and handing back below
unfoldable pub proof_after : Limits → Outcome → List ℕ → List ℕ
proof_after limits (faulted f place) old = old
proof_after limits (stopped f steps pairs) old = replicate (limit.proof_bytes limits) 0 ++ drop (limit.proof_bytes limits) old
proof_after limits (decided v steps pairs bytes) old =
    encode_proof steps ++ replicate (limit.proof_bytes limits - limit.step_bytes * length steps) 0 ++ drop (limit.proof_bytes limits) old

-- what the model holds then: the same; "the sheet's 64 bytes are 0 unless "agrees""
unfoldable pub model_after : Outcome → List ℕ → List ℕ
model_after (faulted f place) old = old
model_after (stopped f steps pairs) old = old
model_after (decided v steps pairs bytes) old = bytes ++ drop limit.model_bytes old

pub record Solving : Type 0 where
  pub solved : Solved
  pub proof : List ℕ
  pub model : List ℕ

unfoldable pub solve : Terms → List ℕ → List ℕ → List ℕ → Solving
solve terms input proof model =
    let o = lent terms input proof model in
    record { solved = said o; proof = proof_after terms.limits o proof; model = model_after o model }

-- ---- the checks, which write nothing
-- "question faults (3 to 13), then 16": "length not 64 to 65,536 by 64s; length"
unfoldable pub whole_steps : Limits → ℕ → Bool
whole_steps limits n = leb limit.step_bytes n && leb n (limit.proof_bytes limits) && eqb (n % limit.step_bytes) 0

unfoldable pub proof_checked : Terms → List ℕ → List ℕ → Checked
proof_checked terms input proof =
    elim (read input) [
      | faulty f place ↦ checked.Refused f place
      | sound p ↦ elim (whole_steps terms.limits (length proof)) [
        | true ↦ check_proof (in_edition terms.edition p) proof
        | false ↦ checked.Refused refusal.ProofLength (length proof)
      ]
    ]

-- "question faults (3 to 13), then ... 2 and 17"
unfoldable pub model_checked : Terms → List ℕ → List ℕ → Checked
model_checked terms input bytes =
    elim (read input) [
      | faulty f place ↦ checked.Refused f place
      | sound p ↦ elim (ltb (length bytes) limit.model_bytes) [
        | true ↦ checked.Refused refusal.ShortModel 0
        | false ↦
            let posed = in_edition terms.edition p in
            elim (model posed.booleans posed.rationals (is_open posed) bytes 0) [
              | fault f place ↦ checked.Refused f place
              | got χ rest place ↦ check_clauses χ 0 posed.clauses
            ]
      ]
    ]

-- ---- 02, (v): calls that name the edition; 19, "any other edition, tested first in every call that names one, place 0"
module _ {A : Type 0} where
  unfoldable pub in_named : Limits → ℕ → A → (Terms → A) → A
  in_named limits edition refused call =
      elim (edition_named edition) [ Unknown ↦ refused | Known e ↦ call (record { limits = limits; edition = e }) ]

unfoldable pub solve_in : Limits → ℕ → List ℕ → List ℕ → List ℕ → Solving
solve_in limits edition input proof model =
    in_named limits edition (record { solved = said (faulted refusal.Edition 0); proof = proof; model = model })
    (λ terms. solve terms input proof model)

unfoldable pub proof_checked_in : Limits → ℕ → List ℕ → List ℕ → Checked
proof_checked_in limits edition input proof =
    in_named limits edition (checked.Refused refusal.Edition 0) (λ terms. proof_checked terms input proof)

unfoldable pub model_checked_in : Limits → ℕ → List ℕ → List ℕ → Checked
model_checked_in limits edition input bytes =
    in_named limits edition (checked.Refused refusal.Edition 0) (λ terms. model_checked terms input bytes)

-- ---- handing back
-- "the sheet's 64 bytes after "agrees" and the used lines of the book after "cannot agree"; otherwise, or with a buffer that 1 or 2
-- refuses, or over 1,024 lines, an empty part of the book": from a verdict's number and lines as the caller names them
unfoldable pub evidence : Limits → ℕ → ℕ → List ℕ → List ℕ → Evidence
evidence limits number steps proof model =
    elim (ltb (length proof) (limit.proof_bytes limits) || ltb (length model) limit.model_bytes || ltb limits.steps steps) [
      | true ↦ OfProof 0
      | false ↦ elim (eqb number (verdict_number Satisfiable)) [
        | true ↦ OfModel limit.model_bytes
        | false ↦ elim (eqb number (verdict_number Unsatisfiable)) [ true ↦ OfProof (limit.step_bytes * steps) | false ↦ OfProof 0 ]
      ]
    ]

-- the bytes of that part
unfoldable pub evidence_bytes : Evidence → List ℕ → List ℕ → List ℕ
evidence_bytes (OfProof n) proof model = take n proof
evidence_bytes (OfModel n) proof model = take n model
