-- The numbers and values of every answer. A refusal's number is document 01's, or 02's; the words that have none there take 64 to 73,
-- above every refusal of documents 01 and 02 (docs/DECISIONS.md).
use Rattle.std.specs.Prelude.{ℕ}
use Rattle.rules_types.specs.declared.answers.Refusal.{Refusal}
use Rattle.rules_types.specs.declared.answers.Refusal.TheVariants.{ShortProof, ShortModel, LongProblem, Truncated, Booleans}
use Rattle.rules_types.specs.declared.answers.Refusal.TheVariants.{Rationals, Clauses, Literal, Comparisons, Relation, Amount}
use Rattle.rules_types.specs.declared.answers.Refusal.TheVariants.{Trailing, Splits, Overflow, OutOfSteps, ProofLength, BadModel}
use Rattle.rules_types.specs.declared.answers.Refusal.TheVariants.{SecondEquality, Edition, SplitRationals, OutputSpace}
use Rattle.rules_types.specs.declared.answers.Refusal.TheVariants.{CarriedRange}
use Rattle.rules_types.specs.declared.answers.Verdict.{Verdict}
use Rattle.rules_types.specs.declared.answers.Verdict.TheVariants.{Satisfiable, Unsatisfiable, Unwritten}
use Rattle.rules_types.specs.declared.answers.Answer.{Answer}
use Rattle.rules_types.specs.declared.answers.Answer.TheVariants as answer
use Rattle.rules_types.specs.declared.answers.Checked.{Checked}
use Rattle.rules_types.specs.declared.answers.Checked.TheVariants as checked
use Rattle.rules_types.specs.declared.answers.Evidence.{Evidence}
use Rattle.rules_types.specs.declared.answers.Converted.{Converted}
use Rattle.rules_types.specs.declared.answers.Converted.TheVariants as converted
use Rattle.rules_types.specs.declared.answers.Carried.{Carried}
use Rattle.rules_types.specs.declared.answers.Carried.TheVariants as carried
use Rattle.rules_types.specs.declared.answers.Trimmed.{Trimmed}
use Rattle.rules_types.specs.declared.answers.Trimmed.TheVariants as trimmed
use Rattle.rules_types.specs.declared.answers.Evidence.TheVariants.{OfProof, OfModel}

-- its word in document 01, or 02, after each
unfoldable pub refusal_number : Refusal → ℕ
refusal_number ShortProof = 1  -- "book"
refusal_number ShortModel = 2  -- "sheet"
refusal_number LongProblem = 3  -- "long"
refusal_number Truncated = 4  -- "short"
refusal_number Booleans = 5  -- "marks"
refusal_number Rationals = 6  -- "figures"
refusal_number Clauses = 7  -- "clauses"
refusal_number Literal = 8  -- "literal"
refusal_number Comparisons = 9  -- "conditions"
refusal_number Relation = 10  -- "relation"
refusal_number Amount = 11  -- "amount"
refusal_number Trailing = 12  -- "tail"
refusal_number Splits = 13  -- "links"
refusal_number Overflow = 14  -- "wide"
refusal_number OutOfSteps = 15  -- "full"
refusal_number ProofLength = 16  -- "claim"
refusal_number BadModel = 17  -- "slip"
refusal_number SecondEquality = 18  -- "double"
refusal_number Edition = 19  -- "edition"
refusal_number SplitRationals = 20  -- "split"
refusal_number OutputSpace = 21  -- "space"
refusal_number CarriedRange = 22  -- "back"

-- "agrees", "cannot agree", "unwritten"
unfoldable pub verdict_number : Verdict → ℕ
verdict_number Satisfiable = 64
verdict_number Unsatisfiable = 65
verdict_number Unwritten = 66

unfoldable pub answer_number : Answer → ℕ
answer_number (answer.Decided v n) = verdict_number v
answer_number (answer.Refused f p) = refusal_number f

-- the lines of a verdict, the place of a refusal
unfoldable pub answer_value : Answer → ℕ
answer_value (answer.Decided v n) = n
answer_value (answer.Refused f p) = p

-- accepted; the first line or clause that fails
unfoldable pub checked_number : Checked → ℕ
checked_number checked.Accepted = 67
checked_number (checked.Fails n) = 68
checked_number (checked.Refused f p) = refusal_number f

unfoldable pub checked_value : Checked → ℕ
checked_value checked.Accepted = 0
checked_value (checked.Fails n) = n
checked_value (checked.Refused f p) = p

-- the first bytes of the proof, of the model
unfoldable pub evidence_number : Evidence → ℕ
evidence_number (OfProof n) = 69
evidence_number (OfModel n) = 70

unfoldable pub evidence_length : Evidence → ℕ
evidence_length (OfProof n) = n
evidence_length (OfModel n) = n

-- converted, with the new problem's length; carried back
unfoldable pub converted_number : Converted → ℕ
converted_number (converted.Length n) = 71
converted_number (converted.Refused f p) = refusal_number f

unfoldable pub converted_value : Converted → ℕ
converted_value (converted.Length n) = n
converted_value (converted.Refused f p) = p

unfoldable pub carried_number : Carried → ℕ
carried_number carried.Done = 72
carried_number (carried.Refused f p) = refusal_number f

unfoldable pub carried_value : Carried → ℕ
carried_value carried.Done = 0
carried_value (carried.Refused f p) = p

-- trimmed, with the steps that are left; the first line that fails, as a check says it
unfoldable pub trimmed_number : Trimmed → ℕ
trimmed_number (trimmed.Steps n) = 73
trimmed_number (trimmed.Fails n) = 68
trimmed_number (trimmed.Refused f p) = refusal_number f

unfoldable pub trimmed_value : Trimmed → ℕ
trimmed_value (trimmed.Steps n) = n
trimmed_value (trimmed.Fails n) = n
trimmed_value (trimmed.Refused f p) = p
