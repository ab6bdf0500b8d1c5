-- Answers as numbers: the number and the value of every case, as rules_types/Answers states them.
use Rattle.std.specs.Prelude.{ℕ}
use Rattle.rules_types.specs.declared.answers.Refusal.{Refusal}
use Rattle.rules_types.specs.declared.answers.Answer.{Answer}
use Rattle.rules_types.specs.declared.answers.Solved.{Solved}
use Rattle.rules_types.specs.declared.answers.Checked.{Checked}
use Rattle.rules_types.specs.declared.answers.Evidence.{Evidence}
use Rattle.rules_types.specs.declared.answers.Converted.{Converted}
use Rattle.rules_types.specs.declared.answers.Carried.{Carried}
use Rattle.rules_types.specs.declared.answers.Trimmed.{Trimmed}
use Rattle.rules_types.specs.Answers.{refusal_number, answer_number, answer_value, checked_number, checked_value, evidence_number}
use Rattle.rules_types.specs.Answers.{evidence_length}
use Rattle.rules_types.specs.Answers.{converted_number, converted_value, carried_number, carried_value, trimmed_number, trimmed_value}
use Rattle.jemuling.specs.declared.told.Told.{Told}
use Rattle.jemuling.specs.declared.told.SolvedTold.{SolvedTold}

abbrev pub refused_told : Refusal → ℕ → Told
refused_told f place = record { number = refusal_number f; value = place }

unfoldable pub answer_told : Answer → Told
answer_told a = record { number = answer_number a; value = answer_value a }

unfoldable pub solved_told : Solved → SolvedTold
solved_told s = record { number = answer_number s.answer; value = answer_value s.answer; pairs = s.pairs }

unfoldable pub checked_told : Checked → Told
checked_told c = record { number = checked_number c; value = checked_value c }

unfoldable pub evidence_told : Evidence → Told
evidence_told e = record { number = evidence_number e; value = evidence_length e }

unfoldable pub converted_told : Converted → Told
converted_told c = record { number = converted_number c; value = converted_value c }

unfoldable pub carried_told : Carried → Told
carried_told c = record { number = carried_number c; value = carried_value c }

unfoldable pub trimmed_told : Trimmed → Told
trimmed_told t = record { number = trimmed_number t; value = trimmed_value t }
