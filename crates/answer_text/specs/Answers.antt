-- The text of what solving said and left: the verdict's line or the refusal's, and what follows it.
use Rattle.std.specs.Prelude.{List, [], ◌∷◌, ◌++◌, map, ℕ, ◌+◌, ◌*◌, ◌≤◌, length}
use Rattle.rules_types.specs.declared.answers.Verdict.{Verdict}
use Rattle.rules_types.specs.declared.answers.Verdict.TheVariants.{Satisfiable, Unsatisfiable, Unwritten}
use Rattle.rules_types.specs.declared.answers.Answer.{Answer}
use Rattle.rules_types.specs.declared.answers.Answer.TheVariants.{Decided, Refused}
use Rattle.rules_types.specs.declared.answers.Solved.{Solved}
use Rattle.rules_types.specs.Limits as limit
use Rattle.rules_types.specs.Answers.{verdict_number}
use Rattle.rules.specs.Print.{ascii, decimal, print_line, print_model, print_refusal}
use Rattle.handing_back.specs.Evidence.{handed_back}
use Rattle.printing.specs.Room.{counts_room, proof_room}
use Rattle.printing.specs.Texts.{proof_text, Printable}

-- as many bytes as the longest text may take: "cannot" and two numbers, and all lines of a proof
abbrev pub text_bytes : ℕ
text_bytes = 6 + counts_room + proof_room limit.steps

-- ---- a verdict, with the part that is handed back
abbrev pub satisfiable_text : ℕ → ℕ → List ℕ → List ℕ
satisfiable_text n pairs model = print_line (ascii "agrees") (map decimal (n ∷ pairs ∷ [])) ++ print_model model

abbrev pub unsatisfiable_text : ℕ → ℕ → List ℕ → List ℕ
unsatisfiable_text n pairs proof = print_line (ascii "cannot") (map decimal (n ∷ pairs ∷ [])) ++ proof_text proof n

abbrev pub decided_text : Verdict → ℕ → ℕ → List ℕ → List ℕ
decided_text Satisfiable n pairs evidence = satisfiable_text n pairs evidence
decided_text Unsatisfiable n pairs evidence = unsatisfiable_text n pairs evidence
decided_text Unwritten n pairs evidence = print_line (ascii "unwritten") (map decimal (n ∷ pairs ∷ []))

abbrev pub Handed : Verdict → ℕ → List ℕ → Type 0
Handed Satisfiable n evidence = Printable evidence
Handed Unsatisfiable n evidence = (n ≤ limit.steps) × (limit.step_bytes * n ≤ length evidence)
Handed Unwritten n evidence = Unit {0}

-- ---- an answer
abbrev pub answer_text : Answer → ℕ → List ℕ → List ℕ → List ℕ
answer_text (Decided v n) pairs proof model = decided_text v n pairs (handed_back limit.standard (verdict_number v) n proof model)
answer_text (Refused f place) pairs proof model = print_refusal f place pairs

abbrev pub solved_text : Solved → List ℕ → List ℕ → List ℕ
solved_text s proof model = answer_text s.answer s.pairs proof model

abbrev pub ReadyAnswer : Answer → List ℕ → List ℕ → Type 0
ReadyAnswer (Decided v n) proof model = Handed v n (handed_back limit.standard (verdict_number v) n proof model)
ReadyAnswer (Refused f place) proof model = Unit {0}

abbrev pub Ready : Solved → List ℕ → List ℕ → Type 0
Ready s proof model = ReadyAnswer s.answer proof model
