-- Reading gives a problem exactly if the bytes are that problem's, and names a fault exactly if it is the first.
use Rattle.std.specs.Prelude.{◌≡◌, ◌↔◌, List, ◌++◌, ℕ, ◌+◌, take}
use Rattle.std.proofs.Common.{sym, subst, ◌∙◌}
use Rattle.rules_types.specs.declared.answers.Refusal.{Refusal}
use Rattle.rules.specs.Problem.{Problem}
use Rattle.rules.specs.Calls.{Reading, faulty, sound, read}
use Rattle.rules.specs.Written.{bytes_of, WrittenProblem, fields_of}
use Rattle.theory_bytes.specs.Bytes.{AllBytes}
use Rattle.theory_reading.specs.Statements.{Writable, HasFault, IsProblem, Outside, FirstFault, Says}
use Rattle.theory_reading.specs.Said.{says}
use Rattle.theory_reading.specs.Answered.{answered}
use Rattle.theory_reading.specs.Begun.{begun-fault}

pub reads-exactly : (input : List ℕ) → AllBytes input → (p : Problem) → read input ≡ sound p ↔ IsProblem input p
reads-exactly input h p = (λ e. subst (Says input) e (says input h), answered input (sound p))

pub names-first : (input : List ℕ) → AllBytes input → (f : Refusal) (place : ℕ) → read input ≡ faulty f place ↔ FirstFault input f place
names-first input h f place = (λ e. subst (Says input) e (says input h), answered input (faulty f place))

-- ---- so the bytes alone decide it: there is one answer, and only one
pub some-answer : (input : List ℕ) → AllBytes input → (a : Reading) × Says input a
some-answer input h = (read input, says input h)

pub one_answer : (input : List ℕ) (a b : Reading) → Says input a → Says input b → a ≡ b
one_answer input a b h k = sym (answered input a h) ∙ answered input b k

-- ---- 5 to 11 and 18: with the field read, no problem as written that begins with these bytes is without the fault
pub none-without : (input : List ℕ) (f : Refusal) (place : ℕ) (h : Outside input f place) (w : WrittenProblem) → Writable w
    → (rest : List ℕ)
    → bytes_of (fields_of w) ≡ take (place + h.it.size) input ++ rest
    → HasFault f (fields_of w)
none-without = begun-fault
