-- What the program prints for a problem on standard input: lines of words, each with a newline.
use Rattle.std.specs.Prelude.{true, false, List, [], ◌∷◌, ◌++◌, map, ℕ, zero, suc, ◌+◌, ◌*◌, ◌/◌, ◌%◌, ℤ, pos, negsuc, ltb, length}
use Prim.Native.Char.{code}
use Prim.Native.String as text
use Rattle.rules_types.specs.declared.answers.Refusal.{Refusal}
use Rattle.rules_types.specs.declared.answers.Verdict.TheVariants.{Satisfiable, Unsatisfiable, Unwritten}
use Rattle.rules_types.specs.declared.terms.Terms.{Terms}
use Rattle.rules_types.specs.Answers.{refusal_number}
use Rattle.rules_types.specs.Layout as layout
use Rattle.rules.specs.Lists.{concat, tabulate}
use Rattle.rules.specs.Bytes.{from_unsigned, field_at}
use Rattle.rules.specs.Steps.{Step, header}
use Rattle.rules.specs.Calls.{faulted, stopped, decided, outcome}

-- ---- words, numbers and lines as ASCII
unfoldable pub ascii : text.String → List ℕ
ascii text.[] = []
ascii (text.◌∷◌ c s) = code c ∷ ascii s

-- decimal digits, by at most so many divisions; n of them are enough
unfoldable pub digits_within : ℕ → ℕ → List ℕ
digits_within zero n = (48 + n) ∷ []
digits_within (suc k) n = elim (ltb n 10) [ true ↦ (48 + n) ∷ [] | false ↦ digits_within k (n / 10) ++ ((48 + n % 10) ∷ []) ]

unfoldable pub decimal : ℕ → List ℕ
decimal n = digits_within n n

unfoldable pub signed_decimal : ℤ → List ℕ
signed_decimal (pos n) = decimal n
signed_decimal (negsuc n) = ascii "-" ++ decimal (suc n)

-- words with spaces between them, and a newline
unfoldable pub print_line : List ℕ → List (List ℕ) → List ℕ
print_line word [] = word ++ ascii "\n"
print_line word (next ∷ words) = word ++ ascii " " ++ print_line next words

-- ---- after each verdict
-- "how, which, first, second"
unfoldable pub print_step : Step → List ℕ
print_step s = let h = header s.origin in print_line (decimal h.how) (map decimal (h.which ∷ h.first ∷ h.second ∷ []))

unfoldable pub print_proof : List Step → List ℕ
print_proof steps = print_line (ascii "lines") (decimal (length steps) ∷ []) ++ concat (map print_step steps)

-- "after each count one line for each mark, 0 or 1, or for each figure, numerator and the sheet's denominator"; 02, (iv): an open mark's
-- byte, 2, "prints as 2"
unfoldable pub print_model : List ℕ → List ℕ
print_model bytes =
    let b = field_at layout.model_booleans 1 bytes in
    let r = field_at (layout.model_rationals b) 1 bytes in
    let denominator = decimal (field_at (layout.model_denominator b) 4 bytes) in
    print_line (ascii "marks") (decimal b ∷ [])
    ++ concat (tabulate b (λ i. print_line (decimal (field_at (layout.model_flags + i) 1 bytes)) []))
    ++ print_line (ascii "figures") (decimal r ∷ [])
    ++ concat (tabulate r
    (λ f. print_line (signed_decimal (from_unsigned (field_at (layout.model_numerators b + 4 * f) 4 bytes))) (denominator ∷ [])))

-- "refused with number, place, pairs"
unfoldable pub print_refusal : Refusal → ℕ → ℕ → List ℕ
print_refusal f place pairs = print_line (ascii "refused") (map decimal (refusal_number f ∷ place ∷ pairs ∷ []))

unfoldable pub printed : Terms → List ℕ → List ℕ
printed terms input =
    elim (outcome terms input) [
      | faulted f place ↦ print_refusal f place 0
      | stopped f steps pairs ↦ print_refusal f steps pairs
      | decided v steps pairs bytes ↦
          let counts = map decimal (length steps ∷ pairs ∷ []) in
          elim v [
            | Satisfiable ↦ print_line (ascii "agrees") counts ++ print_model bytes
            | Unsatisfiable ↦ print_line (ascii "cannot") counts ++ print_proof steps
            | Unwritten ↦ print_line (ascii "unwritten") counts
          ]
    ]
