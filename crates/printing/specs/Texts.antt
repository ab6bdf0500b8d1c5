-- The parts of the text, as they are read from the bytes of a proof and of a model.
use Rattle.std.specs.Prelude.{◌≡◌, refl, List, [], ◌∷◌, ◌++◌, map, ℕ, ◌+◌, ◌*◌, ◌≤◌, length}
use Rattle.std.proofs.Common.{sym, ap, ◌∙◌, append_assoc, append-nil, add-one}
use native.Mathlib.Omega.{arith}
use Rattle.rules_types.specs.Limits as limit
use Rattle.rules_types.specs.Layout as layout
use Rattle.rules.specs.Lists.{concat, tabulate}
use Rattle.rules.specs.Bytes.{from_unsigned, field_at}
use Rattle.rules.specs.Steps.{Header}
use Rattle.rules.specs.Print.{ascii, decimal, signed_decimal, print_line}
use Rattle.theory_lists.specs.Tabulated.{tabulate-snoc}
use Rattle.steps.specs.Origin.{header_of, origin_at}
use Rattle.printing.specs.Appended.{Appended, appended_nothing, appended-++}

-- the texts of 0 up to n, one behind the other
abbrev pub texts : ℕ → (ℕ → List ℕ) → List ℕ
texts n text = concat (tabulate n text)

concat-snoc : (xss : List (List ℕ)) (xs : List ℕ) → concat (xss ++ (xs ∷ [])) ≡ concat xss ++ xs
unfolding concat
concat-snoc [] xs = append-nil xs
concat-snoc (ys ∷ xss) xs = ap (λ (t : List ℕ). ys ++ t) (concat-snoc xss xs) ∙ sym (append_assoc ys (concat xss) xs)

pub texts-more : (n : ℕ) (text : ℕ → List ℕ) → texts (n + 1) text ≡ texts n text ++ text n
texts-more n text =
    ap (λ (k : ℕ). texts k text) (add-one n) ∙ ap concat (tabulate-snoc n text) ∙ concat-snoc (tabulate n text) (text n)

-- so many of them made, each of at most so many bytes
pub record Making (at most : ℕ) (text : ℕ → List ℕ) (old new : List ℕ) (next n : ℕ) : Type 0 where
  pub same : length new ≡ length old
  pub made : Appended at (texts n text) old new next
  pub within : next ≤ at + most * n

module _ (at most : ℕ) (text : ℕ → List ℕ) (old : List ℕ) where
  pub making-none : Making at most text old old at 0
  unfolding concat tabulate
  making-none = record { same = refl; made = appended_nothing at old; within = omega arith }

  pub making-more : {new newer : List ℕ} {next further : ℕ} (n : ℕ) → at ≤ length old → Making at most text old new next n
      → length newer ≡ length new
      → Appended next (text n) new newer further
      → further ≤ next + most
      → Making at most text old newer further (n + 1)
  making-more {new} {newer} {next} {further} n h m l a w =
      record {
        same = l ∙ m.same;
        made = rw (texts-more n text) (appended-++ h m.made a);
        within = omega (arith, m.within);
      }

-- ---- a proof
abbrev pub header_text : Header → List ℕ
header_text h = print_line (decimal h.how) (map decimal (h.which ∷ h.first ∷ h.second ∷ []))

abbrev pub step_text : List ℕ → ℕ → List ℕ
step_text proof i = header_text (header_of (origin_at proof i))

abbrev pub steps_text : List ℕ → ℕ → List ℕ
steps_text proof n = texts n (step_text proof)

abbrev pub proof_text : List ℕ → ℕ → List ℕ
proof_text proof n = print_line (ascii "lines") (decimal n ∷ []) ++ steps_text proof n

-- ---- a model
abbrev pub flag_text : List ℕ → ℕ → List ℕ
flag_text model i = print_line (decimal (field_at (layout.model_flags + i) 1 model)) []

abbrev pub flags_text : List ℕ → ℕ → List ℕ
flags_text model b = texts b (flag_text model)

abbrev pub booleans_text : List ℕ → ℕ → List ℕ
booleans_text model b = print_line (ascii "marks") (decimal b ∷ []) ++ flags_text model b

abbrev pub numerator_text : List ℕ → ℕ → ℕ → List ℕ
numerator_text model b f =
    print_line (signed_decimal (from_unsigned (field_at (layout.model_numerators b + 4 * f) 4 model)))
    (decimal (field_at (layout.model_denominator b) 4 model) ∷ [])

abbrev pub numerators_text : List ℕ → ℕ → ℕ → List ℕ
numerators_text model b r = texts r (numerator_text model b)

abbrev pub rationals_text : List ℕ → ℕ → ℕ → List ℕ
rationals_text model b r = print_line (ascii "figures") (decimal r ∷ []) ++ numerators_text model b r

-- a model's bytes, with no more variables than a problem may have
pub record Printable (model : List ℕ) : Type 0 where
  pub whole : length model ≡ limit.model_bytes
  pub booleans : field_at layout.model_booleans 1 model ≤ limit.booleans
  pub rationals : field_at (layout.model_rationals (field_at layout.model_booleans 1 model)) 1 model ≤ limit.rationals
