-- The bytes of a model that was written can be printed: they have room for their variables.
use Rattle.std.specs.Prelude.{◌≡◌, refl, Bool, true, false, ◌||◌, ℕ, ◌+◌, ◌-◌, ◌≤◌, take, drop}
use Rattle.std.proofs.Math.Path.{ap}
use Rattle.std.proofs.Common.{◌∙◌, length-append, drop_at}
use mathlib.Core.List.{List, ◌∷◌, ◌++◌, append_assoc}
use Rattle.std.proofs.Math.Option.{none, some}
use native.Mathlib.Omega.{arith}
use Rattle.std.proofs.Math.ListN.{length, replicate}
use Rattle.rules_types.specs.Limits as limit
use Rattle.rules_types.specs.Layout as layout
use Rattle.rules.specs.Lists.{tabulate}
use Rattle.rules.specs.Bytes.{to_bytes, from_bytes, amount_bytes, field_at, padded}
use Rattle.rules.specs.Meaning.{Assignment}
use Rattle.rules.specs.Values.{Walked}
use Rattle.rules.specs.Model.{boolean_byte, encode_model, too_large, written}
use Rattle.theory_lists.specs.Tabulated.{length-tabulate}
use Rattle.theory_bytes.specs.Bytes.{length-to_bytes, length-padded}
use Rattle.theory_bytes.specs.Amounts.{length-amount_bytes}
use Rattle.printing.specs.Texts.{Printable}

written_is : (b r : ℕ) (opens : ℕ → Bool) (w : Walked) (bytes : List ℕ) → written b r opens w ≡ some bytes
    → bytes ≡ encode_model b r opens w.assignment
unfolding written
written_is b r opens w bytes e = by (w.exceeded || too_large r w.assignment) refl
  where
    by : (t : Bool) → (w.exceeded || too_large r w.assignment) ≡ t → bytes ≡ encode_model b r opens w.assignment
    by true f = let n : none ≡ some bytes = rw (f, written) at e in let z : ◌≡◌ {A = ℕ} 0 1 = cc in absurd (omega arith)
    by false f = let n : some (encode_model b r opens w.assignment) ≡ some bytes = rw (f, written) at e in cc

module _ (b r : ℕ) (opens : ℕ → Bool) (χ : Assignment) where
  abbrev flag : ℕ → ℕ
  flag i = boolean_byte (opens i) (χ.booleans i)

  abbrev front : List ℕ
  front = b ∷ tabulate b flag

  abbrev middle : List ℕ
  middle = r ∷ to_bytes 4 χ.denominator

  abbrev amounts : List ℕ
  amounts = amount_bytes (tabulate r χ.numerators)

  front_length : length front ≡ layout.model_rationals b
  front_length = omega (arith, length-tabulate b flag)

  content-length : length (front ++ middle ++ amounts) ≡ layout.model_numerators b + length amounts
  content-length =
      length-append (front ++ middle) amounts
      ∙ omega (arith, length-append front middle, front_length, length-to_bytes 4 χ.denominator)

  booleans-is : field_at layout.model_booleans 1 (encode_model b r opens χ) ≡ b
  unfolding field_at from_bytes encode_model padded
  booleans-is = omega arith

  rationals-is : field_at (layout.model_rationals b) 1 (encode_model b r opens χ) ≡ r
  unfolding field_at from_bytes encode_model padded
  rationals-is =
      let zeros = replicate {A = ℕ} (limit.model_bytes - length (front ++ middle ++ amounts)) 0 in
      let e : front ++ middle ++ amounts ++ zeros ≡ front ++ (middle ++ (amounts ++ zeros)) = simp append_assoc in
      ap (λ (l : List ℕ). from_bytes (take 1 (drop (layout.model_rationals b) l))) e
      ∙ ap (λ (l : List ℕ). from_bytes (take 1 l)) (drop_at front (middle ++ (amounts ++ zeros)) (layout.model_rationals b) front_length)
      ∙ omega arith

  pub printable : b ≤ limit.booleans → r ≤ limit.rationals → Printable (encode_model b r opens χ)
  unfolding encode_model
  printable h k =
      record {
        whole = length-padded limit.model_bytes (front ++ middle ++ amounts)
            (omega (arith, content-length, length-amount_bytes (tabulate r χ.numerators), length-tabulate r χ.numerators));
        booleans = omega (arith, booleans-is);
        rationals = rw booleans-is (omega (arith, rationals-is));
      }

pub written-printable : (b r : ℕ) (opens : ℕ → Bool) (w : Walked) (bytes : List ℕ) → b ≤ limit.booleans → r ≤ limit.rationals
    → written b r opens w ≡ some bytes
    → Printable bytes
written-printable b r opens w bytes h k e = rw (written_is b r opens w bytes e) (printable b r opens w.assignment h k)
