-- A model reads back: its 64 bytes give an assignment that agrees with the written one on the problem's variables, but for the open ones,
-- and has its denominator.
use Rattle.std.specs.Prelude.{◌≡◌, Bool, cond, ◌&&◌, pos, eqb, leb, get_or}
use Rattle.std.proofs.Math.Path.{refl}
use Rattle.std.proofs.Math.Bool.{true, false}
use mathlib.Core.List.{List, ◌∷◌, ◌++◌, append_assoc}
use Prim.Native.Nat.{ℕ, ◌-◌, ◌≤◌, ◌<◌}
use Rattle.std.proofs.Common.{arith, length-append}
use Rattle.std.proofs.Math.Dec.{T, eqb_refl}
use Rattle.std.proofs.Math.ListN.{length, replicate}
use Rattle.std.proofs.Math.Facts.{yes_leb, yes_and}
use Rattle.rules_types.specs.declared.answers.Refusal.TheVariants as refusal
use Rattle.rules_types.specs.Limits as limit
use Rattle.rules.specs.Lists.{tabulate}
use Rattle.rules.specs.Bytes.{to_bytes, amount_bytes, padded}
use Rattle.rules.specs.Problem.{after, repeat, each, field, amount}
use Rattle.rules.specs.Meaning.{Assignment}
use Rattle.rules.specs.Model.{boolean_byte, is_boolean_byte, encode_model, model}
use Rattle.theory_lists.specs.All.{All}
use Rattle.theory_lists.specs.Tabulated.{length-tabulate, get_d_tabulate}
use Rattle.theory_vectors.specs.Amounts.{Small, small-amounts}
use Rattle.theory_bytes.specs.Bytes.{length-to_bytes, length-padded}
use Rattle.theory_bytes.specs.Amounts.{length-amount_bytes}
use Rattle.theory_bytes.specs.ReadBack.{Reads, reads-field, reads_byte, reads-amounts, reads-list}

-- what a model has room for
pub record Fitting (b r : ℕ) (χ : Assignment) : Type 0 where
  pub booleans : b ≤ limit.booleans
  pub rationals : r ≤ limit.rationals
  pub positive : 1 ≤ χ.denominator
  pub denominator : χ.denominator ≤ limit.amount
  pub numerators : All Small (tabulate r χ.numerators)

-- the assignment that is read back
unfoldable pub read_back : ℕ → ℕ → (ℕ → Bool) → Assignment → Assignment
read_back b r opens χ =
    record {
      booleans = λ i. eqb (get_or (tabulate b (λ i. boolean_byte (opens i) (χ.booleans i))) i 0) 1;
      numerators = λ f. get_or (tabulate r χ.numerators) f (pos 0);
      denominator = χ.denominator;
    }

module _ (b r : ℕ) (opens : ℕ → Bool) (χ : Assignment) where
  -- variable i's byte
  abbrev bit : ℕ → ℕ
  bit i = boolean_byte (opens i) (χ.booleans i)

  pub back-boolean : (i : ℕ) → i < b → boolean_byte (opens i) ((read_back b r opens χ).booleans i) ≡ bit i
  unfolding read_back boolean_byte
  back-boolean i h = rw (get_d_tabulate b bit i 0 h) (by (opens i) (χ.booleans i))
    where
      by : (o a : Bool) → boolean_byte o (eqb (boolean_byte o a) 1) ≡ boolean_byte o a
      by true a = refl
      by false true = refl
      by false false = refl

  pub back-numerator : (f : ℕ) → f < r → (read_back b r opens χ).numerators f ≡ χ.numerators f
  unfolding read_back
  back-numerator f h = get_d_tabulate r χ.numerators f (pos 0) h

  pub back-denominator : (read_back b r opens χ).denominator ≡ χ.denominator
  unfolding read_back
  back-denominator = refl

  -- ---- the bytes, part after part
  abbrev bits : List ℕ
  bits = tabulate b bit

  abbrev amounts : List ℕ
  amounts = amount_bytes (tabulate r χ.numerators)

  abbrev content : List ℕ
  content = b ∷ bits ++ (r ∷ to_bytes 4 χ.denominator) ++ amounts

  reads-bits : (rest : List ℕ) → Reads (each 0 b (λ i. field 1 (is_boolean_byte (opens i)) refusal.BadModel)) (bits ++ rest) bits rest
  unfolding boolean_byte is_boolean_byte
  reads-bits = reads-list refusal.BadModel b (λ i. is_boolean_byte (opens i)) bit (λ i h. by (opens i) (χ.booleans i))
    where
      by : (o a : Bool) → T (is_boolean_byte o (boolean_byte o a))
      by true a = tt
      by false true = tt
      by false false = tt

  module _ (fits : Fitting b r χ) where
    reads-numerators : (rest : List ℕ) → Reads (repeat r (amount refusal.BadModel)) (amounts ++ rest) (tabulate r χ.numerators) rest
    reads-numerators = reads-amounts refusal.BadModel r χ.numerators
        (λ f h. rw (← get_d_tabulate r χ.numerators f (pos 0) h)
        ((small-amounts (tabulate r χ.numerators) fits.numerators).small f))

    reads-denominator : (rest : List ℕ)
        → Reads (field 4 (λ n. leb 1 n && leb n limit.amount) refusal.BadModel) (to_bytes 4 χ.denominator ++ rest) χ.denominator rest
    reads-denominator rest =
        let d = χ.denominator in
        reads-field (λ n. leb 1 n && leb n limit.amount) refusal.BadModel 4 d rest (omega arith)
        (yes_and (leb 1 d) (leb d limit.amount) (yes_leb fits.positive) (yes_leb fits.denominator))

    reads-parts : (rest : List ℕ)
        → Reads (model b r opens) (b ∷ (bits ++ (r ∷ (to_bytes 4 χ.denominator ++ (amounts ++ rest))))) (read_back b r opens χ) rest
    unfolding model read_back after
    reads-parts rest place =
        let f = refusal.BadModel in
        let e₄ = amounts ++ rest in
        let e₃ = to_bytes 4 χ.denominator ++ e₄ in
        let e₂ = r ∷ e₃ in
        let r₁ = reads_byte (eqb b) f b (bits ++ e₂) (eqb_refl b) place in
        let r₂ = reads-bits e₂ r₁.0 in
        let r₃ = reads_byte (eqb r) f r e₃ (eqb_refl r) r₂.0 in
        let r₄ = reads-denominator e₄ r₃.0 in
        let r₅ = reads-numerators rest r₄.0 in
        (r₅.0, rw (r₁.1, r₂.1, r₃.1, r₄.1, r₅.1))

    -- ---- the model
    content-length : length content ≤ limit.model_bytes
    content-length =
        rw (length-append (b ∷ bits ++ (r ∷ to_bytes 4 χ.denominator)) amounts, length-append (b ∷ bits) (r ∷ to_bytes 4 χ.denominator))
        (omega (
          arith,
          length-tabulate b bit,
          length-to_bytes 4 χ.denominator,
          length-amount_bytes (tabulate r χ.numerators),
          length-tabulate r χ.numerators,
        ))

    pub model-length : length (encode_model b r opens χ) ≡ limit.model_bytes
    unfolding encode_model
    model-length = length-padded limit.model_bytes content content-length

    pub model-back : (rest : List ℕ)
        → Reads (model b r opens) (encode_model b r opens χ ++ rest) (read_back b r opens χ)
        (replicate (limit.model_bytes - length content) 0 ++ rest)
    unfolding encode_model padded
    model-back rest =
        let tail : List ℕ = replicate (limit.model_bytes - length content) 0 in
        let d = to_bytes 4 χ.denominator in
        let e : content ++ tail ++ rest ≡ b ∷ (bits ++ (r ∷ (d ++ (amounts ++ (tail ++ rest))))) = simp append_assoc in
        rw e (reads-parts (tail ++ rest))
