-- Two assignments that the same bytes state agree; and what is written for an assignment states it, at document 01's offsets.
use Rattle.std.specs.Prelude.{◌≡◌, refl, Bool, true, false, cond, pos, take}
use Rattle.std.proofs.Common.{sym, ap, ◌∙◌}
use mathlib.Core.List.{List, ◌∷◌, ◌++◌, append_assoc}
use Prim.Native.Nat.{ℕ, ◌+◌, ◌*◌, ◌-◌, ◌≤◌, ◌<◌}
use native.Mathlib.Omega.{arith}
use Rattle.std.proofs.Math.ListN.{length, replicate, length-append}
use Rattle.std.proofs.Math.Seq.{drop_at}
use Rattle.rules_types.specs.Limits as limit
use Rattle.rules.specs.Lists.{tabulate}
use Rattle.rules.specs.Bytes.{to_bytes, from_unsigned, amount_bytes, field_at, padded}
use Rattle.rules.specs.Meaning.{Assignment}
use Rattle.rules.specs.Model.{boolean_byte, encode_model}
use Rattle.theory_lists.specs.Tabulated.{length-tabulate, get_d_tabulate}
use Rattle.theory_vectors.specs.Amounts.{small-amounts}
use Rattle.theory_bytes.specs.Bytes.{length-to_bytes}
use Rattle.theory_bytes.specs.Amounts.{length-amount_bytes}
use Rattle.theory_bytes.specs.Models.{Fitting, read_back, back-boolean, back-numerator, back-denominator, model-length, model-back}
use Rattle.theory_layout.specs.Offsets.{StatesModel}
use Rattle.theory_layout.specs.Offsets.{ModelAt}
use Rattle.theory_layout.specs.Fields.{field-part, field-drop, zeros-before}
use Rattle.theory_layout.specs.Models.{got-states}

-- ---- two assignments that the same bytes state
module _ (bytes : List ℕ) (b r : ℕ) (opens : ℕ → Bool) (χ ψ : Assignment) (s : StatesModel bytes b r opens χ)
    (t : StatesModel bytes b r opens ψ) where
  one_bit : (a c : Bool) → ◌≡◌ {A = ℕ} (cond a 1 0) (cond c 1 0) → a ≡ c
  one_bit true true e = refl
  one_bit true false e = absurd (omega arith)
  one_bit false true e = absurd (omega arith)
  one_bit false false e = refl

  pub same-booleans : (i : ℕ) → i < b → opens i ≡ false → χ.booleans i ≡ ψ.booleans i
  same-booleans i h o = one_bit (χ.booleans i) (ψ.booleans i) (rw o at (sym (s.boolean i h) ∙ t.boolean i h))

  pub same-numerators : (f : ℕ) → f < r → χ.numerators f ≡ ψ.numerators f
  same-numerators f h = sym (s.numerator f h) ∙ t.numerator f h

  pub same-denominators : χ.denominator ≡ ψ.denominator
  same-denominators = sym s.denominator ∙ t.denominator

-- ---- what is written for a model
module _ (b r : ℕ) (opens : ℕ → Bool) (χ : Assignment) (fits : Fitting b r χ) (rest : List ℕ) where
  abbrev flag : ℕ → ℕ
  flag i = boolean_byte (opens i) (χ.booleans i)

  abbrev flags : List ℕ
  flags = tabulate b flag

  abbrev content : List ℕ
  content = b ∷ flags ++ (r ∷ to_bytes 4 χ.denominator) ++ amount_bytes (tabulate r χ.numerators)

  content-length : length content ≡ 6 + b + 4 * r
  content-length =
      rw (
        length-append (b ∷ flags ++ (r ∷ to_bytes 4 χ.denominator)) (amount_bytes (tabulate r χ.numerators)),
        length-append (b ∷ flags) (r ∷ to_bytes 4 χ.denominator),
      ) (omega (
        arith,
        length-tabulate b flag,
        length-to_bytes 4 χ.denominator,
        length-amount_bytes (tabulate r χ.numerators),
        length-tabulate r χ.numerators,
      ))

  written-states : StatesModel (encode_model b r opens χ ++ rest) b r opens χ
  unfolding boolean_byte
  written-states =
      let m = model-back b r opens χ fits rest 0 in
      let bytes = encode_model b r opens χ ++ rest in
      let size : limit.model_bytes ≤ length bytes = rw length-append (omega (arith, model-length b r opens χ fits)) in
      let s = got-states bytes b r opens size fits.booleans fits.rationals (read_back b r opens χ) _ m.0 m.1 in
      record {
        booleans = s.booleans;
        boolean = λ i h. s.boolean i h ∙ back-boolean b r opens χ i h;
        rationals = s.rationals;
        denominator = s.denominator ∙ back-denominator b r opens χ;
        numerator = λ f h. s.numerator f h ∙ back-numerator b r opens χ f h;
        least = fits.positive;
        most = fits.denominator;
        range = λ f h. rw (← get_d_tabulate r χ.numerators f (pos 0) h)
            ((small-amounts (tabulate r χ.numerators) fits.numerators).small f);
      }

  pub written-model : ModelAt (encode_model b r opens χ ++ rest) b r opens χ
  unfolding encode_model padded
  written-model =
      let zeros : List ℕ = replicate (limit.model_bytes - length content) 0 in
      record {
        room = rw (length-append (encode_model b r opens χ) rest) (omega (arith, model-length b r opens χ fits));
        states = written-states;
        zeros = λ place lo hi.
            let e : place ≡ 6 + b + 4 * r + (place - (6 + b + 4 * r)) = omega arith in
            rw (
              append_assoc content zeros rest,
              e,
              ← field-drop (content ++ (zeros ++ rest)) (6 + b + 4 * r) (place - (6 + b + 4 * r)) 1,
              drop_at content (zeros ++ rest) (6 + b + 4 * r) content-length,
            )
            (zeros-before (limit.model_bytes - length content) (place - (6 + b + 4 * r)) rest (omega (arith, content-length)));
      }

-- ---- no field stands beyond the 64 bytes
module _ (bytes : List ℕ) (b r : ℕ) (opens : ℕ → Bool) (few : b ≤ limit.booleans) (small : r ≤ limit.rationals) where
  front : (k size : ℕ) → k + size ≤ 64 → field_at k size (take 64 bytes) ≡ field_at k size bytes
  front k size h = field-part bytes 0 64 k size h ∙ ap (λ (n : ℕ). field_at n size bytes) (let e : 0 + k ≡ k = omega arith in e)

  pub front-states : (χ : Assignment) → StatesModel bytes b r opens χ → StatesModel (take 64 bytes) b r opens χ
  front-states χ s =
      record {
        booleans = front 0 1 (omega arith) ∙ s.booleans;
        boolean = λ i h. front (1 + i) 1 (omega arith) ∙ s.boolean i h;
        rationals = front (1 + b) 1 (omega arith) ∙ s.rationals;
        denominator = front (2 + b) 4 (omega arith) ∙ s.denominator;
        numerator = λ f h. ap from_unsigned (front (6 + b + 4 * f) 4 (omega arith)) ∙ s.numerator f h;
        least = s.least;
        most = s.most;
        range = s.range;
      }
