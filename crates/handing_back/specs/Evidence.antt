-- Which part is handed back: a law for each way, and that the part lies within its buffer.
use Rattle.std.specs.Prelude.{◌≡◌, refl, Bool, true, false, ◌||◌, List, ℕ, ◌*◌, ◌-◌, ◌≤◌, eqb, ltb, length, take, drop}
use native.Mathlib.Omega.{arith}
use borrow.Author.Tests.{ltb-false}
use Rattle.rules_types.specs.declared.answers.Evidence.{Evidence}
use Rattle.rules_types.specs.declared.answers.Evidence.TheVariants.{OfProof, OfModel}
use Rattle.rules_types.specs.declared.limits.Limits.{Limits}
use Rattle.rules_types.specs.Limits as limit
use Rattle.rules_types.specs.Answers.{verdict_number}
use Rattle.rules.specs.Calls.{evidence, evidence_bytes}

-- "with a buffer that 1 or 2 refuses, or over 1,024 lines"
unfoldable pub refused : Limits → ℕ → List ℕ → List ℕ → Bool
refused limits steps proof model = ltb (length proof) (limit.proof_bytes limits) || ltb (length model) limit.model_bytes
    || ltb limits.steps steps

-- the bytes of that part
abbrev pub handed_back : Limits → ℕ → ℕ → List ℕ → List ℕ → List ℕ
handed_back limits number steps proof model = evidence_bytes (evidence limits number steps proof model) proof model

module _ (limits : Limits) (number steps : ℕ) (proof model : List ℕ) where
  pub part-refused : refused limits steps proof model ≡ true → evidence limits number steps proof model ≡ OfProof 0
  unfolding evidence refused
  part-refused e = rw (e, evidence)

  module _ (e : refused limits steps proof model ≡ false) where
    pub part-model : eqb number 64 ≡ true → evidence limits number steps proof model ≡ OfModel limit.model_bytes
    unfolding evidence refused verdict_number
    part-model f = rw (e, evidence, f)

    pub part-proof : eqb number 64 ≡ false → eqb number 65 ≡ true
        → evidence limits number steps proof model ≡ OfProof (limit.step_bytes * steps)
    unfolding evidence refused verdict_number
    part-proof f g = rw (e, evidence, f, g)

    pub part_none : eqb number 64 ≡ false → eqb number 65 ≡ false → evidence limits number steps proof model ≡ OfProof 0
    unfolding evidence refused verdict_number
    part_none f g = rw (e, evidence, f, g)

    neither : (a b c : Bool) → a || b || c ≡ false → (a ≡ false) × (b ≡ false) × (c ≡ false)
    neither true b c e = let z : ◌≡◌ {A = ℕ} 0 1 = cc in absurd (omega arith)
    neither false true c e = let z : ◌≡◌ {A = ℕ} 0 1 = cc in absurd (omega arith)
    neither false false true e = let z : ◌≡◌ {A = ℕ} 0 1 = cc in absurd (omega arith)
    neither false false false e = (refl, refl, refl)

    pub full : (limit.step_bytes * limits.steps ≤ length proof) × (limit.model_bytes ≤ length model) × (steps ≤ limits.steps)
    unfolding refused
    full =
        let h = neither (ltb (length proof) (limit.proof_bytes limits)) (ltb (length model) limit.model_bytes)
        (ltb limits.steps steps) e in (
          omega (arith, ltb-false (length proof) (limit.proof_bytes limits) h.0),
          ltb-false (length model) limit.model_bytes h.1,
          ltb-false limits.steps steps h.2,
        )

  -- ---- within the buffer
  abbrev pub Within : Evidence → Type 0
  Within (OfProof n) = n ≤ length proof
  Within (OfModel n) = n ≤ length model

  pub part-within : Within (evidence limits number steps proof model)
  part-within = by (refused limits steps proof model) refl (eqb number 64) refl (eqb number 65) refl
    where
      by : (a : Bool) → refused limits steps proof model ≡ a → (b : Bool) → eqb number 64 ≡ b → (c : Bool) → eqb number 65 ≡ c
          → Within (evidence limits number steps proof model)
      by true e b f c g = rw (part-refused e) (omega arith)
      by false e true f c g = rw (part-model e f) (full e).1
      by false e false f true g = let h = full e in rw (part-proof e f g) (omega (arith, h.0, h.2))
      by false e false f false g = rw (part_none e f g) (omega arith)

  -- ---- its bytes, as a part of the buffer that starts at 0
  pub proof-bytes : (e : Evidence) (n : ℕ) → e ≡ OfProof n → take (n - 0) (drop 0 proof) ≡ evidence_bytes e proof model
  unfolding evidence_bytes
  proof-bytes e n q = let z : n - 0 ≡ n = omega arith in rw (q, z)

  pub model-bytes : (e : Evidence) (n : ℕ) → e ≡ OfModel n → take (n - 0) (drop 0 model) ≡ evidence_bytes e proof model
  unfolding evidence_bytes
  model-bytes e n q = let z : n - 0 ≡ n = omega arith in rw (q, z)
