-- A step's first six bytes name its origin: how, which, and both numbers come back.
use Rattle.std.specs.Prelude.{◌≡◌, refl, ℕ, ◌<◌}
use Rattle.std.proofs.Common.{◌∙◌}
use Rattle.std.proofs.Math.Option.{some}
use native.Mathlib.Omega.{arith}
use Rattle.rules_types.specs.Limits as limit
use Rattle.rules_types.specs.Layout as layout
use Rattle.rules.specs.Bytes.{to_bytes, from_bytes, field_at, padded}
use Rattle.rules.specs.Lines.{Line, Variable, rational, boolean}
use Rattle.rules.specs.Steps.{Step, resolved, header, header_bytes, encode_step}
use Rattle.rules.specs.Checker.{variable_named}

module _ (s : Step) where
  pub how-back : field_at layout.step_how 1 (encode_step s) ≡ (header s.origin).how
  unfolding field_at from_bytes encode_step padded header_bytes
  how-back = omega arith

  pub which-back : field_at layout.step_which 1 (encode_step s) ≡ (header s.origin).which
  unfolding field_at from_bytes encode_step padded header_bytes
  which-back = omega arith

  pub first_back : (header s.origin).first < limit.most_steps → field_at layout.step_first 2 (encode_step s) ≡ (header s.origin).first
  unfolding field_at from_bytes to_bytes encode_step padded header_bytes
  first_back h = omega arith

  pub second_back : (header s.origin).second < limit.most_steps → field_at layout.step_second 2 (encode_step s) ≡ (header s.origin).second
  unfolding field_at from_bytes to_bytes encode_step padded header_bytes
  second_back h = omega arith

-- ---- of a resolvent
pub variable-back : (v : Variable) (first second : ℕ)
    → variable_named (header (resolved v first second)).how (header (resolved v first second)).which ≡ some v
unfolding variable_named header
variable-back (rational f) first second = refl
variable-back (boolean i) first second = refl

pub parents : (v : Variable) (first second : ℕ) → ((header (resolved v first second)).first ≡ first)
    × ((header (resolved v first second)).second ≡ second)
unfolding header
parents (rational f) first second = (refl, refl)
parents (boolean i) first second = (refl, refl)

module _ (v : Variable) (first second : ℕ) (l : Line) where
  abbrev step : Step
  step = record { origin = resolved v first second; line = l }

  pub named_back : variable_named (field_at layout.step_how 1 (encode_step step)) (field_at layout.step_which 1 (encode_step step)) ≡ some v
  named_back = rw (how-back step, which-back step) (variable-back v first second)

  pub parents-back : first < limit.most_steps → second < limit.most_steps → (field_at layout.step_first 2 (encode_step step) ≡ first)
      × (field_at layout.step_second 2 (encode_step step) ≡ second)
  parents-back f g =
      let p = parents v first second in
      (first_back step (rw p.0 f) ∙ p.0, second_back step (rw p.1 g) ∙ p.1)
