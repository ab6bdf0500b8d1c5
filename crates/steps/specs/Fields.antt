-- The fields of line i where they stand in a proof's bytes.
use Rattle.std.specs.Prelude.{◌≡◌, List, ℕ, ◌+◌, ◌*◌, ◌<◌, pos, length, get_or}
use Rattle.std.proofs.Math.Path.{sym, ap}
use Rattle.std.proofs.Common.{◌∙◌, arith, take_all}
use Rattle.rules_types.specs.Limits.{rationals, step_bytes}
use Rattle.rules_types.specs.Layout.{step_relation, step_positive, step_negative, step_coefficients, step_bound}
use Rattle.rules.specs.Bytes.{from_unsigned, field_at}
use Rattle.steps.specs.Places.{step_at, HasStep, field-step_at}
use Rattle.steps.specs.Decoding.{decoded, get_or-amounts_at}
use Rattle.steps.specs.Lines.{line_at}

module _ (proof : List ℕ) (i : ℕ) (room : HasStep proof i) where
  pub relation-bytes : field_at (step_bytes * i + step_relation) 1 proof ≡ (line_at proof i).relation
  unfolding line_at decoded
  relation-bytes = sym (field-step_at proof i room step_relation 1 (omega arith))

  pub positive-bytes : field_at (step_bytes * i + step_positive) 4 proof ≡ (line_at proof i).positive
  unfolding line_at decoded
  positive-bytes = sym (field-step_at proof i room step_positive 4 (omega arith))

  pub negative-bytes : field_at (step_bytes * i + step_negative) 4 proof ≡ (line_at proof i).negative
  unfolding line_at decoded
  negative-bytes = sym (field-step_at proof i room step_negative 4 (omega arith))

  pub coefficient-bytes : (f : ℕ) → f < rationals
      → from_unsigned (field_at (step_bytes * i + (step_coefficients + 4 * f)) 4 proof) ≡ get_or (line_at proof i).coefficients f (pos 0)
  unfolding line_at decoded
  coefficient-bytes f h =
      ap from_unsigned (sym (field-step_at proof i room (step_coefficients + 4 * f) 4 (omega arith)))
      ∙ sym (get_or-amounts_at rationals step_coefficients f (step_at proof i) h)

  pub bound-bytes : from_unsigned (field_at (step_bytes * i + step_bound) 4 proof) ≡ (line_at proof i).bound
  unfolding line_at decoded
  bound-bytes = ap from_unsigned (sym (field-step_at proof i room step_bound 4 (omega arith)))

-- the bytes of one step are those of a proof that has only step 0
pub one-step : (bytes : List ℕ) → length bytes ≡ step_bytes → line_at bytes 0 ≡ decoded bytes
unfolding line_at step_at
one-step bytes e = ap decoded (take_all step_bytes bytes (omega arith))
