-- The head of a step: the same in the step's own 64 bytes and in the proof's.
use Rattle.std.specs.Prelude.{◌≡◌, true, false, List, ℕ, ◌+◌, ◌*◌, ◌≤◌}
use Rattle.std.proofs.Math.Path.{sym}
use Rattle.std.proofs.Common.{ap, ◌∙◌, ⊎_elim, arith}
use Rattle.std.proofs.Math.Dec.{eqb→eq}
use Rattle.std.proofs.Math.Facts.{eqb_no}
use Rattle.rules_types.specs.Limits as limit
use Rattle.rules_types.specs.Layout as layout
use Rattle.rules.specs.Bytes.{field_at}
use Rattle.rules.specs.Steps.{step_at}
use Rattle.rules.specs.Trim.{is_loaded}
use Rattle.theory_lists.specs.Tests.{split, is_true, is_false, of-true, of-false}
use Rattle.theory_layout.specs.Fields.{field-part}
use Rattle.theory_trimming.specs.Statements.{how, first_of, second_of}

module _ (proof : List ℕ) (k : ℕ) where
  pub field-at : (at size : ℕ) → at + size ≤ limit.step_bytes
      → field_at at size (step_at proof k) ≡ field_at (limit.step_bytes * k + at) size proof
  unfolding step_at
  field-at at size h = field-part proof (limit.step_bytes * k) limit.step_bytes at size h

  pub how-at : field_at layout.step_how 1 (step_at proof k) ≡ how proof k
  how-at =
      let e : limit.step_bytes * k + layout.step_how ≡ limit.step_bytes * k = omega arith in
      field-at layout.step_how 1 (omega arith) ∙ ap (λ (n : ℕ). field_at n 1 proof) e

  pub first-at : field_at layout.step_first 2 (step_at proof k) ≡ first_of proof k
  first-at = field-at layout.step_first 2 (omega arith)

  pub second_at : field_at layout.step_second 2 (step_at proof k) ≡ second_of proof k
  second_at = field-at layout.step_second 2 (omega arith)

  -- ---- loaded or not
  pub loaded-how : is_loaded (step_at proof k) ≡ true → how proof k ≡ 0
  unfolding is_loaded
  loaded-how e = sym how-at ∙ eqb→eq (field_at layout.step_how 1 (step_at proof k)) 0 (of-true (is_loaded (step_at proof k)) e)

  pub resolved-how : is_loaded (step_at proof k) ≡ false → 1 ≤ how proof k
  unfolding is_loaded
  resolved-how e =
      let n = eqb_no {a = field_at layout.step_how 1 (step_at proof k)} {b = 0} (of-false (is_loaded (step_at proof k)) e) in
      omega (arith, how-at)

  pub how-loaded : how proof k ≡ 0 → is_loaded (step_at proof k) ≡ true
  how-loaded h =
      ⊎_elim (is_true (is_loaded (step_at proof k)))
      (λ t. absurd (omega (arith, resolved-how (is_false (is_loaded (step_at proof k)) t)))) (split (is_loaded (step_at proof k)))

  pub how-resolved : 1 ≤ how proof k → is_loaded (step_at proof k) ≡ false
  how-resolved h =
      ⊎_elim (λ t. absurd (omega (arith, loaded-how (is_true (is_loaded (step_at proof k)) t)))) (is_false (is_loaded (step_at proof k)))
      (split (is_loaded (step_at proof k)))
