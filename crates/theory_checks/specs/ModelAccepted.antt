-- The check accepts the model of an assignment that satisfies the problem.
use Rattle.std.specs.Prelude.{◌≡◌, List, ◌++◌, ℕ, length}
use Rattle.std.proofs.Math.Option.{some}
use Rattle.rules_types.specs.declared.answers.Checked.TheVariants.{Accepted}
use Rattle.rules_types.specs.declared.terms.Terms.{Terms}
use Rattle.rules_types.specs.Limits as limit
use Rattle.rules.specs.Problem.{Problem, in_edition}
use Rattle.rules.specs.Meaning.{Assignment, Satisfies}
use Rattle.rules.specs.Values.{Walked}
use Rattle.rules.specs.Model.{is_open, encode_model, written}
use Rattle.rules.specs.Calls.{read, sound, model_checked}
use Rattle.theory_splitting.specs.WellRead.{posed-well-formed}
use Rattle.theory_checks.specs.ModelChecked.{satisfying-model-checked}
use Rattle.theory_bytes.specs.Models.{Fitting, model-length}
use Rattle.theory_bytes.specs.Written.{written-fits}
use Rattle.theory_layout.specs.WrittenModels.{written-model}

module _ (terms : Terms) (input : List ℕ) (q : Problem) (e : read input ≡ sound q) where
  abbrev p : Problem
  p = in_edition terms.edition q

  -- whatever stands behind the model's 64 bytes
  pub model-accepted : (χ : Assignment) (rest : List ℕ) → Fitting p.booleans p.rationals χ → Satisfies χ p
      → model_checked terms input (encode_model p.booleans p.rationals (is_open p) χ ++ rest) ≡ Accepted
  model-accepted χ rest f s =
      let m = written-model p.booleans p.rationals (is_open p) χ f rest in
      satisfying-model-checked terms input (encode_model p.booleans p.rationals (is_open p) χ ++ rest) q e m.room χ m.states s

  -- a walk's model, where it is written
  pub written-accepted : (w : Walked) (bytes rest : List ℕ) → written p.booleans p.rationals (is_open p) w ≡ some bytes
      → Satisfies w.assignment p → (length bytes ≡ limit.model_bytes) × (model_checked terms input (bytes ++ rest) ≡ Accepted)
  written-accepted w bytes rest f s =
      let b = p.booleans in
      let r = p.rationals in
      let formed = posed-well-formed terms.edition input q e in
      let k = written-fits b r (is_open p) w bytes formed.booleans formed.rationals s.denominator f in
      rw k.is (model-length b r (is_open p) w.assignment k.fits, model-accepted w.assignment rest k.fits s)
