-- The parents of a step, by the fields of its origin.
use Rattle.std.specs.Prelude.{◌≡◌, true, false, List, ℕ, ◌<◌}
use Rattle.std.proofs.Common.{sym, ◌∙◌, arith, eq-eqb, ne_eqb}
use Rattle.std.proofs.Math.Path.{ap}
use Rattle.std.proofs.Math.Dec.{eqb}
use Rattle.rules_types.specs.Limits as limit
use Rattle.rules_types.specs.Layout as layout
use Rattle.rules.specs.Bytes.{field_at}
use Rattle.rules.specs.Steps.{step_at}
use Rattle.rules.specs.Trim.{is_loaded, step_count}
use Rattle.theory_trimming.specs.Ordered.{Trimmable}
use Rattle.steps.specs.declared.origin.Origin.{Origin}
use Rattle.steps.specs.Origin.{origin_at}
use Rattle.steps.specs.Places.{HasStep, field-step_at}

module _ {proof : List ℕ} (given : Trimmable limit.standard proof) {k : ℕ} (below : k < step_count proof) where
  pub has-step : HasStep proof k
  has-step = omega (arith, given.whole)

  module _ {o : Origin} (is : o ≡ origin_at proof k) where
    pub origin-first : field_at layout.step_first 2 (step_at proof k) ≡ o.first
    origin-first = field-step_at proof k has-step layout.step_first 2 (omega arith) ∙ ap (λ (x : Origin). x.first) (sym is)

    pub origin-second : field_at layout.step_second 2 (step_at proof k) ≡ o.second
    origin-second = field-step_at proof k has-step layout.step_second 2 (omega arith) ∙ ap (λ (x : Origin). x.second) (sym is)

    loaded-is : is_loaded (step_at proof k) ≡ eqb o.how 0
    unfolding is_loaded
    loaded-is = ap (λ (h : ℕ). eqb h 0)
        (field-step_at proof k has-step layout.step_how 1 (omega arith) ∙ ap (λ (x : Origin). x.how) (sym is))

    pub origin-loaded : o.how ≡ 0 → is_loaded (step_at proof k) ≡ true
    origin-loaded e = loaded-is ∙ eq-eqb o.how 0 e

    pub origin-resolved : (o.how ≡ 0 → ⊥) → is_loaded (step_at proof k) ≡ false
    origin-resolved n = loaded-is ∙ ne_eqb o.how 0 n

    -- "two earlier lines"
    pub parents-fit : (o.how ≡ 0 → ⊥) → (o.first < limit.steps) × (o.second < limit.steps)
    parents-fit n =
        let p = given.ordered.parents k below (origin-resolved n) in (
          omega (arith, p.0, origin-first, given.few),
          omega (arith, p.1, origin-second, given.few),
        )
