-- A step in machine words, and what it stands for.
use Rattle.std.specs.Prelude.{◌≡◌, refl, List, ℕ, ◌+◌, ◌*◌, ◌<◌}
use Rattle.std.proofs.Math.Option.{none, some}
use Rattle.rules_types.specs.Limits as limit
use Rattle.rules_types.specs.Layout as layout
use Rattle.rules.specs.Bytes.{field_at}
use Rattle.rules.specs.Steps as rules
use Rattle.rules.specs.Steps.{Header, header, loaded, resolved}
use Rattle.rules.specs.Checker.{variable_named}
use Rattle.lines.specs.Line.{meaning}
use Rattle.steps.specs.declared.origin.Origin.{Origin}
use Rattle.steps.specs.declared.origin.Step.{Step}

abbrev pub header_of : Origin → Header
header_of o = record { how = o.how; which = o.which; first = o.first; second = o.second }

-- by no variable: loaded
unfoldable pub origin_of : Origin → rules.Origin
origin_of o = elim (variable_named o.how o.which) [
  | none ↦ loaded o.first o.second
  | some v ↦ resolved v o.first o.second
]

abbrev pub step_of : Step → rules.Step
step_of s = record { origin = origin_of s.origin; line = meaning s.line }

-- the origin of step i of a proof's bytes
abbrev pub origin_at : List ℕ → ℕ → Origin
origin_at proof i = record {
  how = field_at (limit.step_bytes * i + layout.step_how) 1 proof;
  which = field_at (limit.step_bytes * i + layout.step_which) 1 proof;
  first = field_at (limit.step_bytes * i + layout.step_first) 2 proof;
  second = field_at (limit.step_bytes * i + layout.step_second) 2 proof;
}

-- an origin whose header has just its numbers
pub record Named (o : Origin) : Type 0 where
  pub is : header (origin_of o) ≡ header_of o
  pub first_fits : o.first < limit.most_steps
  pub second_fits : o.second < limit.most_steps

-- a part of a clause, both by number
abbrev pub loaded_by : ℕ → ℕ → Origin
loaded_by clause part = record { how = 0; which = 0; first = clause; second = part }

pub named-loaded : (clause part : ℕ) → clause < limit.most_steps → part < limit.most_steps → Named (loaded_by clause part)
unfolding origin_of variable_named header
named-loaded clause part h k = record { is = refl; first_fits = h; second_fits = k }
