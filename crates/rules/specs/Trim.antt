-- 02, (xi): a proof trimmed ("a short book") to its last step and those from which it descends.
use Rattle.std.specs.Prelude.{Bool, true, false, cond, List, [], ◌∷◌, ◌++◌, ℕ, zero, suc, ◌+◌, ◌-◌, ◌/◌, eqb, ltb, length, take, drop}
use Rattle.rules_types.specs.declared.answers.Refusal.TheVariants as refusal
use Rattle.rules_types.specs.declared.answers.Checked.{Checked}
use Rattle.rules_types.specs.declared.answers.Checked.TheVariants as checked
use Rattle.rules_types.specs.declared.answers.Trimmed.{Trimmed}
use Rattle.rules_types.specs.declared.answers.Trimmed.TheVariants.{Steps, Fails, Refused}
use Rattle.rules_types.specs.declared.limits.Limits.{Limits}
use Rattle.rules_types.specs.declared.terms.Terms.{Terms}
use Rattle.rules_types.specs.Limits as limit
use Rattle.rules_types.specs.Layout as layout
use Rattle.rules.specs.Lists.{any}
use Rattle.rules.specs.Bytes.{to_bytes, field_at, padded}
use Rattle.rules.specs.Steps.{step_at}
use Rattle.rules.specs.Calls.{proof_checked, in_named}

-- ---- "the last, empty line and only the lines from which it descends"
-- the steps that a step names as its parents, both by number; a loaded one names its clause and part there
unfoldable pub is_loaded : List ℕ → Bool
is_loaded step = eqb (field_at layout.step_how 1 step) 0

unfoldable pub parents : List ℕ → List ℕ
parents step = cond (is_loaded step) [] (field_at layout.step_first 2 step ∷ field_at layout.step_second 2 step ∷ [])

-- from step k - 1 down to step 0: the parents of each that is wanted are wanted, too
unfoldable pub ancestors : List ℕ → ℕ → List ℕ → List ℕ
ancestors proof zero wanted = wanted
ancestors proof (suc k) wanted = ancestors proof k (cond (any (eqb k) wanted) (parents (step_at proof k) ++ wanted) wanted)

unfoldable pub step_count : List ℕ → ℕ
step_count proof = length proof / limit.step_bytes

unfoldable pub needed : List ℕ → ℕ → Bool
needed proof i = any (eqb i) (ancestors proof (step_count proof) ((step_count proof - 1) ∷ []))

-- ---- "in order": the needed ones of the first k steps
-- how many they are: the number that step k gets
unfoldable pub count_below : (ℕ → Bool) → ℕ → ℕ
count_below keeps zero = 0
count_below keeps (suc k) = count_below keeps k + cond (keeps k) 1 0

-- "Parents of results are renumbered; loaded lines keep their clause and piece."
unfoldable pub renumbered : (ℕ → ℕ) → List ℕ → List ℕ
renumbered number step = cond (is_loaded step) step
    (take layout.step_first step ++ to_bytes 2 (number (field_at layout.step_first 2 step))
    ++ to_bytes 2 (number (field_at layout.step_second 2 step)) ++ drop layout.step_relation step)

unfoldable pub kept_steps : List ℕ → (ℕ → Bool) → ℕ → List ℕ
kept_steps proof keeps zero = []
kept_steps proof keeps (suc k) = kept_steps proof keeps k ++ cond (keeps k) (renumbered (count_below keeps) (step_at proof k)) []

unfoldable pub trimmed : List ℕ → List ℕ
trimmed proof = kept_steps proof (needed proof) (step_count proof)

-- ---- the call
pub record Trimming : Type 0 where
  pub trimmed : Trimmed
  pub target : List ℕ

-- "A book the check doesn't accept is answered as the check does, with nothing written"; "Its line count is returned; the target's unused
-- lines are 0."
unfoldable pub trim_checked : Limits → Checked → List ℕ → List ℕ → Trimming
trim_checked limits checked.Accepted proof target = record {
  trimmed = Steps (step_count (trimmed proof));
  target = padded (limit.proof_bytes limits) (trimmed proof) ++ drop (limit.proof_bytes limits) target;
}
trim_checked limits (checked.Fails n) proof target = record { trimmed = Fails n; target = target }
trim_checked limits (checked.Refused f place) proof target = record { trimmed = Refused f place; target = target }

-- "a target under 65,536 bytes is 1, tested right after 19"
unfoldable pub trim : Terms → List ℕ → List ℕ → List ℕ → Trimming
trim terms input proof target =
    elim (ltb (length target) (limit.proof_bytes terms.limits)) [
      | true ↦ record { trimmed = Refused refusal.ShortProof 0; target = target }
      | false ↦ trim_checked terms.limits (proof_checked terms input proof) proof target
    ]

unfoldable pub trim_in : Limits → ℕ → List ℕ → List ℕ → List ℕ → Trimming
trim_in limits edition input proof target =
    in_named limits edition (record { trimmed = Refused refusal.Edition 0; target = target }) (λ terms. trim terms input proof target)
