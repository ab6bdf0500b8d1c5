-- What solving comes to, by the sizes of the lent buffers and by what reading says of the problem.
use Rattle.std.specs.Prelude.{◌≡◌, List, ℕ, ◌≤◌, ◌<◌, length}
use Rattle.std.proofs.Common.{◌∙◌}
use borrow.Author.Tests.{lt-ltb, le-ltb}
use Rattle.rules_types.specs.declared.answers.Refusal.{Refusal}
use Rattle.rules_types.specs.declared.answers.Refusal.TheVariants as refusal
use Rattle.rules_types.specs.declared.terms.Terms.{Terms}
use Rattle.rules_types.specs.Limits as limit
use Rattle.rules.specs.Problem.{Problem, in_edition}
use Rattle.rules.specs.Elimination.{limited, elimination}
use Rattle.rules.specs.Calls.{faulted, faulty, sound, read, concluded, outcome, lent}

module _ (terms : Terms) (input proof model : List ℕ) where
  pub lent-short-proof : length proof < limit.proof_bytes terms.limits → lent terms input proof model ≡ faulted refusal.ShortProof 0
  unfolding lent
  lent-short-proof h = rw (lt-ltb (length proof) (limit.proof_bytes terms.limits) h, lent)

  module _ (h : limit.proof_bytes terms.limits ≤ length proof) where
    pub lent-short-model : length model < limit.model_bytes → lent terms input proof model ≡ faulted refusal.ShortModel 0
    unfolding lent
    lent-short-model k = rw (le-ltb (length proof) (limit.proof_bytes terms.limits) h, lent, lt-ltb (length model) limit.model_bytes k)

    module _ (k : limit.model_bytes ≤ length model) where
      pub lent-full : lent terms input proof model ≡ outcome terms input
      unfolding lent
      lent-full = rw (le-ltb (length proof) (limit.proof_bytes terms.limits) h, lent, le-ltb (length model) limit.model_bytes k)

      pub lent-fault : (f : Refusal) (place : ℕ) → read input ≡ faulty f place → lent terms input proof model ≡ faulted f place
      unfolding outcome
      lent-fault f place e = lent-full ∙ rw (e, outcome)

      pub lent-sound : (p : Problem) → read input ≡ sound p → let posed = in_edition terms.edition p in
          lent terms input proof model ≡ concluded posed (elimination (limited terms.limits) posed)
      unfolding outcome
      lent-sound p e = lent-full ∙ rw (e, outcome)
