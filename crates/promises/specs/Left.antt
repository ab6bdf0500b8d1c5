-- Each sentence of demand 1, of the definition of solving.
use Rattle.std.specs.Prelude.{◌≡◌, List, ◌++◌, ℕ, ◌≤◌, ◌<◌, length, replicate, drop}
use Rattle.std.proofs.Common.{sym, subst}
use Rattle.std.proofs.Math.Path.{ap}
use Rattle.rules_types.specs.declared.answers.Refusal.{Refusal}
use Rattle.rules_types.specs.declared.answers.Refusal.TheVariants as refusal
use Rattle.rules_types.specs.declared.answers.Verdict.{Verdict}
use Rattle.rules_types.specs.declared.answers.Verdict.TheVariants.{Satisfiable}
use Rattle.rules_types.specs.declared.answers.Answer.TheVariants.{Refused}
use Rattle.rules_types.specs.declared.limits.Limits.{Limits}
use Rattle.rules_types.specs.declared.terms.Terms.{Terms}
use Rattle.rules_types.specs.Limits as limit
use Rattle.rules.specs.Problem.{Problem, in_edition}
use Rattle.rules.specs.Elimination.{limited, elimination}
use Rattle.rules.specs.Calls.{faulty, sound, Outcome, faulted, read, concluded, said, proof_after, model_after, Solving, solve, lent}
use Rattle.theory_splitting.specs.WellRead.{posed-well-formed}
use Rattle.theory_splitting.specs.Lent.{lent-short-proof, lent-short-model, lent-fault}
use Rattle.promises.specs.Words.{Comes, LimitMet, FullSize, HoldsLines, OurModel}
use Rattle.promises.specs.Reported.{left, solve-is, lines-held}
use Rattle.promises.specs.Evidence.{our-model}
use Rattle.promises.specs.Memory as memory

module _ (terms : Terms) (input proof' model : List ℕ) where
  abbrev limits : Limits
  limits = terms.limits

  abbrev ours : Solving
  ours = solve terms input proof' model

  -- ---- a problem read without fault, in its edition
  module _ (full : FullSize limits proof' model) (q : Problem) (e : read input ≡ sound q) where
    abbrev p : Problem
    p = in_edition terms.edition q

    by : (P : Solving → Type 0) → P (left limits (concluded p (elimination (limited limits) p)) proof' model) → P ours
    by P h = subst P (sym (solve-is terms input q e proof' model full)) h

    pub proof : limits.steps ≤ limit.most_steps → (v : Verdict) → Comes v ours.solved.answer
        → HoldsLines limits p ours.proof proof'
    proof few v = by (λ s. Comes v s.solved.answer → HoldsLines limits p s.proof proof')
        (lines-held limits few p (posed-well-formed terms.edition input q e) proof' v)

    pub satisfiable : Comes Satisfiable ours.solved.answer → OurModel p ours model
    satisfiable = by (λ s. Comes Satisfiable s.solved.answer → OurModel p s model)
        (our-model limits p (posed-well-formed terms.edition input q e) proof' model)

    pub others : (v : Verdict) → Comes v ours.solved.answer → (v ≡ Satisfiable → ⊥)
        → ours.model ≡ replicate limit.model_bytes 0 ++ drop limit.model_bytes model
    others v = by (λ s. Comes v s.solved.answer → (v ≡ Satisfiable → ⊥)
        → s.model ≡ replicate limit.model_bytes 0 ++ drop limit.model_bytes model) (memory.no-model limits p proof' model v)

    pub refused-elimination : LimitMet ours.solved.answer
        → (ours.proof ≡ replicate (limit.proof_bytes limits) 0 ++ drop (limit.proof_bytes limits) proof') × (ours.model ≡ model)
    refused-elimination =
        by (λ s. LimitMet s.solved.answer → (s.proof ≡ replicate (limit.proof_bytes limits) 0 ++ drop (limit.proof_bytes limits) proof')
        × (s.model ≡ model)) (memory.stopped-zeroes limits p proof' model)

  -- ---- a fault before the elimination
  faulted-is : (f : Refusal) (place : ℕ) → lent terms input proof' model ≡ faulted f place → ours ≡ record {
    solved = record { answer = Refused f place; pairs = 0 };
    proof = proof';
    model = model;
  }
  unfolding solve said proof_after model_after
  faulted-is f place e = ap (λ (o : Outcome). left limits o proof' model) e

  pub short-proof : length proof' < limit.proof_bytes limits → ours ≡ record {
    solved = record { answer = Refused refusal.ShortProof 0; pairs = 0 };
    proof = proof';
    model = model;
  }
  short-proof h = faulted-is refusal.ShortProof 0 (lent-short-proof terms input proof' model h)

  pub short-model : limit.proof_bytes limits ≤ length proof' → length model < limit.model_bytes → ours ≡ record {
    solved = record { answer = Refused refusal.ShortModel 0; pairs = 0 };
    proof = proof';
    model = model;
  }
  short-model h k = faulted-is refusal.ShortModel 0 (lent-short-model terms input proof' model h k)

  pub faulty-input : FullSize limits proof' model → (f : Refusal) (place : ℕ) → read input ≡ faulty f place → ours ≡ record {
    solved = record { answer = Refused f place; pairs = 0 };
    proof = proof';
    model = model;
  }
  faulty-input full f place e = faulted-is f place (lent-fault terms input proof' model full.proof_size full.model_size f place e)

  pub sizes : (length ours.proof ≡ length proof') × (length ours.model ≡ length model)
  sizes = memory.sizes-kept terms input proof' model
