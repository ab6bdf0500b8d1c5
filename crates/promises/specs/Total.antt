-- An answer comes for every input: a verdict or 14 or 15 for a problem read without fault and full-size buffers, else one of 1 to 13 or 18.
use Rattle.std.specs.Prelude.{◌≡◌, refl, ◌⊎◌, List, ℕ, ◌≤◌, ltb, length}
use Rattle.std.proofs.Common.{sym, subst, inl, inr, ltb→lt}
use Rattle.std.proofs.Math.Path.{ap}
use Rattle.std.proofs.Math.Logic.{⊎_elim}
use Rattle.std.proofs.Math.Option.{Option, none, some}
use native.Mathlib.Omega.{arith}
use Rattle.std.proofs.Math.Dec.{nltb→le}
use Rattle.rules_types.specs.declared.answers.Refusal.{Refusal}
use Rattle.rules_types.specs.declared.answers.Refusal.TheVariants.{ShortProof, ShortModel}
use Rattle.rules_types.specs.declared.answers.Verdict.{Verdict}
use Rattle.rules_types.specs.declared.answers.Verdict.TheVariants.{Satisfiable, Unsatisfiable, Unwritten}
use Rattle.rules_types.specs.declared.answers.Answer.{Answer}
use Rattle.rules_types.specs.declared.answers.Answer.TheVariants.{Refused}
use Rattle.rules_types.specs.declared.limits.Limits.{Limits}
use Rattle.rules_types.specs.declared.terms.Terms.{Terms}
use Rattle.rules_types.specs.Limits as limit
use Rattle.rules_types.specs.Answers.{refusal_number}
use Rattle.rules.specs.Problem.{Problem, in_edition}
use Rattle.rules.specs.Steps.{Step}
use Rattle.rules.specs.Elimination.{State, running, ended, empty, overflow, out_of_steps, limited, elimination}
use Rattle.rules.specs.Calls.{Reading, faulty, sound, read, Solving, concluded, said, solve}
use Rattle.theory_lists.specs.Tests.{split}
use Rattle.theory_bytes.specs.Bytes.{AllBytes}
use Rattle.theory_reading.specs.Theorems.{names-first}
use Rattle.theory_reading.specs.Numbers.{Named, to-13, is-18, fault-named}
use Rattle.promises.specs.Words.{Comes, IsRefused, LimitMet, FullSize}
use Rattle.promises.specs.Outcomes.{answer_of, finished, walk_model, concluded-running}
use Rattle.promises.specs.Reported.{solve-is}
use Rattle.promises.specs.Left as left

-- 1 to 13; 18: "wherever 3 to 13 are named, it is one of them"
abbrev pub BeforeCourse : Refusal → Type 0
BeforeCourse f = ((1 ≤ refusal_number f) × (refusal_number f ≤ 13)) ⊎ (refusal_number f ≡ 18)

pub record Total (terms : Terms) (input proof model : List ℕ) (answer : Answer) : Type 0 where
  -- for a problem read without fault and full-size buffers
  pub comes : (p : Problem) → read input ≡ sound p → FullSize terms.limits proof model
      → ((v : Verdict) × Comes v answer) ⊎ LimitMet answer
  -- for all others
  pub refuses : ((p : Problem) → read input ≡ sound p → FullSize terms.limits proof model → ⊥)
      → (f : Refusal) × IsRefused f answer × BeforeCourse f

abbrev Ends : Answer → Type 0
Ends a = ((v : Verdict) × Comes v a) ⊎ LimitMet a

finished-ends : (steps : List Step) (n : ℕ) (o : Option (List ℕ)) → Ends (answer_of (finished steps n o))
unfolding said
finished-ends steps n none = inl (Unwritten, refl)
finished-ends steps n (some bytes) = inl (Satisfiable, refl)

concluded-ends : (p : Problem) (s : State) → Ends (answer_of (concluded p s))
unfolding concluded said
concluded-ends p (running steps n) = rw (concluded-running p steps n) (finished-ends steps n (walk_model p steps))
concluded-ends p (ended empty steps n) = inl (Unsatisfiable, refl)
concluded-ends p (ended overflow steps n) = inr (inl refl)
concluded-ends p (ended out_of_steps steps n) = inr (inr refl)

module _ (terms : Terms) (input proof model : List ℕ) (are : AllBytes input) where
  abbrev limits : Limits
  limits = terms.limits

  abbrev answer : Answer
  answer = (solve terms input proof model).solved.answer

  abbrev Refuses : Answer → Type 0
  Refuses a = (f : Refusal) × IsRefused f a × BeforeCourse f

  refused : (f : Refusal) (place : ℕ) → answer ≡ Refused f place → BeforeCourse f → Refuses answer
  refused f place e b = (f, subst (IsRefused f) (sym e) refl, b)

  -- a fault of the input is one of 3 to 13 or 18
  before : (f : Refusal) → Named f → BeforeCourse f
  before f (to-13 a b) = inl (omega arith, b)
  before f (is-18 e) = inr e

  others : ((p : Problem) → read input ≡ sound p → FullSize limits proof model → ⊥) → Refuses answer
  unfolding refusal_number
  others never =
      ⊎_elim (λ t. refused ShortProof 0 (of (left.short-proof terms input proof model (ltb→lt (length proof) (limit.proof_bytes limits) t)))
      (inl (omega arith, omega arith)))
      (λ t. let z = nltb→le (length proof) (limit.proof_bytes limits) t in
      ⊎_elim (λ u. refused ShortModel 0 (of (left.short-model terms input proof model z (ltb→lt (length model) limit.model_bytes u)))
      (inl (omega arith, omega arith)))
      (λ u. by (record { proof_size = z; model_size = nltb→le (length model) limit.model_bytes u }) (read input) refl)
      (split (ltb (length model) limit.model_bytes)))
      (split (ltb (length proof) (limit.proof_bytes limits)))
    where
      of : {s : Solving} → solve terms input proof model ≡ s → answer ≡ s.solved.answer
      of e = ap (λ (s : Solving). s.solved.answer) e

      by : FullSize limits proof model → (r : Reading) → read input ≡ r → Refuses answer
      by full (faulty f place) e =
          refused f place (of (left.faulty-input terms input proof model full f place e))
          (before f (fault-named input f place ((names-first input are f place).0 e)))
      by full (sound p) e = absurd (never p e full)

  pub total : Total terms input proof model answer
  total =
      record {
        comes = λ p e full. subst (λ (s : Solving). Ends s.solved.answer) (sym (solve-is terms input p e proof model full))
            (let posed = in_edition terms.edition p in concluded-ends posed (elimination (limited limits) posed));
        refuses = others;
      }
