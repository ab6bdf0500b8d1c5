-- Handing back, with the solver's own answer and what it left in the buffers: a part that is not empty is accepted. It follows from the
-- demands and from what handing back does, whoever meets them.
use Rattle.std.specs.Prelude.{◌≡◌, refl, ◌⊎◌, List, ℕ, ◌*◌, ◌≤◌, ltb, length, take}
use Rattle.std.proofs.Common.{subst, inl, inr, ⊎_elim, arith, ltb→lt, nltb→le, length-take-le}
use Rattle.rules_types.specs.declared.answers.Refusal.{Refusal}
use Rattle.rules_types.specs.declared.answers.Refusal.TheVariants.{ShortProof, ShortModel}
use Rattle.rules_types.specs.declared.answers.Verdict.{Verdict}
use Rattle.rules_types.specs.declared.answers.Verdict.TheVariants.{Satisfiable, Unsatisfiable}
use Rattle.rules_types.specs.declared.answers.Checked.TheVariants.{Accepted}
use Rattle.rules_types.specs.declared.answers.Evidence.{Evidence}
use Rattle.rules_types.specs.declared.answers.Evidence.TheVariants.{OfProof, OfModel}
use Rattle.rules_types.specs.declared.limits.Limits.{Limits}
use Rattle.rules_types.specs.declared.terms.Terms.{Terms}
use Rattle.rules_types.specs.Limits as limit
use Rattle.rules_types.specs.Answers.{answer_number, answer_value}
use Rattle.rules.specs.Problem.{Problem, in_edition}
use Rattle.rules.specs.Model.{is_open}
use Rattle.rules.specs.Calls.{Reading, faulty, sound, read, Solving, proof_checked, model_checked}
use Rattle.theory_lists.specs.Tests.{split}
use Rattle.theory_layout.specs.WrittenModels.{front-states}
use Rattle.theory_splitting.specs.WellRead.{posed-well-formed}
use Rattle.theory_checks.specs.ModelChecked.{satisfying-model-checked}
use Rattle.theory_elimination.specs.OfProblem.{elimination-held}
use Rattle.promises.specs.Words.{walk_of, Comes, FullSize}
use Rattle.promises.specs.Numbers.{verdict-exactly}
use Rattle.promises.specs.Handing.{Hands, by_part}
use Rattle.promises.specs.Demand1.{Demand1, untouched}
use Rattle.promises.specs.Demand3.{Demand3}

-- "every non-empty part our solver hands back": `part` is what is handed back after `ours`
pub record HandedBack (terms : Terms) (input : List ℕ) (ours : Solving) (part : Evidence) : Type 0 where
  pub after_satisfiable : Comes Satisfiable ours.solved.answer → part ≡ OfModel limit.model_bytes
  pub after_unsatisfiable : Comes Unsatisfiable ours.solved.answer
      → part ≡ OfProof (limit.step_bytes * answer_value ours.solved.answer)
  pub of_model : (n : ℕ) → part ≡ OfModel n → model_checked terms input (take n ours.model) ≡ Accepted
  pub of_proof : (n : ℕ) → part ≡ OfProof n → (n ≡ 0) ⊎ (proof_checked terms input (take n ours.proof) ≡ Accepted)

-- ---- a verdict comes only for a problem read without fault, and full-size buffers
pub record Read (limits : Limits) (input proof model : List ℕ) : Type 0 where
  pub problem : Problem
  pub reads : read input ≡ sound problem
  pub full : FullSize limits proof model

module _ (terms : Terms) (input proof model : List ℕ) (ours : Solving) (d : Demand1 terms input proof model ours) where
  abbrev limits : Limits
  limits = terms.limits

  refused-not : (v : Verdict) (f : Refusal) (place : ℕ) → ours ≡ untouched f place proof model → Comes v ours.solved.answer → ⊥
  refused-not v f place e h = subst (λ (s : Solving). Comes v s.solved.answer) e h

  pub verdict-read : (v : Verdict) → Comes v ours.solved.answer → Read limits input proof model
  verdict-read v h =
      ⊎_elim (λ t. absurd (refused-not v ShortProof 0 (d.short_proof (ltb→lt (length proof) (limit.proof_bytes limits) t)) h))
      (λ t. let z = nltb→le (length proof) (limit.proof_bytes limits) t in
      ⊎_elim (λ u. absurd (refused-not v ShortModel 0 (d.short_model z (ltb→lt (length model) limit.model_bytes u)) h))
      (λ u. by (record { proof_size = z; model_size = nltb→le (length model) limit.model_bytes u }) (read input) refl)
      (split (ltb (length model) limit.model_bytes)))
      (split (ltb (length proof) (limit.proof_bytes limits)))
    where
      by : FullSize limits proof model → (r : Reading) → read input ≡ r → Read limits input proof model
      by full (faulty f place) e = absurd (refused-not v f place (d.faulty_input full f place e) h)
      by full (sound p) e = record { problem = p; reads = e; full = full }

  -- ---- the parts
  module _ (third : (p : Problem) → read input ≡ sound p → FullSize limits proof model
      → Demand3 terms input (in_edition terms.edition p) proof model ours)
      (part : Evidence)
      (h : Hands limits (answer_number ours.solved.answer) (answer_value ours.solved.answer) ours.proof ours.model part) where
    model-accepted : Comes Satisfiable ours.solved.answer → model_checked terms input (take limit.model_bytes ours.model) ≡ Accepted
    model-accepted c =
        let r = verdict-read Satisfiable c in
        let p = in_edition terms.edition r.problem in
        let s = d.satisfiable r.full r.problem r.reads c in
        let w = posed-well-formed terms.edition input r.problem r.reads in
        let size : length (take limit.model_bytes ours.model) ≡ limit.model_bytes =
        length-take-le limit.model_bytes ours.model s.written.room in
        satisfying-model-checked terms input (take limit.model_bytes ours.model) r.problem r.reads (omega (arith, size))
        (walk_of p).assignment
        (front-states ours.model p.booleans p.rationals (is_open p) w.booleans w.rationals (walk_of p).assignment
        s.written.states) s.satisfies

    proof-accepted : Comes Unsatisfiable ours.solved.answer
        → proof_checked terms input (take (limit.step_bytes * answer_value ours.solved.answer) ours.proof) ≡ Accepted
    proof-accepted c = let r = verdict-read Unsatisfiable c in (third r.problem r.reads r.full).accepted c

    -- what solving leaves is full-size, and its lines are few enough
    full-after : (v : Verdict) → Comes v ours.solved.answer → FullSize limits ours.proof ours.model
    full-after v c =
        let r = verdict-read v c in
        record { proof_size = rw d.sizes.0 r.full.proof_size; model_size = rw d.sizes.1 r.full.model_size }

    few-lines : (v : Verdict) → Comes v ours.solved.answer → answer_value ours.solved.answer ≤ limits.steps
    few-lines v c =
        let r = verdict-read v c in
        rw (third r.problem r.reads r.full).lines (elimination-held limits (in_edition terms.edition r.problem))

    model_of : (n : ℕ) → part ≡ OfModel n → model_checked terms input (take n ours.model) ≡ Accepted
    model_of n = by_part h (λ e. e ≡ OfModel n → model_checked terms input (take n ours.model) ≡ Accepted)
        (λ e. absurd (let z : ◌≡◌ {A = ℕ} 0 1 = cc in omega arith))
        (λ k e. let q : limit.model_bytes ≡ n = cc in subst (λ (m : ℕ). model_checked terms input (take m ours.model) ≡ Accepted) q
        (model-accepted ((verdict-exactly Satisfiable ours.solved.answer).0 k)))
        (λ k e. absurd (let z : ◌≡◌ {A = ℕ} 0 1 = cc in omega arith))

    proof-of : (n : ℕ) → part ≡ OfProof n → (n ≡ 0) ⊎ (proof_checked terms input (take n ours.proof) ≡ Accepted)
    proof-of n = by_part h (λ e. e ≡ OfProof n → (n ≡ 0) ⊎ (proof_checked terms input (take n ours.proof) ≡ Accepted))
        (λ e. inl cc) (λ k e. absurd (let z : ◌≡◌ {A = ℕ} 0 1 = cc in omega arith))
        (λ k e. let q : limit.step_bytes * answer_value ours.solved.answer ≡ n = cc in
        inr (subst (λ (m : ℕ). proof_checked terms input (take m ours.proof) ≡ Accepted) q
        (proof-accepted ((verdict-exactly Unsatisfiable ours.solved.answer).0 k))))

    pub handed-after : HandedBack terms input ours part
    handed-after =
        record {
          after_satisfiable = λ c. h.of_model (full-after Satisfiable c) (few-lines Satisfiable c)
              ((verdict-exactly Satisfiable ours.solved.answer).1 c);
          after_unsatisfiable = λ c. h.of_proof (full-after Unsatisfiable c) (few-lines Unsatisfiable c)
              ((verdict-exactly Unsatisfiable ours.solved.answer).1 c);
          of_model = model_of;
          of_proof = proof-of;
        }
