-- 02, (iii): "With full-size buffers, a preview verdict or 14 is also the large caller's, with the same lines." For any two limits of
-- lines, one below the other; a preview's and document 01's are two.
use Rattle.std.proofs.Math.Path.{◌≡◌, refl, sym}
use Rattle.std.proofs.Common.{ap, ◌∙◌, subst, ⊎_elim, inl, inr, append_assoc, arith, length-append, length-drop}
use Rattle.std.specs.Prelude.{◌↔◌, List, ◌++◌, ℕ, ◌+◌, ◌*◌, ◌-◌, ◌≤◌, ◌<◌, replicate, take, drop}
use Rattle.std.proofs.Math.Option.{Option, none, some}
use Rattle.std.proofs.Math.ListN.{length, length-replicate}
use Rattle.std.proofs.lemmas.List.{replicate-append-replicate}
use Rattle.std.proofs.Math.Seq.{take_at, take-append-add}
use Rattle.rules_types.specs.declared.answers.Refusal.{Refusal}
use Rattle.rules_types.specs.declared.answers.Refusal.TheVariants as refusal
use Rattle.rules_types.specs.declared.answers.Verdict.{Verdict}
use Rattle.rules_types.specs.declared.answers.Answer.{Answer}
use Rattle.rules_types.specs.declared.answers.Answer.TheVariants.{Decided, Refused}
use Rattle.rules_types.specs.declared.limits.Limits.{Limits}
use Rattle.rules_types.specs.declared.terms.Edition.{Edition}
use Rattle.rules_types.specs.declared.terms.Terms.{Terms}
use Rattle.rules_types.specs.Limits as limit
use Rattle.rules_types.specs.Answers.{answer_value}
use Rattle.rules.specs.Problem.{Problem, in_edition}
use Rattle.rules.specs.Steps.{Step, encode_proof}
use Rattle.rules.specs.Elimination.{State, running, ended, empty, overflow, out_of_steps, limited, elimination}
use Rattle.rules.specs.Needs.{steps_of}
use Rattle.rules.specs.Calls.{sound, Outcome, faulted, stopped, decided, read, concluded, said, proof_after, model_after, Solving, solve}
use Rattle.theory_elimination.specs.OfProblem.{elimination-held}
use Rattle.theory_elimination.specs.TwoLimits.{IsOutOfSteps, Alike, elimination-alike}
use Rattle.promises.specs.Words.{Comes, IsRefused, FullSize}
use Rattle.promises.specs.Outcomes.{finished, walk_model, concluded-running, answer_of, finished-not-stopped}
use Rattle.promises.specs.Reported.{left, solve-is, reported-lines}
use Rattle.promises.specs.Memory.{sizes-kept}

-- `ours` with the lesser limit, `theirs` with the larger
pub record AsLarger (lesser : Limits) (ours theirs : Solving) : Type 0 where
  -- "full" comes exactly if their lines are more than the lesser limit
  pub out_of_steps : IsRefused refusal.OutOfSteps ours.solved.answer ↔ (lesser.steps < answer_value theirs.solved.answer)
  -- "a preview verdict or 14", for: what is not "full"; it has their lines and pairs, and the lesser book's bytes are theirs
  pub solved : (IsRefused refusal.OutOfSteps ours.solved.answer → ⊥) → ours.solved ≡ theirs.solved
  pub proof : (IsRefused refusal.OutOfSteps ours.solved.answer → ⊥)
      → take (limit.proof_bytes lesser) ours.proof ≡ take (limit.proof_bytes lesser) theirs.proof
  -- after a verdict so is the model
  pub model : (v : Verdict) → Comes v ours.solved.answer
      → take limit.model_bytes ours.model ≡ take limit.model_bytes theirs.model

pub not-both : (a : Answer) (v : Verdict) (f : Refusal) → Comes v a → IsRefused f a → ⊥
not-both (Decided u n) v f h k = k
not-both (Refused g n) v f h k = h

-- ---- the front of a proof: lines, and zeros
zeros-in-front : (k m : ℕ) (rest : List ℕ) → k ≤ m → take k (replicate m 0 ++ rest) ≡ replicate k 0
zeros-in-front k m rest h =
    let more : m ≡ k + (m - k) = omega arith in
    let z = ap (λ (n : ℕ). replicate {A = ℕ} n 0) more ∙ sym (replicate-append-replicate {A = ℕ} k (m - k) 0) in
    rw (z, append_assoc) (take_at (replicate k 0) _ k (length-replicate {A = ℕ} k 0))

lines-in-front : (lines rest : List ℕ) (B k m : ℕ) → length lines + k ≡ B → k ≤ m
    → take B (lines ++ replicate m 0 ++ rest) ≡ lines ++ replicate k 0
lines-in-front lines rest B k m e h =
    rw (← e, append_assoc) (take-append-add lines (replicate m 0 ++ rest) k ∙ ap (λ (z : List ℕ). lines ++ z) (zeros-in-front k m rest h))

module _ (lesser larger : Limits) (less : lesser.steps < larger.steps) where
  abbrev B : ℕ
  B = limit.proof_bytes lesser

  -- ---- what both limits leave of one outcome
  -- a problem that was read, and no more lines than the lesser limit
  abbrev Held : Outcome → Type 0
  Held (faulted f place) = ⊥
  Held (stopped f k n) = Unit {0}
  Held (decided v steps n bytes) = length steps ≤ lesser.steps

  same-proof : (proof other : List ℕ) → B ≤ length proof → (o : Outcome) → Held o → length (proof_after lesser o proof) ≡ length proof
      → take B (proof_after lesser o proof) ≡ take B (proof_after larger o other)
  unfolding proof_after
  same-proof proof other full (faulted f place) h e = absurd h
  same-proof proof other full (stopped f k n) h e =
      zeros-in-front B B _ (omega arith) ∙ sym (zeros-in-front B (limit.proof_bytes larger) _ (omega arith))
  same-proof proof other full (decided v steps n bytes) h e =
      let used = limit.step_bytes * length steps in
      let size : length (encode_proof steps) + (B - used) ≡ B =
      omega (arith, simp (length-append, length-replicate, length-drop) at e) in
      lines-in-front (encode_proof steps) _ B (B - used) (B - used) size (omega arith)
      ∙ sym (lines-in-front (encode_proof steps) _ B (B - used) (limit.proof_bytes larger - used) size (omega arith))

  same-model : (model other : List ℕ) → limit.model_bytes ≤ length model → (o : Outcome) (v : Verdict) → Comes v (answer_of o)
      → length (model_after o model) ≡ length model
      → take limit.model_bytes (model_after o model) ≡ take limit.model_bytes (model_after o other)
  unfolding model_after said
  same-model model other full (faulted f place) v h e = absurd h
  same-model model other full (stopped f k n) v h e = absurd h
  same-model model other full (decided u steps n bytes) v h e =
      let size : length bytes ≡ limit.model_bytes = omega (arith, simp (length-append, length-drop) at e) in
      take_at bytes _ limit.model_bytes size ∙ sym (take_at bytes _ limit.model_bytes size)

  module _ (p : Problem) where
    -- ---- "full" of the elimination, and of the answer
    out-of-steps : (s : State) → IsOutOfSteps s ↔ IsRefused refusal.OutOfSteps (answer_of (concluded p s))
    unfolding concluded said
    out-of-steps (running steps n) =
        (λ h. absurd h, λ h. finished-not-stopped steps n (walk_model p steps) (inr (rw (concluded-running p steps n) at h)))
    out-of-steps (ended empty steps n) = (λ h. absurd h, λ h. absurd h)
    out-of-steps (ended overflow steps n) = (λ h. absurd h, λ h. absurd (let z : ◌≡◌ {A = ℕ} 0 1 = cc in omega arith))
    out-of-steps (ended out_of_steps steps n) = (λ h. refl, λ h. tt)

    finished-held : (steps : List Step) (n : ℕ) (o : Option (List ℕ)) → length steps ≤ lesser.steps → Held (finished steps n o)
    finished-held steps n none h = h
    finished-held steps n (some bytes) h = h

    held : (s : State) → length (steps_of s) ≤ lesser.steps → Held (concluded p s)
    unfolding concluded steps_of
    held (running steps n) h = rw (concluded-running p steps n) (finished-held steps n (walk_model p steps) h)
    held (ended empty steps n) h = h
    held (ended overflow steps n) h = tt
    held (ended out_of_steps steps n) h = tt

  -- ---- the theorem
  module _ (edition : Edition) (input : List ℕ) (q : Problem) (e : read input ≡ sound q) (proof model other other_model : List ℕ)
      (our_size : FullSize lesser proof model) (their_size : FullSize larger other other_model) where
    abbrev few : Terms
    few = record { limits = lesser; edition = edition }

    abbrev many : Terms
    many = record { limits = larger; edition = edition }

    abbrev p : Problem
    p = in_edition edition q

    abbrev our_end : State
    our_end = elimination (limited lesser) p

    abbrev their_end : State
    their_end = elimination (limited larger) p

    by-ends : Alike lesser larger less our_end their_end → length (steps_of our_end) ≤ lesser.steps
        → length (proof_after lesser (concluded p our_end) proof) ≡ length proof
        → length (model_after (concluded p our_end) model) ≡ length model
        → AsLarger lesser (left lesser (concluded p our_end) proof model) (left larger (concluded p their_end) other other_model)
    by-ends alike most kept kept_model =
        ⊎_elim
        (λ same.
        let never : IsRefused refusal.OutOfSteps (answer_of (concluded p our_end)) → ⊥ = λ k. same.1 ((out-of-steps p our_end).1 k) in
        subst (λ (s : State). AsLarger lesser (left lesser (concluded p our_end) proof model)
        (left larger (concluded p s) other other_model))
        same.0
        (record {
          out_of_steps = (λ k. absurd (never k), λ k. absurd (omega (arith, reported-lines p our_end, k)));
          solved = λ k. refl;
          proof = λ k. same-proof proof other our_size.proof_size (concluded p our_end) (held p our_end most) kept;
          model = λ v k. same-model model other_model our_size.model_size (concluded p our_end) v k kept_model;
        }))
        (λ more.
        let ours = (out-of-steps p our_end).0 more.0 in
        record {
          out_of_steps = (λ k. omega (arith, reported-lines p their_end, more.1), λ k. ours);
          solved = λ k. absurd (k ours);
          proof = λ k. absurd (k ours);
          model = λ v k. absurd (not-both (answer_of (concluded p our_end)) v refusal.OutOfSteps k ours);
        }) alike

    pub as-larger : AsLarger lesser (solve few input proof model) (solve many input other other_model)
    as-larger =
        let ours = solve-is few input q e proof model our_size in
        let theirs = solve-is many input q e other other_model their_size in
        let kept = rw ours at (sizes-kept few input proof model) in
        rw (ours, theirs) (by-ends (elimination-alike lesser larger less p) (elimination-held lesser p) kept.0 kept.1)
