-- What solving hands back is accepted: its model after "agrees", the used lines of its proof after "cannot agree".
use Rattle.std.proofs.Math.Path.{◌≡◌, refl}
use Rattle.std.proofs.Common.{◌∙◌, subst, append_assoc, arith}
use Rattle.std.specs.Prelude.{List, ◌++◌, map, ℕ, ◌*◌, ◌-◌, ◌≤◌, take}
use Rattle.std.proofs.Math.Option.{Option, none, some}
use Rattle.std.proofs.Math.ListN.{length, replicate, drop}
use Rattle.std.proofs.Math.Seq.{drop_at}
use Rattle.rules_types.specs.declared.answers.Verdict.TheVariants.{Satisfiable, Unsatisfiable}
use Rattle.rules_types.specs.declared.answers.Checked.TheVariants.{Accepted}
use Rattle.rules_types.specs.declared.limits.Limits.{Limits}
use Rattle.rules_types.specs.declared.terms.Terms.{Terms}
use Rattle.rules_types.specs.Limits as limit
use Rattle.rules_types.specs.Answers.{answer_value}
use Rattle.rules.specs.Problem.{Problem, in_edition}
use Rattle.rules.specs.Steps.{Step, encode_proof}
use Rattle.rules.specs.Elimination.{limited, State, running, ended, empty, overflow, out_of_steps, order_of, elimination}
use Rattle.rules.specs.Needs.{steps_of}
use Rattle.rules.specs.Values.{walk}
use Rattle.rules.specs.Model.{is_open}
use Rattle.rules.specs.Calls.{sound, read, concluded, said, proof_after, model_after, proof_checked}
use Rattle.theory_lists.specs.All.{All, all_map}
use Rattle.theory_resolution.specs.Formed.{Formed}
use Rattle.theory_splitting.specs.WellFormed.{WellFormed}
use Rattle.theory_splitting.specs.WellRead.{posed-well-formed}
use Rattle.theory_elimination.specs.Sound.{Sound}
use Rattle.theory_elimination.specs.OfProblem.{elimination-normalized}
use Rattle.theory_bytes.specs.Steps.{take-proof}
use Rattle.theory_checks.specs.EliminationAccepted.{elimination-accepted}
use Rattle.theory_bytes.specs.Models.{model-length}
use Rattle.theory_bytes.specs.Written.{written-fits}
use Rattle.theory_layout.specs.WrittenModels.{written-model}
use Rattle.promises.specs.Decided.{running-satisfies}
use Rattle.promises.specs.Words.{OurModel, Comes}
use Rattle.promises.specs.Outcomes.{finished, walk_model, concluded-running, answer_of, finished-unsatisfiable, walk_is, model_is}
use Rattle.promises.specs.Outcomes.{unstopped-fits}
use Rattle.promises.specs.Opens.{open-variables}
use Rattle.promises.specs.Reported.{left, reported-lines, proof-holds}

-- ---- the model
module _ (limits : Limits) (p : Problem) (w : WellFormed p) where
  model-by : (proof model : List ℕ) (steps : List Step) (n : ℕ) → elimination (limited limits) p ≡ running steps n → (o : Option (List ℕ))
      → walk_model p steps ≡ o → Comes Satisfiable (answer_of (finished steps n o))
      → OurModel p (left limits (finished steps n o) proof model) model
  unfolding said model_after
  model-by proof model steps n c none q h = absurd (let z : ◌≡◌ {A = ℕ} 0 1 = cc in omega arith)
  model-by proof model steps n c (some bytes) q h =
      let walked = walk (order_of p) (map (λ s. s.line) steps) in
      let fit = unstopped-fits limits p steps n c in
      let s = running-satisfies p w (limited limits) steps n c in
      let k = written-fits p.booleans p.rationals (is_open p) walked bytes w.booleans w.rationals s.denominator q in
      let old = drop limit.model_bytes model in
      let same = walk_is limits p w steps n c fit in
      let m = written-model p.booleans p.rationals (is_open p) walked.assignment k.fits old in
      record {
        rule = (bytes, model_is limits p w steps n c fit ∙ q);
        written = rw (same, k.is) m;
        beyond = drop_at bytes old limit.model_bytes
            (rw k.is (model-length p.booleans p.rationals (is_open p) walked.assignment k.fits));
        satisfies = rw same s;
        opens = rw (same, k.is) (open-variables p w walked.assignment _ m.states s);
      }

  pub our-model : (proof model : List ℕ) → Comes Satisfiable (answer_of (concluded p (elimination (limited limits) p)))
      → OurModel p (left limits (concluded p (elimination (limited limits) p)) proof model) model
  unfolding concluded said
  our-model proof model = by (elimination (limited limits) p) refl
    where
      by : (s : State) → elimination (limited limits) p ≡ s → Comes Satisfiable (answer_of (concluded p s))
          → OurModel p (left limits (concluded p s) proof model) model
      by (running steps n) c h =
          rw (concluded-running p steps n) (model-by proof model steps n c (walk_model p steps) refl
          (rw (concluded-running p steps n) at h))
      by (ended empty steps n) c h = absurd (let z : ◌≡◌ {A = ℕ} 0 1 = cc in omega arith)
      by (ended overflow steps n) c h = absurd h
      by (ended out_of_steps steps n) c h = absurd h

-- ---- the proof, of a problem read without fault, in its edition
module _ (terms : Terms) (input : List ℕ) (q : Problem) (e : read input ≡ sound q) where
  abbrev limits : Limits
  limits = terms.limits

  abbrev p : Problem
  p = in_edition terms.edition q

  module _ (few : limits.steps ≤ limit.most_steps) (proof : List ℕ) where
    used : (steps : List Step) → All (λ s. Formed s.line) steps → take (limit.step_bytes * length steps) (encode_proof steps ++ replicate
        (limit.proof_bytes limits - limit.step_bytes * length steps) 0 ++ drop (limit.proof_bytes limits) proof) ≡ encode_proof steps
    used steps f =
        let unused : List ℕ = replicate (limit.proof_bytes limits - limit.step_bytes * length steps) 0 in
        rw (append_assoc (encode_proof steps) unused (drop (limit.proof_bytes limits) proof))
        (take-proof steps (unused ++ drop (limit.proof_bytes limits) proof) f)

    formed : (steps : List Step) (n : ℕ) → elimination (limited limits) p ≡ ended empty steps n → All (λ s. Formed s.line) steps
    unfolding steps_of
    formed steps n c =
        all_map (λ s. Sound s.line) (λ s. Formed s.line) steps (λ s h. h.formed) (subst (λ (s : State). All (λ x. Sound x.line)
        (steps_of s)) c (elimination-normalized p (limited limits) (posed-well-formed terms.edition input q e)))

    pub our-proof : Comes Unsatisfiable (answer_of (concluded p (elimination (limited limits) p)))
        → proof_checked terms input (take (limit.step_bytes * answer_value (answer_of (concluded p (elimination (limited limits) p))))
        (proof_after limits (concluded p (elimination (limited limits) p)) proof)) ≡ Accepted
    unfolding steps_of concluded said
    our-proof h = rw (
      reported-lines p (elimination (limited limits) p),
      proof-holds limits p proof (elimination (limited limits) p) Unsatisfiable h,
    ) (by (elimination (limited limits) p) refl h)
      where
        by : (s : State) → elimination (limited limits) p ≡ s → Comes Unsatisfiable (answer_of (concluded p s))
            → proof_checked terms input (take (limit.step_bytes * length (steps_of s)) (encode_proof (steps_of s) ++ replicate
            (limit.proof_bytes limits - limit.step_bytes * length (steps_of s)) 0 ++ drop (limit.proof_bytes limits) proof)) ≡ Accepted
        by (running steps n) c h = absurd (finished-unsatisfiable steps n (walk_model p steps) (rw (concluded-running p steps n) at h))
        by (ended empty steps n) c h = rw (used steps (formed steps n c)) (elimination-accepted terms few input q e steps n c)
        by (ended overflow steps n) c h = absurd h
        by (ended out_of_steps steps n) c h = absurd h
