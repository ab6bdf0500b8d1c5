-- What is left after an elimination: the steps and zeros, or zeros alone, and the model; for each end.
use Rattle.std.proofs.Math.Path.{◌≡◌, refl}
use Rattle.std.proofs.Common.{sym, ap, subst, ◌∙◌, arith, drop_at, drop-drop}
use Rattle.std.specs.Prelude.{List, [], ◌++◌, ℕ, ◌+◌, ◌*◌, ◌-◌, ◌≤◌, length, drop, replicate}
use Rattle.std.proofs.Math.Option.{Option, none, some}
use Rattle.rules_types.specs.declared.answers.Refusal.{Refusal}
use Rattle.rules_types.specs.declared.answers.Refusal.TheVariants as refusal
use Rattle.rules_types.specs.declared.answers.Verdict.{Verdict}
use Rattle.rules_types.specs.declared.answers.Verdict.TheVariants.{Satisfiable, Unsatisfiable, Unwritten}
use Rattle.rules_types.specs.declared.answers.Answer.TheVariants.{Decided, Refused}
use Rattle.rules_types.specs.declared.answers.Solved.{Solved}
use Rattle.rules_types.specs.declared.limits.Limits.{Limits}
use Rattle.rules_types.specs.Limits as limit
use Rattle.rules.specs.Problem.{Problem}
use Rattle.rules.specs.Steps.{Step, encode_proof}
use Rattle.rules.specs.Elimination.{State, running, ended, empty, overflow, out_of_steps, limited, order_after, chosen_run, order_of}
use Rattle.rules.specs.Elimination.{elimination}
use Rattle.rules.specs.Needs.{steps_of, pairs_of}
use Rattle.rules.specs.Values.{walk}
use Rattle.rules.specs.Model.{is_open, written}
use Rattle.rules.specs.Calls.{stopped, decided, no_model, concluded, said, proof_after, model_after}
use Rattle.theory_lists.specs.All.{all_map}
use Rattle.theory_splitting.specs.WellFormed.{WellFormed}
use Rattle.theory_elimination.specs.Sound.{Sound}
use Rattle.theory_elimination.specs.Chosen.{IsRunning, order-kept}
use Rattle.theory_elimination.specs.OfProblem.{elimination-normalized, elimination-held}
use Rattle.theory_resolution.specs.Formed.{Formed}
use Rattle.theory_bytes.specs.Steps.{proof-length}
use Rattle.steps.specs.Places.{zeroed, zeroed-behind}
use Rattle.steps.specs.Lines.{lines_in}
use Rattle.walk.specs.Narrow.{Narrow}
use Rattle.placing.specs.declared.point.Progress.{Progress}
use Rattle.placing.specs.declared.point.Progress.TheVariants.{Running, Empty, Overflow, OutOfSteps}
use Rattle.placing.specs.declared.point.Point.{Point}
use Rattle.placing.specs.Point.{progress_of}
use Rattle.elimination.specs.Eliminated.{Eliminated}
use Rattle.solving.specs.Ends.{refused_by, decided_by, zero_model, Written, WrittenBy}
use Rattle.solving.specs.Leaves.{Leaves}
use Rattle.solving.specs.Concluded.{finished, Concludes, concludes}

module _ {limits : Limits} {p : Problem} (w : WellFormed p) {before after : List ℕ} {c : Point}
    (e : Eliminated limits p before after c) where
  abbrev state : State
  state = elimination (limited limits) p

  abbrev steps : List Step
  steps = steps_of state

  abbrev used_bytes : ℕ
  used_bytes = limit.step_bytes * length steps

  few : length steps ≤ limits.steps
  few = elimination-held limits p

  pub few-steps : c.steps ≤ limits.steps
  few-steps = omega (arith, e.steps, few)

  used : length (encode_proof steps) ≡ used_bytes
  used = proof-length steps
      (all_map (λ s. Sound s.line) (λ s. Formed s.line) steps (λ s h. h.formed) (elimination-normalized p (limited limits) w))

  -- where it ran to its end, the order that it took is the problem's
  pub order_is : c.progress ≡ Running → order_after (chosen_run (limited limits) p).taken ≡ order_of p
  unfolding progress_of
  order_is h = order-kept (limited limits) p (by state (sym e.progress ∙ h))
    where
      by : (s : State) → progress_of s ≡ Running → IsRunning s
      by (running held n) g = tt
      by (ended empty held n) g = absurd (let z : ◌≡◌ {A = ℕ} 0 1 = cc in omega arith)
      by (ended overflow held n) g = absurd (let z : ◌≡◌ {A = ℕ} 0 1 = cc in omega arith)
      by (ended out_of_steps held n) g = absurd (let z : ◌≡◌ {A = ℕ} 0 1 = cc in omega arith)

  -- no line has a variable that the problem does not have
  pub narrow : Narrow after c.steps p.rationals
  narrow = record { zeros = e.narrow }

  -- what lies beyond the limit is as it was
  beyond : drop (limit.proof_bytes limits) after ≡ drop (limit.proof_bytes limits) before
  beyond =
      let m : used_bytes + (limit.proof_bytes limits - used_bytes) ≡ limit.proof_bytes limits = omega (arith, few) in
      let d : drop used_bytes after ≡ drop used_bytes before = ap (drop used_bytes) e.bytes
      ∙ drop_at (encode_proof steps) (drop used_bytes before) used_bytes used in
      ap (λ (i : ℕ). drop i after) (sym m) ∙ sym (drop-drop (limit.proof_bytes limits - used_bytes) used_bytes after)
      ∙ ap (drop (limit.proof_bytes limits - used_bytes)) d
      ∙ drop-drop (limit.proof_bytes limits - used_bytes) used_bytes before ∙ ap (λ (i : ℕ). drop i before) m

  zeros-all : zeroed 0 limits.steps after ≡ replicate (limit.proof_bytes limits) 0 ++ drop (limit.proof_bytes limits) before
  zeros-all =
      let m : limit.step_bytes * limits.steps - limit.step_bytes * 0 ≡ limit.proof_bytes limits = omega arith in
      zeroed-behind 0 [] refl limits.steps after
      ∙ ap (λ (i : ℕ). replicate {A = ℕ} i 0 ++ drop i after) m
      ∙ ap (λ (r : List ℕ). replicate (limit.proof_bytes limits) 0 ++ r) beyond

  zeros-unused : zeroed c.steps limits.steps after
      ≡ encode_proof steps ++ replicate (limit.proof_bytes limits - used_bytes) 0 ++ drop (limit.proof_bytes limits) before
  zeros-unused =
      let k = length steps in
      let m : limit.step_bytes * limits.steps - used_bytes ≡ limit.proof_bytes limits - used_bytes = omega arith in
      let n : used_bytes + (limit.proof_bytes limits - used_bytes) ≡ limit.proof_bytes limits = omega (arith, few) in
      let rest : drop (limit.proof_bytes limits - used_bytes) (drop used_bytes before) ≡ drop (limit.proof_bytes limits) before =
      drop-drop (limit.proof_bytes limits - used_bytes) used_bytes before ∙ ap (λ (i : ℕ). drop i before) n in
      (λ i. zeroed (e.steps i) limits.steps (e.bytes i))
      ∙ zeroed-behind k (encode_proof steps) used limits.steps (drop used_bytes before)
      ∙ ap (λ (i : ℕ). encode_proof steps ++ replicate {A = ℕ} i 0 ++ drop i (drop used_bytes before)) m
      ∙ ap (λ (r : List ℕ). encode_proof steps ++ replicate (limit.proof_bytes limits - used_bytes) 0 ++ r) rest

  -- ---- by the end of the elimination
  concludes-at : (g : Progress) → c.progress ≡ g → Concludes p state g
  concludes-at g h = subst (Concludes p state) (sym e.progress ∙ h) (concludes p state)

  module _ (model : List ℕ) where
    leaves-stopped : (f : Refusal) → concluded p state ≡ stopped f (length steps) (pairs_of state)
        → Leaves limits (concluded p state) before model (zeroed 0 limits.steps after) model (refused_by f c)
    unfolding said proof_after model_after
    leaves-stopped f o =
        rw o ((λ i. record { answer = Refused f (e.steps i); pairs = e.pairs i }), (zeros-all, refl))

    pub leaves-overflow : c.progress ≡ Overflow
        → Leaves limits (concluded p state) before model (zeroed 0 limits.steps after) model (refused_by refusal.Overflow c)
    leaves-overflow h = leaves-stopped refusal.Overflow (concludes-at Overflow h)

    pub leaves-out : c.progress ≡ OutOfSteps
        → Leaves limits (concluded p state) before model (zeroed 0 limits.steps after) model (refused_by refusal.OutOfSteps c)
    leaves-out h = leaves-stopped refusal.OutOfSteps (concludes-at OutOfSteps h)

    leaves-decided : (v : Verdict) (bytes filled : List ℕ) → concluded p state ≡ decided v steps (pairs_of state) bytes
        → filled ≡ bytes ++ drop limit.model_bytes model
        → Leaves limits (concluded p state) before model (zeroed c.steps limits.steps after) filled (decided_by v c)
    unfolding said proof_after model_after
    leaves-decided v bytes filled o m =
        rw o ((λ i. record { answer = Decided v (e.steps i); pairs = e.pairs i }), (zeros-unused, m))

    no-model : zero_model model ≡ no_model ++ drop limit.model_bytes model
    unfolding no_model
    no-model = refl

    pub leaves_empty : c.progress ≡ Empty → Leaves limits (concluded p state) before model (zeroed c.steps limits.steps after)
        (zero_model model) (decided_by Unsatisfiable c)
    leaves_empty h = leaves-decided Unsatisfiable no_model (zero_model model) (concludes-at Empty h) no-model

    pub leaves-saturated : (filled : List ℕ) (s : Solved) → c.progress ≡ Running
        → Written p.booleans p.rationals (is_open p) (order_of p) c after model filled s
        → Leaves limits (concluded p state) before model (zeroed c.steps limits.steps after) filled s
    leaves-saturated filled s h = by (written p.booleans p.rationals (is_open p) (walk (order_of p) (lines_in after c.steps))) refl
      where
        concludes : (o : Option (List ℕ))
            → written p.booleans p.rationals (is_open p) (walk (order_of p) (lines_in after c.steps)) ≡ o
            → concluded p state ≡ finished p state o
        concludes o f =
            concludes-at Running h o (sym (ap (λ ls. written p.booleans p.rationals (is_open p) (walk (order_of p) ls)) e.lines) ∙ f)

        by : (o : Option (List ℕ)) → written p.booleans p.rationals (is_open p) (walk (order_of p) (lines_in after c.steps)) ≡ o
            → WrittenBy o c model filled s
            → Leaves limits (concluded p state) before model (zeroed c.steps limits.steps after) filled s
        by none f g = rw g.said (leaves-decided Unwritten no_model filled (concludes none f) (g.left ∙ no-model))
        by (some bytes) f g = rw g.said (leaves-decided Satisfiable bytes filled (concludes (some bytes) f) g.left)
