-- What an elimination leaves: that of the definitions, its steps as the proof's bytes, and what callers of those know.
use Rattle.std.specs.Prelude.{◌≡◌, pos, length, get_or}
use Rattle.std.proofs.Math.Path.{sym, ap}
use Rattle.std.proofs.Common.{◌∙◌, take-append-drop}
use mathlib.Core.List.{List, [], ◌++◌, map}
use Prim.Native.Nat.{ℕ, ◌*◌, ◌≤◌, ◌<◌}
use Rattle.std.proofs.Math.ListN.{drop}
use Rattle.rules_types.specs.declared.limits.Limits.{Limits}
use Rattle.rules_types.specs.Limits as limit
use Rattle.rules.specs.Problem.{Problem}
use Rattle.rules.specs.Steps.{Step, encode_proof}
use Rattle.rules.specs.Needs.{steps_of, pairs_of}
use Rattle.rules.specs.Elimination.{State, running, limited, loadable_of, load, chosen_rounds, other_rounds, chosen_run, elimination}
use Rattle.theory_lists.specs.Places.{element-all}
use Rattle.theory_lists.specs.Tabulated.{element-tabulate}
use Rattle.theory_splitting.specs.WellFormed.{WellFormed}
use Rattle.theory_elimination.specs.Narrow.{NarrowLine, elimination-narrow}
use Rattle.lines.specs.Line.{meaning}
use Rattle.lines.specs.Forms.{coefficient-is}
use Rattle.steps.specs.Places.{step_at}
use Rattle.steps.specs.Lines.{line_at, lines_in, ReadyLines}
use Rattle.placing.specs.declared.point.Point.{Point}
use Rattle.steps.specs.Held.{step_from, steps_in, length-steps_in, Held, lines-steps_in, held-ready, held_bytes}
use Rattle.placing.specs.Point.{state_at, Leads, leads-trans, progress_of, progress-at, pairs-at, Reaches, steps-at}
use Rattle.rounds.specs.Rounds.{chosen_from, all_rounds}
use Rattle.elimination.specs.Loading.{origin}

pub record Eliminated (limits : Limits) (p : Problem) (before after : List ℕ) (c : Point) : Type 0 where
  pub progress : c.progress ≡ progress_of (elimination (limited limits) p)
  pub steps : c.steps ≡ length (steps_of (elimination (limited limits) p))
  pub pairs : c.pairs ≡ pairs_of (elimination (limited limits) p)
  pub bytes : after ≡ encode_proof (steps_of (elimination (limited limits) p)) ++ drop
      (limit.step_bytes * length (steps_of (elimination (limited limits) p))) before
  pub held : Held after c.steps
  pub lines : lines_in after c.steps ≡ map (λ s. s.line) (steps_of (elimination (limited limits) p))
  pub ready : ReadyLines after c.steps
  -- no coefficient from r on
  pub narrow : (i : ℕ) → i < c.steps → (f : ℕ) → p.rationals ≤ f → get_or (line_at after i).coefficients f (pos 0) ≡ pos 0

module _ {limits : Limits} (problem : Problem) {before middle after : List ℕ} {loaded p : Point}
    (first : Reaches limits before origin middle loaded (load (limited limits) (loadable_of problem) (running [] 0)))
    (then : Reaches limits middle loaded after p (all_rounds limits problem.rationals middle loaded)) where
  abbrev r : ℕ
  r = problem.rationals

  whole : state_at after p ≡ elimination (limited limits) problem
  unfolding elimination chosen_run
  whole = then.is ∙ ap (λ (s : State). other_rounds (limited limits) r (chosen_rounds (limited limits) r r [] s)) first.is

  -- the order that it took
  pub order-taken : (chosen_from limits r middle loaded).taken ≡ (chosen_run (limited limits) problem).taken
  unfolding chosen_run
  order-taken = ap (λ (s : State). (chosen_rounds (limited limits) r r [] s).taken) first.is

  held_steps : steps_in after p.steps ≡ steps_of (elimination (limited limits) problem)
  held_steps = sym (steps-at after p) ∙ ap steps_of whole

  many : p.steps ≡ length (steps_of (elimination (limited limits) problem))
  many = sym (length-steps_in after p.steps) ∙ ap length held_steps

  leads : Leads limits before 0 after p.steps
  leads = leads-trans first.leads then.leads

  few : WellFormed problem → (i : ℕ) → i < p.steps → NarrowLine problem.rationals (meaning (line_at after i))
  unfolding steps_in step_from line_at
  few w i h =
      let f : ℕ → Step = λ k. step_from (step_at after k) in
      element-all (λ s. NarrowLine problem.rationals s.line) (steps_in after p.steps) i (f i) (element-tabulate p.steps f i h)
      (rw held_steps (elimination-narrow (limited limits) problem w))

  pub eliminated : WellFormed problem → Eliminated limits problem before after p
  unfolding line_at
  eliminated w =
      let h = leads.standing.held in
      let steps = steps_of (elimination (limited limits) problem) in
      record {
        progress = progress-at after p ∙ ap progress_of whole;
        steps = many;
        pairs = sym (pairs-at after p) ∙ ap pairs_of whole;
        bytes =
            sym (take-append-drop (limit.step_bytes * p.steps) after)
            ∙ (λ i. held_bytes after p.steps h i ++ leads.rest i)
            ∙ (λ i. encode_proof (held_steps i) ++ drop (limit.step_bytes * many i) before);
        held = h;
        lines = lines-steps_in after p.steps ∙ ap (map (λ s. s.line)) held_steps;
        ready = held-ready h;
        narrow = λ i k f l. sym (coefficient-is (line_at after i) (h.steps i k).ready.shaped f) ∙ few w i k f l;
      }
