-- The parts of the clauses that an edition adds, put behind those of the written ones.
use Rattle.std.specs.Prelude.{◌≡◌, refl, true, ℕ, ◌+◌, ◌≤◌, ◌<◌, length}
use Rattle.std.proofs.Common.{sym, ◌∙◌, add-one, arith}
use Rattle.std.proofs.Math.Path.{ap}
use Rattle.std.proofs.Math.Bool.{false}
use mathlib.Core.List.{List, [], ◌++◌}
use Rattle.std.proofs.Math.ListN.{drop}
use Rattle.rules_types.specs.declared.limits.Limits.{Limits}
use Rattle.rules_types.specs.declared.terms.Terms.{Terms}
use Rattle.rules_types.specs.Limits as limit
use Rattle.rules_types.specs.Layout as layout
use Rattle.rules.specs.Problem.{added}
use Rattle.rules.specs.Lists.{tabulate}
use Rattle.rules.specs.Steps.{Step, loaded}
use Rattle.rules.specs.Checker.{variable_named}
use Rattle.rules.specs.Elimination.{running, limited, loadable_of, add, load}
use Rattle.theory_lists.specs.Tabulated.{drop-tabulate, drop-tabulated}
use Rattle.theory_splitting.specs.Editions.{non_negative_line, added_step, loadable-posed}
use Rattle.lines.specs.declared.line.Line.{Line}
use Rattle.lines.specs.Line.{meaning}
use Rattle.problem_scan.specs.declared.cursor.Sizes.{Sizes}
use Rattle.problem_read.specs.Clauses.{length-clauses_at}
use Rattle.problem_read.specs.Parsed.{problem_at, posed_at}
use Rattle.placing.specs.declared.point.Point.{Point}
use Rattle.steps.specs.Origin.{origin_of}
use Rattle.steps.specs.Held.{steps_in}
use Rattle.placing.specs.Point.{state_of, state_at, Standing, Leads, leads-none, leads-trans, is_running, running-yes, Reaches}
use Rattle.placing.specs.Point as placing
use Rattle.elimination.specs.LoadedParts.{part_step, load-stays, load-append}
use Rattle.elimination.specs.Loading.{origin, LoadsWritten}

-- of so many clauses, numbered from n
abbrev pub added_steps : ℕ → ℕ → List Step
added_steps n count = tabulate count (added_step n)

abbrev pub LoadsAdded : Limits → ℕ → ℕ → List ℕ → Point → List ℕ → Point → Type 0
LoadsAdded limits n count before from after p =
    Reaches limits before from after p (load (limited limits) (added_steps n count) (state_at before from))

-- ---- at the loop's test
-- the clauses that are left come to what all of them come to
pub record AtAdded (limits : Limits) (n count : ℕ) (start : List ℕ) (from : Point) (proof : List ℕ) (p : Point) (f : ℕ) : Type 0 where
  pub few : f ≤ count
  pub leads : Leads limits start from.steps proof p.steps
  pub same : load (limited limits) (drop f (added_steps n count)) (state_at proof p)
      ≡ load (limited limits) (added_steps n count) (state_at start from)

module _ {limits : Limits} {n count : ℕ} {start : List ℕ} {from : Point} where
  pub added-start : Standing limits start from.steps → AtAdded limits n count start from start from 0
  added-start s = record { few = omega arith; leads = leads-none s; same = refl }

  module _ {proof : List ℕ} {p : Point} {f : ℕ} (at : AtAdded limits n count start from proof p f) where
    pub added-done : count ≤ f → LoadsAdded limits n count start from proof p
    unfolding load
    added-done h =
        let e : count ≡ f = omega (arith, at.few) in
        record {
          is = ap (λ (ss : List Step). load (limited limits) ss (state_at proof p))
              (sym (drop-tabulated count (added_step n)) ∙ ap (λ (k : ℕ). drop k (added_steps n count)) e) ∙ at.same;
          leads = at.leads;
        }

    pub added-ended : is_running p.progress ≡ false → LoadsAdded limits n count start from proof p
    added-ended g = record { is = load-stays limits (drop f (added_steps n count)) proof p g ∙ at.same; leads = at.leads }

    module _ (more : f < count) (going : is_running p.progress ≡ true) (l : Line) (is : meaning l ≡ non_negative_line f) {after : List ℕ}
        {x : Point} (reaches : Reaches limits proof p after x (placing.added limits proof p (part_step (n + f) 0 l))) where
      pub added_next : AtAdded limits n count start from after x (f + 1)
      unfolding state_at state_of load origin_of variable_named
      added_next = record {
        few = omega arith;
        leads = leads-trans at.leads reaches.leads;
        same =
            ap (load (limited limits) (drop (f + 1) (added_steps n count))) reaches.is
            ∙ (λ i. load (limited limits) (drop (add-one f i) (added_steps n count)) (add (limited limits) false
            (record { origin = loaded (n + f) 0; line = is i }) (steps_in proof p.steps) p.pairs))
            ∙ (λ i. load (limited limits) (sym (drop-tabulate count (added_step n) f more) i)
            (state_of (sym (running-yes p.progress going) i) (steps_in proof p.steps) p.pairs))
            ∙ at.same;
      }

-- ---- both together
abbrev pub LoadsAll : Terms → List ℕ → Sizes → List ℕ → List ℕ → Point → Type 0
LoadsAll terms q sizes before after p = Reaches terms.limits before origin after p
    (load (limited terms.limits) (loadable_of (posed_at terms.edition q sizes)) (running [] 0))

module _ (terms : Terms) (q : List ℕ) (sizes : Sizes) (few : sizes.rationals ≤ limit.rationals) {before middle after : List ℕ}
    {x p : Point} {count : ℕ} (counts : count ≡ length (added terms.edition sizes.rationals))
    (first : LoadsWritten terms.limits q sizes before middle x)
    (then : LoadsAdded terms.limits sizes.clauses count middle x after p) where
  pub loads-all : LoadsAll terms q sizes before after p
  loads-all = let limits = terms.limits in record {
    is =
        then.is
        ∙ ap (load (limited limits) (added_steps sizes.clauses count)) first.is
        ∙ sym (load-append (limited limits) (loadable_of (problem_at q sizes)) (added_steps sizes.clauses count) (running [] 0))
        ∙ (λ i. load (limited limits) (loadable_of (problem_at q sizes) ++ added_steps (sym (length-clauses_at q sizes.rationals
        sizes.clauses layout.first_clause) i) (counts i)) (running [] 0))
        ∙ ap (λ (ss : List Step). load (limited limits) ss (running [] 0)) (sym (loadable-posed terms.edition (problem_at q sizes) few));
    leads = leads-trans first.leads then.leads;
  }
