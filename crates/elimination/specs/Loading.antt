-- The parts of the written clauses put behind one another.
use Rattle.std.specs.Prelude.{◌≡◌, refl, true, false, ℕ, suc, ◌+◌, ◌*◌, ◌-◌, ◌≤◌, ◌<◌, length}
use Rattle.std.proofs.Math.Path.{sym, ap}
use Rattle.std.proofs.Common.{◌∙◌, add-one}
use mathlib.Core.List.{List, []}
use native.Mathlib.Omega.{arith}
use Rattle.rules_types.specs.declared.limits.Limits.{Limits}
use Rattle.rules_types.specs.Limits as limit
use Rattle.rules_types.specs.Layout as layout
use Rattle.rules.specs.Lists.{tabulate}
use Rattle.rules.specs.Problem.{Clause}
use Rattle.rules.specs.Split.{parts_of, splits_of}
use Rattle.rules.specs.Steps.{Step}
use Rattle.rules.specs.Needs.{pairs_of}
use Rattle.rules.specs.Elimination.{State, running, limited, part_steps, loadable, loadable_of, load}
use Rattle.theory_elimination.specs.PairBound.{load-pairs}
use Rattle.problem_scan.specs.declared.cursor.Sizes.{Sizes}
use Rattle.problem_scan.specs.Values.{clause_at, clause_end}
use Rattle.problem_scan.specs.Sound.{SoundClause}
use Rattle.problem_read.specs.Clauses.{clauses_at, clauses-next}
use Rattle.problem_read.specs.Parsed.{problem_at}
use Rattle.problem_read.specs.Readable.{Readable, Ahead, ahead-start, ahead-sound, ahead-few, ahead-next}
use Rattle.placing.specs.declared.point.Progress.TheVariants.{Running}
use Rattle.placing.specs.declared.point.Point.{Point}
use Rattle.steps.specs.Held.{steps_in}
use Rattle.placing.specs.Point.{state_of, state_at, Standing, Leads, leads-none, leads-trans, pairs-at, is_running, running-yes, Reaches}
use Rattle.elimination.specs.LoadedParts.{LoadsClause, load-stays, load-append}

-- before the first
abbrev pub origin : Point
origin = record { progress = Running; steps = 0; pairs = 0 }

pub standing-origin : (limits : Limits) (proof : List ℕ) → limit.step_bytes * limits.steps ≤ length proof → Standing limits proof 0
standing-origin limits proof h = record {
  held = record { room = omega arith; steps = λ i k. absurd (omega arith) };
  few = omega arith;
  room = h;
}

-- ---- no pair is tried
pub no_pairs : {limits : Limits} {start : List ℕ} {from : Point} {proof : List ℕ} {p : Point} (xs : List Step)
    → Reaches limits start from proof p (load (limited limits) xs (running [] 0)) → p.pairs ≡ 0
unfolding pairs_of
no_pairs {limits} {proof = proof} {p = p} xs r = sym (pairs-at proof p) ∙ ap pairs_of r.is ∙ load-pairs (limited limits) xs (running [] 0)

-- the parts of all that are written
abbrev pub written_loaded : Limits → List ℕ → Sizes → State
written_loaded limits q sizes = load (limited limits) (loadable_of (problem_at q sizes)) (running [] 0)

abbrev pub LoadsWritten : Limits → List ℕ → Sizes → List ℕ → List ℕ → Point → Type 0
LoadsWritten limits q sizes before after p = Reaches limits before origin after p (written_loaded limits q sizes)

-- ---- at the loop's test
-- the clauses from `clause` on, at their place, come to what all of them come to
pub record AtClause (limits : Limits) (q : List ℕ) (sizes : Sizes) (start proof : List ℕ) (p : Point) (at split clause : ℕ) : Type 0 where
  pub going : p.progress ≡ Running
  pub few : clause ≤ sizes.clauses
  pub low : sizes.booleans ≤ split
  pub ahead : Ahead q sizes.rationals (sizes.clauses - clause) at (split - sizes.booleans)
  pub leads : Leads limits start 0 proof p.steps
  pub same : load (limited limits) (loadable clause split (clauses_at q sizes.rationals (sizes.clauses - clause) at)) (state_at proof p)
      ≡ written_loaded limits q sizes

module _ {limits : Limits} {q : List ℕ} {sizes : Sizes} {start : List ℕ} where
  pub clauses-start : Readable q sizes → limit.step_bytes * limits.steps ≤ length start
      → AtClause limits q sizes start start origin layout.first_clause sizes.booleans 0
  unfolding state_at state_of steps_in tabulate loadable_of
  clauses-start h l =
      let e : sizes.clauses - 0 ≡ sizes.clauses = omega arith in
      let f : sizes.booleans - sizes.booleans ≡ 0 = omega arith in
      record {
        going = refl;
        few = omega arith;
        low = omega arith;
        ahead = rw (e, f) (ahead-start h);
        leads = leads-none (standing-origin limits start l);
        same = rw e;
      }

  module _ {proof : List ℕ} {p : Point} {at split clause : ℕ} (a : AtClause limits q sizes start proof p at split clause) where
    pub clauses-done : sizes.clauses ≤ clause → LoadsWritten limits q sizes start proof p
    unfolding loadable load clauses_at
    clauses-done h = let e : 0 ≡ sizes.clauses - clause = omega arith in record {
      is = ap (λ (k : ℕ). load (limited limits) (loadable clause split (clauses_at q sizes.rationals k at)) (state_at proof p)) e
          ∙ a.same;
      leads = a.leads;
    }

    module _ (more : clause < sizes.clauses) where
      left : 0 < sizes.clauses - clause
      left = omega arith

      pub clause-sound : SoundClause q sizes.rationals at
      clause-sound = ahead-sound a.ahead left

      pub clause-splits : split - sizes.booleans + splits_of (clause_at q sizes.rationals at) ≤ limit.splits
      clause-splits = ahead-few a.ahead left

      module _ {after : List ℕ} {x : Point}
          (reaches : LoadsClause limits q sizes.rationals at split clause proof p after x) where
        tried : load (limited limits) (loadable (suc clause) (split + splits_of (clause_at q sizes.rationals at))
            (clauses_at q sizes.rationals (sizes.clauses - clause - 1) (clause_end q sizes.rationals at))) (state_at after x)
            ≡ written_loaded limits q sizes
        unfolding loadable
        tried =
            let r = sizes.rationals in
            let c = clause_at q r at in
            let rest = loadable (suc clause) (split + splits_of c) (clauses_at q r (sizes.clauses - clause - 1) (clause_end q r at)) in
            ap (load (limited limits) rest) reaches.is
            ∙ sym (load-append (limited limits) (part_steps clause 0 (parts_of split c)) rest (state_at proof p))
            ∙ ap (λ (cs : List Clause). load (limited limits) (loadable clause split cs) (state_at proof p))
            (sym (clauses-next q sizes.rationals (sizes.clauses - clause) at left))
            ∙ a.same

        pub clause-next : is_running x.progress ≡ true
            → AtClause limits q sizes start after x (clause_end q sizes.rationals at)
            (split + splits_of (clause_at q sizes.rationals at)) (clause + 1)
        clause-next g =
            let e : sizes.clauses - (clause + 1) ≡ sizes.clauses - clause - 1 = omega arith in
            let k = splits_of (clause_at q sizes.rationals at) in
            let f : split + k - sizes.booleans ≡ split - sizes.booleans + k = omega (arith, a.low) in
            record {
              going = running-yes x.progress g;
              few = omega arith;
              low = omega (arith, a.low);
              ahead = rw (e, f) (ahead-next a.ahead left);
              leads = leads-trans a.leads reaches.leads;
              same = rw (e, add-one clause) tried;
            }

        pub clause-ended : is_running x.progress ≡ false
            → LoadsWritten limits q sizes start after x
        clause-ended g =
            record {
              is = load-stays limits (loadable (suc clause) (split + splits_of (clause_at q sizes.rationals at))
                  (clauses_at q sizes.rationals (sizes.clauses - clause - 1) (clause_end q sizes.rationals at))) after x g ∙ tried;
              leads = leads-trans a.leads reaches.leads;
            }
