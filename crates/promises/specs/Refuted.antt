-- An elimination with an empty line refutes its problem: every line holds wherever the problem is satisfied, and the empty one nowhere.
use Rattle.std.specs.Prelude.{◌≡◌, List, [], ◌∷◌, ◌++◌, ◌<◌, T}
use Rattle.std.proofs.Common.{subst, inl, inr}
use Rattle.rules.specs.Problem.{Problem}
use Rattle.rules.specs.Meaning.{Assignment, Satisfies}
use Rattle.rules.specs.Lines.{Line, Variable, line_holds}
use Rattle.rules.specs.Steps.{Step}
use Rattle.rules.specs.Elimination.{Stops, loadable_of, elimination}
use Rattle.rules.specs.Needs.{steps_of}
use Rattle.theory_lists.specs.Tests.{clash}
use Rattle.theory_lists.specs.All.{All, all_any, all_both, all_append, append-all}
use Rattle.theory_lists.specs.Dropped.{dropped-is}
use Rattle.theory_resolution.specs.Holds.{empty-fails}
use Rattle.theory_resolution.specs.Resolution.{resolve-holds}
use Rattle.theory_splitting.specs.WellFormed.{WellFormed}
use Rattle.theory_resolution.specs.Choosing.{choosing}
use Rattle.theory_splitting.specs.SplitProblem.{splitting-keeps}
use Rattle.theory_elimination.specs.Closed.{line-at}
use Rattle.theory_elimination.specs.Origins.{Each, Derived, Justified}
use Rattle.theory_elimination.specs.Ends.{LastEmpty}
use Rattle.theory_elimination.specs.Sound.{Sound, resolve-sound, loadable-sound}
use Rattle.theory_saturation.specs.Order.{Ordered}
use Rattle.theory_saturation.specs.Taken.{problem-ordered}
use Rattle.theory_elimination.specs.Pairable.{resolvable}
use Rattle.theory_elimination.specs.OfProblem.{elimination-lines}

module _ {variables : List Variable} (o : Ordered variables) (χ : Assignment) (d : 0 < χ.denominator) where
  -- holds, and has the form of the elimination's lines
  abbrev Right : Line → Type 0
  Right l = T (line_holds χ l) × Sound l

  derived-right : (earlier : List Step) (s : Step) → All (λ x. Right x.line) earlier → Derived variables earlier s → Right s.line
  derived-right earlier s h k =
      let u = line-at Right earlier k.first k.upper k.at_first h in
      let l = line-at Right earlier k.second k.lower k.at_second h in (
        dropped-is (λ m. T (line_holds χ m)) k.result
            (resolve-holds χ d k.variable k.upper k.lower
            (resolvable o k.variable k.round k.upper k.lower u.1 l.1
            k.place k.of_upper k.of_lower) k.positive k.negative u.0 l.0),
        resolve-sound k.variable k.upper k.lower s.line u.1 l.1 k.positive k.negative k.result,
      )

  justified-right : (parts earlier : List Step) (s : Step) → All (λ x. Right x.line) parts → All (λ x. Right x.line) earlier
      → Justified variables parts earlier s → Right s.line
  justified-right parts earlier s p h (inl k) =
      all_any (λ x. Right x.line) (λ x. x ≡ s) parts (λ x r e. subst (λ (y : Step). Right y.line) e r) p k
  justified-right parts earlier s p h (inr k) = derived-right earlier s h k

  each_right : (parts earlier ss : List Step) → All (λ x. Right x.line) parts → All (λ x. Right x.line) earlier
      → Each (Justified variables parts) earlier ss → All (λ x. Right x.line) ss
  each_right parts earlier [] p h k = tt
  each_right parts earlier (s ∷ ss) p h k =
      let r = justified-right parts earlier s p h k.0 in
      (r, each_right parts (earlier ++ (s ∷ [])) ss p (all_append (λ x. Right x.line) earlier (s ∷ []) h (r, tt)) k.1)

-- ---- the theorem, under any stops
pub empty-refutes : (stops : Stops) (p : Problem) → WellFormed p → LastEmpty (steps_of (elimination stops p))
    → (χ : Assignment) → Satisfies χ p → ⊥
empty-refutes stops p w e χ s =
    let o = problem-ordered p w.rationals in
    let c = (splitting-keeps p w χ s.denominator).0 s in
    let ψ = choosing c.values χ in
    let parts = all_both (λ x. T (line_holds ψ x.line)) (λ x. Sound x.line) (loadable_of p) c.holds (loadable-sound p w) in
    let all = each_right o ψ s.denominator (loadable_of p) [] (steps_of (elimination stops p)) parts tt
    (elimination-lines p stops) in
    let last = (append-all (λ x. Right o ψ s.denominator x.line) e.before (e.last ∷ [])
    (subst (All (λ x. Right o ψ s.denominator x.line)) e.is all)).1.0 in
    clash (line_holds ψ e.last.line) last.0 (empty-fails ψ e.last.line e.blank)
