-- Sound lines: every line of a problem's elimination has the proof's form, no constant constraint, no common divisor of its amounts, and no
-- Boolean variable in both signs.
use Rattle.std.specs.Prelude.{◌≡◌, List, ◌<◌, T}
use Rattle.std.proofs.Math.Option.{some}
use Rattle.rules_types.specs.Limits as limit
use Rattle.rules.specs.Problem.{Problem}
use Rattle.rules.specs.Lines.{Line, Variable, positively, negatively}
use Rattle.rules.specs.Resolve.{resolve}
use Rattle.rules.specs.Elimination.{Stops, loadable_of, eliminate}
use Rattle.rules.specs.Needs.{steps_of}
use Rattle.theory_lists.specs.All.{All, all_map}
use Rattle.theory_lists.specs.Dropped.{dropped-is}
use Rattle.theory_resolution.specs.Holds.{Consistent}
use Rattle.theory_resolution.specs.Formed.{Formed, resolve-formed, resolve-consistent}
use Rattle.theory_resolution.specs.Proper.{Proper, Divided, resolve-proper, resolve-divided}
use Rattle.theory_splitting.specs.WellFormed.{WellFormed}
use Rattle.theory_splitting.specs.PartsForm.{LineForm}
use Rattle.theory_splitting.specs.SplitProblem.{loadable-formed}
use Rattle.theory_elimination.specs.Closed.{elimination-closed}

pub record Sound (l : Line) : Type 0 where
  pub formed : Formed l
  pub proper : Proper l.constraint
  pub divided : Divided l.constraint
  pub consistent : Consistent l

pub resolve-sound : (v : Variable) (u l m : Line) → Sound u → Sound l → T (positively v u) → T (negatively v l)
    → resolve v u l ≡ some m → Sound m
resolve-sound v u l m hu hl a b e =
    record {
      formed = dropped-is Formed e (resolve-formed v u l hu.formed hl.formed);
      proper = dropped-is (λ m. Proper m.constraint) e (resolve-proper v u l);
      divided = dropped-is (λ m. Divided m.constraint) e (resolve-divided v u l);
      consistent = dropped-is Consistent e (resolve-consistent v u l);
    }

module _ (p : Problem) (w : WellFormed p) where
  pub loadable-sound : All (λ s. Sound s.line) (loadable_of p)
  loadable-sound =
      all_map (λ s. LineForm (λ i. i < limit.all_booleans) s.line) (λ s. Sound s.line) (loadable_of p)
      (λ s h. record { formed = h.formed; proper = h.proper; divided = h.divided; consistent = h.consistent }) (loadable-formed p w)

  pub elimination-sound : (stops : Stops) (variables : List Variable)
      → All (λ s. Sound s.line) (steps_of (eliminate stops variables (loadable_of p)))
  elimination-sound stops variables = elimination-closed Sound stops variables (loadable_of p) resolve-sound loadable-sound
