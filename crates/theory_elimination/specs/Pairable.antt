-- In a Boolean variable's round no line has a constraint: the rational variables' rounds come first. So an elimination never pairs two
-- constraints by a Boolean variable.
use Rattle.std.specs.Prelude.{◌≡◌, not, List, ℕ}
use Rattle.std.proofs.Math.Logic.{⊎_elim}
use Rattle.std.proofs.Common.{arith}
use Rattle.std.proofs.Math.Dec.{T}
use Rattle.rules.specs.Lines.{Line, Variable, rational, boolean, positively, negatively, contains, no_constraint}
use Rattle.rules.specs.Elimination.{round_of}
use Rattle.rules.specs.Checker.{pairable}
use Rattle.theory_lists.specs.Tests.{split, clash, or_l}
use Rattle.theory_saturation.specs.Rounds.{At, round-before}
use Rattle.theory_saturation.specs.Order.{Ordered, boolean-late}
use Rattle.theory_saturation.specs.Formed.{constraint-place}
use Rattle.theory_resolution.specs.Variables.{contains-rational}
use Rattle.theory_resolution.specs.Resolution.{Resolvable}
use Rattle.theory_elimination.specs.Sound.{Sound}

module _ {variables : List Variable} (o : Ordered variables) where
  pub no-constraint-late : (l : Line) (t i : ℕ) → Sound l → At variables t (boolean i) → round_of variables l ≡ t
      → T (no_constraint l.constraint)
  unfolding contains positively negatively
  no-constraint-late l t i s a e = ⊎_elim (λ h. h) (λ h. absurd (no h)) (split (no_constraint l.constraint))
    where
      no : T (not (no_constraint l.constraint)) → ⊥
      no h =
          let p = constraint-place l.constraint s.formed.constraint s.proper h in
          let r = o.each p.at p.below in
          clash (contains (rational p.at) l) (rw (contains-rational p.at l) p.holds)
          (round-before variables r.0 (rational p.at) l r.2 (omega (arith, boolean-late o t i a, r.1)))

  pub pairable-late : (v : Variable) (t : ℕ) (u l : Line) → Sound u → Sound l → At variables t v → round_of variables u ≡ t
      → round_of variables l ≡ t → T (pairable v u l)
  unfolding pairable
  pairable-late (rational f) t u l su sl a eu el = tt
  pairable-late (boolean i) t u l su sl a eu el =
      or_l (no_constraint u.constraint) (no_constraint l.constraint) (no-constraint-late u t i su a eu)

  pub resolvable : (v : Variable) (t : ℕ) (u l : Line) → Sound u → Sound l → At variables t v → round_of variables u ≡ t
      → round_of variables l ≡ t → Resolvable v u l
  resolvable (rational f) t u l su sl a eu el = tt
  resolvable (boolean i) t u l su sl a eu el = (su.consistent, sl.consistent, pairable-late (boolean i) t u l su sl a eu el)
