-- A rational variable whose round is not walked yet has the value 0.
use Rattle.std.specs.Prelude.{◌≡◌, refl, List, [], ◌∷◌, ℕ, suc, ◌<◌, pos, eqb}
use Rattle.std.proofs.Common.{arith}
use Rattle.std.proofs.Math.Facts.{eqb_no}
use Rattle.rules.specs.Lists.{any, filter}
use Rattle.rules.specs.Meaning.{Assignment}
use Rattle.rules.specs.Lines.{Line, Variable, rational, boolean}
use Rattle.rules.specs.Elimination.{round_of}
use Rattle.rules.specs.Values.{rational_value, with_boolean, assign, start, walk_from}
use Rattle.theory_lists.specs.Tests.{neither}
use Rattle.theory_bounds.specs.Meets.{with-zero, with-denominator}
use Rattle.theory_saturation.specs.Gathered.{rational-sound}
use Rattle.theory_saturation.specs.Once.{names, Absent}

-- the rounds of these variables are walked
pub record Unset (vs : List Variable) (χ : Assignment) : Type 0 where
  pub positive : 0 < χ.denominator
  pub free : (f : ℕ) → Absent f vs → χ.numerators f ≡ pos 0

assign-unset : (vs : List Variable) (ls : List Line) (χ : Assignment) → Unset vs χ → (v : Variable) → Unset (v ∷ vs) (assign v ls χ)
unfolding assign with_boolean any names
assign-unset vs ls χ s (boolean i) = record { positive = s.positive; free = s.free }
assign-unset vs ls χ s (rational g) =
    let x = rational_value χ g ls in
    record {
      positive = with-denominator g x χ s.positive (rational-sound χ s.positive g ls);
      free = λ f h. let a = neither (eqb f g) (any (names f) vs) h in
          with-zero g x χ f (eqb_no {a = f} {b = g} a.0) (s.free f a.1);
    }

pub walk-unset : (variables : List Variable) (lines : List Line) (t : ℕ) (vs : List Variable)
    → Unset vs (walk_from variables lines t vs).assignment
unfolding walk_from start
walk-unset variables lines t [] = record { positive = omega arith; free = λ f l. refl }
walk-unset variables lines t (v ∷ vs) = assign-unset vs (filter (λ l. eqb (round_of variables l) t) lines)
    (walk_from variables lines (suc t) vs).assignment (walk-unset variables lines (suc t) vs) v
