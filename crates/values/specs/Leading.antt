-- A line of a rational variable's round has a coefficient for it, and so a constraint.
use Rattle.std.specs.Prelude.{◌≡◌, false, not, List, ℕ, zero, suc, ◌<◌, ℤ, pos, negsuc, nat_abs, T, get_or}
use Rattle.std.proofs.Math.Path.{refl}
use Rattle.std.proofs.Common.{ap, subst, ◌∙◌, arith}
use Rattle.rules_types.specs.Limits as limit
use Rattle.rules.specs.Arithmetic.{is_positive, is_negative, is_zero}
use Rattle.rules.specs.Elimination.{round_of}
use Rattle.rules.specs.Lines.{rational, positively, negatively}
use Rattle.theory_lists.specs.Tests.{is_false, of-false}
use Rattle.theory_lists.specs.All.{get_or-replicate-same}
use Rattle.theory_vectors.specs.Sign.{0<abs-nonzero}
use Rattle.theory_resolution.specs.Variables.{contains-rational}
use Rattle.theory_saturation.specs.Rounds.{round-contains}
use Rattle.lines.specs.declared.order.RationalRound.{RationalRound}
use Rattle.lines.specs.Order.{variables_of, ScheduledRational}
use Rattle.lines.specs.declared.line.Line.{Line}
use Rattle.lines.specs.Line.{meaning, Shaped}
use Rattle.lines.specs.Forms.{coefficient-is}

module _ (l : Line) (k : Shaped l) (current : RationalRound) (h : ScheduledRational current)
    (e : round_of (variables_of current.order) (meaning l) ≡ current.number) where
  abbrev f : ℕ
  f = current.rational

  abbrev a : ℤ
  a = get_or l.coefficients f (pos 0)

  leads : is_zero a ≡ false
  leads = is_false (is_zero a) (subst (λ (z : ℤ). T (not (is_zero z))) (coefficient-is l k f)
      (rw (contains-rational f (meaning l)) at
      (round-contains (variables_of current.order) current.number (rational f) (meaning l) h.at e)))

  pub round-coefficient : 0 < nat_abs a
  round-coefficient = 0<abs-nonzero a (of-false (is_zero a) leads)

  pub round-related : 0 < l.relation
  round-related = by l.relation refl
    where
      by : (r : ℕ) → l.relation ≡ r → 0 < l.relation
      by (suc r) e = omega arith
      by zero e =
          let z : a ≡ pos 0 = ap (λ (cs : List ℤ). get_or cs f (pos 0)) (k.coefficients e)
          ∙ get_or-replicate-same limit.rationals f (pos 0) in
          absurd (omega (arith, round-coefficient, ap nat_abs z))

  -- it is an upper bound, or else a lower one
  sides : (z : ℤ) → is_zero z ≡ false → is_negative z ≡ not (is_positive z)
  unfolding is_zero is_negative is_positive
  sides (pos zero) e = cc
  sides (pos (suc m)) e = refl
  sides (negsuc m) e = refl

  pub round-sides : negatively (rational f) (meaning l) ≡ not (positively (rational f) (meaning l))
  unfolding positively negatively
  round-sides = rw (coefficient-is l k f) (sides a leads)
