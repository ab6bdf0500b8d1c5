-- A rational variable's value in its round: none, where a gathered bound or the value is beyond the range of amounts.
use Rattle.std.proofs.Math.Path.{◌≡◌, refl}
use Rattle.std.proofs.Common.{sym, ap, ◌∙◌, arith}
use Rattle.std.specs.Prelude.{Bool, ◌||◌, List, ℕ, Option, None, Some}
use Rattle.std.proofs.Math.Bool.{true, false}
use Rattle.rules.specs.Meaning.{Assignment}
use Rattle.rules.specs.Lines as rules
use Rattle.rules.specs.Lines.{rational, positively, negatively}
use Rattle.rules.specs.Values.{Fraction, beyond, Bound, gather, value, rational_value, exceeds}
use Rattle.lines.specs.declared.order.RationalRound.{RationalRound}
use Rattle.fractions.specs.declared.fraction.Fraction as machine
use Rattle.fractions.specs.Meaning.{meaning}
use Rattle.fractions.specs.Range.{Small}
use Rattle.fractions.specs.NotBeyond.{value-small}
use Rattle.values.specs.Round.{own_of}
use Rattle.values.specs.Gather.{any_beyond, exceeding, Collected}

pub record Value (χ : Assignment) (current : RationalRound) (ls : List rules.Line) (x : Fraction) : Type 0 where
  pub same : x ≡ rational_value χ current.rational (own_of current ls)
  pub small : Small x
  pub none : exceeds (rational current.rational) (own_of current ls) χ ≡ false

abbrev pub Chosen : Option machine.Fraction → Assignment → RationalRound → List rules.Line → Type 0
Chosen None χ current ls = exceeds (rational current.rational) (own_of current ls) χ ≡ true
Chosen (Some x) χ current ls = Value χ current ls (meaning x)

module _ (χ : Assignment) (current : RationalRound) (ls : List rules.Line) where
  abbrev f : ℕ
  f = current.rational

  abbrev mine : List rules.Line
  mine = own_of current ls

  pub chosen-beyond : exceeding χ current ls ≡ true → exceeds (rational f) mine χ ≡ true
  unfolding exceeds exceeding
  chosen-beyond h = by (any_beyond (gather negatively χ f mine)) (any_beyond (gather positively χ f mine)) h
    where
      by : (a b : Bool) → a || b ≡ true → a || b || beyond (rational_value χ f mine) ≡ true
      by true b e = refl
      by false true e = refl
      by false false e = let z : ◌≡◌ {A = ℕ} 0 1 = cc in absurd (omega arith)

  module _ (L U : Bound) (x : Fraction) (h : Collected χ current ls L U) (e : x ≡ value L U) where
    same : x ≡ rational_value χ f mine
    unfolding rational_value
    same = e ∙ rw (h.lower.tightest, h.upper.tightest)

    last : exceeds (rational f) mine χ ≡ beyond x
    unfolding exceeds
    last = rw (h.lower.none, h.upper.none) (ap beyond (sym same))

    pub value-beyond : beyond x ≡ true → exceeds (rational f) mine χ ≡ true
    value-beyond b = last ∙ b

    pub chosen-value : beyond x ≡ false → Value χ current ls x
    chosen-value b = record {
      same = same;
      small = rw e (value-small L U h.lower.within h.upper.within (rw e at b));
      none = last ∙ b;
    }
