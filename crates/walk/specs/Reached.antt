-- What one round of the walk comes to in machine words: the assignment, within the range of amounts, or that something is beyond it.
use Rattle.std.specs.Prelude.{◌≡◌, Bool, true, false, ◌||◌, List, ℕ, Option, None, Some}
use Rattle.std.proofs.Common.{ap, ◌∙◌}
use Rattle.std.proofs.Math.Option as math
use Rattle.std.proofs.Math.Option.{none, some}
use Rattle.rules_types.specs.Limits as limit
use Rattle.rules.specs.Meaning.{Assignment}
use Rattle.rules.specs.Lines.{Line, Variable, rational}
use Rattle.rules.specs.Values.{Fraction, rational_value, with_rational, assign, exceeds}
use Rattle.rules.specs.Model.{encode_model, too_large}
use Rattle.models.specs.declared.model.Model.{Model}
use Rattle.models.specs.Model.{assignment}
use Rattle.values.specs.Range.{InRange}

-- the bytes of an assignment that can be written
abbrev pub bytes_of : ℕ → ℕ → (ℕ → Bool) → Option Model → math.Option (List ℕ)
bytes_of b r opens (Some m) = some (encode_model b r opens (assignment m))
bytes_of b r opens None = none

abbrev pub WrittenInRange : Option Model → Type 0
WrittenInRange (Some m) = InRange m
WrittenInRange None = Unit {0}

-- this assignment, or that it is too large
pub record Same (m : Model) (χ : Assignment) : Type 0 where
  pub same : assignment m ≡ χ
  pub range : InRange m

abbrev pub SameOrTooLarge : Option Model → Assignment → Type 0
SameOrTooLarge (Some m) χ = Same m χ
SameOrTooLarge None χ = too_large limit.rationals χ ≡ true

-- with the value of one variable more
pub record WithVariable (m : Model) (v : Variable) (ls : List Line) (χ : Assignment) : Type 0 where
  pub same : assignment m ≡ assign v ls χ
  pub range : InRange m
  pub none : exceeds v ls χ ≡ false

abbrev pub Assigned : Option Model → Variable → List Line → Assignment → Type 0
Assigned (Some m) v ls χ = WithVariable m v ls χ
Assigned None v ls χ = exceeds v ls χ || too_large limit.rationals (assign v ls χ) ≡ true

-- a rational variable's value put in
pub assigned-by : (χ : Assignment) (f : ℕ) (ls : List Line) (x : Fraction) → x ≡ rational_value χ f ls → exceeds (rational f) ls χ ≡ false
    → (m : Option Model) → SameOrTooLarge m (with_rational f x χ) → Assigned m (rational f) ls χ
unfolding assign
assigned-by χ f ls x e n (Some m) h = record { same = h.same ∙ ap (λ (y : Fraction). with_rational f y χ) e; range = h.range; none = n }
assigned-by χ f ls x e n None h = rw (n, ← e) h
