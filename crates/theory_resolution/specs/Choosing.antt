-- Other values for some Boolean variables: a line without these variables keeps its meaning.
use Rattle.std.specs.Prelude.{◌≡◌, Bool, ℕ}
use Rattle.std.proofs.Math.Path.{refl, ap}
use Rattle.std.proofs.Math.Bool.{not}
use Rattle.std.proofs.Math.Option.{Option, none, some}
use Rattle.rules.specs.Problem.{Constraint}
use Rattle.rules.specs.Meaning.{Assignment, constraint_holds}
use Rattle.rules.specs.Lines.{Line, a_literal_holds, the_constraint_holds, line_holds}
use Rattle.theory_resolution.specs.Members.{Within, yes-agree}

-- χ, with these Booleans
abbrev pub choosing : (ℕ → Bool) → Assignment → Assignment
choosing values χ = record { booleans = values; numerators = χ.numerators; denominator = χ.denominator }

-- χ and g give this variable the same value
abbrev pub Same : Assignment → (ℕ → Bool) → ℕ → Type 0
Same χ g i = χ.booleans i ≡ g i

module _ (χ : Assignment) (g : ℕ → Bool) where
  constraint-choosing : (o : Option Constraint) → the_constraint_holds χ o ≡ the_constraint_holds (choosing g χ) o
  unfolding the_constraint_holds constraint_holds
  constraint-choosing none = refl
  constraint-choosing (some c) = refl

  pub line-choosing : (l : Line) → Within (Same χ g) l.positive → Within (Same χ g) l.negative
      → line_holds χ l ≡ line_holds (choosing g χ) l
  unfolding line_holds a_literal_holds
  line-choosing l p n =
      rw (
        yes-agree l.positive χ.booleans g p,
        yes-agree l.negative (λ i. not (χ.booleans i)) (λ i. not (g i)) (λ i m. ap not (n i m)),
        constraint-choosing l.constraint,
      )
