-- Other values for some Boolean variables: a reading without these variables keeps its meaning.
use Rattle.std.specs.Prelude.{◌≡◌, Bool, List, ℕ}
use Rattle.std.proofs.Math.Path.{refl}
use Rattle.theory_lists.specs.All.{All, all_map, any-agree}
use Rattle.rules.specs.Lists.{any}
use Rattle.rules.specs.Problem.{Literal, Constraint}
use Rattle.rules.specs.Readings.{Disjunction}
use Rattle.rules.specs.Meaning.{Assignment, literal_holds, constraint_holds}
use Rattle.theory_resolution.specs.Choosing.{choosing, Same}
use Rattle.theory_splitting.specs.NormalClause.{reading_holds}

module _ (χ : Assignment) (g : ℕ → Bool) where
  pub constraints-choosing : (cs : List Constraint) → any (constraint_holds χ) cs ≡ any (constraint_holds (choosing g χ)) cs
  unfolding constraint_holds
  constraints-choosing cs = refl

  literal-choosing : (l : Literal) → Same χ g l.boolean → literal_holds χ l ≡ literal_holds (choosing g χ) l
  unfolding literal_holds
  literal-choosing l e = rw e

  pub reading-choosing : (c : Disjunction) → All (λ l. Same χ g l.boolean) c.literals
      → reading_holds χ c ≡ reading_holds (choosing g χ) c
  unfolding reading_holds
  reading-choosing c e =
      let ψ = choosing g χ in
      let ls = c.literals in
      rw (
        any-agree (literal_holds χ) (literal_holds ψ) ls (all_map (λ l. Same χ g l.boolean) (λ l. literal_holds χ l ≡ literal_holds ψ l)
            ls literal-choosing e),
        constraints-choosing c.constraints,
      )
