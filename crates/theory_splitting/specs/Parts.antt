-- A normal clause, and a part of one, hold by a literal of either sign or by a constraint.
use Rattle.std.specs.Prelude.{Bool, not, ◌||◌, ◌⊎◌, List, T}
use Rattle.std.proofs.Math.Option.{Option}
use Rattle.std.proofs.Math.Facts.{or_yes}
use Rattle.theory_lists.specs.Tests.{or_l, or_r}
use Rattle.rules.specs.Lists.{any}
use Rattle.rules.specs.Problem.{Constraint}
use Rattle.rules.specs.Meaning.{Assignment, constraint_holds}
use Rattle.rules.specs.Lines.{Booleans, Line, some_yes, a_literal_holds, the_constraint_holds, line_holds}
use Rattle.rules.specs.Normalize.{Normal}
use Rattle.theory_resolution.specs.Holds.{line-cases, by-literal, by-constraint}
use Rattle.theory_splitting.specs.NormalClause.{normal_holds}

abbrev pub part : Booleans → Booleans → Option Constraint → Line
part p n o = record { positive = p; negative = n; constraint = o }

abbrev pub whole : Booleans → Booleans → List Constraint → Normal
whole p n cs = record { positive = p; negative = n; constraints = cs }

-- a literal of these holds
abbrev pub literal : Assignment → Booleans → Booleans → Bool
literal χ p n = some_yes p χ.booleans || some_yes n (λ i. not (χ.booleans i))

module _ (χ : Assignment) (p n : Booleans) where
  pub normal-cases : (cs : List Constraint) → T (normal_holds χ (whole p n cs)) → T (literal χ p n) ⊎ T (any (constraint_holds χ) cs)
  unfolding normal_holds
  normal-cases cs h = or_yes (literal χ p n) (any (constraint_holds χ) cs) h

  pub by-literals : (cs : List Constraint) → T (literal χ p n) → T (normal_holds χ (whole p n cs))
  unfolding normal_holds
  by-literals cs h = or_l (literal χ p n) (any (constraint_holds χ) cs) h

  pub by-constraints : (cs : List Constraint) → T (any (constraint_holds χ) cs) → T (normal_holds χ (whole p n cs))
  unfolding normal_holds
  by-constraints cs h = or_r (literal χ p n) (any (constraint_holds χ) cs) h

  pub part-cases : (o : Option Constraint) → T (line_holds χ (part p n o)) → T (literal χ p n) ⊎ T (the_constraint_holds χ o)
  unfolding a_literal_holds
  part-cases o h = line-cases χ (part p n o) h

  pub part-literal : (o : Option Constraint) → T (literal χ p n) → T (line_holds χ (part p n o))
  unfolding a_literal_holds
  part-literal o h = by-literal χ (part p n o) h

  pub part-constraint : (o : Option Constraint) → T (the_constraint_holds χ o) → T (line_holds χ (part p n o))
  part-constraint o h = by-constraint χ (part p n o) h
