-- What the premise "contains a variable of the order" is for: "is not empty" does not do, not even for lines of full form. The line
-- 0 ≤ -1 is not empty, is in no pair, and never holds.
use Rattle.std.specs.Prelude.{refl, false, not, List, [], ◌∷◌, ◌≤◌, pos, negsuc, T, replicate}
use Rattle.std.proofs.Common.{⊎_elim}
use Rattle.std.proofs.Math.Option.{some}
use Rattle.rules_types.specs.Limits as limit
use Rattle.rules.specs.Lists.{any, all}
use Rattle.rules.specs.Arithmetic.{related, is_positive, is_zero}
use Rattle.rules.specs.Problem.{Constraint}
use Rattle.rules.specs.Meaning.{Assignment}
use Rattle.rules.specs.Lines.{no_booleans, some_yes, Line, Variable, rational, boolean, a_literal_holds, the_constraint_holds, line_holds}
use Rattle.rules.specs.Lines.{coefficient, positively, no_constraint, is_empty}
use Rattle.rules.specs.Normalize.{settled}
use Rattle.rules.specs.Values.{walk}
use Rattle.theory_lists.specs.All.{All, get_or-replicate-same}
use Rattle.theory_resolution.specs.Holds.{line-cases}
use Rattle.theory_resolution.specs.Settled.{settled-holds}
use Rattle.theory_resolution.specs.Formed.{Formed}
use Rattle.theory_saturation.specs.Covered.{Covers}
use Rattle.theory_saturation.specs.Saturation.{AllPairs, LinesHold}

zeros : Constraint
zeros = record { strict = false; coefficients = replicate limit.rationals (pos 0); bound = negsuc 0 }

bad : Line
bad = record { positive = no_booleans; negative = no_booleans; constraint = some zeros }

never-upper : (v : Variable) → T (positively v bad) → ⊥
unfolding bad zeros no_booleans positively coefficient is_positive
never-upper (rational f) h = rw (get_or-replicate-same limit.rationals f (pos 0)) at h
never-upper (boolean i) h = rw (get_or-replicate-same limit.all_booleans i false) at h

never-holds : (χ : Assignment) → 1 ≤ χ.denominator → T (line_holds χ bad) → ⊥
unfolding bad zeros no_booleans a_literal_holds some_yes the_constraint_holds settled all is_zero related
never-holds χ z h = ⊎_elim (λ t. t) (settled-holds χ z zeros).0 (line-cases χ bad h)

formed : Formed bad
unfolding bad zeros no_booleans
formed = record { positive = refl; negative = refl; constraint = refl }

not-empty : T (not (is_empty bad))
unfolding bad is_empty no_constraint no_booleans any
not-empty = tt

pub not-empty-is-too-weak : (variables : List Variable) → ((S : List Line) → All (λ l. Formed l) S → All (λ l. T (not (is_empty l))) S
    → AllPairs Covers S variables → LinesHold (walk variables S).assignment S) → ⊥
not-empty-is-too-weak variables claim =
    let r = claim (bad ∷ []) (formed, tt) (not-empty, tt) (λ t v a. (((λ e f p n. absurd (never-upper v p)), tt), tt)) in
    never-holds (walk variables (bad ∷ [])).assignment r.denominator r.lines.0
