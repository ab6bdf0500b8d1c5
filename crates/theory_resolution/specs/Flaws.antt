-- What a step's premises are for: each refutes the law of Resolution with one premise left out.
use Rattle.std.specs.Prelude.{Bool, true, false, [], ◌∷◌, ℕ, ◌<◌, ℤ, pos, negsuc, T}
use Rattle.std.proofs.Math.Option.{Option, none, some}
use Rattle.std.proofs.Common.{arith}
use Rattle.rules.specs.Lists.{all}
use Rattle.rules.specs.Arithmetic.{gcd_within, gcd, gcd_all, sum, combine, scale, related, is_positive, is_negative, is_zero}
use Rattle.rules.specs.Meaning.{Assignment, constraint_holds}
use Rattle.rules.specs.Lines.{Line, Variable, rational, boolean, union, excluding, meet, some_yes, a_literal_holds, the_constraint_holds}
use Rattle.rules.specs.Lines.{line_holds, coefficient, positively, negatively, no_constraint}
use Rattle.rules.specs.Normalize.{settled, settled_line, reduced, normal_line}
use Rattle.rules.specs.Resolve.{combination, combination_of, one_of, resolvent, resolve}
use Rattle.rules.specs.Checker.{pairable}
use Rattle.theory_resolution.specs.Holds.{Consistent}
use Rattle.theory_resolution.specs.Resolution.{Resolvable}

-- a step's law, under these premises
abbrev fine : Assignment → Option Line → Bool
fine χ none = true
fine χ (some m) = line_holds χ m

abbrev pub Sound : (Assignment → Variable → Line → Line → Type 0) → Type 0
Sound Premises = (χ : Assignment) (v : Variable) (u l : Line) → Premises χ v u l → T (line_holds χ u) → T (line_holds χ l)
    → T (fine χ (resolve v u l))

-- Boolean 0 and rational 0 have these values
abbrev at : Bool → ℤ → ℕ → Assignment
at a x d = record { booleans = λ i. a; numerators = λ i. x; denominator = d }

abbrev literals : Bool → Bool → Line
literals p n = record { positive = p ∷ []; negative = n ∷ []; constraint = none }

abbrev bounded : Bool → Bool → ℤ → ℤ → Line
bounded p n c β = record {
  positive = p ∷ [];
  negative = n ∷ [];
  constraint = some (record { strict = false; coefficients = c ∷ []; bound = β });
}

-- the definitions that the counterexamples compute
abbrev computed : Bool → Bool
unfolding meet positively negatively coefficient is_positive is_negative pairable no_constraint line_holds a_literal_holds some_yes
    the_constraint_holds constraint_holds related sum resolve resolvent union excluding one_of combination_of combination combine scale
    normal_line settled_line settled reduced all is_zero gcd_all gcd gcd_within
computed b = b

-- the denominator: x ≤ 0; -x ≤ -1; at x = 0 / 0
pub denominator-needed : Sound (λ χ v u l. Resolvable v u l × T (positively v u) × T (negatively v l)) → ⊥
unfolding computed
denominator-needed f =
    f (at false (pos 0) 0) (rational 0) (bounded false false (pos 1) (pos 0)) (bounded false false (negsuc 0) (negsuc 0)) (tt, tt, tt) tt tt

-- the upper's sign: -x ≤ 0; -x ≤ 5; at x = 0
pub positively-needed : Sound (λ χ v u l. (0 < χ.denominator) × Resolvable v u l × T (negatively v l)) → ⊥
unfolding computed
positively-needed f = f (at false (pos 0) 1) (rational 0) (bounded false false (negsuc 0) (pos 0)) (bounded false false (negsuc 0) (pos 5))
    (omega arith, tt, tt) tt tt

-- the lower's sign: a; a; at a yes
pub negatively-needed : Sound (λ χ v u l. (0 < χ.denominator) × Resolvable v u l × T (positively v u)) → ⊥
unfolding computed
negatively-needed f = f (at true (pos 0) 1) (boolean 0) (literals true false) (literals true false) (omega arith, (tt, tt, tt), tt) tt tt

-- the upper in one sign: a or not a; not a; at a no
pub upper-consistent-needed : Sound
    (λ χ v u l. (0 < χ.denominator) × Consistent l × T (pairable v u l) × T (positively v u) × T (negatively v l)) → ⊥
unfolding computed
upper-consistent-needed f =
    f (at false (pos 0) 1) (boolean 0) (literals true true) (literals false true) (omega arith, tt, tt, tt, tt) tt tt

-- the lower in one sign: a; a or not a; at a yes
pub lower-consistent-needed : Sound
    (λ χ v u l. (0 < χ.denominator) × Consistent u × T (pairable v u l) × T (positively v u) × T (negatively v l)) → ⊥
unfolding computed
lower-consistent-needed f = f (at true (pos 0) 1) (boolean 0) (literals true false) (literals true true) (omega arith, tt, tt, tt, tt) tt tt

-- one constraint at most: a or x ≤ 0; not a or -x ≤ -5; at a yes, x = 5
pub pairable-needed : Sound (λ χ v u l. (0 < χ.denominator) × Consistent u × Consistent l × T (positively v u) × T (negatively v l)) → ⊥
unfolding computed
pairable-needed f = f (at true (pos 5) 1) (boolean 0) (bounded true false (pos 1) (pos 0)) (bounded false true (negsuc 0) (negsuc 4))
    (omega arith, tt, tt, tt, tt) tt tt
