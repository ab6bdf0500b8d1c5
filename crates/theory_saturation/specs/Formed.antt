-- A line of the elimination that is not empty contains a variable of its order; so the theorem stands for such lines and orders.
use Rattle.std.specs.Prelude.{Bool, true, false, not, ◌||◌, ◌&&◌, ◌⊎◌, List, [], ◌∷◌, ℕ, suc, ◌+◌, ◌<◌, ℤ, pos, T, length, get_or}
use Rattle.std.proofs.Common.{inl, inr, ⊎_elim, arith}
use Rattle.std.proofs.Math.Option.{Option, none, some}
use Rattle.std.proofs.Math.Facts.{and_no, T_not-not}
use Rattle.rules_types.specs.Limits as limit
use Rattle.rules.specs.Lists.{any, all}
use Rattle.rules.specs.Arithmetic.{is_zero}
use Rattle.rules.specs.Problem.{Constraint}
use Rattle.rules.specs.Lines.{Booleans, Line, Variable, rational, boolean, coefficient, contains, no_constraint, is_empty}
use Rattle.rules.specs.Values.{walk}
use Rattle.theory_lists.specs.Tests.{or_l, or_r}
use Rattle.theory_lists.specs.All.{All, all_map, all_both}
use Rattle.theory_resolution.specs.Members.{has}
use Rattle.theory_resolution.specs.Variables.{nonzero, contains-rational, contains-boolean}
use Rattle.theory_resolution.specs.Formed.{Eight, Formed}
use Rattle.theory_resolution.specs.Proper.{Proper, ProperLine}
use Rattle.theory_saturation.specs.Rounds.{at-contains}
use Rattle.theory_saturation.specs.Order.{Ordered}
use Rattle.theory_saturation.specs.Covered.{Covers}
use Rattle.theory_saturation.specs.Saturation.{AllPairs, LinesHold, saturation}

-- ---- a place below n with the property
pub record Witness (P : ℕ → Bool) (n : ℕ) : Type 0 where
  pub at : ℕ
  pub below : at < n
  pub holds : T (P at)

next : {P : ℕ → Bool} {n : ℕ} → Witness (λ i. P (suc i)) n → Witness P (suc n)
next p = record { at = suc p.at; below = omega (arith, p.below); holds = p.holds }

member-place : (s : Booleans) → T (any (λ a. a) s) → Witness (has s) (length s)
unfolding any
member-place [] h = absurd h
member-place (true ∷ s) h = record { at = 0; below = omega arith; holds = tt }
member-place (false ∷ s) h = next (member-place s h)

nonzero-place : (cs : List ℤ) → T (not (all is_zero cs)) → Witness (λ i. nonzero (get_or cs i (pos 0))) (length cs)
unfolding all
nonzero-place [] h = absurd h
nonzero-place (c ∷ cs) h =
    ⊎_elim (λ k. record { at = 0; below = omega arith; holds = k }) (λ k. next (nonzero-place cs k)) (and_no (is_zero c) (all is_zero cs) h)

pub constraint-place : (k : Option Constraint) → Eight k → Proper k → T (not (no_constraint k))
    → Witness (λ i. nonzero (coefficient i k)) limit.rationals
unfolding no_constraint coefficient
constraint-place none e n h = absurd h
constraint-place (some c) e n h = let p = nonzero-place c.coefficients n in record {
  at = p.at;
  below = omega (arith, p.below);
  holds = p.holds;
}

not-empty : (l : Line) → T (not (is_empty l)) → (T (any (λ a. a) l.positive) ⊎ T (any (λ a. a) l.negative))
    ⊎ T (not (no_constraint l.constraint))
unfolding is_empty
not-empty l h =
    let p = any (λ a. a) l.positive in
    let n = any (λ a. a) l.negative in
    ⊎_elim (λ k. inl (⊎_elim (λ t. inl (T_not-not p t)) (λ t. inr (T_not-not n t)) (and_no (not p) (not n) k))) (λ k. inr k)
    (and_no (not p && not n) (no_constraint l.constraint) h)

-- ---- in the order
module _ {variables : List Variable} (o : Ordered variables) where
  by-boolean : (l : Line) (i : ℕ) → i < limit.all_booleans → T (has l.positive i || has l.negative i)
      → T (any (λ v. contains v l) variables)
  by-boolean l i b h = at-contains variables (limit.rationals + i) (boolean i) l (o.booleans i b) (rw (contains-boolean i l) h)

  by-rational : (l : Line) (i : ℕ) → i < limit.rationals → T (nonzero (coefficient i l.constraint))
      → T (any (λ v. contains v l) variables)
  by-rational l i b h = let r = o.each i b in at-contains variables r.0 (rational i) l r.2 (rw (contains-rational i l) h)

  pub has-variable : (l : Line) → Formed l → ProperLine l → T (not (is_empty l)) → T (any (λ v. contains v l) variables)
  has-variable l f n h =
      ⊎_elim (⊎_elim
      (λ k. let p = member-place l.positive k in by-boolean l p.at (omega (arith, p.below, f.positive))
      (or_l (has l.positive p.at) (has l.negative p.at) p.holds))
      (λ k. let p = member-place l.negative k in by-boolean l p.at (omega (arith, p.below, f.negative))
      (or_r (has l.positive p.at) (has l.negative p.at) p.holds)))
      (λ k. let p = constraint-place l.constraint f.constraint n k in by-rational l p.at p.below p.holds)
      (not-empty l h)

  pub saturation-formed : (S : List Line) → All (λ l. Formed l) S → All ProperLine S → All (λ l. T (not (is_empty l))) S
      → AllPairs Covers S variables → LinesHold (walk variables S).assignment S
  saturation-formed S f n e p =
      saturation S variables
      (all_map (λ l. Formed l × (ProperLine l × T (not (is_empty l)))) (λ l. T (any (λ v. contains v l) variables)) S
      (λ l h. has-variable l h.0 h.1.0 h.1.1)
      (all_both (λ l. Formed l) (λ l. ProperLine l × T (not (is_empty l))) S f (all_both ProperLine (λ l. T (not (is_empty l))) S n e))) p
