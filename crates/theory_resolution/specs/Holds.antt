-- A line holds by a literal or by its constraint; one that is empty never does.
use Rattle.std.specs.Prelude.{Bool, true, false, not, ◌||◌, ◌&&◌, ◌⊎◌, [], ◌∷◌, ℕ, suc, T}
use Rattle.std.proofs.Common.{inl, inr, ⊎_elim}
use Rattle.std.proofs.Math.Option.{Option, none, some}
use Rattle.std.proofs.Math.Facts.{or_yes, and_yes}
use Rattle.theory_lists.specs.Tests.{split, or_l, or_r, or_map, nor}
use Rattle.rules.specs.Lists.{any}
use Rattle.rules.specs.Problem.{Constraint}
use Rattle.rules.specs.Meaning.{Assignment}
use Rattle.rules.specs.Lines.{Booleans, Line, some_yes, meet, a_literal_holds, the_constraint_holds, line_holds, no_constraint, is_empty}
use Rattle.theory_resolution.specs.Members.{member-yes, member-meet}

-- no Boolean variable stands in it in both signs
abbrev pub Consistent : Line → Type 0
Consistent l = T (not (meet l.positive l.negative))

-- ---- a literal, or the constraint
pub line-cases : (χ : Assignment) (l : Line) → T (line_holds χ l) → T (a_literal_holds χ l) ⊎ T (the_constraint_holds χ l.constraint)
unfolding line_holds
line-cases χ l h = or_yes (a_literal_holds χ l) (the_constraint_holds χ l.constraint) h

pub by-literal : (χ : Assignment) (l : Line) → T (a_literal_holds χ l) → T (line_holds χ l)
unfolding line_holds
by-literal χ l h = or_l (a_literal_holds χ l) (the_constraint_holds χ l.constraint) h

pub by-constraint : (χ : Assignment) (l : Line) → T (the_constraint_holds χ l.constraint) → T (line_holds χ l)
unfolding line_holds
by-constraint χ l h = or_r (a_literal_holds χ l) (the_constraint_holds χ l.constraint) h

-- ---- literals by their sign
abbrev pub positives : Assignment → Line → Bool
positives χ l = some_yes l.positive χ.booleans

abbrev pub negatives : Assignment → Line → Bool
negatives χ l = some_yes l.negative (λ i. not (χ.booleans i))

pub by-positive : (χ : Assignment) (l : Line) → T (positives χ l) → T (a_literal_holds χ l)
unfolding a_literal_holds
by-positive χ l h = or_l (positives χ l) (negatives χ l) h

pub by-negative : (χ : Assignment) (l : Line) → T (negatives χ l) → T (a_literal_holds χ l)
unfolding a_literal_holds
by-negative χ l h = or_r (positives χ l) (negatives χ l) h

-- ---- from one line and assignment to another, sign by sign and constraint to constraint
module _ (χ ψ : Assignment) (l m : Line) where
  pub literals-map : (T (positives χ l) → T (positives ψ m)) → (T (negatives χ l) → T (negatives ψ m))
      → T (a_literal_holds χ l) → T (a_literal_holds ψ m)
  unfolding a_literal_holds
  literals-map f g h = or_map (positives χ l) (negatives χ l) (positives ψ m) (negatives ψ m) f g h

  pub line-map : (T (a_literal_holds χ l) → T (a_literal_holds ψ m))
      → (T (the_constraint_holds χ l.constraint) → T (the_constraint_holds ψ m.constraint)) → T (line_holds χ l)
      → T (line_holds ψ m)
  unfolding line_holds
  line-map f g h = or_map (a_literal_holds χ l) (the_constraint_holds χ l.constraint) (a_literal_holds ψ m)
      (the_constraint_holds ψ m.constraint) f g h

-- a variable in both signs: one of the two literals holds
pub both-signs : (χ : Assignment) (p n : Booleans) → T (meet p n) → T (some_yes p χ.booleans) ⊎ T (some_yes n (λ i. not (χ.booleans i)))
both-signs χ p n h =
    let c = member-meet p n h in
    ⊎_elim (λ k. inl (member-yes p χ.booleans c.member c.left k))
    (λ k. inr (member-yes n (λ i. not (χ.booleans i)) c.member c.right k))
    (split (χ.booleans c.member))

-- ---- an empty line
pub no-constraint : (χ : Assignment) → T (the_constraint_holds χ none) → ⊥
unfolding the_constraint_holds
no-constraint χ h = h

bare-fails : (χ : Assignment) (o : Option Constraint) → T (no_constraint o) → T (not (the_constraint_holds χ o))
unfolding the_constraint_holds no_constraint
bare-fails χ none h = tt
bare-fails χ (some c) h = absurd h

nobody-yes : (s : Booleans) (f : ℕ → Bool) → T (not (any (λ a. a) s)) → T (not (some_yes s f))
unfolding any some_yes
nobody-yes [] f h = tt
nobody-yes (true ∷ s) f h = absurd h
nobody-yes (false ∷ s) f h = nobody-yes s (λ i. f (suc i)) h

pub empty-fails : (χ : Assignment) (l : Line) → T (is_empty l) → T (not (line_holds χ l))
unfolding is_empty line_holds a_literal_holds
empty-fails χ l h =
    let r = and_yes (not (any (λ a. a) l.positive) && not (any (λ a. a) l.negative)) (no_constraint l.constraint) h in
    let s = and_yes (not (any (λ a. a) l.positive)) (not (any (λ a. a) l.negative)) r.0 in
    let P = positives χ l in
    let N = negatives χ l in
    nor (P || N) (the_constraint_holds χ l.constraint)
    (nor P N (nobody-yes l.positive χ.booleans s.0) (nobody-yes l.negative (λ i. not (χ.booleans i)) s.1))
    (bare-fails χ l.constraint r.1)
