-- The lines of one round, and lists of lines by their last elements.
use Rattle.std.specs.Prelude.{◌≡◌, refl, Bool, true, false, ◌&&◌, ◌||◌, List, [], ◌∷◌, ℕ, ◌+◌, ◌<◌, eqb, drop}
use Rattle.std.proofs.Common.{ap, add-one}
use Rattle.rules.specs.Lists.{any, filter}
use Rattle.rules.specs.Lines as rules
use Rattle.rules.specs.Elimination.{round_of}
use Rattle.theory_lists.specs.Tabulated.{drop-tabulate, drop-tabulated}
use Rattle.lines.specs.declared.order.RationalRound.{RationalRound}
use Rattle.lines.specs.Order.{variables_of}
use Rattle.lines.specs.Line.{meaning}
use Rattle.steps.specs.Lines.{line_at, lines_in}

-- "A line belongs to the earliest turn whose figure or mark it contains": those of round t
abbrev pub own : List rules.Variable → ℕ → List rules.Line → List rules.Line
own variables t ls = filter (λ l. eqb (round_of variables l) t) ls

-- of a rational variable's round
abbrev pub belongs : RationalRound → rules.Line → Bool
belongs current l = eqb (round_of (variables_of current.order) l) current.number

abbrev pub own_of : RationalRound → List rules.Line → List rules.Line
own_of current ls = own (variables_of current.order) current.number ls

-- one element more
module _ {A : Type 0} (p : A → Bool) (a : A) (s : List A) where
  pub filter-other : p a ≡ false → filter p (a ∷ s) ≡ filter p s
  unfolding filter
  filter-other e = rw (e, filter)

  pub filter_more : p a ≡ true → filter p (a ∷ s) ≡ a ∷ filter p s
  unfolding filter
  filter_more e = rw (e, filter)

-- a test of the elements that are kept
pub any-filter : {A : Type 0} (q p : A → Bool) (s : List A) → any q (filter p s) ≡ any (λ a. p a && q a) s
unfolding any filter
any-filter q p [] = refl
any-filter q p (a ∷ s) = by (p a) (any-filter q p s)
  where
    by : (b : Bool) → any q (filter p s) ≡ any (λ a. p a && q a) s → any q (elim b [ true ↦ a ∷ filter p s | false ↦ filter p s ]) ≡ b
        && q a || any (λ a. p a && q a) s
    by true e = ap (λ (t : Bool). q a || t) e
    by false e = e

-- ---- from line j on
module _ (proof : List ℕ) (n : ℕ) where
  pub lines_next : (j : ℕ) → j < n → drop j (lines_in proof n) ≡ meaning (line_at proof j) ∷ drop (j + 1) (lines_in proof n)
  unfolding lines_in
  lines_next j h = rw (add-one j) (drop-tabulate n (λ i. meaning (line_at proof i)) j h)

  pub lines_end : drop n (lines_in proof n) ≡ []
  unfolding lines_in
  lines_end = drop-tabulated n (λ i. meaning (line_at proof i))
