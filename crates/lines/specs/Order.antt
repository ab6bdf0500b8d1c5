-- The order of rounds in machine words.
use Rattle.std.specs.Prelude.{◌≡◌, refl, List, [], ◌∷◌, ◌++◌, ℕ, zero, suc, ◌+◌, ◌-◌, ◌≤◌, ◌<◌, length, get_or, set, take, drop}
use Rattle.std.proofs.Common.{sym, ap, ◌∙◌, append_assoc, arith, take-append-drop, take-suc, drop-cons, length-take-le}
use Rattle.rules_types.specs.Limits as limit
use Rattle.rules.specs.Lines as rules
use Rattle.rules.specs.Lines.{rational, boolean}
use Rattle.rules.specs.Elimination.{order_by}
use Rattle.theory_saturation.specs.Rounds.{At}
use Rattle.theory_saturation.specs.Order as order
use Rattle.theory_saturation.specs.Order.{Ordered, at-ranged, rational-at, boolean-at}
use Rattle.lines.specs.declared.order.Order.{Order}
use Rattle.lines.specs.declared.order.RationalRound.{RationalRound}
use Rattle.lines.specs.declared.order.VariableRound.{VariableRound}
use Rattle.lines.specs.declared.order.Variable.{Variable}
use Rattle.lines.specs.declared.order.Variable.TheVariants.{Rational, Boolean}
use Rattle.lines.specs.declared.order.Round.{Round}
use Rattle.lines.specs.declared.order.Round.TheVariants.{Of, End}

unfoldable pub variable_of : Variable → rules.Variable
variable_of (Rational f) = rational f
variable_of (Boolean i) = boolean i

unfoldable pub variables_of : Order → List rules.Variable
variables_of o = order_by o.rationals

-- the one at place `from` goes to place `to`, before it, and those between go one on
unfoldable pub moved_to : ℕ → ℕ → List ℕ → List ℕ
moved_to from to fs = take to fs ++ (get_or fs from 0 ∷ (take (from - to) (drop to fs) ++ drop (suc from) fs))

-- one that a line can have
abbrev pub Ranged : Variable → Type 0
Ranged v = order.Ranged (variable_of v)

-- a round that can be gone through
pub record Scheduled (round : VariableRound) : Type 0 where
  pub ranged : Ranged round.variable
  pub ordered : Ordered (variables_of round.order)

pub record ScheduledRational (round : RationalRound) : Type 0 where
  pub ranged : round.rational < limit.rationals
  pub ordered : Ordered (variables_of round.order)
  pub at : At (variables_of round.order) round.number (rational round.rational)

-- round t of an order, which is a rational variable's
abbrev pub rational_round : Order → ℕ → RationalRound
rational_round o t = record { order = o; number = t; rational = get_or o.rationals t 0 }

-- "8 to 39 to the marks"
abbrev pub boolean_round : ℕ → ℕ
boolean_round i = limit.rationals + i

-- what round t is
abbrev pub IsRound : List rules.Variable → ℕ → Round → Type 0
IsRound variables t (Of v) = Ranged v × At variables t (variable_of v)
IsRound variables t End = limit.rounds ≤ t

module _ (o : Order) (n : length o.rationals ≡ limit.rationals) where
  pub at-rational : (t : ℕ) → t < limit.rationals → At (variables_of o) t (rational (get_or o.rationals t 0))
  unfolding variables_of
  at-rational t h = rational-at o.rationals t (omega arith)

  pub at-boolean : (i : ℕ) → i < limit.all_booleans → At (variables_of o) (boolean_round i) (boolean i)
  unfolding variables_of
  at-boolean i h = boolean-at o.rationals n i h

  pub rational-ranged : Ordered (variables_of o) → (t : ℕ) → t < limit.rationals → get_or o.rationals t 0 < limit.rationals
  rational-ranged h t k = at-ranged h t (rational (get_or o.rationals t 0)) (at-rational t k)

-- ---- moving: at step j what stood from j on is one place later, up to `from`
unfoldable pub shifted : ℕ → ℕ → List ℕ → List ℕ
shifted from j fs = take (suc j) fs ++ (take (from - j) (drop j fs) ++ drop (suc from) fs)

-- n elements at the front, the next one set
set_at : (xs : List ℕ) (y z : ℕ) (zs : List ℕ) → set (xs ++ (y ∷ zs)) (length xs) z ≡ xs ++ (z ∷ zs)
set_at [] y z zs = refl
set_at (x ∷ xs) y z zs = ap (λ (l : List ℕ). x ∷ l) (set_at xs y z zs)

-- place j of what is shifted, and what setting it gives
set-shifted : (from j z : ℕ) (fs : List ℕ) → j < length fs
    → set (shifted from j fs) j z ≡ take j fs ++ (z ∷ (take (from - j) (drop j fs) ++ drop (suc from) fs))
unfolding shifted
set-shifted from j z fs h =
    let rest = take (from - j) (drop j fs) ++ drop (suc from) fs in
    ap (λ (l : List ℕ). set (l ++ rest) j z) (take-suc fs j 0 h)
    ∙ ap (λ (l : List ℕ). set l j z) (append_assoc (take j fs) (get_or fs j 0 ∷ []) rest)
    ∙ ap (λ (k : ℕ). set (take j fs ++ (get_or fs j 0 ∷ rest)) k z) (sym (length-take-le j fs (omega arith)))
    ∙ set_at (take j fs) (get_or fs j 0) z rest

get_d_front : (j k : ℕ) (fs rest : List ℕ) → k < j → k < length fs → get_or (take j fs ++ rest) k 0 ≡ get_or fs k 0
get_d_front zero k fs rest h l = absurd (omega arith)
get_d_front (suc j) k [] rest h l = absurd (omega arith)
get_d_front (suc j) zero (f ∷ fs) rest h l = refl
get_d_front (suc j) (suc k) (f ∷ fs) rest h l = get_d_front j k fs rest (omega arith) (omega arith)

get_or-shifted : (from j k : ℕ) (fs : List ℕ) → k ≤ j → k < length fs → get_or (shifted from j fs) k 0 ≡ get_or fs k 0
unfolding shifted
get_or-shifted from j k fs h l = get_d_front (suc j) k fs (take (from - j) (drop j fs) ++ drop (suc from) fs) (omega arith) l

pub shifted_start : (from : ℕ) (fs : List ℕ) → shifted from from fs ≡ fs
unfolding shifted
shifted_start from fs =
    let none : from - from ≡ 0 = omega arith in
    ap (λ (k : ℕ). take (suc from) fs ++ (take k (drop from fs) ++ drop (suc from) fs)) none ∙ take-append-drop (suc from) fs

pub shifted_next : (from j : ℕ) (fs : List ℕ) → 0 < j → j ≤ from → from < length fs
    → set (shifted from j fs) j (get_or (shifted from j fs) (j - 1) 0) ≡ shifted from (j - 1) fs
unfolding shifted
shifted_next from j fs z h l =
    let k = j - 1 in
    let behind = drop (suc from) fs in
    let here : j ≡ suc k = omega arith in
    let one : suc (from - j) ≡ from - k = omega arith in
    ap (set (shifted from j fs) j) (get_or-shifted from j k fs (omega arith) (omega arith))
    ∙ set-shifted from j (get_or fs k 0) fs (omega arith)
    ∙ ap (λ (i : ℕ). take i fs ++ (get_or fs k 0 ∷ (take (from - j) (drop i fs) ++ behind))) here
    ∙ ap (λ (zs : List ℕ). take (suc k) fs ++ (take (suc (from - j)) zs ++ behind)) (sym (drop-cons fs k 0 (omega arith)))
    ∙ ap (λ (i : ℕ). take (suc k) fs ++ (take i (drop k fs) ++ behind)) one

pub shifted_end : (from to : ℕ) (fs : List ℕ) → to < length fs → set (shifted from to fs) to (get_or fs from 0) ≡ moved_to from to fs
unfolding moved_to
shifted_end from to fs h = set-shifted from to (get_or fs from 0) fs h
