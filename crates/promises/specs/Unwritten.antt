-- When the value rule says "unwritten": "if a gathered bound or value, reduced, has numerator or denominator beyond 1,000,000,000 in size,
-- or the common denominator (the least) or a numerator over it does".
use Rattle.std.specs.Prelude.{◌≡◌, refl, Bool, true, false, ◌||◌, ◌↔◌, ◌⊎◌, ℕ, zero, suc, ◌<◌, ℤ, nat_abs, T, ltb}
use Rattle.std.proofs.Common.{inl, inr, ⊎_elim, arith, ltb→lt, lt-ltb}
use mathlib.Core.List.{List, [], ◌∷◌}
use Rattle.std.proofs.Math.Option.{Option, none, some}
use Rattle.std.proofs.Math.Dec.{eqb}
use Rattle.rules_types.specs.Limits as limit
use Rattle.rules.specs.Lists.{any, filter, tabulate}
use Rattle.rules.specs.Meaning.{Assignment}
use Rattle.rules.specs.Lines.{Line, Variable, rational, boolean, positively, negatively}
use Rattle.rules.specs.Problem.{Problem}
use Rattle.rules.specs.Elimination.{round_of, order_of, unlimited, elimination}
use Rattle.rules.specs.Needs.{steps_of}
use Rattle.rules.specs.Values.{Fraction, beyond, Gathered, gather, rational_value, exceeds, Walked, walk_from, walk}
use Rattle.rules.specs.Model.{is_open, too_large, encode_model, written}
use Rattle.theory_lists.specs.Tests.{split, of-true, or_l, or_r, or_else, is_true}
use Rattle.theory_lists.specs.All.{Any, any-map, any-yes, yes-any}
use Rattle.theory_elimination.specs.Saturated.{lines}
use Rattle.promises.specs.Words.{walk_of, model_of}

-- ---- the words
-- "numerator or denominator beyond 1,000,000,000 in size"
abbrev pub Beyond : Fraction → Type 0
Beyond x = (1000000000 < nat_abs x.numerator) ⊎ (1000000000 < x.denominator)

-- "a gathered bound or value"
abbrev pub RoundExceeds : Variable → List Line → Assignment → Type 0
RoundExceeds (rational f) ls χ = (Any (λ g. Beyond g.at) (gather negatively χ f ls)
    ⊎ Any (λ g. Beyond g.at) (gather positively χ f ls)) ⊎ Beyond (rational_value χ f ls)
RoundExceeds (boolean i) ls χ = ⊥

-- some round of the walk, from round t on; each with the values of the rounds behind it
abbrev pub WalkExceeds : List Variable → List Line → ℕ → List Variable → Type 0
WalkExceeds variables lines t [] = ⊥
WalkExceeds variables lines t (v ∷ vs) = WalkExceeds variables lines (suc t) vs
    ⊎ RoundExceeds v (filter (λ l. eqb (round_of variables l) t) lines) (walk_from variables lines (suc t) vs).assignment

-- "the common denominator (the least) or a numerator over it"
abbrev pub TooLarge : ℕ → Assignment → Type 0
TooLarge r χ = (1000000000 < χ.denominator) ⊎ ((f : ℕ) × (f < r) × (1000000000 < nat_abs (χ.numerators f)))

abbrev pub SaysUnwritten : ℕ → List Variable → List Line → Type 0
SaysUnwritten r variables lines = WalkExceeds variables lines 0 variables ⊎ TooLarge r (walk variables lines).assignment

-- ---- the tests decide them
either : (a b : Bool) {P Q : Type 0} → T a ↔ P → T b ↔ Q → T (a || b) ↔ (P ⊎ Q)
either a b f g = (
  λ t. ⊎_elim (λ h. inl (f.0 h)) (λ n. inr (g.0 (or_else a b n t))) (split a),
  ⊎_elim (λ p. or_l a b (f.1 p)) (λ q. or_r a b (g.1 q)),
)

less : (a b : ℕ) → T (ltb a b) ↔ (a < b)
less a b = (ltb→lt a b, λ h. of-true (ltb a b) (lt-ltb a b h))

is-beyond : (x : Fraction) → T (beyond x) ↔ Beyond x
unfolding beyond
is-beyond x =
    either (ltb limit.amount (nat_abs x.numerator)) (ltb limit.amount x.denominator) (less limit.amount (nat_abs x.numerator))
    (less limit.amount x.denominator)

some-beyond : (gs : List Gathered) → T (any (λ g. beyond g.at) gs) ↔ Any (λ g. Beyond g.at) gs
some-beyond gs = (
  λ t. any-map (λ g. T (beyond g.at)) (λ g. Beyond g.at) gs (λ g h. (is-beyond g.at).0 h) (any-yes (λ g. beyond g.at) gs t),
  λ h. yes-any (λ g. beyond g.at) gs (any-map (λ g. Beyond g.at) (λ g. T (beyond g.at)) gs (λ g k. (is-beyond g.at).1 k) h),
)

round-exceeds : (v : Variable) (ls : List Line) (χ : Assignment) → T (exceeds v ls χ) ↔ RoundExceeds v ls χ
unfolding exceeds
round-exceeds (rational f) ls χ =
    let lower = any (λ g. beyond g.at) (gather negatively χ f ls) in
    let upper = any (λ g. beyond g.at) (gather positively χ f ls) in
    either (lower || upper) (beyond (rational_value χ f ls))
    (either lower upper (some-beyond (gather negatively χ f ls)) (some-beyond (gather positively χ f ls)))
    (is-beyond (rational_value χ f ls))
round-exceeds (boolean i) ls χ = (λ t. t, λ h. h)

module _ (variables : List Variable) (lines : List Line) where
  walk-exceeds : (t : ℕ) (vs : List Variable) → T (walk_from variables lines t vs).exceeded ↔ WalkExceeds variables lines t vs
  unfolding walk_from
  walk-exceeds t [] = (λ h. h, λ h. h)
  walk-exceeds t (v ∷ vs) =
      let w = walk_from variables lines (suc t) vs in
      let ls = filter (λ l. eqb (round_of variables l) t) lines in
      either w.exceeded (exceeds v ls w.assignment) (walk-exceeds (suc t) vs) (round-exceeds v ls w.assignment)

numerators-large : (r : ℕ) (x : ℕ → ℤ) → T (any (λ z. ltb limit.amount (nat_abs z)) (tabulate r x))
    ↔ ((f : ℕ) × (f < r) × (1000000000 < nat_abs (x f)))
unfolding any tabulate
numerators-large zero x = (λ t. absurd t, λ h. absurd (omega (arith, h.1)))
numerators-large (suc r) x =
    let first = ltb limit.amount (nat_abs (x 0)) in
    let rest = any (λ z. ltb limit.amount (nat_abs z)) (tabulate r (λ i. x (suc i))) in
    let e = either first rest (less limit.amount (nat_abs (x 0))) (numerators-large r (λ i. x (suc i))) in (
      λ t. ⊎_elim (λ h. (0, omega arith, h)) (λ h. (suc h.0, omega (arith, h.1), h.2)) (e.0 t),
      λ h. e.1 (by h.0 h.1 h.2),
    )
  where
    by : (f : ℕ) → f < suc r → 1000000000 < nat_abs (x f)
        → (1000000000 < nat_abs (x 0)) ⊎ ((f : ℕ) × (f < r) × (1000000000 < nat_abs (x (suc f))))
    by zero l h = inl h
    by (suc f) l h = inr (f, omega arith, h)

too_large_lem : (r : ℕ) (χ : Assignment) → T (too_large r χ) ↔ TooLarge r χ
unfolding too_large
too_large_lem r χ =
    either (ltb limit.amount χ.denominator) (any (λ z. ltb limit.amount (nat_abs z)) (tabulate r χ.numerators))
    (less limit.amount χ.denominator) (numerators-large r χ.numerators)

pub unwritten-is : (b r : ℕ) (opens : ℕ → Bool) (variables : List Variable) (lines : List Line)
    → (written b r opens (walk variables lines) ≡ none) ↔ SaysUnwritten r variables lines
unfolding written walk
unwritten-is b r opens variables lines =
    let w = walk variables lines in
    let test = w.exceeded || too_large r w.assignment in
    let e = either w.exceeded (too_large r w.assignment) (walk-exceeds variables lines 0 variables) (too_large_lem r w.assignment) in
    (λ h. e.0 (by test (encode_model b r opens w.assignment) h), λ h. rw (is_true test (e.1 h), written))
  where
    by : (t : Bool) (bytes : List ℕ) → ◌≡◌ {A = Option (List ℕ)} (elim t [ true ↦ none | false ↦ some bytes ]) none → T t
    by true bytes h = tt
    by false bytes h = absurd (let z : ◌≡◌ {A = ℕ} 0 1 = cc in omega arith)

-- of a problem
abbrev pub RuleSaysSo : Problem → Type 0
RuleSaysSo p = SaysUnwritten p.rationals (order_of p) (lines (steps_of (elimination unlimited p)))

pub rule-says-so : (p : Problem) → (model_of p ≡ none) ↔ RuleSaysSo p
unfolding model_of walk_of
rule-says-so p = unwritten-is p.booleans p.rationals (is_open p) (order_of p) (lines (steps_of (elimination unlimited p)))
