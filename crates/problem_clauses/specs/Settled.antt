-- What normalizing makes of the constraint that the comparison at a place is read as, by tests on its bytes.
use Rattle.std.specs.Prelude.{◌≡◌, refl, Bool, false, ◌&&◌, List, [], ◌∷◌, ◌++◌, map, ℕ, zero, suc, ◌+◌, ◌-◌, ◌^◌, ◌<◌, ℤ, pos, nat_abs}
use Rattle.std.specs.Prelude.{get_or}
use Rattle.std.proofs.Common.{sym, ap, ◌∙◌, arith}
use Rattle.std.proofs.Math.Bool.{true}
use Rattle.std.proofs.Math.ListN.{replicate}
use Rattle.rules_types.specs.Limits as limit
use Rattle.rules_types.specs.Layout as layout
use Rattle.rules.specs.Lists.{all}
use Rattle.rules.specs.Bytes.{from_unsigned, field_at}
use Rattle.rules.specs.Arithmetic.{is_zero, related}
use Rattle.rules.specs.Problem.{Constraint, relation_of}
use Rattle.rules.specs.Readings.{is_strict, turns, signed, read_as}
use Rattle.rules.specs.Normalize.{Settled, always, never, kept, settled}
use Rattle.theory_vectors.specs.Signed.{is_zero-signed}
use Rattle.theory_bytes.specs.Amounts.{from_unsigned-size}
use Rattle.problem_clauses.specs.declared.splits.Fate.{Fate}
use Rattle.problem_clauses.specs.declared.splits.Fate.TheVariants.{Always, Never, Kept}
use Rattle.problem_scan.specs.Values.{values_at, behind, behind-is, amount_at, bound_of, comparison_at, constraint_at}

unfoldable pub fate : Settled → Fate
fate always = Always
fate never = Never
fate (kept c) = Kept

all-padded : (xs : List ℤ) (n : ℕ) → all is_zero (xs ++ replicate n (pos 0)) ≡ all is_zero xs
unfolding all is_zero
all-padded [] zero = refl
all-padded [] (suc n) = all-padded [] n
all-padded (x ∷ xs) n = ap (λ (b : Bool). is_zero x && b) (all-padded xs n)

all-signed : (turned : Bool) (xs : List ℤ) → all is_zero (map (signed turned) xs) ≡ all is_zero xs
unfolding all
all-signed turned [] = refl
all-signed turned (x ∷ xs) = λ i. is_zero-signed turned x i && all-signed turned xs i

settled-kept : (c : Constraint) → all is_zero c.coefficients ≡ false → fate (settled c) ≡ Kept
unfolding settled fate
settled-kept c e = rw (e, settled)

settled-always : (c : Constraint) → all is_zero c.coefficients ≡ true → related c.strict (pos 0) c.bound ≡ true
    → fate (settled c) ≡ Always
unfolding settled fate
settled-always c e i = rw (e, i, settled)

settled-never : (c : Constraint) → all is_zero c.coefficients ≡ true → related c.strict (pos 0) c.bound ≡ false
    → fate (settled c) ≡ Never
unfolding settled fate
settled-never c e i = rw (e, i, settled)

pub bound_at : (q : List ℕ) (r at : ℕ) → (comparison_at q r at).bound ≡ from_unsigned (field_at (at + layout.comparison_bound r) 4 q)
unfolding comparison_at bound_of amount_at
bound_at q r at =
    let e : behind 4 r (at + 1) ≡ at + layout.comparison_bound r = omega (arith, behind-is 4 r (at + 1)) in
    ap (λ (i : ℕ). from_unsigned (field_at i 4 q)) e

pub bound-size : (q : List ℕ) (r at : ℕ) → nat_abs (comparison_at q r at).bound < 2 ^ 63
bound-size q r at = rw (bound_at q r at) (omega (arith, from_unsigned-size (field_at (at + layout.comparison_bound r) 4 q)))

module _ (q : List ℕ) (second : Bool) (r at : ℕ) where
  abbrev here : Constraint
  here = constraint_at q second r at

  zeros-here : (t : Bool) → all is_zero (values_at (amount_at q) 4 r (at + layout.comparison_coefficients)) ≡ t
      → all is_zero here.coefficients ≡ t
  unfolding comparison_at read_as
  zeros-here t e =
      let cs = values_at (amount_at q) 4 r (at + layout.comparison_coefficients) in
      all-signed (turns second (relation_of (get_or q at 0))) (cs ++ replicate (limit.rationals - r) (pos 0))
      ∙ all-padded cs (limit.rationals - r) ∙ e

  pub fate-kept : all is_zero (values_at (amount_at q) 4 r (at + layout.comparison_coefficients)) ≡ false → fate (settled here) ≡ Kept
  fate-kept e = settled-kept here (zeros-here false e)

  module _ (e : all is_zero (values_at (amount_at q) 4 r (at + layout.comparison_coefficients)) ≡ true) (t : Bool)
      (test : t ≡ related (is_strict (relation_of (get_or q at 0))) (pos 0) here.bound) where
    pub fate-always : t ≡ true → fate (settled here) ≡ Always
    unfolding comparison_at read_as
    fate-always k = settled-always here (zeros-here true e) (sym test ∙ k)

    pub fate-never : t ≡ false → fate (settled here) ≡ Never
    unfolding comparison_at read_as
    fate-never k = settled-never here (zeros-here true e) (sym test ∙ k)
