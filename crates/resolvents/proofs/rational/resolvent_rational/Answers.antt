-- `rational::resolvent_rational` meets its contract. Assumes nothing.
use mathlib.Core.Path.{◌≡◌, sym, ap, ◌∙◌}
use Prim.Native.Nat.{◌<◌, ◌≤◌}
use native.Mathlib.Omega.{arith}
use borrow.Author.Rules.{sfits_of}
use lib.IntN.{ℤ, pos, nat_abs}
use lib.ListN.{get_or}
use mir.Syntax.{w64}
use mir.Val.{to_z, of_z}
use mir.Facts.{to_z-of_z}
use Rattle.rules_types.specs.Limits as limit
use Rattle.rules.specs.Resolve.{resolvent}
use Rattle.theory_vectors.specs.Amounts.{Small}
use Rattle.rows.specs.Products.{amount-bits, combine-≤}
use Rattle.lines.specs.Line.{meaning}
use Rattle.masks.specs.Mask.{union-bits}
use Rattle.resolvents.specs.Resolvent.{combination-is, constraints-agree, upper-constraint, lower-constraint}
use borrow.Author.Rules.{rules}
use Rattle.resolvents.proofs.rational.resolvent_rational.Goals as goal
use Rattle.resolvents.proofs.rational.resolvent_rational.Goals.{After-factor-c, Start}

pub factor-c-requires : goal.factor-c-requires
factor-c-requires c =
    let h = c.requires.ready_2.coefficients.small c.args.f in
    rw (amount-bits (get_or c.args.lower.coefficients c.args.f (pos 0)) h) h

-- what the factor is, as its bits say
factor-is : (c : After-factor-c) → to_z w64 (of_z w64 c.factor-c.result) ≡ pos (nat_abs (get_or c.args.lower.coefficients c.args.f (pos 0)))
factor-is c =
    let z = get_or c.args.lower.coefficients c.args.f (pos 0) in
    let h : Small z = c.requires.ready_2.coefficients.small c.args.f in
    let e : c.factor-c.result ≡ pos (nat_abs z) = c.factor-c.ensures ∙ ap (λ (t : ℤ). pos (nat_abs t)) (amount-bits z h) in
    ap (λ (t : ℤ). to_z w64 (of_z w64 t)) e ∙ amount-bits (pos (nat_abs z)) h

pub combine_rows-row-requires : goal.combine_rows-row-requires
combine_rows-row-requires c =
    let u = c.requires.ready in
    let l = c.requires.ready_2 in
    let ha = u.coefficients.small c.args.f in record {
      small = rw (factor-is c) (l.coefficients.small c.args.f);
      small_2 = rw (amount-bits (get_or c.args.upper.coefficients c.args.f (pos 0)) ha) ha;
      amounts = u.coefficients;
      amounts_2 =
          l.coefficients;
    }

pub combine-bound-requires : goal.combine-bound-requires
combine-bound-requires c =
    let u = c.requires.ready in
    let l = c.requires.ready_2 in
    let ha = u.coefficients.small c.args.f in record {
      small = rw (factor-is (goal.at.combine-bound-requires c).After-factor-c)
          (l.coefficients.small c.args.f);
      small_2 = rw (amount-bits c.args.upper.bound u.bound) u.bound;
      small_3 =
          rw (amount-bits (get_or c.args.upper.coefficients c.args.f (pos 0)) ha) ha;
      small_4 =
          rw (amount-bits c.args.lower.bound l.bound) l.bound;
    }

-- both lines have a constraint
related : (s : Start) → (0 < s.args.upper.relation) × (0 < s.args.lower.relation)
related s = (
  upper-constraint s.args.f s.args.upper s.requires.upper_value,
  lower-constraint s.args.f s.args.lower s.requires.lower_value,
)

pub returns : goal.returns
unfolding meaning resolvent
returns c =
    let f = c.args.f in
    let u = c.args.upper in
    let l = c.args.lower in
    let hu = c.requires.ready in
    let hl = c.requires.ready_2 in
    let hr = related (goal.at.returns c).Start in
    let ha = hu.coefficients.small f in
    let ea = amount-bits (get_or u.coefficients f (pos 0)) ha in
    let row = rw (factor-is (goal.at.returns c).After-factor-c, ea) at c.combine_rows-row.ensures in
    let bound = to_z-of_z {w = w64} (sfits_of c.combine-bound.type_inv)
    ∙ (rw (
      factor-is (goal.at.returns c).After-factor-c,
      ea,
      amount-bits u.bound hu.bound,
      amount-bits l.bound hl.bound,
    ) at c.combine-bound.ensures) in
    let e = combination-is f u.coefficients u.bound l.coefficients l.bound u.relation l.relation hu.shaped.related
    hl.shaped.related hr.0 hr.1 in
    let r = constraints-agree c.stricter.ensures row bound in
    let p = sym (union-bits limit.all_booleans u.positive l.positive) in
    let n = sym (union-bits limit.all_booleans u.negative l.negative) in
    let x = r ∙ e in record {
      result_value = λ j. record { positive = p j; negative = n j; constraint = x j };
      shaped = record {
        related = omega (arith, c.stricter.ensures, hu.shaped.related, hl.shaped.related);
        coefficients = λ z. absurd (omega (arith, c.stricter.ensures, hr.0, z));
        bound = λ z. absurd (omega (arith, c.stricter.ensures, hr.0, z));
      };
      bounded = record {
        coefficients = λ i. rw row (omega (
          arith,
          combine-≤ (pos (nat_abs (get_or l.coefficients f (pos 0)))) u.coefficients
              (get_or u.coefficients f (pos 0)) l.coefficients (hl.coefficients.small f) hu.coefficients ha hl.coefficients i,
        ));
      };
    }
