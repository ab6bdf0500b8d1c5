use native.Mathlib.Omega.{arith}
use Rattle.conversion.specs.Writing.{filling-start, filling-done, filling-within, filling-fits, filling-next}
use Rattle.conversion.specs.Clauses.{clause-places}
use Rattle.conversion.proofs.clauses.put_clauses.Goals as goal

pub loop-left-init : goal.loop-left-init
loop-left-init c = filling-start _ (clause-places _ _) _ _ _ _ c.requires.from_in_bounds_2

pub put_clause-end-requires : goal.put_clause-end-requires
put_clause-end-requires c = record {
  r_le_rationals = c.requires.r_le_rationals;
  at_in_bounds = omega (
    arith,
    filling-within _ (clause-places _ _) c.loop-left.invariant c.loop-left-test.true,
    c.requires.from_in_bounds,
  );
  at_in_bounds_2 = filling-fits _ (clause-places _ _) c.loop-left.invariant c.loop-left-test.true;
}

pub next-at-requires : goal.next-at-requires
next-at-requires c =
    omega (
      arith,
      filling-within _ (clause-places _ _) c.loop-left.invariant
          c.loop-left-test.true,
      c.requires.from_in_bounds,
    )

pub loop-left-preserved : goal.loop-left-preserved
loop-left-preserved c =
    rw c.next-at.ensures (filling-next _ (clause-places _ _) c.loop-left.invariant c.loop-left-test.true c.put_clause-end.ensures)

pub returns : goal.returns
returns c = filling-done _ (clause-places _ _) c.loop-left.invariant c.loop-left-test.false
