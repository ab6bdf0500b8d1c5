-- `convert::put_problem` meets its contract: the header is stored, then the clauses. Assumes nothing.
use native.Mathlib.Omega.{arith}
use lib.ListN.{length-set}
use Rattle.fields.specs.Field.{length-sets}
use Rattle.conversion.specs.Problem.{header-fits, rest-fits, wrote-problem}
use Rattle.conversion.proofs.convert.put_problem.Goals as goal

pub bounds-out-0 : goal.bounds-out-0
bounds-out-0 c =
    omega (arith, header-fits _ _ _ _ c.args.out.now c.requires.sizes_in_bounds)

pub bounds-out-1 : goal.bounds-out-1
bounds-out-1 c =
    rw length-set (omega (arith, header-fits _ _ _ _ c.args.out.now c.requires.sizes_in_bounds))

pub put_u16-requires : goal.put_u16-requires
put_u16-requires c =
    rw length-sets (omega (arith, header-fits _ _ _ _ c.args.out.now c.requires.sizes_in_bounds))

pub put_clauses-requires : goal.put_clauses-requires
put_clauses-requires c = record {
  r_le_rationals = c.requires.readable.parsed.rationals;
  from_in_bounds = c.requires.readable.parsed.within;
  from_in_bounds_2 = rest-fits _ _ _ _ c.args.out.now c.requires.sizes_in_bounds c.put_u16.ensures;
}

pub returns : goal.returns
returns c =
    (wrote-problem _ _ _ _ c.args.out.now c.requires.sizes_in_bounds c.put_u16.ensures c.put_clauses.ensures).same
