-- `load::load` meets its contract: the written clauses, then those that the edition adds. Assumes nothing.
use native.Mathlib.Omega.{arith}
use Rattle.theory_splitting.specs.Editions.{length-added}
use Rattle.elimination.specs.Added.{loads-all}
use Rattle.elimination.proofs.load.load.Goals as goal

pub load_added-requires : goal.load_added-requires
load_added-requires c =
    let few = length-added c.args.terms.edition c.args.sizes.rationals in
    let r = c.requires.readable.parsed.rationals in record {
      count_bound = omega
          (arith, c.added-count.ensures, few, r, c.requires.readable.parsed.clauses);
      count_le_rationals =
          omega (arith, c.added-count.ensures, few, r);
      standing = c.load_written-written.ensures.leads.standing;
    }

pub returns : goal.returns
returns c =
    loads-all c.args.terms c.args.input.now c.args.sizes c.requires.readable.parsed.rationals c.added-count.ensures
    c.load_written-written.ensures c.load_added.ensures
