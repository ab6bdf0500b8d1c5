-- `load::loaded` meets its contract. Assumes nothing.
use mathlib.Core.Path.{◌≡◌, ap}
use native.Mathlib.Omega.{arith}
use lib.ListN.{get_or}
use Rattle.steps.specs.declared.origin.Origin.{Origin}
use Rattle.step_check.specs.Named.{clause, part}
use Rattle.step_check.specs.Resolvents.{states-same}
use Rattle.proof_check.specs.Index.{Entry}
use Rattle.proof_check.specs.Loaded.{loaded-behind, loaded_found}
use Rattle.proof_check.proofs.load.loaded.Goals as goal
use Rattle.proof_check.proofs.load.loaded.Goals.{After-origin_at-origin, Else-sizes-clause}

-- the clause and the part that the bytes name
named-clause : (k : After-origin_at-origin) → k.origin_at-origin.result.first ≡ clause k.args.bytes
named-clause k = ap (λ (o : Origin). o.first) k.origin_at-origin.ensures

named-part : (k : After-origin_at-origin) → k.origin_at-origin.result.second ≡ part k.args.bytes
named-part k = ap (λ (o : Origin). o.second) k.origin_at-origin.ensures

pub loaded_behind-requires : goal.loaded_behind-requires
loaded_behind-requires c = record {
  rationals_le_rationals = c.requires.readable.parsed.rationals;
  clauses_bound = omega (arith, c.if-sizes-clause.true, named-clause (goal.at.loaded_behind-requires c).After-origin_at-origin);
}

pub returns-then-sizes-clause : goal.returns-then-sizes-clause
returns-then-sizes-clause c =
    states-same (loaded-behind c.args.edition c.requires.readable c.args.bytes
    (omega (arith, c.if-sizes-clause.true, named-clause (goal.at.returns-then-sizes-clause c).After-origin_at-origin)))
    c.loaded_behind.ensures

-- the entry of the clause that the bytes name
entry : (c : Else-sizes-clause) → let a = c.args in let n =
    c.origin_at-origin.result.first in
    Entry a.input.now a.sizes (get_or a.places.now n 0)
    (get_or a.variables.now n 0) n
entry c = c.requires.entries
    c.origin_at-origin.result.first (omega (arith, c.if-sizes-clause.false))

pub part-f-requires : goal.part-f-requires
part-f-requires c =
    let i = entry (goal.at.part-f-requires c).Else-sizes-clause in
    record { r_le_rationals = c.requires.readable.parsed.rationals; sound_clause = i.sound; at_bound = i.small }

pub returns : goal.returns
returns c =
    states-same (loaded_found c.args.edition c.requires.readable c.args.bytes c.part-f.result
    (named-clause (goal.at.returns c).After-origin_at-origin) (named-part (goal.at.returns c).After-origin_at-origin)
    (omega (arith, c.if-sizes-clause.false))
    (entry (goal.at.returns c).Else-sizes-clause) c.part-f.ensures.result_value) (rw c.loaded.ensures at c.compared.ensures)
