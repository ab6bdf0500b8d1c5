-- `scan::body` meets its contract: a law for each return.
use Rattle.problem_scan.specs.Scans.{body-fault, body-trailing, body_end}
use Rattle.problem_scan.proofs.scan.body.Goals as goal

pub returns-then-at-input : goal.returns-then-at-input
returns-then-at-input c =
    body-trailing c.args.input.now c.args.sizes c.requires c.clauses-read.result c.clauses-read.ensures _
    c.in-Next.is c.if-at-input.true

pub returns-in-Fault : goal.returns-in-Fault
returns-in-Fault c =
    body-fault c.args.input.now c.args.sizes c.requires c.clauses-read.result c.clauses-read.ensures _ _
    c.in-Fault.is

pub returns-else-at-input : goal.returns-else-at-input
returns-else-at-input c =
    body_end c.args.input.now c.args.sizes c.requires c.clauses-read.result c.clauses-read.ensures _
    c.in-Next.is c.if-at-input.false
