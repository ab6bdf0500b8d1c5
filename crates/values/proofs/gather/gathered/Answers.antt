-- `gather::gathered` meets its contract: a line bounds the variable, or leaves the bounds where they are. Assumes nothing.
use Rattle.std.proofs.Common.{◌≡◌, ◌∙◌, ◌∷◌, ◌-◌, ◌+◌, ◌<◌, sym, arith, drop}
use Rattle.fractions.specs.Meaning.{bound_meaning}
use Rattle.lines.specs.Line.{meaning}
use Rattle.steps.specs.Lines.{lines_in}
use Rattle.models.specs.Model.{assignment}
use Rattle.values.specs.Gather.{collected-none, collected-not, exceeding-front}
use Rattle.values.specs.Round.{lines_next, lines_end}
use Rattle.values.proofs.gather.gathered.Goals as goal
use Rattle.values.proofs.gather.gathered.Goals.{After-line_at-line}

pub loop-j-init : goal.loop-j-init
loop-j-init c = rw (lines_end c.args.proof.now c.args.n) (collected-none (assignment c.args.model) c.args.current)

-- the lines from the one that was read on
further : (c : After-line_at-line) → drop (c.loop-j.j - 1) (lines_in c.args.proof.now c.args.n)
    ≡ meaning c.line_at-line.result ∷ drop c.loop-j.j (lines_in c.args.proof.now c.args.n)
further c =
    let n : c.loop-j.j - 1 + 1 ≡ c.loop-j.j = omega arith in
    let h : c.loop-j.j - 1 < c.args.n = omega arith in
    rw (lines_next c.args.proof.now c.args.n (c.loop-j.j - 1) h, n, c.line_at-line.ensures)

pub returns-in_err-bounds : goal.returns-in_err-bounds
returns-in_err-bounds c =
    let l = c.loop-j in
    let ls = lines_in c.args.proof.now c.args.n in
    rw c.from_residual.ensures (exceeding-front (assignment c.args.model) c.args.current (l.j - 1) ls
    (rw (further (goal.at.returns-in_err-bounds c).After-line_at-line) (c.in_err-bounds.ensures (drop l.j ls) l.invariant)))

pub loop-j-preserved-then-counts : goal.loop-j-preserved-then-counts
loop-j-preserved-then-counts c =
    rw (further (goal.at.loop-j-preserved-then-counts c).After-line_at-line)
    (c.in_ok-bounds.ensures (drop c.loop-j.j (lines_in c.args.proof.now c.args.n)) c.loop-j.invariant)

pub loop-j-preserved : goal.loop-j-preserved
loop-j-preserved c =
    rw (further (goal.at.loop-j-preserved c).After-line_at-line)
    (collected-not (assignment c.args.model) c.args.current (meaning c.line_at-line.result)
    (drop c.loop-j.j (lines_in c.args.proof.now c.args.n)) (bound_meaning c.loop-j.bounds.lower)
    (bound_meaning c.loop-j.bounds.upper) c.loop-j.invariant (sym c.counts.ensures ∙ c.if-counts.false))
