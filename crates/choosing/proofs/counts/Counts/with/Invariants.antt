-- `Counts::with` meets its contract. Invariant: the signs before f are added. Assumes nothing.
use Rattle.rules.specs.Arithmetic.{is_positive, is_negative}
use Rattle.choosing.specs.Counts.{Through}
use Rattle.choosing.proofs.counts.Counts.with.Given as goal

abbrev pub invariant-loop-f : goal.invariant-loop-f
invariant-loop-f l = Through is_positive l.line.coefficients l.initial.self.uppers l.self.uppers l.f
    × Through is_negative l.line.coefficients l.initial.self.lowers l.self.lowers l.f
