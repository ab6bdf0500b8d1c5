use mathlib.Core.Path.{◌≡◌, refl, sym, ◌∙◌}
use native.Mathlib.Omega.{arith}
use borrow.Author.Rules.{rules}
use Rattle.steps.specs.Lines.{line_at}
use Rattle.rounds.specs.Sides.{chosen, selected-past}
use Rattle.rounds.proofs.side.next.Goals as goal

pub loop-i-init : goal.loop-i-init
loop-i-init c = (omega arith, search rules, refl)

pub stands-requires : goal.stands-requires
unfolding line_at
stands-requires c =
    let i = c.loop-i.i in record {
      has_step = omega (arith, c.requires.held.room);
      scheduled = c.requires.scheduled;
      shaped = (c.requires.held.steps i (omega arith)).ready.shaped;
    }

pub returns-then-stands : goal.returns-then-stands
returns-then-stands c =
    let l = c.loop-i in
    record { behind = l.invariant.0; within = l.invariant.1; same = l.invariant.2; passes = λ h. sym c.stands.ensures ∙ c.if-stands.true }

pub loop-i-preserved : goal.loop-i-preserved
loop-i-preserved c =
    let l = c.loop-i in
    let a = c.args in (
      omega arith,
      omega arith,
      l.invariant.2 ∙ selected-past (chosen a.upper a.current) a.proof.now a.m l.i
          (omega arith) (sym c.stands.ensures ∙ c.if-stands.false),
    )

pub returns : goal.returns
returns c =
    let l = c.loop-i in
    let a = c.args in
    let e : l.i ≡ a.m = omega arith in
    record { behind = omega arith; within = omega arith; same = rw e at l.invariant.2; passes = λ h. absurd (omega arith) }
