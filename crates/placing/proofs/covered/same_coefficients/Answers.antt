use mathlib.Core.Path.{◌≡◌, sym, subst, ◌∙◌}
use mathlib.Core.Bool.{◌&&◌}
use Prim.Native.Nat.{ℕ, ◌+◌, ◌^◌, ◌<◌}
use native.Mathlib.Omega.{arith}
use borrow.Author.Rules.{rules}
use borrow.Author.Tests.{eq-eqb, ne_eqb}
use lib.Dec.{eqb}
use Rattle.rules.specs.Lists.{same}
use Rattle.rules.specs.Arithmetic.{equal}
use Rattle.steps.specs.Lines.{line_at}
use Rattle.placing.specs.Tight.{same_from, same-all, same_step, same-last}
use Rattle.placing.proofs.covered.same_coefficients.Goals as goal
use Rattle.placing.proofs.covered.same_coefficients.Goals.{After-coefficient_word_at, After-coefficient_word_at-in-loop-f}

pub loop-f-init : goal.loop-f-init
loop-f-init c = (omega arith, same-all _ _ _)

-- the next word of both
next : (c : After-coefficient_word_at-in-loop-f) →
    same equal (line_at c.args.proof.now c.args.i).coefficients (line_at c.args.bytes.now 0).coefficients
    ≡ eqb c.coefficient_word_at.result c.coefficient_word_at-in-loop-f.result
    && same_from c.args.proof.now c.args.i c.args.bytes.now (c.loop-f.f + 1)
next c =
    let a = c.coefficient_word_at in
    let b = c.coefficient_word_at-in-loop-f in
    let p = c.args.proof.now in
    let i = c.args.i in
    let bytes = c.args.bytes.now in
    let rest = same_from p i bytes (c.loop-f.f + 1) in
    c.loop-f.invariant.1
    ∙ same_step p i bytes c.requires.has_step c.requires.has_step_2 c.loop-f.f (omega arith)
    (subst (λ (w : ℕ). w < 2 ^ 32) a.ensures (search (rules, (goal.at.After-coefficient_word_at-in-loop-f c).After-coefficient_word_at)))
    (subst (λ (w : ℕ). w < 2 ^ 32) b.ensures (search (rules, c)))
    ∙ sym (λ j. eqb (a.ensures j) (b.ensures j) && rest)

pub returns-then-coefficient_word_at : goal.returns-then-coefficient_word_at
returns-then-coefficient_word_at c = sym (next (goal.at.returns-then-coefficient_word_at c).After-coefficient_word_at-in-loop-f
    ∙ rw (ne_eqb _ _ c.if-coefficient_word_at.true))

pub loop-f-preserved : goal.loop-f-preserved
loop-f-preserved c = (
  omega arith,
  next (goal.at.loop-f-preserved c).After-coefficient_word_at-in-loop-f
      ∙ rw (eq-eqb _ _ c.if-coefficient_word_at.false),
)

pub returns : goal.returns
returns c = sym (c.loop-f.invariant.1 ∙ same-last _ _ _ c.loop-f.f (omega arith))
