use mathlib.Core.Path.{◌≡◌, subst}
use mathlib.Core.Bool.{true, false}
use mathlib.Core.List.{List}
use Prim.Native.Nat.{ℕ}
use native.Mathlib.Omega.{arith}
use borrow.Author.Rules.{rules}
use borrow.Author.Tests.{not-true, not-false}
use Rattle.rules.specs.Elimination.{loadable_of}
use Rattle.rules.specs.Checker.{stated_line, followed_lines}
use Rattle.steps.specs.Places.{step_at}
use Rattle.steps.specs.Lines.{lines_in}
use Rattle.step_check.specs.Stated.{States}
use Rattle.problem_read.specs.Parsed.{posed_at}
use Rattle.proof_check.specs.Checking.{followed_as, following-start, following-done, following-stop, following-next}
use Rattle.proof_check.proofs.follow.follow_steps.Goals as goal
use Rattle.proof_check.proofs.follow.follow_steps.Goals.{After-line_stated-s}

pub loop-i-init : goal.loop-i-init
loop-i-init c = following-start (loadable_of (posed_at c.args.edition c.args.input.now c.args.sizes)) c.args.proof.now _

pub get-bytes-requires : goal.get-bytes-requires
get-bytes-requires c = omega (arith, c.loop-i-test.true)

pub line_stated-s-requires : goal.line_stated-s-requires
line_stated-s-requires c = record {
  known = c.requires;
  i_in_bounds = omega (arith, c.loop-i-test.true);
  ready_lines = c.loop-i.invariant.ready;
}

-- what step i states
stated : (c : After-line_stated-s) → let l = c.loop-i in let a =
    c.args in
    States (stated_line (loadable_of (posed_at a.edition a.input.now a.sizes)) (lines_in a.proof.now l.i)
    (step_at a.proof.now l.i))
    (step_at a.proof.now l.i) c.line_stated-s.result
stated c =
    let l = c.loop-i in
    let a = c.args in
    subst (λ (b : List ℕ). States (stated_line (loadable_of (posed_at a.edition a.input.now a.sizes))
    (lines_in a.proof.now l.i) b) b
    c.line_stated-s.result) c.get-bytes.ensures c.line_stated-s.ensures

pub returns-then-not-s : goal.returns-then-not-s
unfolding followed_lines followed_as
returns-then-not-s c =
    let t : c.line_stated-s.result.found ≡ false = search (rules, not-true, not-false, c.if-not-s) in
    following-stop c.loop-i.invariant c.loop-i-test.true c.line_stated-s.result
    (stated (goal.at.returns-then-not-s c).After-line_stated-s) t

pub overflow_add-i : goal.overflow_add-i
overflow_add-i c =
    omega (arith, c.loop-i-test.true, c.well_formed)

pub loop-i-preserved : goal.loop-i-preserved
loop-i-preserved c =
    let t : c.line_stated-s.result.found ≡ true = search (rules, not-true, not-false, c.if-not-s) in
    following-next c.loop-i.invariant c.loop-i-test.true c.line_stated-s.result (stated (goal.at.loop-i-preserved c).After-line_stated-s) t

pub returns : goal.returns
unfolding followed_lines followed_as
returns c = following-done c.loop-i.invariant c.loop-i-test.false
