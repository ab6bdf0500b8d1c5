-- `scan::problem` meets its contract: a law for each return.
use mathlib.Core.Path.{sym, ap, ◌∙◌}
use native.Mathlib.Omega.{arith}
use Prim.Native.Nat.{ℕ}
use lib.ListN.{drop}
use Rattle.rules_types.specs.Layout as layout
use Rattle.problem_scan.specs.Scans.{sizes_at, Header, outline, body, problem-short-b, problem-bad-b, problem-short-r, problem-bad-r}
use Rattle.problem_scan.specs.Scans.{problem-short-n, problem-bad-n, problem-good}
use Rattle.problem_scan.proofs.scan.problem.Goals as goal
use Rattle.problem_scan.proofs.scan.problem.Goals.{After-u16_at-n}

pub returns-then-input-le-PROBLEM_BOOLEANS : goal.returns-then-input-le-PROBLEM_BOOLEANS
returns-then-input-le-PROBLEM_BOOLEANS c = sym (problem-short-b c.args.input.now c.if-input-le-PROBLEM_BOOLEANS.true)

pub overflow_cast-b : goal.overflow_cast-b
overflow_cast-b c = omega (arith, c.shared_slice_known-2-1.given layout.problem_booleans)

pub returns-then-b-gt-BOOLEANS : goal.returns-then-b-gt-BOOLEANS
returns-then-b-gt-BOOLEANS c =
    sym (problem-bad-b c.args.input.now c.if-input-le-PROBLEM_BOOLEANS.false c.if-b-gt-BOOLEANS.true)

pub returns-then-input-le-PROBLEM_RATIONALS : goal.returns-then-input-le-PROBLEM_RATIONALS
returns-then-input-le-PROBLEM_RATIONALS c =
    sym (problem-short-r c.args.input.now c.if-input-le-PROBLEM_BOOLEANS.false c.if-b-gt-BOOLEANS.false
    c.if-input-le-PROBLEM_RATIONALS.true)

pub overflow_cast-r : goal.overflow_cast-r
overflow_cast-r c = omega (arith, c.shared_slice_known-3-1.given layout.problem_rationals)

pub returns-then-r-gt-RATIONALS : goal.returns-then-r-gt-RATIONALS
returns-then-r-gt-RATIONALS c =
    sym (problem-bad-r c.args.input.now c.if-input-le-PROBLEM_BOOLEANS.false c.if-b-gt-BOOLEANS.false c.if-input-le-PROBLEM_RATIONALS.false
    c.if-r-gt-RATIONALS.true)

pub returns-then-input-lt-FIRST_CLAUSE : goal.returns-then-input-lt-FIRST_CLAUSE
returns-then-input-lt-FIRST_CLAUSE c =
    sym (problem-short-n c.args.input.now c.if-input-le-PROBLEM_BOOLEANS.false c.if-b-gt-BOOLEANS.false
    c.if-input-le-PROBLEM_RATIONALS.false c.if-r-gt-RATIONALS.false c.if-input-lt-FIRST_CLAUSE.true)

-- the tests passed when n is known
header : (u : After-u16_at-n) → Header u.args.input.now
header u =
    record { booleans = u.if-b-gt-BOOLEANS.false; rationals = u.if-r-gt-RATIONALS.false; clauses = u.if-input-lt-FIRST_CLAUSE.false }

pub returns-then-n : goal.returns-then-n
returns-then-n c = sym (problem-bad-n _ (header (goal.at.returns-then-n c).After-u16_at-n) (rw c.u16_at-n.ensures at c.if-n.true))

pub returns : goal.returns
returns c =
    let q = c.args.input.now in
    c.body.ensures
    ∙ ap (λ (n : ℕ). outline (body (record {
      booleans = (sizes_at q).booleans;
      rationals = (sizes_at q).rationals;
      clauses = n;
    }) (drop layout.first_clause q) layout.first_clause)) c.u16_at-n.ensures
    ∙ ap outline (sym (problem-good q (header (goal.at.returns c).After-u16_at-n) (rw c.u16_at-n.ensures at c.if-n.false)))
