-- `kept::put_step` meets its contract: its bytes, then the numbers of its parents. Assumes nothing.
use mathlib.Core.Path.{◌≡◌, sym, ap, ◌∙◌}
use Prim.Native.Nat.{◌<◌}
use native.Mathlib.Omega.{arith}
use lib.ListN.{length}
use Rattle.rules_types.specs.Limits.{steps}
use Rattle.rules.specs.Trim.{count_below}
use Rattle.trimming.specs.Marks.{words, is_marked}
use Rattle.trimming.specs.Numbers.{Counted}
use Rattle.trimming.specs.Parents.{has-step, origin-first, origin-second, origin-loaded, origin-resolved, parents-fit}
use Rattle.trimming.specs.Kept.{put-loaded, put-resolved}
use borrow.Author.Rules.{rules}
use Rattle.trimming.proofs.kept.put_step.Goals as goal
use Rattle.trimming.proofs.kept.put_step.Goals.{Else-origin-eq0}

pub returns-then-origin-eq0 : goal.returns-then-origin-eq0
returns-then-origin-eq0 c =
    let h = has-step c.requires.trimmable c.requires.k_bound in
    put-loaded (count_below (is_marked c.args.marks.now)) c.args.proof.now c.args.target.now c.args.k c.args.n
    h c.requires.has_step
    (origin-loaded c.requires.trimmable c.requires.k_bound c.origin_at-origin.ensures c.if-origin-eq0.true) c.put_bytes.ensures

-- what both calls of `number` ask for
asked : (c : Else-origin-eq0) → (length c.args.marks.now ≡ words) × (Counted c.args.marks.now c.args.before.now
    × ((c.origin_at-origin.result.first < steps) × (c.origin_at-origin.result.second < steps)))
asked c = (
  c.requires.marks_len,
  (c.requires.counted, parents-fit c.requires.trimmable c.requires.k_bound c.origin_at-origin.ensures c.if-origin-eq0.false),
)

pub number-first-requires : goal.number-first-requires
number-first-requires c = let a = asked c in record { marks_len = a.0; counted = a.1.0; i_lt_steps = a.1.1.0 }

pub number-second-requires : goal.number-second-requires
number-second-requires c = let a = asked (goal.at.number-second-requires c).Else-origin-eq0 in
    record { marks_len = a.0; counted = a.1.0; i_lt_steps = a.1.1.1 }

pub put_u16-requires-2 : goal.put_u16-requires-2
put_u16-requires-2 c =
    let e : length c.put_u16.new.s ≡ length c.args.target.now = search rules in
    omega (arith, c.requires.has_step)

pub returns : goal.returns
returns c =
    let k = c.requires.k_bound in
    let is = c.origin_at-origin.ensures in
    let number = count_below (is_marked c.args.marks.now) in
    put-resolved number c.args.proof.now c.args.target.now c.args.k c.args.n
    (has-step c.requires.trimmable k) c.requires.has_step (origin-resolved c.requires.trimmable k is c.if-origin-eq0.false)
    c.put_bytes.ensures c.put_u16.ensures c.put_u16-2.ensures
    (c.number-first.ensures ∙ ap number (sym (origin-first c.requires.trimmable k is)))
    (c.number-second.ensures ∙ ap number (sym (origin-second c.requires.trimmable k is)))
