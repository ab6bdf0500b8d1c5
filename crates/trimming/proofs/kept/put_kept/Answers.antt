use mathlib.Core.Path.{◌≡◌}
use native.Mathlib.Omega.{arith}
use Rattle.rules.specs.Trim.{step_count}
use Rattle.trimming.specs.Kept.{putting-start, putting-fits, putting-next}
use Rattle.trimming.specs.Marks.{is_marked}
use borrow.Author.Rules.{rules}
use Rattle.trimming.proofs.kept.put_kept.Goals as goal

pub loop-k-init : goal.loop-k-init
loop-k-init c = putting-start c.requires.trimmable (is_marked c.args.marks.now) c.requires.standard_in_bounds

pub put_marked-n-requires : goal.put_marked-n-requires
unfolding step_count
put_marked-n-requires c =
    let h = c.loop-k-test.true in
    let f = putting-fits c.requires.trimmable (is_marked c.args.marks.now) c.requires.standard_in_bounds c.loop-k.invariant h in
    record { trimmable = c.requires.trimmable; k_bound = h; marks_len = c.requires.marks_len; counted = c.requires.counted; has_step = f }

pub loop-k-preserved : goal.loop-k-preserved
unfolding step_count
loop-k-preserved c =
    putting-next c.requires.trimmable (is_marked c.args.marks.now) c.requires.standard_in_bounds c.loop-k.invariant c.loop-k-test.true
    c.put_marked-n.ensures (search rules)

pub returns : goal.returns
unfolding step_count
returns c =
    let e : c.loop-k.k ≡ step_count c.args.proof.now = omega (arith, c.loop-k-test.false, c.loop-k.invariant.few) in
    rw (← e) c.loop-k.invariant
