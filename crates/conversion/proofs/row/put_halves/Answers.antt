-- `row::put_halves` meets its contract: one number is stored, or two. Assumes nothing.
use mathlib.Core.Path.{◌≡◌, ap, ◌∙◌}
use Rattle.rules.specs.Bytes.{to_bytes}
use native.Mathlib.Omega.{arith}
use lib.ListN.{length}
use Rattle.theory_bytes.specs.Bytes.{length-to_bytes}
use Rattle.fields.specs.Field.{length-stored}
use Rattle.conversion.specs.Row.{half-both, half-least, wrote_kept, wrote-both}
use Rattle.conversion.proofs.row.put_halves.Goals as goal

pub put_u32-requires : goal.put_u32-requires
put_u32-requires c =
    omega (arith, c.requires.n_in_bounds, half-least c.args.kept c.args.n)

pub returns-then-kept : goal.returns-then-kept
returns-then-kept c =
    wrote_kept _ _ _ _ c.if-kept.true c.put_u32.ensures

pub put_u32-requires-2 : goal.put_u32-requires-2
put_u32-requires-2 c =
    let l : length c.put_u32.new.s ≡ length c.args.out.now =
    ap length c.put_u32.ensures ∙ length-stored c.args.to (to_bytes 4 c.args.n) c.args.out.now
    (omega (arith, c.requires.n_in_bounds, half-least c.args.kept c.args.n, length-to_bytes 4 c.args.n)) in
    omega (arith, l, c.requires.n_in_bounds, half-both c.args.kept c.args.n c.if-kept.false)

pub returns : goal.returns
returns c =
    wrote-both _ _ _ _ _ c.if-kept.false (omega (arith, c.requires.n_in_bounds)) c.turned.ensures c.put_u32.ensures c.put_u32-2.ensures
