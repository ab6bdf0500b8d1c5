-- `put_signed` meets its contract. Assumes nothing.
use mathlib.Core.Path.{◌≡◌}
use native.Mathlib.Omega.{arith}
use lib.IntN.{nat_abs}
use mir.Facts.{to_z-of_z}
use Rattle.printing.specs.Appended.{appended-byte, appended-++}
use Rattle.printing.specs.Decimals.{signed-positive, signed-negative}
use Rattle.printing.proofs.words.put_signed.Goals as goal
use Rattle.printing.proofs.words.put_signed.Goals.{After-unsigned_abs-size}

size_is : (c : After-unsigned_abs-size) → c.unsigned_abs-size.result ≡ nat_abs c.args.z
size_is c = rw (to_z-of_z c.ranges.z) at c.unsigned_abs-size.ensures.value

pub returns-then-z-lt0-clause-appended : goal.returns-then-z-lt0-clause-appended
returns-then-z-lt0-clause-appended c =
    let a = c.args in
    let n = size_is (goal.at.returns-then-z-lt0-clause-appended c).After-unsigned_abs-size in
    let e = signed-negative a.z (rw (to_z-of_z c.ranges.z) at c.if-z-lt0.true) in
    let minus = appended-byte a.at 45 a.out.now (omega (arith, c.requires)) in
    rw e (appended-++ (omega (arith, c.requires)) minus (rw n at c.put_number.ensures.appended))

pub returns-else-z-lt0-clause-appended : goal.returns-else-z-lt0-clause-appended
returns-else-z-lt0-clause-appended c =
    let n = size_is (goal.at.returns-else-z-lt0-clause-appended c).After-unsigned_abs-size in
    let e = signed-positive c.args.z (rw (to_z-of_z c.ranges.z) at c.if-z-lt0.false) in
    rw (e, ← n) c.put_number-else-z-lt0.ensures.appended
