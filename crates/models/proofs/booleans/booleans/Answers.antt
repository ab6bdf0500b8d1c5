use Rattle.std.proofs.Common.{◌≡◌, sym, ap, ◌∙◌, Bool, not, ◌+◌, arith, get_or}
use Rattle.rules.specs.Model.{is_boolean_byte}
use Rattle.masks.specs.Mask.{outside}
use Rattle.models.specs.Booleans.{flags-none, flags-more, flags-bad, flags-done}
use Rattle.models.proofs.booleans.booleans.Goals as goal
use Rattle.models.proofs.booleans.booleans.Goals.{After-is_boolean_byte}

pub loop-i-init : goal.loop-i-init
loop-i-init c = flags-none

-- the test of the byte
tested : (c : After-is_boolean_byte) → is_boolean_byte (outside c.args.occurring c.loop-i.i)
    (get_or c.args.s.now (c.args.from + c.loop-i.i) 0)
    ≡ c.is_boolean_byte.result
unfolding outside
tested c =
    sym (c.is_boolean_byte.ensures
    ∙ ap (λ (o : Bool). is_boolean_byte (not o) (get_or c.args.s.now (c.args.from + c.loop-i.i) 0)) c.member.ensures)

pub returns-then-not-is_boolean_byte : goal.returns-then-not-is_boolean_byte
returns-then-not-is_boolean_byte c =
    flags-bad c.loop-i.invariant c.loop-i-test.true c.requires.count_in_bounds
    (tested (goal.at.returns-then-not-is_boolean_byte c).After-is_boolean_byte ∙ c.if-not-is_boolean_byte.true)

pub loop-i-preserved : goal.loop-i-preserved
loop-i-preserved c =
    flags-more c.joined-mask.result c.loop-i.invariant (omega (arith, c.loop-i-test.true, c.requires.count_le_booleans))
    (tested (goal.at.loop-i-preserved c).After-is_boolean_byte ∙ c.if-not-is_boolean_byte.false) c.joined-mask.ensures

pub returns : goal.returns
returns c = flags-done c.loop-i.invariant (omega arith) c.requires.count_in_bounds
