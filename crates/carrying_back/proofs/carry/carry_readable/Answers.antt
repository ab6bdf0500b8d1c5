-- `carry::carry_readable` meets its contract: a law for each return. Assumes nothing.
use Prim.Native.Nat.{◌≤◌}
use native.Mathlib.Omega.{arith}
use lib.ListN.{length}
use Rattle.rules_types.specs.Limits as limit
use Rattle.theory_bytes.specs.Bytes.{all-bytes}
use Rattle.masks.specs.Mask.{outside}
use Rattle.kept_rationals.specs.Kept.{inside}
use Rattle.carrying_back.specs.Carry.{gives, NewRationals, gives-many, gives-short, gives-no-room, NewModel, gives-bad, gives-beyond}
use Rattle.carrying_back.specs.Carry.{gives-done}
use Rattle.carrying_back.proofs.carry.carry_readable.Goals as goal
use Rattle.carrying_back.proofs.carry.carry_readable.Goals.{After-place_of-r, After-occurring-occurs}

-- how many rational variables the new problem has
new-rationals : (p : After-place_of-r) → NewRationals p.args.input.now p.args.sizes (inside p.gather-mask.result.mask) p.place_of-r.result
new-rationals p =
    record { given = p.requires; masked = p.gather-mask.ensures.mask; count = p.place_of-r.ensures }

pub returns-then-r-gt-RATIONALS : goal.returns-then-r-gt-RATIONALS
returns-then-r-gt-RATIONALS c = record {
  value = (gives (gives-many
      (new-rationals (goal.at.returns-then-r-gt-RATIONALS c).After-place_of-r) _ _ c.if-r-gt-RATIONALS.true)).0;
  target_after =
      (gives (gives-many (new-rationals (goal.at.returns-then-r-gt-RATIONALS c).After-place_of-r) _ _ c.if-r-gt-RATIONALS.true)).1;
}

pub returns-then-bytes-lt-MODEL_BYTES : goal.returns-then-bytes-lt-MODEL_BYTES
returns-then-bytes-lt-MODEL_BYTES c =
    let new = new-rationals (goal.at.returns-then-bytes-lt-MODEL_BYTES c).After-place_of-r in
    elim c.then-bytes-lt-MODEL_BYTES.branch [
      | goal.then-bytes-lt-MODEL_BYTES-via-then-bytes-lt-MODEL_BYTES w ↦
          let t = gives (gives-short new _ _ c.if-r-gt-RATIONALS.false w.if-bytes-lt-MODEL_BYTES.true) in
          record { value = t.0; target_after = t.1 }
      | goal.then-bytes-lt-MODEL_BYTES-via-else-bytes-lt-MODEL_BYTES+then-target-lt-MODEL_BYTES w ↦
          let t = gives (gives-no-room new _ _ c.if-r-gt-RATIONALS.false w.if-bytes-lt-MODEL_BYTES.false w.if-target-lt-MODEL_BYTES.true) in
          record { value = t.0; target_after = t.1 }
    ]

-- the model that is read for it
module _ (m : After-occurring-occurs) where
  room : limit.model_bytes ≤ length m.args.target.now
  room = m.if-target-lt-MODEL_BYTES.false

  new-model : NewModel m.args.input.now m.args.bytes.now m.args.target.now m.args.sizes
      (inside m.gather-mask.result.mask) (outside m.occurring-occurs.result) m.place_of-r.result
  new-model = record {
    rationals = new-rationals (goal.at.After-occurring-occurs m).After-place_of-r;
    all = all-bytes m.args.input.now (λ i. omega (arith, m.type_inv.input i));
    few = m.if-r-gt-RATIONALS.false;
    size = m.if-bytes-lt-MODEL_BYTES.false;
    room = room;
    opened = m.occurring-occurs.ensures;
  }

pub returns-in-Err : goal.returns-in-Err
returns-in-Err c =
    let t = gives (gives-bad (new-model (goal.at.returns-in-Err c).After-occurring-occurs) _ c.in-Err.ensures) in
    record { value = t.0; target_after = t.1 }

pub returns-in-Err-carried : goal.returns-in-Err-carried
returns-in-Err-carried c =
    let t = gives (gives-beyond (new-model (goal.at.returns-in-Err-carried c).After-occurring-occurs) c.in-Ok.new c.in-Ok.ensures _
    c.in-Err-carried.ensures) in
    record { value = t.0; target_after = t.1 }

pub returns : goal.returns
returns c =
    let t = gives (gives-done (new-model (goal.at.returns c).After-occurring-occurs) c.in-Ok.new c.in-Ok.ensures
    c.in-Ok-carried.numerators c.in-Ok-carried.ensures _ c.write_model.ensures) in
    record { value = t.0; target_after = t.1 }
