use mathlib.Core.Path.{◌≡◌, refl, sym, ap, ◌∙◌}
use mathlib.Core.Bool.{Bool, ◌||◌, or-true, or-false}
use Prim.Native.Nat.{ℕ, suc, ◌-◌}
use native.Mathlib.Omega.{arith}
use borrow.Author.Rules.{rules}
use Rattle.rules.specs.Elimination.{covered}
use Rattle.lines.specs.Line.{meaning}
use Rattle.steps.specs.Lines.{line_at}
use Rattle.steps.specs.Fields.{one-step}
use Rattle.steps.specs.Decoding.{decoded, decoded-encoded}
use Rattle.steps.specs.declared.origin.Origin.{Origin}
use Rattle.steps.specs.Encoding.{encoded}
use Rattle.steps.specs.Origin.{header_of, loaded_by}
use Rattle.steps.specs.Held.{steps_in, held-ready}
use Rattle.placing.specs.Covered.{covered_none, covered-last}
use Rattle.placing.proofs.covered.covered.Goals as goal
use Rattle.placing.proofs.covered.covered.Goals.{After-drops, After-encode-bytes}

-- the bytes that are looked for are the line's
line-is : (c : After-encode-bytes) → line_at c.encode-bytes.result 0 ≡ c.args.line
line-is c =
    one-step c.encode-bytes.result (search (rules, c))
    ∙ ap decoded (c.encode-bytes.ensures ∙ ap (λ (o : Origin). encoded (header_of o) (meaning c.args.line)) c.loaded.ensures)
    ∙ decoded-encoded (header_of (loaded_by 0 0)) c.args.line c.requires.ready (search (rules, c.well_formed))
    (search (rules, c.well_formed))
    (search (rules, c.well_formed))

pub loop-i-init : goal.loop-i-init
loop-i-init c = (omega arith, refl)

pub drops-requires : goal.drops-requires
drops-requires c = record {
  has_step = search rules;
  has_step_2 = search rules;
  shaped = (
    (held-ready c.requires.held (c.loop-i.i - 1) (omega arith)).shaped,
    rw (line-is (goal.at.drops-requires c).After-encode-bytes) c.requires.ready.shaped,
  );
}

-- one step back
module _ (c : After-drops) where
  -- whether one of the first k steps drops the line
  abbrev among : ℕ → Bool
  among k = covered (meaning (line_at c.encode-bytes.result 0)) (steps_in c.args.proof.now k)

  next : among c.args.n ≡ among (c.loop-i.i - 1) || c.drops.result
  next =
      let one : c.loop-i.i ≡ suc (c.loop-i.i - 1) = omega arith in
      c.loop-i.invariant.1 ∙ ap among one ∙ covered-last _ _ (c.loop-i.i - 1) ∙ ap (λ (t : Bool). among (c.loop-i.i - 1) || t)
      (sym c.drops.ensures)

pub returns-then-drops : goal.returns-then-drops
returns-then-drops c =
    let before = among (goal.at.returns-then-drops c).After-drops (c.loop-i.i - 1) in
    rw (← line-is (goal.at.returns-then-drops c).After-encode-bytes)
    (sym (next (goal.at.returns-then-drops c).After-drops ∙ ap (λ (t : Bool). before || t) c.if-drops.true ∙ or-true before))

pub loop-i-preserved : goal.loop-i-preserved
loop-i-preserved c =
    let before = among (goal.at.loop-i-preserved c).After-drops (c.loop-i.i - 1) in
    (omega arith, next (goal.at.loop-i-preserved c).After-drops ∙ ap (λ (t : Bool). before || t) c.if-drops.false ∙ or-false before)

pub returns : goal.returns
returns c =
    let proof = c.args.proof.now in
    let line = meaning (line_at c.encode-bytes.result 0) in
    let none : c.loop-i.i ≡ 0 = omega arith in
    rw (← line-is (goal.at.returns c).After-encode-bytes) (sym (c.loop-i.invariant.1 ∙ ap (λ (k : ℕ). covered line (steps_in proof k)) none
    ∙ covered_none line proof))
