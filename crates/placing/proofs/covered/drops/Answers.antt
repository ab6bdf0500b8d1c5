-- `covered::drops` meets its contract. Assumes nothing.
use mathlib.Core.Path.{◌≡◌, sym, ap, ◌∙◌}
use mathlib.Core.Bool.{Bool, true, ◌&&◌, and-true, and-false}
use Prim.Native.Nat.{ℕ}
use Rattle.rules_types.specs.Limits as limit
use Rattle.rules.specs.Lines.{subset}
use Rattle.rules.specs.Elimination.{drops}
use Rattle.masks.specs.Mask.{bits}
use Rattle.lines.specs.declared.line.Line.{Line}
use Rattle.lines.specs.Line.{meaning}
use Rattle.steps.specs.Lines.{line_at}
use Rattle.steps.specs.Fields.{positive-bytes, negative-bytes}
use Rattle.placing.proofs.covered.drops.Goals as goal
use Rattle.placing.proofs.covered.drops.Goals.{After-as_tight, After-subset}

-- what it is, behind the test of the constraints
module _ (c : After-as_tight) where
  abbrev earlier : Line
  earlier = line_at c.args.proof.now c.args.i

  abbrev this : Line
  this = line_at c.args.bytes.now 0

  abbrev within : ℕ → ℕ → Bool
  within a b = subset (bits limit.all_booleans a) (bits limit.all_booleans b)

  abbrev positives : Bool
  positives = within earlier.positive this.positive

  abbrev negatives : Bool
  negatives = within earlier.negative this.negative

  is : drops (meaning earlier) (meaning this)
      ≡ positives && negatives && c.as_tight.result
  unfolding drops meaning
  is = sym (λ j. positives && negatives && c.as_tight.ensures j)

pub returns-then-not-as_tight : goal.returns-then-not-as_tight
returns-then-not-as_tight c = sym (is (goal.at.returns-then-not-as_tight c).After-as_tight
    ∙ ap (λ (t : Bool). positives (goal.at.returns-then-not-as_tight c).After-as_tight
    && negatives (goal.at.returns-then-not-as_tight c).After-as_tight && t) (c.if-not-as_tight.true)
    ∙ and-false (positives (goal.at.returns-then-not-as_tight c).After-as_tight
    && negatives (goal.at.returns-then-not-as_tight c).After-as_tight))

-- the test of the positive literals
positives-are : (c : After-subset) → c.subset.result ≡ positives (goal.at.After-subset c).After-as_tight
positives-are c =
    let one = c.positive_at.ensures ∙ positive-bytes c.args.proof.now c.args.i c.requires.has_step in
    let other = c.positive_at-2.ensures ∙ positive-bytes c.args.bytes.now 0 c.requires.has_step_2 in
    c.subset.ensures ∙ (λ j. within (goal.at.After-subset c).After-as_tight (one j) (other j))

pub returns-then-not-subset : goal.returns-then-not-subset
returns-then-not-subset c =
    sym (is (goal.at.returns-then-not-subset c).After-as_tight ∙ ap
    (λ (t : Bool). t && negatives (goal.at.returns-then-not-subset c).After-as_tight && c.as_tight.result)
    (sym (positives-are (goal.at.returns-then-not-subset c).After-subset) ∙ c.if-not-subset.true))

pub returns : goal.returns
returns c =
    let one = c.negative_at.ensures ∙ negative-bytes c.args.proof.now c.args.i c.requires.has_step in
    let other = c.negative_at-2.ensures ∙ negative-bytes c.args.bytes.now 0 c.requires.has_step_2 in
    let tight : c.as_tight.result ≡ true = c.if-not-as_tight.false in
    let inside : c.subset.result ≡ true = c.if-not-subset.false in
    c.subset-2.ensures
    ∙ (λ j. within (goal.at.returns c).After-as_tight (one j) (other j))
    ∙ sym (is (goal.at.returns c).After-as_tight ∙ (λ j. (sym (positives-are (goal.at.returns c).After-subset) ∙ inside) j
    && negatives (goal.at.returns c).After-as_tight && tight j) ∙ and-true (negatives (goal.at.returns c).After-as_tight))
