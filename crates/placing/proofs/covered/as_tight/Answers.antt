-- `covered::as_tight` meets its contract. Assumes nothing.
use mathlib.Core.Path.{◌≡◌, sym, ap, ◌∙◌}
use mathlib.Core.Bool.{Bool, true, false, ◌&&◌, ◌||◌}
use mir.Syntax.{w64}
use mir.Facts.{to_z-of_z}
use borrow.Author.Rules.{sfits_of}
use lib.Signed.{lt_z}
use lib.Dec.{leb}
use Rattle.rules.specs.Lists.{same}
use Rattle.rules.specs.Arithmetic.{equal}
use Rattle.rules.specs.Elimination.{as_tight}
use Rattle.lines.specs.declared.line.Line.{Line}
use Rattle.lines.specs.Line.{meaning}
use Rattle.steps.specs.Lines.{line_at}
use Rattle.steps.specs.Fields.{relation-bytes, bound-bytes}
use Rattle.placing.specs.Tight.{tight-none, tight-never, tight-by}
use Rattle.placing.proofs.covered.as_tight.Goals as goal
use Rattle.placing.proofs.covered.as_tight.Goals.{After-relation_at-relation, Else-relation-eq0}

-- behind both relations: the two lines, and that these are theirs
module _ (c : After-relation_at-relation) where
  abbrev earlier : Line
  earlier = line_at c.args.proof.now c.args.i

  abbrev this : Line
  this = line_at c.args.bytes.now 0

  earlier-is : c.relation_at-earlier.result ≡ earlier.relation
  earlier-is = c.relation_at-earlier.ensures ∙ relation-bytes c.args.proof.now c.args.i c.requires.has_step

  abbrev bound_tight : Bool
  bound_tight =
      lt_z earlier.bound this.bound || equal earlier.bound this.bound && leb this.relation earlier.relation

  this-is : c.relation_at-relation.result ≡ this.relation
  this-is = c.relation_at-relation.ensures ∙ relation-bytes c.args.bytes.now 0 c.requires.has_step_2

pub returns-then-earlier-eq0 : goal.returns-then-earlier-eq0
returns-then-earlier-eq0 c = sym (tight-none (earlier (goal.at.returns-then-earlier-eq0 c).After-relation_at-relation)
    (this (goal.at.returns-then-earlier-eq0 c).After-relation_at-relation)
    (sym (earlier-is (goal.at.returns-then-earlier-eq0 c).After-relation_at-relation) ∙ c.if-earlier-eq0.true))

pub returns-then-relation-eq0 : goal.returns-then-relation-eq0
returns-then-relation-eq0 c = sym (tight-never (earlier (goal.at.returns-then-relation-eq0 c).After-relation_at-relation)
    (this (goal.at.returns-then-relation-eq0 c).After-relation_at-relation)
    (λ e. c.if-earlier-eq0.false (earlier-is (goal.at.returns-then-relation-eq0 c).After-relation_at-relation ∙ e))
    (sym (this-is (goal.at.returns-then-relation-eq0 c).After-relation_at-relation) ∙ c.if-relation-eq0.true))

-- both have a constraint
decides : (c : Else-relation-eq0) → as_tight (meaning (earlier (goal.at.Else-relation-eq0 c).After-relation_at-relation)).constraint
    (meaning (this (goal.at.Else-relation-eq0 c).After-relation_at-relation)).constraint
    ≡ same equal (earlier (goal.at.Else-relation-eq0 c).After-relation_at-relation).coefficients
    (this (goal.at.Else-relation-eq0 c).After-relation_at-relation).coefficients
    && bound_tight (goal.at.Else-relation-eq0 c).After-relation_at-relation
decides c = tight-by (earlier (goal.at.Else-relation-eq0 c).After-relation_at-relation)
    (this (goal.at.Else-relation-eq0 c).After-relation_at-relation) c.requires.shaped.0 c.requires.shaped.1
    (λ e. c.if-earlier-eq0.false (earlier-is (goal.at.Else-relation-eq0 c).After-relation_at-relation ∙ e))
    (λ e. c.if-relation-eq0.false (this-is (goal.at.Else-relation-eq0 c).After-relation_at-relation ∙ e))

pub returns-then-not-same_coefficients : goal.returns-then-not-same_coefficients
returns-then-not-same_coefficients c =
    let differ : c.same_coefficients.result ≡ false = c.if-not-same_coefficients.true in
    sym (decides (goal.at.returns-then-not-same_coefficients c).Else-relation-eq0
    ∙ ap (λ (t : Bool). t && bound_tight (goal.at.returns-then-not-same_coefficients c).After-relation_at-relation)
    (sym c.same_coefficients.ensures ∙ differ))

pub returns : goal.returns
returns c =
    let alike : c.same_coefficients.result ≡ true = c.if-not-same_coefficients.false in
    let one = to_z-of_z {w = w64} (sfits_of c.bound_at.type_inv) ∙ c.bound_at.ensures
    ∙ bound-bytes c.args.proof.now c.args.i c.requires.has_step in
    let other = to_z-of_z {w = w64} (sfits_of c.bound_at-2.type_inv) ∙ c.bound_at-2.ensures
    ∙ bound-bytes c.args.bytes.now 0 c.requires.has_step_2 in
    c.bound_as_tight.ensures
    ∙ (λ j. lt_z (one j) (other j) || equal (one j) (other j) && leb (this-is (goal.at.returns c).After-relation_at-relation j)
    (earlier-is (goal.at.returns c).After-relation_at-relation j))
    ∙ sym (decides (goal.at.returns c).Else-relation-eq0 ∙ ap (λ (t : Bool). t
    && bound_tight (goal.at.returns c).After-relation_at-relation) (sym c.same_coefficients.ensures ∙ alike))
