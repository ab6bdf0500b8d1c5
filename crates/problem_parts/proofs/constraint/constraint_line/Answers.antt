-- `constraint::constraint_line` meets its contract: the line as written, or with all signs turned.
use mathlib.Core.Path.{◌≡◌, refl, sym, ap, ◌∙◌, subst}
use mathlib.Core.Bool.{Bool, true, false}
use mathlib.Core.List.{List, map}
use mathlib.Core.Option.{Option, some}
use Prim.Native.Nat.{ℕ, ◌+◌, ◌-◌}
use native.Mathlib.Omega.{arith}
use borrow.Author.Rules.{sfits_of}
use mir.Syntax.{w64}
use mir.Val.{to_z, of_z}
use mir.Facts.{to_z-of_z}
use lib.IntN.{ℤ, pos}
use lib.ListN.{get_or}
use Rattle.rules_types.specs.Limits as limit
use Rattle.rules_types.specs.Layout as layout
use Rattle.rules.specs.Problem.{Constraint, relation_of}
use Rattle.rules.specs.Readings.{turns, signed}
use Rattle.rules.specs.Lines as rules
use Rattle.theory_vectors.specs.Amounts.{Small}
use Rattle.theory_vectors.specs.Signed.{signed_same}
use Rattle.masks.specs.Mask.{bits}
use Rattle.problem_scan.specs.Values.{behind-is, comparison_at, constraint_at}
use Rattle.problem_scan.specs.Sound.{padded-small}
use Rattle.lines.specs.declared.line.Line.{Line}
use Rattle.lines.specs.Line.{constraint_of, meaning, Ready}
use Rattle.problem_parts.specs.Constraint.{relation-within, constraint-words, turned-ready}
use Rattle.problem_parts.proofs.constraint.constraint_line.Goals as goal
use Rattle.problem_parts.proofs.constraint.constraint_line.Goals.{After-relation_of, Start}

pub row-coefficients-requires : goal.row-coefficients-requires
row-coefficients-requires c = record {
  count_le_rationals = c.requires.r_le_rationals;
  from_in_bounds = omega (arith, behind-is 4 c.args.r (c.args.at + layout.comparison_coefficients), c.requires.sound_comparison.within);
}

-- the line as written
module _ (c : After-relation_of) where
  abbrev q : List ℕ
  q = c.args.input.now

  abbrev bound : ℤ
  bound = to_z w64 (of_z w64 c.written_bound-bound.result)

  abbrev line : Line
  line = record {
    positive = c.args.positive;
    negative = c.args.negative;
    relation = c.relation_of.result;
    coefficients = c.row-coefficients.result;
    bound = bound;
  }

  bound-is : bound ≡ (comparison_at q c.args.r c.args.at).bound
  bound-is = to_z-of_z {w = w64} (sfits_of c.written_bound-bound.type_inv) ∙ c.written_bound-bound.ensures

  ready : Ready line
  unfolding comparison_at
  ready =
      let h = c.requires.sound_comparison in
      let n = relation-within q false c.args.r c.args.at c.relation_of.result c.relation_of.ensures in
      record {
        shaped = record {
          related = n.1;
          coefficients = λ z. absurd (omega (arith, n.0, z));
          bound = λ z. absurd (omega (arith, n.0, z));
        };
        coefficients = record {
          small = λ i. subst (λ (zs : List ℤ). Small (get_or zs i (pos 0))) (sym c.row-coefficients.ensures)
              (padded-small q c.args.r (c.args.at + layout.comparison_coefficients) (limit.rationals - c.args.r)
              h.coefficients i);
        };
        bound = subst Small (sym bound-is) h.bound;
      }

  -- its words stand for the constraint, where the signs are turned or not as the comparison says
  words : (turned : Bool) → turned ≡ turns c.args.second (relation_of (get_or q c.args.at 0)) → (cs : List ℤ) (b : ℤ)
      → cs ≡ map (signed turned) line.coefficients → b ≡ signed turned line.bound
      → constraint_of line.relation cs b ≡ some (constraint_at q c.args.second c.args.r c.args.at)
  words turned t cs b e f =
      constraint-words q c.args.second c.args.r c.args.at c.relation_of.result c.relation_of.ensures
      turned t cs b (e ∙ ap (map (signed turned)) c.row-coefficients.ensures) (f ∙ ap (signed turned) bound-is)

pub turned_line-requires : goal.turned_line-requires
turned_line-requires c = ready (goal.at.turned_line-requires c).After-relation_of

-- the line with these sets of Boolean variables and this constraint
abbrev whole : Start → Option Constraint → rules.Line
whole s o = record {
  positive = bits limit.all_booleans s.args.positive;
  negative = bits limit.all_booleans s.args.negative;
  constraint = o;
}

pub returns-then-turns : goal.returns-then-turns
unfolding meaning
returns-then-turns c =
    let e = c.turned_line.ensures in record {
      result_value = ap meaning e
          ∙ ap (whole (goal.at.returns-then-turns c).Start) (words (goal.at.returns-then-turns c).After-relation_of true
          (sym c.if-turns.true ∙ c.turns.ensures) _ _ refl refl);
      ready =
          subst Ready (sym e) (turned-ready (line (goal.at.returns-then-turns c).After-relation_of)
          (ready (goal.at.returns-then-turns c).After-relation_of));
    }

pub returns : goal.returns
unfolding meaning signed
returns c = record {
  result_value = ap (whole (goal.at.returns c).Start)
      (words (goal.at.returns c).After-relation_of false (sym c.if-turns.false ∙ c.turns.ensures) _ _
      (sym (signed_same (line (goal.at.returns c).After-relation_of).coefficients)) refl);
  ready =
      ready (goal.at.returns c).After-relation_of;
}
