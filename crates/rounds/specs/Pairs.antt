-- A pair's resolvent: dropped, an overflow, or put to the tests of a line.
use Rattle.std.specs.Prelude.{◌≡◌, refl, Bool, true, cond, List, ℕ, suc, ◌+◌, ◌≤◌, ◌<◌}
use Rattle.std.proofs.Common.{ap, ◌∙◌, arith}
use Rattle.std.proofs.Math.Bool.{false}
use Rattle.std.proofs.Math.Option.{Option}
use Rattle.std.proofs.Math.Numerals.{add-one}
use Rattle.rules_types.specs.Limits as limit
use Rattle.rules_types.specs.declared.limits.Limits.{Limits}
use Rattle.rules.specs.Lines as rules
use Rattle.rules.specs.Lines.{positively, negatively}
use Rattle.rules.specs.Resolve.{resolve}
use Rattle.rules.specs.Steps.{Origin, resolved, header}
use Rattle.rules.specs.Checker.{variable_named}
use Rattle.rules.specs.Elimination.{State, overflows, limited, Pair, placed, add, tried}
use Rattle.lines.specs.Line.{meaning}
use Rattle.steps.specs.Lines.{line_at}
use Rattle.resolvents.specs.declared.resolve.Status.TheVariants.{Dropped, Overflows, Made}
use Rattle.resolvents.specs.declared.resolve.Resolved.{Resolved}
use Rattle.resolvents.specs.Resolved.{status_of, line_of, Gives}
use Rattle.placing.specs.declared.point.Progress.{Progress}
use Rattle.placing.specs.declared.point.Progress.TheVariants.{Running, Overflow}
use Rattle.placing.specs.declared.point.Point.{Point}
use Rattle.steps.specs.Held.{steps_in}
use Rattle.placing.specs.Point.{state_of, state_at, Standing, leads-none, Reaches, added}
use Rattle.lines.specs.declared.order.Variable.{Variable}
use Rattle.lines.specs.declared.order.Variable.TheVariants.{Rational, Boolean}
use Rattle.lines.specs.Order.{variable_of, Ranged}
use Rattle.rounds.specs.Sides.{numbered}
use Rattle.steps.specs.declared.origin.Origin as words
use Rattle.steps.specs.Origin.{header_of, origin_of, Named}
use Rattle.rounds.specs.declared.pair.Parents.{Parents}

-- the numbers of its origin
unfoldable pub how_of : Variable → ℕ
how_of (Rational f) = 1
how_of (Boolean i) = 2

unfoldable pub which_of : Variable → ℕ
which_of (Rational f) = f
which_of (Boolean i) = i

abbrev pub origin_for : Parents → words.Origin
origin_for x = record { how = how_of x.variable; which = which_of x.variable; first = x.upper; second = x.lower }

pub origin-is : (x : Parents) → origin_of (origin_for x) ≡ resolved (variable_of x.variable) x.upper x.lower
unfolding origin_of variable_named how_of which_of variable_of
origin-is x = by x.variable
  where
    by : (v : Variable) → origin_of (origin_for (record { variable = v; upper = x.upper; lower = x.lower }))
        ≡ resolved (variable_of v) x.upper x.lower
    by (Rational f) = refl
    by (Boolean b) = refl

pub named-pair : (x : Parents) → x.upper < limit.most_steps → x.lower < limit.most_steps → Named (origin_for x)
unfolding origin_of variable_named how_of which_of header
named-pair x h k = record { is = by x.variable; first_fits = h; second_fits = k }
  where
    by : (v : Variable) → let o = origin_for (record { variable = v; upper = x.upper; lower = x.lower }) in
        header (origin_of o) ≡ header_of o
    by (Rational f) = refl
    by (Boolean b) = refl

-- the pair of two lines of the proof
abbrev pub pair_of : List ℕ → Parents → Pair
pair_of proof x = record { upper = numbered proof x.upper; lower = numbered proof x.lower }

-- what is left of the resolvent
abbrev pub left : Resolved → Option rules.Line
left r = line_of r.status r.line

-- ---- its three outcomes
-- the pair tried and counted, with what is left of its resolvent
abbrev pub settled : Limits → List ℕ → Parents → Option rules.Line → Point → State
settled limits proof x o p =
    tried (limited limits) (variable_of x.variable) (pair_of proof x) o (steps_in proof p.steps) (suc p.pairs)

abbrev pub settled_by : Resolved → Limits → List ℕ → Parents → Point → State
settled_by r limits proof x p = settled limits proof x (left r) p

overflow-only : (b : Bool) → Overflows ≡ cond b Overflows Made → b ≡ true
overflow-only true e = refl
overflow-only false e = let z : ◌≡◌ {A = ℕ} 0 1 = cc in absurd (omega arith)

made-only : (b : Bool) → Made ≡ cond b Overflows Made → b ≡ false
made-only true e = let z : ◌≡◌ {A = ℕ} 0 1 = cc in absurd (omega arith)
made-only false e = refl

-- the point with one pair more
abbrev pub counted : Point → Progress → Point
counted p g = record { progress = g; steps = p.steps; pairs = p.pairs + 1 }

module _ {limits : Limits} {proof : List ℕ} (x : Parents) (r : Resolved) (p : Point) where
  pub settle-dropped : Standing limits proof p.steps → r.status ≡ Dropped
      → Reaches limits proof p proof (counted p Running) (settled_by r limits proof x p)
  unfolding state_at state_of tried line_of
  settle-dropped h e = record { is = rw (add-one p.pairs, e); leads = leads-none h }

  module _ (gives : Gives (left r) r) where
    pub settle-overflow : Standing limits proof p.steps → r.status ≡ Overflows
        → Reaches limits proof p proof (counted p Overflow) (settled_by r limits proof x p)
    unfolding state_at state_of tried add placed limited line_of status_of
    settle-overflow h e = record {
      is = rw (add-one p.pairs, e, overflow-only (overflows (meaning r.line)) (rw e at gives.status));
      leads = leads-none h;
    }

    pub settle-made : r.status ≡ Made → (after : List ℕ) (q : Point)
        → Reaches limits proof (counted p Running) after q
        (added limits proof (counted p Running) (record { origin = origin_for x; line = r.line }))
        → Reaches limits proof p after q (settled_by r limits proof x p)
    unfolding tried limited line_of status_of
    settle-made e after q k =
        record {
          is =
              k.is
              ∙ rw (e, add-one p.pairs, made-only (overflows (meaning r.line)) (rw e at gives.status))
              (ap (λ (o : Origin). add (limited limits) false (record { origin = o; line = meaning r.line }) (steps_in proof p.steps)
              (suc p.pairs)) (origin-is x));
          leads = k.leads;
        }

-- ---- one pair
pub record Pairable (proof : List ℕ) (x : Parents) (p : Point) : Type 0 where
  pub ranged : Ranged x.variable
  pub upper-held : x.upper < p.steps
  pub lower-held : x.lower < p.steps
  pub few : p.steps ≤ limit.most_steps
  pub countable : p.pairs < 1000000000000
  pub upper : positively (variable_of x.variable) (meaning (line_at proof x.upper)) ≡ true
  pub lower : negatively (variable_of x.variable) (meaning (line_at proof x.lower)) ≡ true

abbrev pub resolvent_of : List ℕ → Parents → Option rules.Line
resolvent_of proof x = resolve (variable_of x.variable) (meaning (line_at proof x.upper)) (meaning (line_at proof x.lower))

abbrev pub tried_pair : Limits → List ℕ → Parents → Point → State
tried_pair limits proof x p = settled limits proof x (resolvent_of proof x) p
