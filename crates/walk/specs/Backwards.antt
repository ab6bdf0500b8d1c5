-- The walk in machine words, from the last round to the first: where it stands at round t, how it goes on, and how it ends.
use Rattle.std.specs.Prelude.{◌≡◌, Bool, ◌||◌, ℕ, suc, ◌≤◌, drop, replicate, None}
use Rattle.std.proofs.Math.Path.{sym, ap, subst}
use Rattle.std.proofs.Common.{◌∙◌, drop_of_length-le}
use Rattle.std.proofs.Math.Bool.{true, false}
use mathlib.Core.List.{List}
use Rattle.std.proofs.Math.Option.{none, some}
use native.Mathlib.Omega.{arith}
use Rattle.std.proofs.Math.IntN.{pos}
use Rattle.std.proofs.Math.ListN.{length, get_or}
use Rattle.rules_types.specs.Limits as limit
use Rattle.rules.specs.Lines.{Line, Variable}
use Rattle.rules.specs.Meaning.{Assignment}
use Rattle.rules.specs.Values.{assign, exceeds, Walked, start, walk_from, walk}
use Rattle.rules.specs.Model.{encode_model, too_large, written}
use Rattle.theory_lists.specs.All.{get_or-replicate-same}
use Rattle.theory_lists.specs.Places.{place-below}
use Rattle.theory_vectors.specs.Amounts.{zeros-amounts}
use Rattle.theory_saturation.specs.Rounds.{At, at_drop}
use Rattle.theory_saturation.specs.Order.{Ordered}
use Rattle.theory_saturation.specs.Unbounded.{Without, walk-zero}
use Rattle.masks.specs.Mask.{bits}
use Rattle.models.specs.declared.model.Model.{Model}
use Rattle.models.specs.Model.{value, assignment}
use Rattle.values.specs.Range.{InRange}
use Rattle.values.specs.Round.{own}
use Rattle.walk.specs.Reached.{WithVariable, Assigned}
use Rattle.walk.specs.Words.{range-written}
use Rattle.walk.specs.Growth.{unwritable-end}
use Rattle.walk.specs.Narrow.{large-narrow}

pub record Walking (variables : List Variable) (lines : List Line) (t : ℕ) (m : Model) : Type 0 where
  pub same : (walk_from variables lines t (drop t variables)).assignment ≡ assignment m
  pub none : (walk_from variables lines t (drop t variables)).exceeded ≡ false
  pub range : InRange m

abbrev pub start_model : Model
start_model = record { booleans = 0; numerators = replicate limit.rationals (pos 0); denominator = 1 }

module _ {variables : List Variable} (o : Ordered variables) (lines : List Line) where
  pub walking_start : Walking variables lines limit.rounds start_model
  unfolding walk_from start assignment value bits
  walking_start =
      let z : length variables ≤ limit.rounds = omega (arith, o.count) in
      record {
        same = rw (drop_of_length-le variables z)
            (λ k. record { booleans = λ i. never i k; numerators = λ f. nought f k; denominator = 1 });
        none = rw (drop_of_length-le variables z);
        range = record { amounts = zeros-amounts limit.rationals; positive = omega arith; small = omega arith };
      }
    where
      never : (i : ℕ) → false ≡ get_or (bits limit.all_booleans 0) i false
      never i = sym (get_or-replicate-same limit.all_booleans i false)

      nought : (f : ℕ) → pos 0 ≡ get_or (replicate limit.rationals (pos 0)) f (pos 0)
      nought f = sym (get_or-replicate-same limit.rationals f (pos 0))

  module _ (t : ℕ) (v : Variable) (a : At variables t v) (m : Model) (w : Walking variables lines (suc t) m) where
    abbrev mine : List Line
    mine = own variables t lines

    -- the walk with v's round
    goes : walk_from variables lines t (drop t variables)
        ≡ record { assignment = assign v mine (assignment m); exceeded = exceeds v mine (assignment m) }
    unfolding walk_from
    goes =
        ap (λ (vs : List Variable). walk_from variables lines t vs) (at_drop variables t v a)
        ∙ rw w.none (ap (λ (χ : Assignment). record { assignment = assign v mine χ; exceeded = exceeds v mine χ }) w.same)

    pub walking-next : (n : Model) → WithVariable n v mine (assignment m) → Walking variables lines t n
    walking-next n k = record { same = rw goes (sym k.same); none = rw goes k.none; range = k.range }

    pub walking-stop : (r : ℕ) → r ≤ limit.rationals → ((f : ℕ) → r ≤ f → Without f lines)
        → Assigned None v mine (assignment m) → (b : ℕ) (opens : ℕ → Bool)
        → written b r opens (walk variables lines) ≡ none
    unfolding written walk
    walking-stop r l z e b opens =
        rw (
          unwritable-end variables lines o.once r t (omega (arith, place-below (λ u. u ≡ v) variables t a)) (rw goes large),
          written,
        )
      where
        large : exceeds v mine (assignment m) || too_large r (assign v mine (assignment m)) ≡ true
        large =
            let k : (f : ℕ) → r ≤ f → (walk_from variables lines t (drop t variables)).assignment.numerators f ≡ pos 0 =
            λ f i. walk-zero variables lines f (z f i) t (drop t variables) in
            rw (← large-narrow r (assign v mine (assignment m)) l
            (λ f i. subst (λ (w : Walked). w.assignment.numerators f ≡ pos 0) goes (k f i))) e

  pub walking-end : (m : Model) → Walking variables lines 0 m → (r b : ℕ) (opens : ℕ → Bool)
      → written b r opens (walk variables lines) ≡ some (encode_model b r opens (assignment m))
  unfolding written walk
  walking-end m w r b opens = ap (written b r opens) (λ k. record { assignment = w.same k; exceeded = w.none k })
      ∙ rw (range-written m r w.range, written)
