-- The pairs of a round that are left at each of its points.
use Rattle.std.specs.Prelude.{◌≡◌, Bool, ℕ, ◌+◌, ◌*◌, ◌≤◌, ◌<◌, length}
use Rattle.std.proofs.Math.Path.{refl, ap}
use Rattle.std.proofs.Math.Bool.{true, false}
use mathlib.Core.List.{List, [], ◌∷◌, ◌++◌, map}
use Rattle.std.proofs.Common.{arith}
use Rattle.rules_types.specs.declared.limits.Limits.{Limits}
use Rattle.rules_types.specs.Limits.{step_bytes}
use Rattle.rules.specs.Lines as rules
use Rattle.rules.specs.Elimination.{Numbered, Pair, pair_up, side_of, round_pairs}
use Rattle.lines.specs.declared.order.VariableRound.{VariableRound}
use Rattle.lines.specs.Order.{variable_of, variables_of}
use Rattle.lines.specs.Line.{meaning}
use Rattle.steps.specs.Lines.{line_at}
use Rattle.steps.specs.Decoding.{decoded}
use Rattle.steps.specs.Held.{steps_in}
use Rattle.placing.specs.Point.{Leads, leads-steps, leads-step}
use Rattle.rounds.specs.Sides.{on_side, chosen, numbered, selected, selected-here, selected-end, Next}

-- of the uppers from number i on; and of upper i the lowers from number j on, with the later uppers
module _ (proof : List ℕ) (m : ℕ) (current : VariableRound) where
  abbrev pub lowers : ℕ → List Numbered
  lowers j = selected (chosen false current) proof m j

  unfoldable pub later : ℕ → List Pair
  later i = pair_up (selected (chosen true current) proof m i) (lowers 0)

  unfoldable pub within : ℕ → ℕ → List Pair
  within i j = map (λ l. record { upper = numbered proof i; lower = l }) (lowers j) ++ later (i + 1)

  pub later-all : later 0
      ≡ round_pairs (variables_of current.order) (variable_of current.variable) current.number (steps_in proof m)
  unfolding later selected chosen on_side round_pairs side_of
  later-all = refl

  pub later-upper : (i : ℕ) → i < m → chosen true current (meaning (line_at proof i)) ≡ true → later i ≡ within i 0
  unfolding later within pair_up
  later-upper i h e = rw (selected-here (chosen true current) proof m i h e)

  pub later-end : (i : ℕ) → m ≤ i → later i ≡ []
  unfolding later pair_up
  later-end i h = rw (selected-end (chosen true current) proof m i h)

  pub within-lower : (i j : ℕ) → j < m → chosen false current (meaning (line_at proof j)) ≡ true
      → within i j ≡ record { upper = numbered proof i; lower = numbered proof j } ∷ within i (j + 1)
  unfolding within
  within-lower i j h e = ap (λ (ls : List Numbered). map (λ l. record { upper = numbered proof i; lower = l }) ls ++ later (i + 1))
      (selected-here (chosen false current) proof m j h e)

  pub within_end : (i j : ℕ) → m ≤ j → within i j ≡ later (i + 1)
  unfolding within
  within_end i j h = ap (λ (ls : List Numbered). map (λ l. record { upper = numbered proof i; lower = l }) ls ++ later (i + 1))
      (selected-end (chosen false current) proof m j h)

  -- from one number to the next
  pub later-next : {i r : ℕ} → Next proof m (chosen true current) i r → later i ≡ later r
  unfolding later
  later-next n = ap (λ (us : List Numbered). pair_up us (lowers 0)) n.same

  pub within-next : (i : ℕ) {j r : ℕ} → Next proof m (chosen false current) j r → within i j ≡ within i r
  unfolding within
  within-next i n = ap (λ (ls : List Numbered). map (λ l. record { upper = numbered proof i; lower = l }) ls ++ later (i + 1)) n.same

-- what is chosen, and where it is looked for, as the bytes grow
module _ {limits : Limits} {before after : List ℕ} {m n : ℕ} (leads : Leads limits before m after n)
    (room : step_bytes * m ≤ length before) where
  pub line_same : (i : ℕ) → i < m → line_at after i ≡ line_at before i
  unfolding line_at
  line_same i h = ap decoded (leads-step leads room i h)

  pub next-same : {test : rules.Line → Bool} {from r : ℕ} → Next after m test from r → Next before m test from r
  unfolding selected
  next-same {r = r} k =
      record {
        behind = k.behind;
        within = k.within;
        same = rw (leads-steps leads room m (omega arith)) at k.same;
        passes = λ h. rw (line_same r h) at (k.passes h);
      }
