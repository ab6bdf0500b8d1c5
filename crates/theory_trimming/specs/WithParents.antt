-- A step's bytes with other parents: only the two numbers change.
use Rattle.std.specs.Prelude.{◌≡◌, true, false, ◌⊎◌, ℕ, ◌+◌, ◌-◌, ◌≤◌, ◌<◌, length, take, drop}
use Rattle.std.proofs.Math.Path.{refl}
use Rattle.std.proofs.Common.{sym, ap, ◌∙◌, inl, inr, ⊎_elim, length-append, length-drop, length-take-le}
use mathlib.Core.List.{List, [], ◌∷◌, ◌++◌}
use native.Mathlib.Omega.{arith}
use Rattle.rules_types.specs.Limits as limit
use Rattle.rules_types.specs.Layout as layout
use Rattle.rules.specs.Bytes.{to_bytes, from_bytes, field_at, padded}
use Rattle.rules.specs.Lines.{Line, Variable, rational, boolean}
use Rattle.rules.specs.Steps.{resolved, header, header_bytes, encode_step}
use Rattle.rules.specs.Trim.{is_loaded, renumbered}
use Rattle.theory_lists.specs.Tests.{split, is_true, is_false}
use Rattle.theory_bytes.specs.Bytes.{length-to_bytes}
use Rattle.theory_layout.specs.Fields.{field-part, field-drop}

unfoldable pub with_parents : ℕ → ℕ → List ℕ → List ℕ
with_parents m n step = take layout.step_first step ++ to_bytes 2 m ++ to_bytes 2 n ++ drop layout.step_relation step

pub renumbered-loaded : (number : ℕ → ℕ) (step : List ℕ) → is_loaded step ≡ true → renumbered number step ≡ step
unfolding renumbered
renumbered-loaded number step e = rw e

pub renumbered-with : (number : ℕ → ℕ) (step : List ℕ) → is_loaded step ≡ false
    → renumbered number step ≡ with_parents (number (field_at layout.step_first 2 step)) (number (field_at layout.step_second 2 step)) step
unfolding renumbered with_parents
renumbered-with number step e = rw e

pub length-renumbered : (number : ℕ → ℕ) (step : List ℕ) → length step ≡ limit.step_bytes
    → length (renumbered number step) ≡ limit.step_bytes
unfolding with_parents
length-renumbered number step h =
    ⊎_elim (λ t. rw (renumbered-loaded number step (is_true (is_loaded step) t)) h)
    (λ t. rw (renumbered-with number step (is_false (is_loaded step) t)) (simp (length-append, length-to_bytes)
    (omega (arith, length-take-le layout.step_first step (omega arith), length-drop layout.step_relation step))))
    (split (is_loaded step))

-- ---- its fields
module _ (m n : ℕ) where
  with-head : (step : List ℕ) → 2 ≤ length step → take 2 (with_parents m n step) ≡ take 2 step
  unfolding with_parents to_bytes
  with-head [] h = absurd (omega arith)
  with-head (a ∷ []) h = absurd (omega arith)
  with-head (a ∷ b ∷ step) h = refl

  with_tail : (step : List ℕ) → 2 ≤ length step → drop 6 (with_parents m n step) ≡ drop 6 step
  unfolding with_parents to_bytes
  with_tail [] h = absurd (omega arith)
  with_tail (a ∷ []) h = absurd (omega arith)
  with_tail (a ∷ b ∷ step) h = refl

  pub with_first : (step : List ℕ) → 2 ≤ length step → m < limit.most_steps → field_at layout.step_first 2 (with_parents m n step) ≡ m
  unfolding with_parents to_bytes field_at from_bytes
  with_first [] h l = absurd (omega arith)
  with_first (a ∷ []) h l = absurd (omega arith)
  with_first (a ∷ b ∷ step) h l = omega arith

  pub with_second : (step : List ℕ) → 2 ≤ length step → n < limit.most_steps → field_at layout.step_second 2 (with_parents m n step) ≡ n
  unfolding with_parents to_bytes field_at from_bytes
  with_second [] h l = absurd (omega arith)
  with_second (a ∷ []) h l = absurd (omega arith)
  with_second (a ∷ b ∷ step) h l = omega arith

  pub with-others : (step : List ℕ) → 2 ≤ length step → (place : ℕ) → (place < 2) ⊎ (6 ≤ place)
      → field_at place 1 (with_parents m n step) ≡ field_at place 1 step
  with-others step h place (inl l) =
      let front : (bytes : List ℕ) → field_at place 1 (take 2 bytes) ≡ field_at place 1 bytes
      = λ bytes. let e : 0 + place ≡ place = omega arith in rw e at (field-part bytes 0 2 place 1 (omega arith)) in
      sym (front (with_parents m n step)) ∙ ap (field_at place 1) (with-head step h) ∙ front step
  with-others step h place (inr l) =
      let back : (bytes : List ℕ) → field_at (place - 6) 1 (drop 6 bytes) ≡ field_at place 1 bytes
      = λ bytes. let e : 6 + (place - 6) ≡ place = omega arith in rw e at (field-drop bytes 6 (place - 6) 1) in
      sym (back (with_parents m n step)) ∙ ap (field_at (place - 6) 1) (with_tail step h) ∙ back step

  -- with the parents that it already has
  pub with-again : (i j : ℕ) (step : List ℕ) → 2 ≤ length step → with_parents m n (with_parents i j step) ≡ with_parents m n step
  unfolding with_parents to_bytes
  with-again i j [] h = absurd (omega arith)
  with-again i j (a ∷ []) h = absurd (omega arith)
  with-again i j (a ∷ b ∷ step) h = refl

  -- written for a resolvent, with its other parents
  pub with-written : (v : Variable) (i j : ℕ) (l : Line) → with_parents m n (encode_step (record { origin = resolved v i j; line = l }))
      ≡ encode_step (record { origin = resolved v m n; line = l })
  unfolding with_parents to_bytes encode_step padded header_bytes header
  with-written (rational f) i j l = refl
  with-written (boolean f) i j l = refl
