-- The kept steps written one behind another, with their new numbers.
use Rattle.std.specs.Prelude.{◌≡◌, Bool, true, false, ℕ, ◌+◌, ◌*◌, ◌-◌, ◌≤◌, ◌<◌}
use Rattle.std.proofs.Math.Path.{refl, sym, ap}
use Rattle.std.proofs.Common.{◌∙◌, add-one, length-take-le}
use Rattle.std.proofs.Math.Bool.{cond}
use mathlib.Core.List.{List, [], ◌++◌, append_assoc}
use native.Mathlib.Omega.{arith}
use Rattle.std.proofs.Math.ListN.{length, take, drop, length-append}
use Rattle.std.proofs.Math.Seq.{take-append-add, drop-append-add}
use Rattle.std.proofs.lemmas.List.{take-append-le, drop-append-le}
use Rattle.rules_types.specs.Limits as limit
use Rattle.rules_types.specs.Layout as layout
use Rattle.rules.specs.Bytes.{to_bytes, field_at}
use Rattle.rules.specs.Steps.{step_at}
use Rattle.rules.specs.Trim.{is_loaded, step_count, count_below, renumbered, kept_steps}
use Rattle.theory_bytes.specs.Bytes.{length-to_bytes}
use Rattle.theory_trimming.specs.Count.{count_most}
use Rattle.theory_trimming.specs.Kept.{length-kept}
use Rattle.theory_trimming.specs.Ordered.{Trimmable}
use Rattle.theory_trimming.specs.WithParents.{with_parents, renumbered-loaded, renumbered-with}
use Rattle.fields.specs.Field.{stored, length-stored, stored-++, stored-nothing}
use Rattle.steps.specs.Places.{HasStep, with_step, length-step_at}

-- ---- bytes stored within bytes that were stored
stored-inside : (to at : ℕ) (bytes part s : List ℕ) → to ≤ length s → at + length part ≤ length bytes
    → stored (to + at) part (stored to bytes s) ≡ stored to (stored at part bytes) s
stored-inside to at bytes part s h k =
    let rest = drop (to + length bytes) s in
    let n : length (take to s) ≡ to = length-take-le to s h in
    let e : length (take to s) + at ≡ to + at = omega arith in
    let f : length (take to s) + (at + length part) ≡ to + at + length part = omega arith in
    let front : take (to + at) (take to s ++ (bytes ++ rest)) ≡ take to s ++ take at bytes =
    ap (λ (i : ℕ). take i (take to s ++ (bytes ++ rest))) (sym e) ∙ take-append-add (take to s) (bytes ++ rest) at
    ∙ ap (λ (l : List ℕ). take to s ++ l) (take-append-le at bytes rest (omega arith)) in
    let back : drop (to + at + length part) (take to s ++ (bytes ++ rest)) ≡ drop (at + length part) bytes ++ rest =
    ap (λ (i : ℕ). drop i (take to s ++ (bytes ++ rest))) (sym f) ∙ drop-append-add (take to s) (bytes ++ rest) (at + length part)
    ∙ drop-append-le (at + length part) bytes rest k in
    let m : length (stored at part bytes) ≡ length bytes = length-stored at part bytes k in
    rw (append_assoc (take to s) bytes rest, front, back, m) (simp append_assoc)

-- ---- a step with the numbers of its parents
module _ (number : ℕ → ℕ) (step : List ℕ) (e : is_loaded step ≡ false) where
  abbrev first : List ℕ
  first = to_bytes 2 (number (field_at layout.step_first 2 step))

  abbrev second : List ℕ
  second = to_bytes 2 (number (field_at layout.step_second 2 step))

  parents-stored : length step ≡ limit.step_bytes
      → stored layout.step_second second (stored layout.step_first first step) ≡ renumbered number step
  unfolding with_parents
  parents-stored l =
      let n = length-to_bytes 2 (number (field_at layout.step_first 2 step)) in
      let m = length-to_bytes 2 (number (field_at layout.step_second 2 step)) in
      let a : layout.step_first + length first ≡ layout.step_second = omega arith in
      let b : layout.step_first + length (first ++ second) ≡ layout.step_relation = omega (arith, length-append first second) in
      ap (λ (at : ℕ). stored at second (stored layout.step_first first step)) (sym a)
      ∙ stored-++ layout.step_first first second step (omega arith)
      ∙ ap (λ (at : ℕ). take layout.step_first step ++ (first ++ second) ++ drop at step) b
      ∙ ap (λ (front : List ℕ). front ++ drop layout.step_relation step) (sym (append_assoc (take layout.step_first step) first second))
      ∙ sym (renumbered-with number step e)

-- ---- step k put as step n
module _ (number : ℕ → ℕ) (proof old : List ℕ) (k n : ℕ) (room : HasStep proof k) (fits : HasStep old n) where
  abbrev step : List ℕ
  step = step_at proof k

  -- its bytes, as a part of the proof's
  bytes-are : take (limit.step_bytes * k + limit.step_bytes - limit.step_bytes * k) (drop (limit.step_bytes * k) proof) ≡ step
  unfolding step_at
  bytes-are = let e : limit.step_bytes * k + limit.step_bytes - limit.step_bytes * k ≡ limit.step_bytes = omega arith in rw e

  abbrev copied : List ℕ → Type 0
  copied new = new ≡ stored (limit.step_bytes * n)
      (take (limit.step_bytes * k + limit.step_bytes - limit.step_bytes * k) (drop (limit.step_bytes * k) proof)) old

  pub put-loaded : is_loaded step ≡ true → {new : List ℕ} → copied new → new ≡ with_step n (renumbered number step) old
  put-loaded e c = c ∙ ap (λ (b : List ℕ). with_step n b old) (bytes-are ∙ sym (renumbered-loaded number step e))

  pub put-resolved : is_loaded step ≡ false → {a b new : List ℕ} {x y : ℕ} → copied a
      → b ≡ stored (limit.step_bytes * n + layout.step_first) (to_bytes 2 x) a
      → new ≡ stored (limit.step_bytes * n + layout.step_second) (to_bytes 2 y) b
      → x ≡ number (field_at layout.step_first 2 step) → y ≡ number (field_at layout.step_second 2 step)
      → new ≡ with_step n (renumbered number step) old
  put-resolved e {a} {b} {new} {x} {y} c f s i j =
      let at = limit.step_bytes * n in
      let l = length-step_at proof k room in
      let one = to_bytes 2 (number (field_at layout.step_first 2 step)) in
      let two = to_bytes 2 (number (field_at layout.step_second 2 step)) in
      let n1 : length one ≡ 2 = length-to_bytes 2 (number (field_at layout.step_first 2 step)) in
      let n2 : length two ≡ 2 = length-to_bytes 2 (number (field_at layout.step_second 2 step)) in
      let a-is : a ≡ stored at step old = c ∙ ap (λ (t : List ℕ). stored at t old) bytes-are in
      let b-is : b ≡ stored at (stored layout.step_first one step) old =
      f ∙ (λ t. stored (at + layout.step_first) (to_bytes 2 (i t)) (a-is t))
      ∙ stored-inside at layout.step_first step one old (omega arith) (omega arith) in
      let m : length (stored layout.step_first one step) ≡ length step = length-stored layout.step_first one step (omega arith) in
      s ∙ (λ t. stored (at + layout.step_second) (to_bytes 2 (j t)) (b-is t))
      ∙ stored-inside at layout.step_second (stored layout.step_first one step) two old (omega arith) (omega arith)
      ∙ ap (λ (t : List ℕ). stored at t old) (parents-stored number step e l)

-- ---- one step
-- step k, if it is kept, put behind n steps
pub record Put (proof : List ℕ) (keeps : ℕ → Bool) (k n : ℕ) (old : List ℕ) (m : ℕ) (new : List ℕ) : Type 0 where
  pub count : m ≡ n + cond (keeps k) 1 0
  pub same : new ≡ stored (limit.step_bytes * n) (cond (keeps k) (renumbered (count_below keeps) (step_at proof k)) []) old

module _ {proof : List ℕ} {keeps : ℕ → Bool} {k n : ℕ} {old : List ℕ} where
  pub put-not : keeps k ≡ false → Put proof keeps k n old n old
  put-not e = record { count = rw e (omega arith); same = rw e (stored-nothing (limit.step_bytes * n) old) }

  pub put-yes : keeps k ≡ true → {new : List ℕ} → new ≡ with_step n (renumbered (count_below keeps) (step_at proof k)) old
      → Put proof keeps k n old (n + 1) new
  put-yes e s = record { count = rw e; same = rw e s }

-- ---- the loop: of the first k steps, n are kept and stand in the target
pub record Putting (proof : List ℕ) (keeps : ℕ → Bool) (old : List ℕ) (k n : ℕ) (new : List ℕ) : Type 0 where
  pub few : k ≤ step_count proof
  pub count : n ≡ count_below keeps k
  pub same : new ≡ stored 0 (kept_steps proof keeps k) old
  pub size : length new ≡ length old

module _ {proof : List ℕ} (given : Trimmable limit.standard proof) (keeps : ℕ → Bool) {old : List ℕ}
    (room : limit.proof_bytes limit.standard ≤ length old) where
  pub putting-start : Putting proof keeps old 0 0 old
  unfolding count_below kept_steps
  putting-start = record { few = omega arith; count = refl; same = stored-nothing 0 old; size = refl }

  module _ {k n : ℕ} {new : List ℕ} (run : Putting proof keeps old k n new) where
    pub putting-below : n ≤ k
    putting-below = omega (arith, run.count, count_most keeps k)

    kept-length : length (kept_steps proof keeps k) ≡ limit.step_bytes * n
    kept-length = length-kept proof keeps k (omega (arith, run.few, given.whole)) ∙ ap (λ (m : ℕ). limit.step_bytes * m) (sym run.count)

    pub putting-fits : k < step_count proof → HasStep new n
    putting-fits h = omega (arith, putting-below, given.few, run.size)

    pub putting-next : k < step_count proof → {m : ℕ} {next : List ℕ} → Put proof keeps k n new m next → length next ≡ length new
        → Putting proof keeps old (k + 1) m next
    unfolding count_below kept_steps
    putting-next h {m} {next} p l =
        let at : limit.step_bytes * n ≡ 0 + length (kept_steps proof keeps k) = omega (arith, kept-length) in
        let part = cond (keeps k) (renumbered (count_below keeps) (step_at proof k)) [] in
        record {
          few = omega arith;
          count = rw (add-one k) (p.count ∙ ap (λ (c : ℕ). c + cond (keeps k) 1 0) run.count);
          same = rw (add-one k)
              (p.same ∙ (λ i. stored (at i) part (run.same i))
              ∙ stored-++ 0 (kept_steps proof keeps k) part old (omega arith));
          size = l ∙ run.size;
        }
