-- Steps at their places in a proof's bytes, and what a write leaves there.
use Rattle.std.specs.Prelude.{◌≡◌, ℕ, ◌+◌, ◌*◌, ◌-◌, ◌≤◌, length, replicate}
use Rattle.std.proofs.Common.{sym, ◌∙◌, length-append, take-append-drop, drop-drop, drop_at}
use Rattle.std.proofs.Math.Path.{ap}
use mathlib.Core.List.{List, ◌++◌, append_assoc}
use native.Mathlib.Omega.{arith}
use Rattle.std.proofs.Math.ListN.{take, drop, length-drop}
use Rattle.std.proofs.lemmas.List.{length-replicate, take-append-le, drop-append-le}
use Rattle.std.proofs.Math.Seq.{take_all, length-take-le, take-append_seam, drop-append-add}
use Rattle.rules_types.specs.Limits.{step_bytes}
use Rattle.rules.specs.Bytes.{from_bytes, field_at}
unfoldable pub use Rattle.rules.specs.Steps.{step_at}
use Rattle.fields.specs.Field.{stored, length-stored}

-- the bytes hold step i, whatever it is
abbrev pub HasStep : List ℕ → ℕ → Type 0
HasStep s i = step_bytes * i + step_bytes ≤ length s

-- with other bytes for step i
abbrev pub with_step : ℕ → List ℕ → List ℕ → List ℕ
with_step i bytes s = stored (step_bytes * i) bytes s

-- with zeros for the steps from one up to another
abbrev pub zeroed : ℕ → ℕ → List ℕ → List ℕ
zeroed from to s = stored (step_bytes * from) (replicate (step_bytes * to - step_bytes * from) 0) s

-- ---- parts of bytes that were stored
front-part : (p q : List ℕ) (k n : ℕ) → k + n ≤ length p → take n (drop k (p ++ q)) ≡ take n (drop k p)
front-part p q k n h = rw (drop-append-le k p q (omega arith)) (take-append-le n (drop k p) q (omega (arith, length-drop k p)))

module _ (at : ℕ) (bytes s : List ℕ) (h : at + length bytes ≤ length s) where
  before-length : length (take at s) ≡ at
  before-length = length-take-le at s (omega arith)

  pub part-within : (k n : ℕ) → k + n ≤ length bytes → take n (drop (at + k) (stored at bytes s)) ≡ take n (drop k bytes)
  part-within k n l =
      let rest = drop (at + length bytes) s in
      rw (
        append_assoc (take at s) bytes rest,
        ← drop-drop k at (take at s ++ (bytes ++ rest)),
        drop_at (take at s) (bytes ++ rest) at before-length,
      ) (front-part bytes rest k n l)

  pub part-after : (k : ℕ) → at + length bytes ≤ k → drop k (stored at bytes s) ≡ drop k s
  part-after k l =
      let e = at + length bytes in
      let m : e + (k - e) ≡ k = omega arith in
      let d : drop e (stored at bytes s) ≡ drop e s =
      drop_at (take at s ++ bytes) (drop e s) e (length-append (take at s) bytes ∙ omega (arith, before-length)) in
      ap (λ (i : ℕ). drop i (stored at bytes s)) (sym m) ∙ sym (drop-drop (k - e) e (stored at bytes s)) ∙ ap (drop (k - e)) d
      ∙ drop-drop (k - e) e s ∙ ap (λ (i : ℕ). drop i s) m

-- ---- behind a front of so many steps
module _ (i : ℕ) (front : List ℕ) (n : length front ≡ step_bytes * i) where
  stored-behind : (bytes rest : List ℕ) → stored (step_bytes * i) bytes (front ++ rest) ≡ front ++ bytes ++ drop (length bytes) rest
  stored-behind bytes rest = rw (← n, take-append_seam front rest, drop-append-add front rest (length bytes))

  pub zeroed-behind : (to : ℕ) (rest : List ℕ)
      → zeroed i to (front ++ rest) ≡ front ++ replicate (step_bytes * to - step_bytes * i) 0
      ++ drop (step_bytes * to - step_bytes * i) rest
  zeroed-behind to rest =
      let zeros = replicate {A = ℕ} (step_bytes * to - step_bytes * i) 0 in
      stored-behind zeros rest ∙ ap (λ (k : ℕ). front ++ zeros ++ drop k rest)
      (length-replicate {A = ℕ} (step_bytes * to - step_bytes * i) 0)

-- ---- a step that was put
module _ (i : ℕ) (bytes s : List ℕ) (w : length bytes ≡ step_bytes) (h : HasStep s i) where
  fits : step_bytes * i + length bytes ≤ length s
  fits = omega arith

  pub length-put : length (with_step i bytes s) ≡ length s
  length-put = length-stored (step_bytes * i) bytes s fits

  pub put-here : step_at (with_step i bytes s) i ≡ bytes
  unfolding step_at
  put-here =
      let e : step_bytes * i + 0 ≡ step_bytes * i = omega arith in
      (rw e at (part-within (step_bytes * i) bytes s fits 0 step_bytes (omega arith))) ∙ take_all step_bytes bytes (omega arith)

-- ---- a step's bytes and fields stand in the proof's
module _ (proof : List ℕ) (i : ℕ) (room : HasStep proof i) where
  pub length-step_at : length (step_at proof i) ≡ step_bytes
  unfolding step_at
  length-step_at = length-take-le step_bytes (drop (step_bytes * i) proof) (omega (arith, length-drop (step_bytes * i) proof))

  pub field-step_at : (at k : ℕ) → at + k ≤ step_bytes → field_at at k (step_at proof i) ≡ field_at (step_bytes * i + at) k proof
  unfolding field_at step_at
  field-step_at at k h =
      let d = drop (step_bytes * i) proof in
      ap from_bytes
      (sym (front-part (take step_bytes d) (drop step_bytes d) at k (omega (arith, length-step_at)))
      ∙ ap (λ (l : List ℕ). take k (drop at l)) (take-append-drop step_bytes d)
      ∙ ap (take k) (drop-drop at (step_bytes * i) proof))
