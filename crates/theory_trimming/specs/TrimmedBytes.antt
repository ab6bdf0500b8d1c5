-- A trimmed proof is of bytes, where the whole one is.
use Rattle.std.specs.Prelude.{Bool, true, false, cond, take, drop}
use mathlib.Core.List.{List, [], ◌++◌}
use Prim.Native.Nat.{ℕ, zero, suc, ◌*◌, ◌<◌}
use Rattle.rules_types.specs.Limits as limit
use Rattle.rules_types.specs.Layout as layout
use Rattle.rules.specs.Bytes.{to_bytes, field_at}
use Rattle.rules.specs.Steps.{step_at}
use Rattle.rules.specs.Trim.{is_loaded, count_below, renumbered, kept_steps, step_count, needed, trimmed}
use Rattle.theory_lists.specs.All.{all_append}
use Rattle.theory_bytes.specs.Bytes.{AllBytes, bytes-to_bytes}
use Rattle.theory_layout.specs.Fields.{take-bytes, drop-bytes}

both : (s t : List ℕ) → AllBytes s → AllBytes t → AllBytes (s ++ t)
both s t = all_append (λ n. n < 256) s t

one_of : (b : Bool) (s t : List ℕ) → AllBytes s → AllBytes t → AllBytes (cond b s t)
one_of true s t h k = h
one_of false s t h k = k

renumbered-bytes : (number : ℕ → ℕ) (step : List ℕ) → AllBytes step → AllBytes (renumbered number step)
unfolding renumbered
renumbered-bytes number step h =
    let head = take layout.step_first step in
    let first = to_bytes 2 (number (field_at layout.step_first 2 step)) in
    let second = to_bytes 2 (number (field_at layout.step_second 2 step)) in
    let rest = drop layout.step_relation step in
    one_of (is_loaded step) step (head ++ first ++ second ++ rest) h
    (both (head ++ first ++ second) rest
    (both (head ++ first) second
    (both head first (take-bytes layout.step_first step h) (bytes-to_bytes 2 (number (field_at layout.step_first 2 step))))
    (bytes-to_bytes 2 (number (field_at layout.step_second 2 step))))
    (drop-bytes layout.step_relation step h))

module _ (proof : List ℕ) (are : AllBytes proof) where
  step-bytes : (i : ℕ) → AllBytes (step_at proof i)
  unfolding step_at
  step-bytes i = take-bytes limit.step_bytes (drop (limit.step_bytes * i) proof) (drop-bytes (limit.step_bytes * i) proof are)

  kept-bytes : (keeps : ℕ → Bool) (k : ℕ) → AllBytes (kept_steps proof keeps k)
  unfolding kept_steps
  kept-bytes keeps zero = tt
  kept-bytes keeps (suc k) =
      let step = renumbered (count_below keeps) (step_at proof k) in
      both (kept_steps proof keeps k) (cond (keeps k) step []) (kept-bytes keeps k)
      (one_of (keeps k) step [] (renumbered-bytes (count_below keeps) (step_at proof k) (step-bytes k)) tt)

  pub trimmed-bytes : AllBytes (trimmed proof)
  unfolding trimmed
  trimmed-bytes = kept-bytes (needed proof) (step_count proof)
