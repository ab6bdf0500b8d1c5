-- The parts and the split variables of a clause, by whether it is read once or twice.
use Rattle.std.specs.Prelude.{◌≡◌, ℕ, ◌+◌}
use Rattle.std.proofs.Common.{ap, arith}
use Rattle.std.proofs.Math.Bool.{true, false}
use mathlib.Core.List.{List, ◌++◌, append-nil}
use Rattle.rules.specs.Problem.{Clause}
use Rattle.rules.specs.Readings.{reading, has_equality, readings}
use Rattle.rules.specs.Lines.{Line}
use Rattle.rules.specs.Split.{reading_parts, reading_splits, all_parts, all_splits, parts_of, splits_of}

module _ (c : Clause) (e : has_equality c.comparisons ≡ false) where
  pub splits-once : splits_of c ≡ reading_splits (reading false c)
  unfolding splits_of readings all_splits
  splits-once = rw e (omega arith)

  pub parts-once : (k : ℕ) → parts_of k c ≡ reading_parts k (reading false c)
  unfolding parts_of readings all_parts
  parts-once k = rw e (append-nil (reading_parts k (reading false c)))

module _ (c : Clause) (e : has_equality c.comparisons ≡ true) where
  pub splits-twice : splits_of c ≡ reading_splits (reading false c) + reading_splits (reading true c)
  unfolding splits_of readings all_splits
  splits-twice = rw e (omega arith)

  pub parts_twice : (k : ℕ)
      → parts_of k c ≡ reading_parts k (reading false c) ++ reading_parts (k + reading_splits (reading false c)) (reading true c)
  unfolding parts_of readings all_parts
  parts_twice k =
      rw e (ap (λ (ls : List Line). reading_parts k (reading false c) ++ ls)
      (append-nil (reading_parts (k + reading_splits (reading false c)) (reading true c))))
