-- A reader gets back what was written: a byte, a number, a field that passes its test, an amount, and several of one kind.
use Rattle.std.specs.Prelude.{◌≡◌, Bool, ℤ, T}
use Rattle.std.proofs.Math.Path.{refl}
use Rattle.std.proofs.Common.{ap}
use mathlib.Core.List.{List, [], ◌∷◌, ◌++◌, append_assoc}
use Prim.Native.Nat.{ℕ, zero, suc, ◌+◌, ◌*◌, ◌/◌, ◌^◌, ◌<◌}
use native.Mathlib.Omega.{arith}
use Rattle.rules_types.specs.declared.answers.Refusal.{Refusal}
use Rattle.rules.specs.Lists.{tabulate}
use Rattle.rules.specs.Bytes.{to_bytes, from_bytes, from_unsigned, to_unsigned, amount_bytes}
use Rattle.rules.specs.Problem.{Reader, ◌>>=◌, return, got, after, repeat, each, byte, number, tested, field, in_range, amount}
use Rattle.theory_lists.specs.Tests.{is_true}
use Rattle.theory_vectors.specs.Amounts.{Small, range_small}
use Rattle.theory_bytes.specs.Bytes.{from_bytes-to_bytes}
use Rattle.theory_bytes.specs.Amounts.{to_unsigned-<, from_unsigned-to_unsigned, small-mag}

-- from every place, the reader gets a and leaves the rest
abbrev pub Reads : {A : Type 0} → Reader A → List ℕ → A → List ℕ → Type 0
Reads reader bytes a rest = (place : ℕ) → (next : ℕ) × (reader bytes place ≡ got a rest next)

-- ---- one
reads_bytes : (k n : ℕ) (rest : List ℕ) → Reads (number k) (to_bytes k n ++ rest) (from_bytes (to_bytes k n)) rest
unfolding number to_bytes from_bytes after byte
reads_bytes zero n rest place = (place, refl)
reads_bytes (suc k) n rest place = let r = reads_bytes k (n / 256) rest (suc place) in (r.0, rw r.1)

reads-number : (k n : ℕ) (rest : List ℕ) → n < 256 ^ k → Reads (number k) (to_bytes k n ++ rest) n rest
reads-number k n rest h place = let r = reads_bytes k n rest place in (r.0, rw (from_bytes-to_bytes k n h) at r.1)

module _ (good : ℕ → Bool) (f : Refusal) where
  pub reads-field : (k n : ℕ) (rest : List ℕ) → n < 256 ^ k → T (good n) → Reads (field k good f) (to_bytes k n ++ rest) n rest
  unfolding field after tested
  reads-field k n rest h t place = let r = reads-number k n rest h place in (r.0, rw (r.1, is_true (good n) t))

  -- a byte as it stands
  pub reads_byte : (n : ℕ) (rest : List ℕ) → T (good n) → Reads (field 1 good f) (n ∷ rest) n rest
  unfolding field after tested number byte
  reads_byte n rest t place = let e : n + 256 * 0 ≡ n = omega arith in (suc place, rw (e, is_true (good n) t))

reads-amount : (f : Refusal) (z : ℤ) (rest : List ℕ) → Small z → Reads (amount f) (to_bytes 4 (to_unsigned z) ++ rest) z rest
unfolding amount after
reads-amount f z rest h place =
    let m = small-mag z h in
    let e = from_unsigned-to_unsigned z m in
    let r = reads-field (λ n. in_range (from_unsigned n)) f 4 (to_unsigned z) rest (to_unsigned-< z m) (rw e ((range_small z).1 h)) place in
    (r.0, rw (r.1, e))

-- ---- several
-- by one reader, whatever their numbers
pub repeat-each : {A : Type 0} (one : Reader A) (k i : ℕ) → repeat k one ≡ each i k (λ j. one)
unfolding repeat each
repeat-each one zero i = refl
repeat-each {A} one (suc k) i =
    ap (λ (rest : Reader (List A)). ◌>>=◌ one (λ x. ◌>>=◌ rest (λ xs. return (x ∷ xs)))) (repeat-each one k (suc i))

module _ {A : Type 0} (one : ℕ → Reader A) (bytes : A → List ℕ) (all : List A → List ℕ) (nil : all [] ≡ [])
    (cons : (x : A) (xs : List A) → all (x ∷ xs) ≡ bytes x ++ all xs) where
  reads-each : (k i : ℕ) (g : ℕ → A) → ((j : ℕ) → j < k → (rest : List ℕ) → Reads (one (i + j)) (bytes (g j) ++ rest) (g j) rest)
      → (rest : List ℕ) → Reads (each i k one) (all (tabulate k g) ++ rest) (tabulate k g) rest
  unfolding each after tabulate
  reads-each zero i g h rest place = (place, rw nil)
  reads-each (suc k) i g h rest place =
      let later : ℕ → A = λ j. g (suc j) in
      let r = h 0 (omega arith) (all (tabulate k later) ++ rest) place in
      let s = reads-each k (suc i) later (λ j l. let e : i + suc j ≡ suc i + j = omega arith in rw e at (h (suc j) (omega arith)))
      rest r.0 in
      let e : i + 0 ≡ i = omega arith in
      (s.0, rw (cons (g 0) (tabulate k later), append_assoc (bytes (g 0)) (all (tabulate k later)) rest, rw e at r.1, s.1))

module _ (f : Refusal) (k : ℕ) where
  pub reads-amounts : (g : ℕ → ℤ) → ((j : ℕ) → j < k → Small (g j)) → (rest : List ℕ)
      → Reads (repeat k (amount f)) (amount_bytes (tabulate k g) ++ rest) (tabulate k g) rest
  unfolding amount_bytes
  reads-amounts g h =
      rw (repeat-each (amount f) k 0)
      (reads-each (λ j. amount f) (λ z. to_bytes 4 (to_unsigned z)) amount_bytes refl (λ z zs. refl) k 0 g
      (λ j l rest. reads-amount f (g j) rest (h j l)))

  pub reads-list : (good : ℕ → ℕ → Bool) (g : ℕ → ℕ) → ((j : ℕ) → j < k → T (good j (g j))) → (rest : List ℕ)
      → Reads (each 0 k (λ j. field 1 (good j) f)) (tabulate k g ++ rest) (tabulate k g) rest
  reads-list good g h =
      reads-each (λ j. field 1 (good j) f) (λ n. n ∷ []) (λ ns. ns) refl (λ n ns. refl) k 0 g
      (λ j l rest. let e : 0 + j ≡ j = omega arith in reads_byte (good (0 + j)) f (g j) rest (rw e (h j l)))
