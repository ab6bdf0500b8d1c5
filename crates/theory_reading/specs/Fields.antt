-- A tested field is judged by itself: its number in its bytes, within the limits exactly if the test says so.
use Rattle.std.specs.Prelude.{◌≡◌, Bool, cond, ◌&&◌, List, [], ◌∷◌, ◌++◌, ℕ, zero, suc, ◌+◌, ◌*◌, ◌/◌, ◌%◌, ◌^◌, ◌<◌}
use Rattle.std.proofs.Math.Path.{refl}
use Rattle.std.proofs.Common.{ap, arith}
use Rattle.std.proofs.Math.Bool.{true, false, not}
use Rattle.std.proofs.Math.Nat.{pow-succ'}
use Rattle.std.proofs.Math.ListN.{length}
use Rattle.rules_types.specs.declared.answers.Refusal.{Refusal}
use Rattle.rules_types.specs.declared.answers.Refusal.TheVariants as refusal
use Rattle.rules.specs.Bytes.{to_bytes}
use Rattle.rules.specs.Problem.{Read, fault, got, Reader, after, return, byte, number, tested, field}
use Rattle.rules.specs.Written.{Field}
use Rattle.theory_lists.specs.All.{All}
use Rattle.theory_bytes.specs.Bytes.{AllBytes, length-to_bytes}
use Rattle.theory_reading.specs.Follows.{Outcome, done, failed, passes, fails, ends, Follows}
use Rattle.theory_reading.specs.Judged.{Fits, finish, Followed, Judged}

-- ---- a number
-- the bytes begin with those of n, or end among them
pub data Numbered (k : ℕ) (input : List ℕ) (place n : ℕ) (r : Read ℕ) : Type 0 where
  whole : (rest : List ℕ) → input ≡ to_bytes k n ++ rest → r ≡ got n rest (place + k) → Numbered k input place n r
  short : (missing : List ℕ) → to_bytes k n ≡ input ++ missing → 0 < length missing → r ≡ fault refusal.Truncated (place + length input)
      → Numbered k input place n r

number-reads : (k : ℕ) (input : List ℕ) → AllBytes input → (place : ℕ)
    → (n : ℕ) × (n < 256 ^ k) × Numbered k input place n (number k input place)
unfolding number to_bytes after byte
number-reads zero input h place = (0, omega arith, whole input refl (let e : place + 0 ≡ place = omega arith in rw e))
number-reads (suc k) [] h place = (
  0,
  power (suc k),
  short (to_bytes (suc k) 0) refl (omega (arith, length-to_bytes (suc k) 0)) (let e : place + 0 ≡ place = omega arith in rw e),
)
  where
    power : (k : ℕ) → 0 < 256 ^ k
    power zero = omega arith
    power (suc k) = omega (arith, pow-succ' 256 k, power k)
number-reads (suc k) (x ∷ xs) h place = let r = number-reads k xs h.1 (suc place) in by r.0 r.1 r.2
  where
    by : (n : ℕ) → n < 256 ^ k → Numbered k xs (suc place) n (number k xs (suc place))
        → (n : ℕ) × (n < 256 ^ suc k) × Numbered (suc k) (x ∷ xs) place n (number (suc k) (x ∷ xs) place)
    by n l c =
        let low : (x + 256 * n) % 256 ≡ x = omega (arith, h.0) in
        let high : (x + 256 * n) / 256 ≡ n = omega (arith, h.0) in
        (x + 256 * n, omega (arith, h.0, pow-succ' 256 k), go low high c)
      where
        go : (x + 256 * n) % 256 ≡ x → (x + 256 * n) / 256 ≡ n → Numbered k xs (suc place) n (number k xs (suc place))
            → Numbered (suc k) (x ∷ xs) place (x + 256 * n) (number (suc k) (x ∷ xs) place)
        go low high (whole rest e q) =
            let p : suc place + k ≡ place + suc k = omega arith in
            whole rest (rw (low, high) (ap (λ (l : List ℕ). x ∷ l) e)) (rw (q, p))
        go low high (short missing e m q) =
            let p : suc place + length xs ≡ place + suc (length xs) = omega arith in
            short missing (rw (low, high) (ap (λ (l : List ℕ). x ∷ l) e)) m (rw (q, p))

number-whole : (k n : ℕ) (rest : List ℕ) (place : ℕ) → n < 256 ^ k → number k (to_bytes k n ++ rest) place ≡ got n rest (place + k)
unfolding number to_bytes after byte
number-whole zero n rest place h =
    let e : n ≡ 0 = omega arith in
    let p : place + 0 ≡ place = omega arith in
    rw (e, p)
number-whole (suc k) n rest place h =
    let e : n % 256 + 256 * (n / 256) ≡ n = omega arith in
    let p : suc place + k ≡ place + suc k = omega arith in
    rw (number-whole k (n / 256) rest (suc place) (omega (arith, pow-succ' 256 k)), e, p)

number_short : (k n : ℕ) (input missing : List ℕ) (place : ℕ) → to_bytes k n ≡ input ++ missing → 0 < length missing
    → number k input place ≡ fault refusal.Truncated (place + length input)
unfolding number to_bytes after byte
number_short zero n [] [] place e m = absurd (omega arith)
number_short zero n [] (y ∷ missing) place e m = absurd (let z : ◌≡◌ {A = ℕ} 0 1 = cc in omega arith)
number_short zero n (x ∷ input) missing place e m = absurd (let z : ◌≡◌ {A = ℕ} 0 1 = cc in omega arith)
number_short (suc k) n [] missing place e m = let p : place + 0 ≡ place = omega arith in rw p
number_short (suc k) n (x ∷ input) missing place e m =
    let t : to_bytes k (n / 256) ≡ input ++ missing = cc in
    let p : suc place + length input ≡ place + suc (length input) = omega arith in
    rw (number_short k (n / 256) input missing (suc place) t m, p)

-- ---- a tested field, whose fault may depend on its number
module _ (size : ℕ) (good : ℕ → Bool) (f : ℕ → Refusal) where
  abbrev pub only : ℕ → List Field
  only n = record { size = size; number = n; within = good n; fault = f n } ∷ []

  abbrev pub tried : Reader ℕ
  tried = λ bytes place. after (number size bytes place) (λ n. tested (good n) (f n) place n)

  reads : (input : List ℕ) → AllBytes input → (place : ℕ) → Followed only (λ n. Unit {0}) return input place (tried input place)
  unfolding after tested
  reads input h place = let r = number-reads size input h place in by r.0 r.1 r.2
    where
      by : (n : ℕ) → n < 256 ^ size → Numbered size input place n (number size input place)
          → Followed only (λ n. Unit {0}) return input place (tried input place)
      by n l (whole rest e q) = go (good n) refl
        where
          go : (b : Bool) → good n ≡ b → Followed only (λ n. Unit {0}) return input place (tried input place)
          go true t = record {
            written = n;
            made = tt;
            fits = (l, tt);
            outcome = done rest (place + size);
            follows = passes rest e t refl;
            is = rw (q, t);
          }
          go false t = record {
            written = n;
            made = tt;
            fits = (l, tt);
            outcome = failed (f n) place;
            follows = fails rest e t refl;
            is = rw (q, t);
          }
      by n l (short missing e m q) = record {
        written = n;
        made = tt;
        fits = (l, tt);
        outcome = failed refusal.Truncated (place + length input);
        follows = ends missing e m refl;
        is = rw q;
      }

  back : (n : ℕ) → All Fits (only n) → (input : List ℕ) (place : ℕ) (o : Outcome) → Follows (only n) input place o
      → tried input place ≡ finish (return n) o
  unfolding after tested
  back n h input place o (passes rest e w c) = rw (c, e, number-whole size n rest place h.0, w)
  back n h input place o (fails rest e w c) = rw (c, e, number-whole size n rest place h.0, w)
  back n h input place o (ends missing e m c) = rw (c, number_short size n input missing place e m)

  pub tried-judged : Judged tried only (λ n. Unit {0}) (λ place n. return n)
  tried-judged = record { reads = reads; back = λ n p h. back n h }

pub field-judged : (size : ℕ) (good : ℕ → Bool) (f : Refusal)
    → Judged (field size good f) (only size good (λ n. f)) (λ n. Unit {0}) (λ place n. return n)
unfolding field
field-judged size good f = tried-judged size good (λ n. f)

-- two tests of one field, the second right after the first, are one test with two faults
module _ {A : Type 0} (first second : ℕ → Bool) (m : ℕ → A) (f g : Refusal) (place : ℕ) where
  pub tried-twice : (r : Read ℕ)
      → after (after r (λ n. tested (first n) f place n))
      (λ n bytes next. after (tested (not (second n)) g place n bytes next) (λ n. return (m n)))
      ≡ after (after r (λ n. tested (first n && not (second n)) (cond (first n) g f) place n)) (λ n. return (m n))
  unfolding after tested
  tried-twice (fault h p) = refl
  tried-twice (got n rest next) = by (first n)
    where
      by : (t : Bool) → after (tested t f place n rest next)
          (λ n bytes next. after (tested (not (second n)) g place n bytes next) (λ n. return (m n)))
          ≡ after (tested (t && not (second n)) (cond t g f) place n rest next) (λ n. return (m n))
      by true = refl
      by false = refl
