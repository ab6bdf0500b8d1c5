-- How many marked steps stand before one: before its word, and below its bit.
use Rattle.std.specs.Prelude.{◌≡◌, refl, cond, List, eqb, length, get_or, set}
use Rattle.std.proofs.Common.{sym, ap, ◌∙◌, mod-lt, below_more, length-set, pow_pos, get_or-set_same, get_or-set_other}
use Prim.Native.Nat.{ℕ, zero, suc, ◌+◌, ◌*◌, ◌/◌, ◌%◌, ◌^◌, ◌≤◌, ◌<◌}
use Rattle.std.proofs.Math.Nat.{pow-succ'}
use native.Mathlib.Omega.{arith}
use Rattle.std.proofs.Math.Arith.{mod-mul}
use Rattle.std.specs.Int.Count.{ones}
use Rattle.std.proofs.lemmas.Nat.{ones_cat, ones-le}
use Rattle.rules_types.specs.Limits as limit
use Rattle.rules.specs.Trim.{count_below}
use Rattle.masks.specs.Mask.{has-bits}
use Rattle.trimming.specs.Marks.{words, is_marked}

-- ---- within a word
ones-digit : (d : ℕ) → d < 2 → ones d ≡ cond (eqb d 1) 1 0
unfolding ones
ones-digit zero h = refl
ones-digit (suc zero) h = refl
ones-digit (suc (suc d)) h = absurd (omega arith)

-- one bit more
ones-more : (n b : ℕ) → ones (n % 2 ^ suc b) ≡ ones (n % 2 ^ b) + cond (eqb (n / 2 ^ b % 2) 1) 1 0
ones-more n b =
    let d = n / 2 ^ b % 2 in
    let e : n % 2 ^ suc b ≡ d * 2 ^ b + n % 2 ^ b =
    ap (λ (k : ℕ). n % k) (pow-succ' 2 b) ∙ mod-mul n {m = 2} {c = 2 ^ b} (omega arith) (pow_pos b) in
    ap ones e ∙ ones_cat b d (n % 2 ^ b) (mod-lt n (pow_pos b))
    ∙ omega (arith, ones-digit d (mod-lt (n / 2 ^ b) (omega arith)))

module _ (marks : List ℕ) where
  abbrev word : ℕ → ℕ
  word w = get_or marks w 0

  marked-bit : (w b : ℕ) → b < 32 → is_marked marks (32 * w + b) ≡ eqb (word w / 2 ^ b % 2) 1
  unfolding is_marked
  marked-bit w b h =
      let e : (32 * w + b) / 32 ≡ w = omega arith in
      let f : (32 * w + b) % 32 ≡ b = omega arith in
      rw (e, f) (has-bits limit.all_booleans (word w) b h)

  pub count_bits : (w b : ℕ) → b ≤ 32
      → count_below (is_marked marks) (32 * w + b) ≡ count_below (is_marked marks) (32 * w) + ones (word w % 2 ^ b)
  unfolding count_below ones
  count_bits w zero h =
      let e : 32 * w + 0 ≡ 32 * w = omega arith in
      let z : word w % 2 ^ 0 ≡ 0 = omega arith in
      rw (e, z) (omega arith)
  count_bits w (suc b) h =
      let e : 32 * w + suc b ≡ suc (32 * w + b) = omega arith in
      rw (e, count_below, count_bits w b (omega arith), marked-bit w b h, ones-more (word w) b) (omega arith)

-- ---- the words one after another: n are marked before word w
pub record Counted (marks before : List ℕ) : Type 0 where
  pub size : length before ≡ words
  pub counts : (w : ℕ) → w < words → get_or before w 0 ≡ count_below (is_marked marks) (32 * w)

pub record Counting (marks before : List ℕ) (n w : ℕ) : Type 0 where
  pub size : length before ≡ words
  pub few : w ≤ words
  pub total : n ≡ count_below (is_marked marks) (32 * w)
  pub small : n ≤ 32 * w
  pub counts : (v : ℕ) → v < w → get_or before v 0 ≡ count_below (is_marked marks) (32 * v)

module _ (marks : List ℕ) where
  pub counting-start : (before : List ℕ) → length before ≡ words → Counting marks before 0 0
  unfolding count_below
  counting-start before l = record { size = l; few = omega arith; total = refl; small = omega arith; counts = λ v h. absurd (omega arith) }

  module _ {before : List ℕ} {n w : ℕ} (run : Counting marks before n w) where
    pub counting-done : words ≤ w → Counted marks before
    counting-done h = record { size = run.size; counts = λ v l. run.counts v (omega arith) }

    pub counting-next : w < words → get_or marks w 0 < 2 ^ 32 → Counting marks (set before w n) (n + ones (get_or marks w 0)) (w + 1)
    counting-next h word_fits =
        let e : 32 * w + 32 ≡ 32 * (w + 1) = omega arith in
        let whole : get_or marks w 0 % 2 ^ 32 ≡ get_or marks w 0 = omega arith in
        record {
          size = length-set before w n ∙ run.size;
          few = omega arith;
          total = ap (λ (m : ℕ). m + ones (get_or marks w 0)) run.total
              ∙ sym (ap (λ (k : ℕ). count_below (is_marked marks) k) (sym e) ∙ count_bits marks w 32 (omega arith)
              ∙ ap (λ (x : ℕ). count_below (is_marked marks) (32 * w) + ones x) whole);
          small = omega (arith, run.small, ones-le 32 (get_or marks w 0) word_fits);
          counts = below_more _ w (λ v l. get_or-set_other before w v n 0 (λ q. omega arith) ∙ run.counts v l)
              (get_or-set_same before w n 0 (omega (arith, run.size)) ∙ run.total);
        }

-- ---- the number of one
pub number_is : (marks before : List ℕ) → Counted marks before → (i : ℕ) → i < limit.steps
    → get_or before (i / 32) 0 + ones (get_or marks (i / 32) 0 % 2 ^ (i % 32)) ≡ count_below (is_marked marks) i
number_is marks before c i h =
    let e : 32 * (i / 32) + i % 32 ≡ i = omega arith in
    ap (λ (n : ℕ). n + ones (get_or marks (i / 32) 0 % 2 ^ (i % 32))) (c.counts (i / 32) (omega arith))
    ∙ sym (ap (count_below (is_marked marks)) (sym e) ∙ count_bits marks (i / 32) (i % 32) (omega arith))
