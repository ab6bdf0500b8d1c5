-- There is one short proof of a proof: its steps are told by their places in the whole one, which rise through the same set, and its bytes
-- by its steps.
use Rattle.std.specs.Prelude.{◌≡◌, refl, ◌⊎◌, List, ℕ, zero, suc, ◌+◌, ◌*◌, ◌≤◌, ◌<◌, ltb, length, take}
use Rattle.std.proofs.Common.{sym, ap, ◌∙◌, inl, inr, ⊎_elim, arith, ltb→lt, nltb→le, take_all}
use Rattle.rules.specs.Bytes.{field_at}
use Rattle.theory_lists.specs.Tests.{split}
use Rattle.theory_bytes.specs.Bytes.{AllBytes}
use Rattle.theory_layout.specs.Fields.{grow}
use Rattle.theory_trimming.specs.Statements.{how, first_of, second_of, SameStep, ShortProof}

-- below or not
pub below_or : (i j : ℕ) → (i < j) ⊎ (j ≤ i)
below_or i j = ⊎_elim (λ t. inl (ltb→lt i j t)) (λ t. inr (nltb→le i j t)) (split (ltb i j))

-- ---- numbers that rise
abbrev Rising : (ℕ → ℕ) → ℕ → Type 0
Rising f n = (i j : ℕ) → i < j → j < n → f i < f j

rising_le : (f : ℕ → ℕ) (n : ℕ) → Rising f n → (i j : ℕ) → i ≤ j → j < n → f i ≤ f j
rising_le f n r i j h l = ⊎_elim
    (λ b. omega (arith, r i j b l))
    (λ b. let e : i ≡ j = omega arith in let q = ap f e in omega arith) (below_or i j)

-- each is another
rising-same : (f : ℕ → ℕ) (n : ℕ) → Rising f n → (i j : ℕ) → i < n → j < n → f i ≡ f j → i ≡ j
rising-same f n r i j h l e = ⊎_elim
    (λ b. absurd (omega (arith, r i j b l)))
    (λ b. ⊎_elim (λ c. absurd (omega (arith, r j i c h))) (λ c. omega arith) (below_or j i)) (below_or i j)

-- every number of one stands in the other
abbrev Within : (ℕ → ℕ) → ℕ → (ℕ → ℕ) → ℕ → Type 0
Within f n g m = (i : ℕ) → i < n → (j : ℕ) × (j < m) × (g j ≡ f i)

module _ (f g : ℕ → ℕ) (n m : ℕ) (rf : Rising f n) (rg : Rising g m) (to : Within f n g m) (from : Within g m f n) where
  -- one more, where all before it are the same
  one_more : (i : ℕ) → ((j : ℕ) → j < i → f j ≡ g j) → i < n → (i < m) × (f i ≡ g i)
  one_more i same h =
      let x = to i h in
      let ahead : i ≤ x.0 = ⊎_elim
      (λ b. absurd (omega (arith, rf x.0 i b h, same x.0 b, x.2))) (λ b. b) (below_or x.0 i) in
      let l : i < m = omega (arith, x.1) in
      let y = from i l in
      let behind : i ≤ y.0 = ⊎_elim
      (λ b. absurd (omega (arith, rg y.0 i b l, same y.0 b, y.2))) (λ b. b) (below_or y.0 i) in
      (l, omega (arith, rising_le g m rg i x.0 ahead x.1, rising_le f n rf i y.0 behind y.1, x.2, y.2))

  all-before : (k : ℕ) → k ≤ n → (i : ℕ) → i < k → (i < m) × (f i ≡ g i)
  all-before zero h i l = absurd (omega arith)
  all-before (suc k) h i l =
      one_more i (λ j b. (all-before k (omega arith) j (omega arith)).1) (omega arith)

  pub same_numbers : (i : ℕ) → i < n → (i < m) × (f i ≡ g i)
  same_numbers i h = all-before n (omega arith) i h

-- ---- bytes, told one by one
module _ (xs ys : List ℕ) (bx : AllBytes xs) (by : AllBytes ys) where
  pub run : (at c : ℕ) → at + c ≤ length xs → at + c ≤ length ys
      → ((j : ℕ) → j < c → field_at (at + j) 1 xs ≡ field_at (at + j) 1 ys) → take at xs ≡ take at ys → take (at + c) xs ≡ take (at + c) ys
  run at zero h g e t = let z : at + 0 ≡ at = omega arith in rw z t
  run at (suc c) h g e t =
      let z : at + suc c ≡ at + c + 1 = omega arith in
      rw z (grow xs ys bx by (at + c) 1 (omega arith) (omega arith) (e c (omega arith))
      (run at c (omega arith) (omega arith) (λ j l. e j (omega arith)) t))

-- ---- two short proofs of one
module _ {proof : List ℕ} {k : ℕ} {s t : List ℕ} {n m : ℕ} (a : ShortProof proof k s n) (b : ShortProof proof k t m)
    (bs : AllBytes s) (bt : AllBytes t) where
  agrees : (i : ℕ) → i < n → (i < m) × (a.old i ≡ b.old i)
  agrees = same_numbers a.old b.old n m a.rising b.rising
      (λ i h. (b.exactly (a.old i)).0 ((a.exactly (a.old i)).1 (i, h, refl)))
      (λ i h. (a.exactly (b.old i)).0 ((b.exactly (b.old i)).1 (i, h, refl)))

  no_less : n ≤ m
  no_less = ⊎_elim (λ l. let h = agrees m l in absurd (omega arith)) (λ l. l) (below_or m n)

  -- a parent of both, by its number in each
  parent-same : (i x y : ℕ) → i < n → x < i → y < i → a.old x ≡ b.old y → x ≡ y
  parent-same i x y h l r e =
      rising-same a.old n a.rising x y (omega arith) (omega arith) (e ∙ sym (agrees y (omega arith)).1)

  module _ (i : ℕ) (h : i < n) where
    u : SameStep proof s a.old i
    u = a.steps i h

    v : SameStep proof t b.old i
    v = b.steps i (agrees i h).0

    is : a.old i ≡ b.old i
    is = (agrees i h).1

    others : (place : ℕ) → place < 64 → (place < 2) ⊎ (6 ≤ place) → field_at (64 * i + place) 1 s ≡ field_at (64 * i + place) 1 t
    others place l o =
        u.others place l o ∙ ap (λ (j : ℕ). field_at (64 * j + place) 1 proof) is ∙ sym (v.others place l o)

    parents : (first_of s i ≡ first_of t i) × (second_of s i ≡ second_of t i)
    parents = ⊎_elim resolved loaded (below_or 0 (how proof (a.old i)))
      where
        loaded : how proof (a.old i) ≤ 0 → (first_of s i ≡ first_of t i) × (second_of s i ≡ second_of t i)
        loaded z =
            let x = u.loaded (omega arith) in
            let y = v.loaded (rw is at (let w : how proof (a.old i) ≡ 0 = omega arith in w)) in (
              x.0 ∙ ap (first_of proof) is ∙ sym y.0,
              x.1 ∙ ap (second_of proof) is ∙ sym y.1,
            )

        resolved : 0 < how proof (a.old i) → (first_of s i ≡ first_of t i) × (second_of s i ≡ second_of t i)
        resolved z =
            let x = u.resolved z in
            let y = v.resolved (rw is at z) in (
              parent-same i (first_of s i) (first_of t i) h x.0 y.0 (x.1 ∙ ap (first_of proof) is ∙ sym y.1),
              parent-same i (second_of s i) (second_of t i) h x.2 y.2 (x.3 ∙ ap (second_of proof) is ∙ sym y.3),
            )

    step_same : length s ≡ 64 * n → length t ≡ 64 * n → take (64 * i) s ≡ take (64 * i) t → take (64 * suc i) s ≡ take (64 * suc i) t
    step_same ls lt q =
        let head = run s t bs bt (64 * i) 2 (omega arith) (omega arith) (λ j l. others j (omega arith) (inl l)) q in
        let first = grow s t bs bt (64 * i + 2) 2 (omega arith) (omega arith) parents.0 head in
        let z : 64 * i + 2 + 2 ≡ 64 * i + 4 = omega arith in
        let second = grow s t bs bt (64 * i + 4) 2 (omega arith) (omega arith) parents.1 (rw z at first) in
        let w : 64 * i + 4 + 2 ≡ 64 * i + 6 = omega arith in
        let rest = run s t bs bt (64 * i + 6) 58 (omega arith) (omega arith)
        (λ j l. let e : 64 * i + 6 + j ≡ 64 * i + (6 + j) = omega arith in rw e (others (6 + j) (omega arith) (inr (omega arith))))
        (rw w at second) in
        let e : 64 * i + 6 + 58 ≡ 64 * suc i = omega arith in
        rw e at rest

  steps-same : length s ≡ 64 * n → length t ≡ 64 * n → (i : ℕ) → i ≤ n → take (64 * i) s ≡ take (64 * i) t
  steps-same ls lt zero h = refl
  steps-same ls lt (suc i) h = step_same i (omega arith) ls lt (steps-same ls lt i (omega arith))

module _ {proof : List ℕ} {k : ℕ} {s t : List ℕ} {n m : ℕ} (a : ShortProof proof k s n) (b : ShortProof proof k t m)
    (bs : AllBytes s) (bt : AllBytes t) where
  -- as many steps
  pub one-count : n ≡ m
  one-count = omega (arith, no_less a b bs bt, no_less b a bt bs)

  -- and the same bytes
  pub one-short : s ≡ t
  one-short =
      let e = one-count in
      let ls = a.size in
      let lt : length t ≡ 64 * n = omega (arith, b.size) in
      sym (take_all (64 * n) s (omega arith)) ∙ steps-same a b bs bt ls lt n (omega arith) ∙ take_all (64 * n) t (omega arith)
