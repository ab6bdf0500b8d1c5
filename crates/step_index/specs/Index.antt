-- The arrays of the index: each key's newest step, and each step's next older one of its key.
use Rattle.std.specs.Prelude.{◌≡◌, Bool, ◌&&◌, ◌||◌, List, ℕ, suc, ◌+◌, ◌-◌, ◌≤◌, ◌<◌, eqb, leb, length, get_or, set, replicate}
use Rattle.std.proofs.Math.Path.{refl, ap}
use Rattle.std.proofs.Common.{sym, subst, ◌∙◌, arith, below_more, length-set, get_or-set_same}
use Rattle.std.proofs.Math.Bool.{true, false, cond}
use borrow.Author.Tests.{eqb-true, eqb-false, lt-ltb, le-ltb, ltb-false, le-leb, leb-true, leb-false}
use Rattle.std.proofs.Math.Dec.{ltb}
use Rattle.std.proofs.lemmas.List.{length-replicate, get_or-replicate}
use Rattle.std.proofs.Math.Seq.{get_or-set_other}
use Rattle.step_index.specs.Chains.{any_below-none, newest, newest-own, newest-other, newest-within, newest-same, OnChain, on_chain, found}
use Rattle.step_index.specs.Chains.{found-newest, found-next}

-- ---- what the arrays hold
-- the link of step i, in the first array or the second
unfoldable pub link_at : List ℕ → List ℕ → ℕ → ℕ
link_at low high i = cond (ltb i 512) (get_or low i 0) (get_or high (i - 512) 0)

-- of the first n steps
pub record Indexed (heads low high : List ℕ) (key : ℕ → ℕ) (n : ℕ) : Type 0 where
  pub heads-long : length heads ≡ 512
  pub low-long : length low ≡ 512
  pub high-long : length high ≡ 512
  pub head : (k : ℕ) → k < 512 → get_or heads k 0 ≡ newest key n k
  pub link : (i : ℕ) → i < n → link_at low high i ≡ newest key i (key i)

-- how many of n steps are held: the first 1,024
unfoldable pub held_of : ℕ → ℕ
held_of n = cond (leb n 1024) n 1024

pub held_all : (n : ℕ) → n ≤ 1024 → held_of n ≡ n
unfolding held_of
held_all n h = rw (le-leb n 1024 h)

pub held-most : (n : ℕ) → 1024 ≤ n → held_of n ≡ 1024
unfolding held_of
held-most n h = by (leb n 1024) refl
  where
    by : (b : Bool) → leb n 1024 ≡ b → cond b n 1024 ≡ 1024
    by true e = let l : n ≤ 1024 = leb-true n 1024 e in omega arith
    by false e = refl

pub held-within : (n : ℕ) → held_of n ≤ n
unfolding held_of
held-within n = by (leb n 1024) refl
  where
    by : (b : Bool) → leb n 1024 ≡ b → cond b n 1024 ≤ n
    by true e = omega arith
    by false e = omega (arith, leb-false n 1024 e)

-- step i is held too, under key k, if there is room
pub record Extends (heads low high : List ℕ) (k i : ℕ) (heads' low' high' : List ℕ) : Type 0 where
  pub more : (key : ℕ → ℕ) → key i ≡ k → Indexed heads low high key (held_of i) → Indexed heads' low' high' key (held_of (suc i))

-- no step yet
pub indexed-none : (key : ℕ → ℕ) → Indexed (replicate 512 0) (replicate 512 0) (replicate 512 0) key 0
unfolding newest
indexed-none key =
    record {
      heads-long = length-replicate {A = ℕ} 512 0;
      low-long = length-replicate {A = ℕ} 512 0;
      high-long = length-replicate {A = ℕ} 512 0;
      head = λ k h. get_or-replicate 512 k 0 0 h;
      link = λ i h. absurd (omega arith);
    }

-- the keys of the first n steps are all that it is about
pub indexed-same : {heads low high : List ℕ} {key : ℕ → ℕ} {n : ℕ} → Indexed heads low high key n → (key' : ℕ → ℕ)
    → ((i : ℕ) → i < n → key i ≡ key' i) → Indexed heads low high key' n
indexed-same {key = key} {n = n} x key' e =
    record {
      heads-long = x.heads-long;
      low-long = x.low-long;
      high-long = x.high-long;
      head = λ k h. x.head k h ∙ newest-same key key' k n e;
      link = λ i h. x.link i h ∙ newest-same key key' (key i) i (λ j l. e j (omega arith)) ∙ ap (newest key' i) (e i h);
    }

-- ---- one step more
module _ {heads low high : List ℕ} {key : ℕ → ℕ} {n k : ℕ} (own : key n ≡ k) (small : k < 512) (x : Indexed heads low high key n) where
  head_more : (j : ℕ) → j < 512 → get_or (set heads k (n + 1)) j 0 ≡ newest key (suc n) j
  head_more j h = by (eqb (key n) j) refl
    where
      by : (b : Bool) → eqb (key n) j ≡ b → get_or (set heads k (n + 1)) j 0 ≡ newest key (suc n) j
      by true e =
          let same : k ≡ j = sym own ∙ eqb-true (key n) j e in
          let one : n + 1 ≡ suc n = omega arith in
          rw (newest-own key j n e, ← same) (get_or-set_same heads k (n + 1) 0 (omega (arith, x.heads-long)) ∙ one)
      by false e = get_or-set_other heads k j (n + 1) 0 (λ s. eqb-false (key n) j e (own ∙ sym s)) ∙ x.head j h
          ∙ sym (newest-other key j n e)

  -- from what the links are after the store
  extended : (low' high' : List ℕ) → length low' ≡ length low → length high' ≡ length high → link_at low' high' n ≡ get_or heads k 0
      → ((i : ℕ) → i < n → link_at low' high' i ≡ link_at low high i) → Indexed (set heads k (n + 1)) low' high' key (suc n)
  extended low' high' a b here there =
      record {
        heads-long = length-set heads k (n + 1) ∙ x.heads-long;
        low-long = a ∙ x.low-long;
        high-long = b ∙ x.high-long;
        head = head_more;
        link = λ i h. below_more (λ i. link_at low' high' i ≡ newest key i (key i)) n (λ i l. there i l ∙ x.link i l)
            (here ∙ x.head k small ∙ ap (newest key n) (sym own)) i (omega arith);
      }

  pub extended-low : n < 512 → Indexed (set heads k (n + 1)) (set low n (get_or heads k 0)) high key (suc n)
  unfolding link_at
  extended-low h =
      extended (set low n (get_or heads k 0)) high (length-set low n (get_or heads k 0)) refl
      (rw (lt-ltb n 512 h) (get_or-set_same low n (get_or heads k 0) 0 (omega (arith, x.low-long))))
      (λ i l. ap (λ (a : ℕ). cond (ltb i 512) a (get_or high (i - 512) 0))
      (get_or-set_other low n i (get_or heads k 0) 0 (λ e. absurd (omega arith))))

  pub extended-high : 512 ≤ n → n < 1024 → Indexed (set heads k (n + 1)) low (set high (n - 512) (get_or heads k 0)) key (suc n)
  unfolding link_at
  extended-high h few =
      extended low (set high (n - 512) (get_or heads k 0)) refl (length-set high (n - 512) (get_or heads k 0))
      (rw (le-ltb n 512 h) (get_or-set_same high (n - 512) (get_or heads k 0) 0 (omega (arith, x.high-long))))
      (λ i l. by i l (ltb i 512) refl)
    where
      by : (i : ℕ) → i < n → (b : Bool) → ltb i 512 ≡ b → cond b (get_or low i 0)
          (get_or (set high (n - 512) (get_or heads k 0)) (i - 512) 0) ≡ cond b (get_or low i 0) (get_or high (i - 512) 0)
      by i l true e = refl
      by i l false e = let m : 512 ≤ i = ltb-false i 512 e in get_or-set_other high (n - 512) (i - 512) (get_or heads k 0) 0
          (λ e. absurd (omega arith))

-- ---- a search along the chain of key k: what is known at a link
pub record Searched (key : ℕ → ℕ) (k : ℕ) (test : ℕ → Bool) (n link : ℕ) : Type 0 where
  pub within : link ≤ n
  pub on : OnChain key k link
  pub left : found key k test n ≡ found key k test link

module _ {heads low high : List ℕ} {key : ℕ → ℕ} {n : ℕ} (x : Indexed heads low high key n) (k : ℕ) (test : ℕ → Bool) where
  pub search-first : {link : ℕ} → k < 512 → link ≡ get_or heads k 0 → Searched key k test n link
  search-first {link} h e = subst (Searched key k test n) (sym (e ∙ x.head k h))
      (record { within = newest-within key k n; on = on_chain key k n; left = found-newest key k test n })

  module _ {link : ℕ} (s : Searched key k test n link) where
    module _ (i : ℕ) (e : link ≡ suc i) where
      at : found key k test n ≡ test i || found key k test (link_at low high i)
      at =
          let own : key i ≡ k = s.on i e in
          s.left ∙ ap (found key k test) e ∙ found-next key k test i own
          ∙ ap (λ (m : ℕ). test i || found key k test m) (sym (x.link i (omega (arith, s.within)) ∙ ap (newest key i) own))

      -- step i passes, or what is left decides
      pub search-found : test i ≡ true → found key k test n ≡ true
      search-found t = at ∙ rw t

      pub older-below : link_at low high i ≤ i
      older-below = rw (x.link i (omega (arith, s.within))) (newest-within key (key i) i)

      pub search-next : test i ≡ false → Searched key k test n (link_at low high i)
      search-next t =
          let own : key i ≡ k = s.on i e in
          record {
            within = omega (arith, older-below, s.within);
            on = subst (OnChain key k) (sym (x.link i (omega (arith, s.within)) ∙ ap (newest key i) own)) (on_chain key k i);
            left = at ∙ rw t;
          }

    pub search-none : link ≡ 0 → found key k test n ≡ false
    search-none e = s.left ∙ ap (found key k test) e ∙ any_below-none (λ i. eqb (key i) k && test i)
