-- Whether coefficients are a negative multiple of one variable alone, in one pass from the first to the last.
use Rattle.std.specs.Prelude.{◌≡◌, refl, Bool, true, false, cond, ◌&&◌, List, [], ◌∷◌, ◌++◌, ℕ, zero, suc, ◌+◌, ◌-◌, ◌≤◌, ◌<◌, ℤ, pos}
use Rattle.std.specs.Prelude.{negsuc, eqb, ltb, length, replicate}
use Rattle.std.proofs.Math.Path.{sym}
use Rattle.std.proofs.Common.{ap, ◌∙◌}
use Rattle.std.proofs.Math.Numerals.{add-one}
use native.Mathlib.Omega.{arith}
use borrow.Author.Tests.{eq-eqb, ne_eqb, lt-ltb, le-ltb}
use Rattle.rules.specs.Lists.{all}
use Rattle.rules.specs.Arithmetic.{is_negative, is_zero}
use Rattle.rules.specs.Bytes.{from_unsigned, field_at}
use Rattle.rules.specs.Convert.{negative_alone}
use Rattle.kept_rationals.specs.declared.alone.Taken.{Taken}
use Rattle.kept_rationals.specs.declared.alone.Taken.TheVariants.{Found, Stop}
use Rattle.problem_scan.specs.Values.{values_at, behind, behind-is, amount_at}
use Rattle.theory_bytes.specs.Amounts.{from_unsigned-low, from_unsigned-high}
use Rattle.problem_clauses.specs.Passes.{values-next, behind-next}
use Rattle.problem_clauses.specs.Zeros.{is_zero-field}

-- with the coefficient of variable i, where `found` is the one before, or n for none
unfoldable pub taken : ℕ → ℕ → ℕ → ℤ → Taken
taken n i found c =
    elim (is_zero c) [
      | true ↦ Found found
      | false ↦ elim (ltb found n) [ true ↦ Stop | false ↦ elim (is_negative c) [ true ↦ Found i | false ↦ Stop ] ]
    ]

module _ (n i found : ℕ) (c : ℤ) where
  pub taken-zero : is_zero c ≡ true → Found found ≡ taken n i found c
  unfolding taken
  taken-zero e = rw (e, taken)

  pub taken-second : is_zero c ≡ false → found < n → Stop ≡ taken n i found c
  unfolding taken
  taken-second e h = rw (e, lt-ltb found n h, taken)

  pub taken-first : is_zero c ≡ false → n ≤ found → is_negative c ≡ true → Found i ≡ taken n i found c
  unfolding taken
  taken-first e h d = rw (e, le-ltb found n h, d, taken)

  pub taken-positive : is_zero c ≡ false → n ≤ found → is_negative c ≡ false → Stop ≡ taken n i found c
  unfolding taken
  taken-positive e h d = rw (e, le-ltb found n h, d, taken)

-- of a coefficient by its 32 bits
module _ (n i found c : ℕ) where
  pub bits-zero : c ≡ 0 → Found found ≡ taken n i found (from_unsigned c)
  bits-zero e = taken-zero n i found (from_unsigned c) (is_zero-field c ∙ eq-eqb c 0 e)

  module _ (nonzero : c ≡ 0 → ⊥) where
    some : is_zero (from_unsigned c) ≡ false
    some = is_zero-field c ∙ ne_eqb c 0 nonzero

    pub bits-second : found < n → Stop ≡ taken n i found (from_unsigned c)
    bits-second h = taken-second n i found (from_unsigned c) some h

    pub bits_positive : n ≤ found → c < 2147483648 → Stop ≡ taken n i found (from_unsigned c)
    unfolding is_negative
    bits_positive h l = taken-positive n i found (from_unsigned c) some h (ap is_negative (from_unsigned-low c l))

    pub bits-first : n ≤ found → 2147483648 ≤ c → Found i ≡ taken n i found (from_unsigned c)
    unfolding is_negative
    bits-first h l = taken-first n i found (from_unsigned c) some h (ap is_negative (from_unsigned-high c l))

-- those from number i on: n if a second one or a positive one stands there
unfoldable pub alone_in : ℕ → ℕ → ℕ → List ℤ → ℕ
alone_in n i found [] = found
alone_in n i found (c ∷ cs) = elim (taken n i found c) [ Found v ↦ alone_in n (suc i) v cs | Stop ↦ n ]

-- ---- one is there already: the others are 0
one_found : (n i found : ℕ) (cs : List ℤ) → found < n → alone_in n i found cs ≡ cond (all is_zero cs) found n
unfolding alone_in taken all
one_found n i found [] h = refl
one_found n i found (c ∷ cs) h = by (is_zero c) refl (one_found n (suc i) found cs h)
  where
    by : (z : Bool) → is_zero c ≡ z → alone_in n (suc i) found cs ≡ cond (all is_zero cs) found n
        → alone_in n i found (c ∷ cs) ≡ cond (is_zero c && all is_zero cs) found n
    by true e later = rw (e, taken, alone_in) later
    by false e later = rw (e, taken, lt-ltb found n h, alone_in)

-- ---- none is there yet: where it is found
zero-sign : (c : ℤ) → is_zero c ≡ true → is_negative c ≡ false
unfolding is_zero is_negative
zero-sign (pos n) e = refl
zero-sign (negsuc n) e = sym e

and-false : (a : Bool) → (a && false) ≡ false
and-false true = refl
and-false false = refl

-- the first one: the others are 0, or it is none
module _ (n i : ℕ) (c : ℤ) (cs : List ℤ) where
  at_first : i < n → is_zero c ≡ false → is_negative c ≡ true → alone_in n i n (c ∷ cs) ≡ cond (all is_zero cs) i n
  unfolding alone_in
  at_first h e d = rw (sym (taken-first n i n c e (omega arith) d), alone_in) (one_found n (suc i) i cs h)

  at-positive : is_zero c ≡ false → is_negative c ≡ false → alone_in n i n (c ∷ cs) ≡ n
  unfolding alone_in
  at-positive e d = rw (sym (taken-positive n i n c e (omega arith) d), alone_in)

  at_zero : is_zero c ≡ true → alone_in n i n (c ∷ cs) ≡ alone_in n (suc i) n cs
  unfolding alone_in
  at_zero e = rw (sym (taken-zero n i n c e), alone_in)

not-before : (n i : ℕ) (cs : List ℤ) → i + length cs ≤ n → i ≤ alone_in n i n cs
unfolding alone_in
not-before n i [] h = omega arith
not-before n i (c ∷ cs) h = by (is_zero c) refl (is_negative c) refl (not-before n (suc i) cs (omega arith))
  where
    least : (b : Bool) → i ≤ cond b i n
    least true = omega arith
    least false = omega arith

    by : (z : Bool) → is_zero c ≡ z → (m : Bool) → is_negative c ≡ m → suc i ≤ alone_in n (suc i) n cs → i ≤ alone_in n i n (c ∷ cs)
    by true e m d later = rw (at_zero n i c cs e) (omega arith)
    by false e true d later = rw (at_first n i c cs (omega arith) e d) (least (all is_zero cs))
    by false e false d later = rw (at-positive n i c cs e d) (omega arith)

-- v is the number of what is sought
abbrev pub At : ℕ → ℕ → ℕ → Bool
At n k v = ltb v n && eqb k v

at_none : (n k v : ℕ) → (v ≡ k → ⊥) → At n k v ≡ false
at_none n k v h = rw (ne_eqb k v (λ e. h (sym e))) (and-false (ltb v n))

pub at-past : (n k : ℕ) → At n k n ≡ false
at-past n k = rw (le-ltb n n (omega arith))

at_here : (n i : ℕ) → i < n → (z : Bool) → z ≡ At n (i + 0) (cond z i n)
at_here n i h true = let e : i + 0 ≡ i = omega arith in rw (lt-ltb i n h, eq-eqb (i + 0) i e)
at_here n i h false = sym (at-past n (i + 0))

at-behind : (n i f : ℕ) (z : Bool) → false ≡ At n (i + suc f) (cond z i n)
at-behind n i f true = sym (at_none n (i + suc f) i (λ e. omega arith))
at-behind n i f false = sym (at-past n (i + suc f))

pub alone-is : (n i : ℕ) (cs : List ℤ) → i + length cs ≤ n → (f : ℕ) → negative_alone f cs ≡ At n (i + f) (alone_in n i n cs)
unfolding negative_alone alone_in
alone-is n i [] h f = sym (at-past n (i + f))
alone-is n i (c ∷ cs) h f = by (is_zero c) refl (is_negative c) refl f (λ f. alone-is n (suc i) cs (omega arith) f)
  where
    by : (z : Bool) → is_zero c ≡ z → (m : Bool) → is_negative c ≡ m → (f : ℕ)
        → ((f : ℕ) → negative_alone f cs ≡ At n (suc i + f) (alone_in n (suc i) n cs))
        → negative_alone f (c ∷ cs) ≡ At n (i + f) (alone_in n i n (c ∷ cs))
    by true e m d zero later =
        rw (at_zero n i c cs e, zero-sign c e)
        (sym (at_none n (i + 0) (alone_in n (suc i) n cs) (λ k. omega (arith, not-before n (suc i) cs (omega arith)))))
    by true e m d (suc f) later =
        let k : suc i + f ≡ i + suc f = omega arith in
        rw (at_zero n i c cs e, e) (rw k at (later f))
    by false e true d zero later = rw (at_first n i c cs (omega arith) e d, d) (at_here n i (omega arith) (all is_zero cs))
    by false e true d (suc f) later = rw (at_first n i c cs (omega arith) e d, e) (at-behind n i f (all is_zero cs))
    by false e false d zero later = rw (at-positive n i c cs e d, d) (sym (at-past n (i + 0)))
    by false e false d (suc f) later = rw (at-positive n i c cs e d, e) (sym (at-past n (i + suc f)))

-- zeros behind change nothing
pub alone-padded : (f : ℕ) (cs : List ℤ) (k : ℕ) → negative_alone f (cs ++ replicate k (pos 0)) ≡ negative_alone f cs
unfolding negative_alone all is_zero is_negative
alone-padded f [] zero = refl
alone-padded zero [] (suc k) = refl
alone-padded (suc f) [] (suc k) = alone-padded f [] k
alone-padded zero (c ∷ cs) k = ap (λ (b : Bool). is_negative c && b) (zeros cs)
  where
    zeros : (cs : List ℤ) → all is_zero (cs ++ replicate k (pos 0)) ≡ all is_zero cs
    zeros [] = none k
      where
        none : (k : ℕ) → all is_zero (replicate k (pos 0)) ≡ true
        none zero = refl
        none (suc k) = none k
    zeros (c ∷ cs) = ap (λ (b : Bool). is_zero c && b) (zeros cs)
alone-padded (suc f) (c ∷ cs) k = ap (λ (b : Bool). is_zero c && b) (alone-padded f cs k)

-- ---- the loop: what is left comes to the same
pub record Seeking (q : List ℕ) (from r at i found : ℕ) : Type 0 where
  pub few : i ≤ r
  pub end : behind 4 (r - i) at ≡ behind 4 r from
  pub same : alone_in r i found (values_at (amount_at q) 4 (r - i) at) ≡ alone_in r 0 r (values_at (amount_at q) 4 r from)

pub seeking-start : (q : List ℕ) (from r : ℕ) → Seeking q from r from 0 r
seeking-start q from r = let e : r - 0 ≡ r = omega arith in record { few = omega arith; end = rw e; same = rw e }

module _ {q : List ℕ} {from r at i found : ℕ} (run : Seeking q from r at i found) where
  pub seeking-done : r ≤ i → found ≡ alone_in r 0 r (values_at (amount_at q) 4 r from)
  unfolding alone_in values_at
  seeking-done h = let e : r - i ≡ 0 = omega arith in rw e at run.same

  module _ (more : i < r) where
    pub seeking-within : at + 4 ≤ behind 4 r from
    seeking-within = omega (arith, run.end, behind-is 4 (r - i) at)

    first : alone_in r i found (amount_at q at ∷ values_at (amount_at q) 4 (r - i - 1) (at + 4))
        ≡ alone_in r 0 r (values_at (amount_at q) 4 r from)
    first = ap (alone_in r i found) (sym (values-next (amount_at q) 4 at (r - i) (omega arith))) ∙ run.same

    -- the coefficient's 32 bits, and what they make of what was found
    module _ (n : ℕ) (bits : n ≡ field_at at 4 q) (t : Taken) (is : t ≡ taken r i found (from_unsigned n)) where
      taken_is : taken r i found (amount_at q at) ≡ t
      unfolding amount_at
      taken_is = sym (rw bits at is)

      pub seeking-stop : t ≡ Stop → r ≡ alone_in r 0 r (values_at (amount_at q) 4 r from)
      unfolding alone_in
      seeking-stop e = rw (taken_is ∙ e, alone_in) at first

      pub seeking-next : (v : ℕ) → t ≡ Found v → Seeking q from r (at + 4) (i + 1) v
      unfolding alone_in
      seeking-next v e =
          let k : r - (i + 1) ≡ r - i - 1 = omega arith in
          record {
            few = omega arith;
            end = rw k (sym (behind-next 4 at (r - i) (omega arith)) ∙ run.end);
            same = rw (k, add-one i) (rw (taken_is ∙ e, alone_in) at first);
          }
