-- What the reading of a model comes to, said by offset: the assignment that its fields state, or the first field that is not as it must be.
use Rattle.std.specs.Prelude.{◌≡◌, true, false, cond, not, ◌&&◌, ◌↔◌, ◌⊎◌, List, ℤ, pos, nat_abs, T, eqb, leb, ltb, length, get_or, drop}
use Rattle.std.proofs.Math.Path.{refl, sym}
use Rattle.std.proofs.Common.{◌∙◌, subst, inl, inr, ⊎_elim, arith, eqb→eq, ltb→lt, nltb→le}
use Rattle.std.proofs.Math.Bool.{Bool}
use Prim.Native.Nat.{ℕ, zero, suc, ◌+◌, ◌*◌, ◌≤◌, ◌<◌}
use Rattle.std.proofs.Math.Dec.{eqb_refl, leb→le, nleb→lt}
use Rattle.std.proofs.Math.Facts.{and_yes, and_no}
use Rattle.rules_types.specs.declared.answers.Refusal.{Refusal}
use Rattle.rules_types.specs.declared.answers.Refusal.TheVariants as refusal
use Rattle.rules_types.specs.Limits as limit
use Rattle.rules.specs.Bytes.{from_unsigned, field_at}
use Rattle.rules.specs.Problem.{Read, fault, got, after, repeat, each, field, in_range, amount}
use Rattle.rules.specs.Meaning.{Assignment}
use Rattle.rules.specs.Model.{is_boolean_byte, model}
use Rattle.theory_lists.specs.Tests.{split, clash}
use Rattle.theory_vectors.specs.Amounts.{range_small}
use Rattle.theory_bytes.specs.ReadBack.{repeat-each}
use Rattle.theory_layout.specs.Offsets.{StatesModel, BadField, bad_booleans, bad_open, bad_boolean, bad_rationals, bad_denominator}
use Rattle.theory_layout.specs.Offsets.{bad_numerator, FirstBadField}
use Rattle.theory_layout.specs.Readers.{field-good, field-bad, Ends, after-ends, one-ends, Several, each-ends}

-- ---- fields that are as they must be
-- a byte that is as it must be, and one that is not
boolean-bit : (o a : Bool) → T (is_boolean_byte o (cond o 2 (cond a 1 0)))
unfolding is_boolean_byte
boolean-bit true a = tt
boolean-bit false true = tt
boolean-bit false false = tt

bit-back : (o : Bool) (n : ℕ) → T (is_boolean_byte o n) → n ≡ cond o 2 (cond (eqb n 1) 1 0)
unfolding is_boolean_byte
bit-back true n h = eqb→eq n 2 h
bit-back false zero h = refl
bit-back false (suc zero) h = refl
bit-back false (suc (suc n)) h = absurd (omega (arith, leb→le (suc (suc n)) 1 h))

is-two : (o : Bool) (n : ℕ) → T (is_boolean_byte o n) → T o → n ≡ 2
unfolding is_boolean_byte
is-two true n h t = eqb→eq n 2 h
is-two false n h t = absurd t

is-bit : (o : Bool) (n : ℕ) → T (is_boolean_byte o n) → T (not o) → n ≤ 1
unfolding is_boolean_byte
is-bit true n h t = absurd t
is-bit false n h t = leb→le n 1 h

not-boolean : (o : Bool) (n : ℕ) → T (not (is_boolean_byte o n)) → (T o × (n ≡ 2 → ⊥)) ⊎ (T (not o) × (1 < n))
unfolding is_boolean_byte
not-boolean true n h = inl (tt, λ e. clash (eqb n 2) (rw e tt) h)
not-boolean false n h = inr (tt, nleb→lt n 1 h)

module _ (bytes : List ℕ) (b r : ℕ) (opens : ℕ → Bool) where
  -- every field that begins before a place
  record Good (place : ℕ) : Type 0 where
    pub booleans : 0 < place → field_at 0 1 bytes ≡ b
    pub boolean : (i : ℕ) → i < b → 1 + i < place → T (is_boolean_byte (opens i) (field_at (1 + i) 1 bytes))
    pub rationals : 1 + b < place → field_at (1 + b) 1 bytes ≡ r
    pub least : 2 + b < place → 1 ≤ field_at (2 + b) 4 bytes
    pub most : 2 + b < place → field_at (2 + b) 4 bytes ≤ 1000000000
    pub numerator : (f : ℕ) → f < r → 6 + b + 4 * f < place → nat_abs (from_unsigned (field_at (6 + b + 4 * f) 4 bytes)) ≤ 1000000000

  good-before : (place : ℕ) → Good place → (earlier : ℕ) → earlier < place → BadField bytes b r opens earlier → ⊥
  good-before place g earlier l (bad_booleans e n) = n (rw e (g.booleans (omega arith)))
  good-before place g earlier l (bad_open i h e o n) = n (is-two (opens i) (field_at earlier 1 bytes)
      (rw e (g.boolean i h (omega arith))) o)
  good-before place g earlier l (bad_boolean i h e o n) =
      let z = is-bit (opens i) (field_at earlier 1 bytes) (rw e (g.boolean i h (omega arith))) o in omega arith
  good-before place g earlier l (bad_rationals e n) = n (rw e (g.rationals (omega arith)))
  good-before place g earlier l (bad_denominator e n) =
      let y : 1 ≤ field_at earlier 4 bytes = rw e (g.least (omega arith)) in
      let z : field_at earlier 4 bytes ≤ 1000000000 = rw e (g.most (omega arith)) in
      ⊎_elim (λ k. omega arith) (λ k. omega arith) n
  good-before place g earlier l (bad_numerator f h e n) =
      let z : nat_abs (from_unsigned (field_at earlier 4 bytes)) ≤ 1000000000 = rw e (g.numerator f h (omega arith)) in omega arith

  first-bad : (place : ℕ) → Good place → BadField bytes b r opens place → FirstBadField bytes b r opens place
  first-bad place g n = record { bad = n; first = good-before place g }

  -- there is one first
  one-first : (m n : ℕ) → FirstBadField bytes b r opens m → FirstBadField bytes b r opens n → m ≡ n
  one-first m n h k =
      ⊎_elim (λ t. absurd (k.first m (ltb→lt m n t) h.bad))
      (λ t. ⊎_elim (λ u. absurd (h.first n (ltb→lt n m u) k.bad))
      (λ u. let y = nltb→le m n t in let z = nltb→le n m u in omega arith) (split (ltb n m))) (split (ltb m n))

  -- a model that states an assignment has no bad field
  stated-good : (χ : Assignment) → StatesModel bytes b r opens χ → (place : ℕ) → Good place
  stated-good χ s place =
      record {
        booleans = λ l. s.booleans;
        boolean = λ i h l. rw (s.boolean i h) (boolean-bit (opens i) (χ.booleans i));
        rationals = λ l. s.rationals;
        least = λ l. rw s.denominator s.least;
        most = λ l. rw s.denominator s.most;
        numerator = λ f h l. rw (s.numerator f h) (s.range f h);
      }

  stated-none-bad : (χ : Assignment) → StatesModel bytes b r opens χ → (place : ℕ) → BadField bytes b r opens place → ⊥
  stated-none-bad χ s place n = good-before (suc place) (stated-good χ s (suc place)) place (omega arith) n

differs : (m n : ℕ) → T (not (eqb m n)) → n ≡ m → ⊥
differs m n t e = clash (eqb m n) (rw e (eqb_refl m)) t

-- ---- the reading
module _ (bytes : List ℕ) (b r : ℕ) (opens : ℕ → Bool) (size : limit.model_bytes ≤ length bytes) (few : b ≤ limit.booleans)
    (small : r ≤ limit.rationals) where
  abbrev Refused : Refusal → ℕ → Type 0
  Refused f place = (f ≡ refusal.BadModel) × FirstBadField bytes b r opens place

  abbrev States : Assignment → List ℕ → ℕ → Type 0
  States χ rest place = StatesModel bytes b r opens χ

  abbrev flag : ℕ → ℕ
  flag i = field_at (1 + i) 1 bytes

  abbrev is_flag : ℕ → Bool
  is_flag i = is_boolean_byte (opens i) (flag i)

  abbrev numerator : ℕ → ℤ
  numerator f = from_unsigned (field_at (6 + b + 4 * f) 4 bytes)

  module _ (is_b : field_at 0 1 bytes ≡ b) where
    flag-bad : (i : ℕ) → i < b → ((j : ℕ) → j < i → T (is_flag j)) → T (not (is_flag i)) → Refused refusal.BadModel (1 + i)
    flag-bad i h g n = (
      refl,
      first-bad bytes b r opens (1 + i) (record {
        booleans = λ l. is_b;
        boolean = λ j k l. g j (omega arith);
        rationals = λ l. absurd (omega arith);
        least = λ l. absurd (omega arith);
        most = λ l. absurd (omega arith);
        numerator = λ f k l. absurd (omega arith);
      }) (⊎_elim (λ t. bad_open i h refl t.0 t.1) (λ t. bad_boolean i h refl t.0 t.1) (not-boolean (opens i) (flag i) n)),
    )

    flags-read : Ends (Several bytes 0 b (λ i. 1 + i) flag is_flag b 0) Refused
        (each 0 b (λ i. field 1 (is_boolean_byte (opens i)) refusal.BadModel) (drop 1 bytes) 1)
    flags-read =
        each-ends bytes 0 b (λ i. 1 + i) flag is_flag Refused (λ i. field 1 (is_boolean_byte (opens i)) refusal.BadModel) refusal.BadModel
        (λ i h. field-good bytes (1 + i) 1 (1 + suc i) (omega arith) (omega arith) (is_boolean_byte (opens i)) refusal.BadModel)
        (λ i h. field-bad bytes (1 + i) 1 (1 + suc i) (omega arith) (omega arith) (is_boolean_byte (opens i)) refusal.BadModel) flag-bad b 0
        (omega arith) (λ j l. absurd (omega arith))

    module _ (flags : (i : ℕ) → i < b → T (is_flag i)) (is_r : field_at (1 + b) 1 bytes ≡ r) where
      abbrev denominator : ℕ
      denominator = field_at (2 + b) 4 bytes

      module _ (is_d : T (leb 1 denominator && leb denominator limit.amount)) where
        numerator-bad : (f : ℕ) → f < r → ((j : ℕ) → j < f → T (in_range (numerator j))) → T (not (in_range (numerator f)))
            → Refused refusal.BadModel (6 + b + 4 * f)
        unfolding in_range
        numerator-bad f h g n =
            let d = and_yes (leb 1 denominator) (leb denominator limit.amount) is_d in (
              refl,
              first-bad bytes b r opens (6 + b + 4 * f) (record {
                booleans = λ l. is_b;
                boolean = λ j k l. flags j k;
                rationals = λ l. is_r;
                least = λ l. leb→le 1 denominator d.0;
                most = λ l. leb→le denominator limit.amount d.1;
                numerator = λ j k l. (range_small (numerator j)).0 (g j (omega arith));
              }) (bad_numerator f h refl (nleb→lt (nat_abs (numerator f)) limit.amount n)),
            )

        numerators-read : Ends (Several bytes (pos 0) r (λ f. 6 + b + 4 * f) numerator (λ f. in_range (numerator f)) r 0) Refused
            (repeat r (amount refusal.BadModel) (drop (6 + b + 4 * 0) bytes) (6 + b + 4 * 0))
        unfolding amount after
        numerators-read =
            let test : ℕ → Bool = λ n. in_range (from_unsigned n) in
            rw (repeat-each (amount refusal.BadModel) r 0)
            (each-ends bytes (pos 0) r (λ f. 6 + b + 4 * f) numerator (λ f. in_range (numerator f)) Refused (λ f. amount refusal.BadModel)
            refusal.BadModel
            (λ f h t. rw (field-good bytes (6 + b + 4 * f) 4 (6 + b + 4 * suc f) (omega arith) (omega arith) test refusal.BadModel t))
            (λ f h t. rw (field-bad bytes (6 + b + 4 * f) 4 (6 + b + 4 * suc f) (omega arith) (omega arith) test refusal.BadModel t))
            numerator-bad r 0 (omega arith) (λ j l. absurd (omega arith)))

  -- ---- field after field
  abbrev count : ℕ
  count = field_at 0 1 bytes

  abbrev count_r : ℕ
  count_r = field_at (1 + b) 1 bytes

  abbrev divisor : ℕ
  divisor = field_at (2 + b) 4 bytes

  count-bad : T (not (eqb b count)) → Refused refusal.BadModel 0
  count-bad t = (
    refl,
    first-bad bytes b r opens 0 (record {
      booleans = λ l. absurd (omega arith);
      boolean = λ j k l. absurd (omega arith);
      rationals = λ l. absurd (omega arith);
      least = λ l. absurd (omega arith);
      most = λ l. absurd (omega arith);
      numerator = λ f k l. absurd (omega arith);
    }) (bad_booleans refl (differs b count t)),
  )

  module _ (is_b : count ≡ b) (flags : (i : ℕ) → i < b → T (is_flag i)) where
    count_r-bad : T (not (eqb r count_r)) → Refused refusal.BadModel (1 + b)
    count_r-bad t = (
      refl,
      first-bad bytes b r opens (1 + b) (record {
        booleans = λ l. is_b;
        boolean = λ j k l. flags j k;
        rationals = λ l. absurd (omega arith);
        least = λ l. absurd (omega arith);
        most = λ l. absurd (omega arith);
        numerator = λ f k l. absurd (omega arith);
      }) (bad_rationals refl (differs r count_r t)),
    )

    divisor-bad : count_r ≡ r → T (not (leb 1 divisor && leb divisor limit.amount)) → Refused refusal.BadModel (2 + b)
    divisor-bad is_r t = (
      refl,
      first-bad bytes b r opens (2 + b) (record {
        booleans = λ l. is_b;
        boolean = λ j k l. flags j k;
        rationals = λ l. is_r;
        least = λ l. absurd (omega arith);
        most = λ l. absurd (omega arith);
        numerator = λ f k l. absurd (omega arith);
      }) (bad_denominator refl (outside (and_no (leb 1 divisor) (leb divisor limit.amount) t))),
    )
      where
        outside : T (not (leb 1 divisor)) ⊎ T (not (leb divisor limit.amount)) → (divisor < 1) ⊎ (1000000000 < divisor)
        outside = ⊎_elim (λ k. inl (nleb→lt 1 divisor k)) (λ k. inr (nleb→lt divisor limit.amount k))

    all-stated : count_r ≡ r → T (leb 1 divisor && leb divisor limit.amount) → ((f : ℕ) → f < r → T (in_range (numerator f)))
        → (xs : List ℕ) → ((j : ℕ) → j < b → get_or xs j 0 ≡ flag (0 + j))
        → (zs : List ℤ) → ((f : ℕ) → f < r → get_or zs f (pos 0) ≡ numerator (0 + f))
        → StatesModel bytes b r opens
        (record { booleans = λ i. eqb (get_or xs i 0) 1; numerators = λ f. get_or zs f (pos 0); denominator = divisor })
    all-stated is_r is_d is_n xs x zs z =
        let d = and_yes (leb 1 divisor) (leb divisor limit.amount) is_d in
        record {
          booleans = is_b;
          boolean = λ i h. let e : 0 + i ≡ i = omega arith in
              rw (x i h, e) (bit-back (opens i) (flag i) (flags i h));
          rationals = is_r;
          denominator = refl;
          numerator = λ f h. let e : 0 + f ≡ f = omega arith in rw (z f h, e);
          least = leb→le 1 divisor d.0;
          most = leb→le divisor limit.amount d.1;
          range = λ f h. let e : 0 + f ≡ f = omega arith in rw (z f h, e) ((range_small (numerator f)).0 (is_n f h));
        }

  -- THE THEOREM
  model-ends : Ends States Refused (model b r opens bytes 0)
  unfolding model
  model-ends =
      one-ends States Refused (eqb b count) (field 1 (eqb b) f bytes 0) _ count (drop 1 bytes) 1 f 0
      (field-good bytes 0 1 1 (omega arith) (omega arith) (eqb b) f) (field-bad bytes 0 1 1 (omega arith) (omega arith) (eqb b) f)
      (λ t. let is_b = sym (eqb→eq b count t) in
      after-ends _ States Refused (each 0 b (λ i. field 1 (is_boolean_byte (opens i)) f) (drop 1 bytes) 1) _ (flags-read is_b)
      (λ xs rest place s. rw (s.is_rest, s.is_place)
      (one-ends States Refused (eqb r count_r) (field 1 (eqb r) f (drop (1 + b) bytes) (1 + b)) _ count_r (drop (2 + b) bytes) (2 + b) f
      (1 + b)
      (field-good bytes (1 + b) 1 (2 + b) (omega arith) (omega arith) (eqb r) f)
      (field-bad bytes (1 + b) 1 (2 + b) (omega arith) (omega arith) (eqb r) f)
      (λ u. let is_r = sym (eqb→eq r count_r u) in
      one-ends States Refused (test divisor) (field 4 test f (drop (2 + b) bytes) (2 + b)) _ divisor (drop (6 + b + 4 * 0) bytes)
      (6 + b + 4 * 0) f (2 + b) (field-good bytes (2 + b) 4 (6 + b + 4 * 0) (omega arith) (omega arith) test f)
      (field-bad bytes (2 + b) 4 (6 + b + 4 * 0) (omega arith) (omega arith) test f)
      (λ v. after-ends _ States Refused (repeat r (amount f) (drop (6 + b + 4 * 0) bytes) (6 + b + 4 * 0)) _
      (numerators-read is_b s.goods is_r v)
      (λ zs rest place n. all-stated is_b s.goods is_r v n.goods xs s.values zs n.values))
      (divisor-bad is_b s.goods is_r)) (count_r-bad is_b s.goods))))
      count-bad
    where
      f : Refusal
      f = refusal.BadModel

      test : ℕ → Bool
      test n = leb 1 n && leb n limit.amount

  -- ---- so, both ways
  pub got-states : (χ : Assignment) (rest : List ℕ) (place : ℕ) → model b r opens bytes 0 ≡ got χ rest place → StatesModel bytes b r opens χ
  got-states χ rest place e = subst (Ends States Refused) e model-ends

  pub record Stated : Type 0 where
    pub assignment : Assignment
    pub rest : List ℕ
    pub place : ℕ
    pub is : model b r opens bytes 0 ≡ got assignment rest place
    pub states : StatesModel bytes b r opens assignment

  pub states-got : (χ : Assignment) → StatesModel bytes b r opens χ → Stated
  states-got χ s = by (model b r opens bytes 0) refl
    where
      by : (m : Read Assignment) → model b r opens bytes 0 ≡ m → Stated
      by (fault f place) e = absurd (stated-none-bad bytes b r opens χ s place (subst (Ends States Refused) e model-ends).1.bad)
      by (got ψ rest place) e =
          record { assignment = ψ; rest = rest; place = place; is = e; states = subst (Ends States Refused) e model-ends }

  -- 17, and which field
  pub refused-exactly : (place : ℕ) → (model b r opens bytes 0 ≡ fault refusal.BadModel place) ↔ FirstBadField bytes b r opens place
  refused-exactly place = (λ e. (subst (Ends States Refused) e model-ends).1, λ h. by h (model b r opens bytes 0) refl)
    where
      by : FirstBadField bytes b r opens place → (m : Read Assignment) → model b r opens bytes 0 ≡ m
          → model b r opens bytes 0 ≡ fault refusal.BadModel place
      by h (fault f at) e =
          let k = subst (Ends States Refused) e model-ends in
          e ∙ (λ i. fault (k.0 i) (one-first bytes b r opens at place k.1 h i))
      by h (got ψ rest at) e = absurd (stated-none-bad bytes b r opens ψ (subst (Ends States Refused) e model-ends) place h.bad)

  -- no other refusal
  pub model-refusal : (f : Refusal) (place : ℕ) → model b r opens bytes 0 ≡ fault f place → f ≡ refusal.BadModel
  model-refusal f place e = (subst (Ends States Refused) e model-ends).0
