-- What is seen of an amount, a literal and a comparison at a place of a slice: one law for each way that its reading can go.
use Rattle.std.specs.Prelude.{◌≡◌, Bool, not, ◌&&◌, List, ℕ, ◌+◌, ◌%◌, ◌≤◌, ◌<◌, ℤ, length, drop, get_or}
use Rattle.std.proofs.Math.Path.{sym, ap}
use Rattle.std.proofs.Common.{◌∙◌, arith, lt-ltb, le-ltb}
use Rattle.std.proofs.Math.Bool.{true, false}
use Rattle.std.proofs.Math.Dec.{ltb}
use Rattle.rules_types.specs.declared.answers.Refusal.{Refusal}
use Rattle.rules_types.specs.declared.answers.Refusal.TheVariants as refusal
use Rattle.rules_types.specs.Layout as layout
use Rattle.rules.specs.Bytes.{from_unsigned, field_at}
use Rattle.rules.specs.Problem.{Relation, Read, fault, got, Reader, after, return, repeat, tested, field, in_range, amount, literal}
use Rattle.rules.specs.Problem.{is_relation, relation_of, is_equality, relation, comparison}
use Rattle.problem_scan.specs.declared.cursor.Cursor.{Cursor}
use Rattle.problem_scan.specs.declared.cursor.Cursor.TheVariants.{Next, Fault}
use Rattle.problem_scan.specs.Seen.{seen, Aligned, next-within, seen-fault, seen_next, seen-map}
use Rattle.problem_scan.specs.Steady.{steady-repeat, steady-amount}
use Rattle.theory_bytes.specs.Fields.{field_at-1}
use Rattle.problem_scan.specs.Fields.{then-short, then-bad, then-good}

-- ---- an amount
module _ (q : List ℕ) (at : ℕ) where
  pub amount-short : at ≤ length q → length q < at + 4 → seen (amount refusal.Amount (drop at q) at) ≡ Fault refusal.Truncated (length q)
  unfolding amount seen
  amount-short h l = ap seen (then-short q 4 _ _ at _ h l)

  pub amount-bad : at + 4 ≤ length q → in_range (from_unsigned (field_at at 4 q)) ≡ false
      → seen (amount refusal.Amount (drop at q) at) ≡ Fault refusal.Amount at
  unfolding amount seen
  amount-bad h e = ap seen (then-bad q 4 (λ n. in_range (from_unsigned n)) _ at _ h e)

  pub amount-good : at + 4 ≤ length q → in_range (from_unsigned (field_at at 4 q)) ≡ true
      → seen (amount refusal.Amount (drop at q) at) ≡ Next (at + 4)
  unfolding amount seen
  amount-good h e = ap seen (then-good q 4 (λ n. in_range (from_unsigned n)) _ at _ h e)

-- ---- a field of one byte
module _ {A : Type 0} (q : List ℕ) (good : ℕ → Bool) (f : Refusal) (at : ℕ) (next : ℕ → Reader A) where
  pub byte-short : at ≤ length q → length q ≤ at → seen (after (field 1 good f (drop at q) at) next) ≡ Fault refusal.Truncated (length q)
  unfolding seen
  byte-short h l = ap seen (then-short q 1 good f at next h (omega arith))

  pub byte-bad : at < length q → good (get_or q at 0) ≡ false → seen (after (field 1 good f (drop at q) at) next) ≡ Fault f at
  unfolding seen
  byte-bad h e = ap seen (then-bad q 1 good f at next (omega arith) (ap good (field_at-1 at q h) ∙ e))

  pub byte-good : at < length q → good (get_or q at 0) ≡ true
      → seen (after (field 1 good f (drop at q) at) next) ≡ seen (next (get_or q at 0) (drop (at + 1) q) (at + 1))
  byte-good h e =
      ap seen (then-good q 1 good f at next (omega arith) (ap good (field_at-1 at q h) ∙ e))
      ∙ ap (λ (v : ℕ). seen (next v (drop (at + 1) q) (at + 1))) (field_at-1 at q h)

-- ---- a literal
module _ (q : List ℕ) (at b : ℕ) where
  pub literal-short : at ≤ length q → length q ≤ at → seen (literal b (drop at q) at) ≡ Fault refusal.Truncated (length q)
  unfolding literal
  literal-short h l = byte-short q _ _ at _ h l

  pub literal-bad : at < length q → b ≤ get_or q at 0 % 128 → seen (literal b (drop at q) at) ≡ Fault refusal.Literal at
  unfolding literal
  literal-bad h l = byte-bad q (λ code. ltb (code % 128) b) _ at _ h (le-ltb (get_or q at 0 % 128) b l)

  pub literal-good : at < length q → get_or q at 0 % 128 < b → seen (literal b (drop at q) at) ≡ Next (at + 1)
  unfolding literal seen
  literal-good h l = byte-good q (λ code. ltb (code % 128) b) _ at _ h (lt-ltb (get_or q at 0 % 128) b l)

-- ---- a relation
module _ (q : List ℕ) (equated : Bool) (at : ℕ) where
  pub relation-short : at ≤ length q → length q ≤ at → relation equated (drop at q) at ≡ fault refusal.Truncated (length q)
  unfolding relation
  relation-short h l = then-short q 1 is_relation _ at _ h (omega arith)

  module _ (h : at < length q) where
    pub relation-bad : is_relation (get_or q at 0) ≡ false → relation equated (drop at q) at ≡ fault refusal.Relation at
    unfolding relation
    relation-bad e = then-bad q 1 is_relation _ at _ (omega arith) (ap is_relation (field_at-1 at q h) ∙ e)

    module _ (e : is_relation (get_or q at 0) ≡ true) where
      -- 18, right after 10
      known : (t : Bool) → equated && is_equality (relation_of (get_or q at 0)) ≡ t → relation equated (drop at q) at
          ≡ after (tested (not t) refusal.SecondEquality at (get_or q at 0) (drop (at + 1) q) (at + 1)) (λ code. return (relation_of code))
      unfolding relation
      known t s =
          then-good q 1 is_relation _ at _ (omega arith) (ap is_relation (field_at-1 at q h) ∙ e)
          ∙ rw (field_at-1 at q h, s)

      pub relation-second : equated && is_equality (relation_of (get_or q at 0)) ≡ true
          → relation equated (drop at q) at ≡ fault refusal.SecondEquality at
      unfolding after tested
      relation-second s = known true s

      pub relation-good : equated && is_equality (relation_of (get_or q at 0)) ≡ false
          → relation equated (drop at q) at ≡ got (relation_of (get_or q at 0)) (drop (at + 1) q) (at + 1)
      unfolding after tested
      relation-good s = known false s

-- ---- a comparison: its relation, then r coefficients, then the bound
module _ (q : List ℕ) (equated : Bool) (at r : ℕ) where
  pub comparison-refused : (f : Refusal) (p : ℕ) → relation equated (drop at q) at ≡ fault f p
      → seen (comparison equated r (drop at q) at) ≡ Fault f p
  unfolding comparison after seen
  comparison-refused f p e = rw e

  abbrev coefficients : Read (List ℤ)
  coefficients = repeat r (amount refusal.Amount) (drop (at + layout.comparison_coefficients) q) (at + layout.comparison_coefficients)

  module _ (h : at < length q) (v : Relation) (e : relation equated (drop at q) at ≡ got v (drop (at + 1) q) (at + 1))
      (w : Cursor) (given : w ≡ seen coefficients) where
    pub comparison-fault : (f : Refusal) (p : ℕ) → w ≡ Fault f p → w ≡ seen (comparison equated r (drop at q) at)
    unfolding comparison after
    comparison-fault f p i = i ∙ sym (rw e (seen-fault coefficients _ f p (sym given ∙ i)))

    aligned : Aligned q coefficients
    aligned = steady-repeat q (amount refusal.Amount) (steady-amount q refusal.Amount) r (at + layout.comparison_coefficients) (omega arith)

    pub comparison-within : (n : ℕ) → w ≡ Next n → n ≤ length q
    comparison-within n i = next-within q coefficients n aligned (sym given ∙ i)

    pub comparison-bound : (n : ℕ) → w ≡ Next n
        → seen (comparison equated r (drop at q) at) ≡ seen (amount refusal.Amount (drop n q) n)
    unfolding comparison after
    comparison-bound n i = rw e (seen_next q coefficients _ n (seen (amount refusal.Amount (drop n q) n)) aligned (sym given ∙ i)
        (λ cs. seen-map (amount refusal.Amount (drop n q) n) _))
