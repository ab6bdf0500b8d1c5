-- The variables of a clause's literals, one sign at a time, gathered from the last literal to the first; and of both signs.
use Rattle.std.specs.Prelude.{◌≡◌, Bool, List, [], ◌∷◌, ℕ, ◌+◌, ◌-◌, ◌%◌, ◌≤◌, ◌<◌, get_or}
use Rattle.std.proofs.Math.Path.{sym, ap}
use Rattle.std.proofs.Common.{◌∙◌}
use Rattle.std.proofs.Math.Bool.{true, false}
use Rattle.std.specs.Bool.{beq}
use native.Mathlib.Omega.{arith}
use borrow.Author.Tests.{le-leb, lt-leb}
use Rattle.std.proofs.Math.Dec.{leb}
use Rattle.rules_types.specs.Limits.{all_booleans}
use Rattle.rules.specs.Problem.{Literal}
use Rattle.rules.specs.Lines.{Booleans, no_booleans, including}
use Rattle.rules.specs.Normalize.{members_of}
use Rattle.masks.specs.Mask.{bits}
use Rattle.problem_scan.specs.Values.{values_at, literal_at}
use Rattle.problem_clauses.specs.Passes.{values-next}

-- the literal that a byte stands for
unfoldable pub literal_of : ℕ → Literal
literal_of code = record { boolean = code % 128; negated = leb 128 code }

-- the variables of one sign with those of one literal more
unfoldable pub joined : Bool → Literal → Booleans → Booleans
joined negated l s = elim (beq l.negated negated) [ true ↦ including l.boolean s | false ↦ s ]

module _ (code : ℕ) (s : Booleans) where
  pub joined-positive : code < 128 → (joined false (literal_of code) s ≡ including (code % 128) s) × (joined true (literal_of code) s ≡ s)
  unfolding joined literal_of
  joined-positive h = let e : leb 128 code ≡ false = lt-leb 128 code h in (rw (e, joined), rw (e, joined))

  pub joined-negative : 128 ≤ code → (joined false (literal_of code) s ≡ s) × (joined true (literal_of code) s ≡ including (code % 128) s)
  unfolding joined literal_of
  joined-negative h = let e : leb 128 code ≡ true = le-leb 128 code h in (rw (e, joined), rw (e, joined))

-- of `count` literals, those behind the first `left` are gathered
pub record Gathered (q : List ℕ) (from count left positive negative : ℕ) : Type 0 where
  pub few : left ≤ count
  pub positives : bits all_booleans positive ≡ members_of false (values_at (literal_at q) 1 (count - left) (from + left))
  pub negatives : bits all_booleans negative ≡ members_of true (values_at (literal_at q) 1 (count - left) (from + left))

pub gathered-start : (q : List ℕ) (from count : ℕ) → Gathered q from count count 0 0
unfolding members_of values_at bits no_booleans
gathered-start q from count = let e : count - count ≡ 0 = omega arith in record { few = omega arith; positives = rw e; negatives = rw e }

-- one pass, of either sign: the literal before those gathered
module _ (q : List ℕ) (from count left : ℕ) (more : 0 < left) (few : left ≤ count) (negated : Bool) (old new : Booleans) where
  gathered-more : old ≡ members_of negated (values_at (literal_at q) 1 (count - left) (from + left))
      → new ≡ joined negated (literal_of (get_or q (from + (left - 1)) 0)) old
      → new ≡ members_of negated (values_at (literal_at q) 1 (count - (left - 1)) (from + (left - 1)))
  unfolding members_of literal_at literal_of joined
  gathered-more e n =
      let i : count - (left - 1) - 1 ≡ count - left = omega arith in
      let j : from + (left - 1) + 1 ≡ from + left = omega arith in
      let v = rw (i, j) at (values-next (literal_at q) 1 (from + (left - 1)) (count - (left - 1)) (omega arith)) in
      n ∙ ap (joined negated (literal_of (get_or q (from + (left - 1)) 0))) e ∙ sym (ap (members_of negated) v)

module _ {q : List ℕ} {from count left positive negative : ℕ} (run : Gathered q from count left positive negative) where
  pub gathered-done : left ≤ 0
      → (bits all_booleans positive ≡ members_of false (values_at (literal_at q) 1 count from))
      × (bits all_booleans negative ≡ members_of true (values_at (literal_at q) 1 count from))
  gathered-done h =
      let i : count - left ≡ count = omega arith in
      let j : from + left ≡ from = omega arith in
      (rw (i, j) at run.positives, rw (i, j) at run.negatives)

  pub gathered_next : 0 < left → (p n : ℕ)
      → bits all_booleans p ≡ joined false (literal_of (get_or q (from + (left - 1)) 0)) (bits all_booleans positive)
      → bits all_booleans n ≡ joined true (literal_of (get_or q (from + (left - 1)) 0)) (bits all_booleans negative)
      → Gathered q from count (left - 1) p n
  gathered_next more p n e f =
      record {
        few = omega (arith, run.few);
        positives = gathered-more q from count left more run.few false _ (bits all_booleans p) run.positives e;
        negatives = gathered-more q from count left more run.few true _ (bits all_booleans n) run.negatives f;
      }

-- ---- the variables of both signs, from the first literal to the last
unfoldable pub with_variables : List Literal → Booleans → Booleans
with_variables [] s = s
with_variables (l ∷ ls) s = with_variables ls (including l.boolean s)

-- of `count` literals, `left` are left, from `at` on, and those before them are gathered
pub record Joining (q : List ℕ) (from count mask at left all : ℕ) : Type 0 where
  pub end : at + left ≡ from + count
  pub same : with_variables (values_at (literal_at q) 1 left at) (bits all_booleans all)
      ≡ with_variables (values_at (literal_at q) 1 count from) (bits all_booleans mask)

module _ {q : List ℕ} {from count mask at left all : ℕ} (run : Joining q from count mask at left all) where
  pub joining-done : left ≤ 0 → bits all_booleans all ≡ with_variables (values_at (literal_at q) 1 count from) (bits all_booleans mask)
  unfolding with_variables values_at
  joining-done h = let e : left ≡ 0 = omega arith in rw e at run.same

  pub joining-next : 0 < left → (m : ℕ) → bits all_booleans m ≡ including (get_or q at 0 % 128) (bits all_booleans all)
      → Joining q from count mask (at + 1) (left - 1) m
  unfolding with_variables literal_at
  joining-next more m e =
      record {
        end = omega (arith, run.end);
        same = rw e (rw (values-next (literal_at q) 1 at left more) at run.same);
      }
