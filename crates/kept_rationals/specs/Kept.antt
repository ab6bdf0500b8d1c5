-- The variables that are kept, gathered clause by clause into a mask; and the comparisons counted.
use Rattle.std.specs.Prelude.{◌≡◌, refl, true, false, cond, ◌||◌, ℕ, ◌+◌, ◌*◌, ◌-◌, ◌≤◌, ◌<◌, eqb, length, get_or}
use Rattle.std.proofs.Math.Path.{sym, ap}
use Rattle.std.proofs.Common.{◌∙◌, add-one, get_or-set_same, get_or-set_other}
use Rattle.std.proofs.Math.Bool.{Bool}
use mathlib.Core.List.{List}
use native.Mathlib.Omega.{arith}
use borrow.Author.Tests.{eqb-true, eqb-false, lt-ltb, le-ltb}
use Rattle.rules_types.specs.Limits as limit
use Rattle.rules_types.specs.Layout as layout
use Rattle.rules.specs.Lists.{any}
use Rattle.rules.specs.Problem.{Clause}
use Rattle.rules.specs.Lines.{including, no_booleans}
use Rattle.rules.specs.Convert.{kept_by, kept, place_of}
use Rattle.theory_lists.specs.All.{get_or-replicate-same}
use Rattle.theory_conversion.specs.Length.{comparisons_in}
use Rattle.masks.specs.Mask.{bits, length-bits}
use Rattle.problem_scan.specs.declared.cursor.Sizes.{Sizes}
use Rattle.problem_scan.specs.Values.{comparison_at, count_of, clause_at, clause_end}
use Rattle.problem_clauses.specs.Passes.{length-values}
use Rattle.problem_read.specs.Clauses.{clauses_at, clauses_end, clauses-next, ends_next, end-within}
use Rattle.problem_read.specs.Parsed.{all_clauses, last_end, problem_at}
use Rattle.problem_read.specs.Readable.{Readable}
use Rattle.kept_rationals.specs.Alone.{At}
use Rattle.kept_rationals.specs.Clause.{KeepsOnly}

-- the members of a mask
unfoldable pub inside : ℕ → ℕ → Bool
inside n = λ i. get_or (bits limit.all_booleans n) i false

-- the place behind a variable's halves
pub place-next : (keeps : ℕ → Bool) (f : ℕ) → place_of keeps (f + 1) ≡ place_of keeps f + cond (keeps f) 1 2
unfolding place_of
place-next keeps f = rw (add-one f)

-- ---- with variable v, if it is below r
pub record Joined (mask v r m : ℕ) : Type 0 where
  pub same : (f : ℕ) → inside m f ≡ (inside mask f || At r f v)

or-true : (a : Bool) → (a || true) ≡ true
or-true true = refl
or-true false = refl

or_assoc : (a b c : Bool) → ((a || b) || c) ≡ (a || (b || c))
or_assoc true b c = refl
or_assoc false b c = refl

or-false : (a : Bool) → (a || false) ≡ a
or-false true = refl
or-false false = refl

module _ (mask v r : ℕ) where
  pub joined-none : r ≤ v → Joined mask v r mask
  joined-none h = record { same = λ f. rw (le-ltb v r h) (sym (or-false (inside mask f))) }

  pub joined-with : v < r → r ≤ limit.rationals → (m : ℕ) → bits limit.all_booleans m ≡ including v (bits limit.all_booleans mask)
      → Joined mask v r m
  unfolding inside including
  joined-with h few m e = record { same = λ f. rw (e, lt-ltb v r h) (by f (eqb f v) refl) }
    where
      s : List Bool
      s = bits limit.all_booleans mask

      by : (f : ℕ) (t : Bool) → eqb f v ≡ t → get_or (including v s) f false ≡ (get_or s f false || eqb f v)
      by f true i =
          let k : f ≡ v = eqb-true f v i in
          rw (i, k) (get_or-set_same s v true false (omega (arith, length-bits limit.all_booleans mask)) ∙ sym (or-true (get_or s v false)))
      by f false i = rw i (get_or-set_other s v f true false (eqb-false f v i) ∙ sym (or-false (get_or s f false)))

-- ---- the loop: of all clauses, `left` are left, from `at` on
pub record Keeping (q : List ℕ) (sizes : Sizes) (at left mask comparisons : ℕ) : Type 0 where
  pub end : clauses_end q sizes.rationals left at ≡ last_end q sizes
  pub same : (f : ℕ) → kept (problem_at q sizes) f ≡ (inside mask f || any (kept_by f) (clauses_at q sizes.rationals left at))
  pub count : comparisons + comparisons_in (clauses_at q sizes.rationals left at) ≡ comparisons_in (all_clauses q sizes)
  pub few : comparisons + 255 * left ≤ 65280

module _ {q : List ℕ} {sizes : Sizes} (given : Readable q sizes) where
  abbrev r : ℕ
  r = sizes.rationals

  pub keeping_start : Keeping q sizes layout.first_clause sizes.clauses 0 0
  unfolding kept inside bits no_booleans
  keeping_start = record {
    end = refl;
    same = λ f. rw (get_or-replicate-same limit.all_booleans f false);
    count = omega arith;
    few = omega (arith, given.parsed.clauses);
  }

  module _ {at left mask comparisons : ℕ} (run : Keeping q sizes at left mask comparisons) where
    pub keeping-done : left ≤ 0
        → (inside mask ≡ kept (problem_at q sizes)) × ((comparisons ≡ comparisons_in (all_clauses q sizes)) × (comparisons ≤ 65280))
    unfolding clauses_at any comparisons_in
    keeping-done h =
        let e : left ≡ 0 = omega arith in
        let s = rw e at run.same in
        ((λ i f. (sym (s f ∙ or-false (inside mask f))) i), (omega (arith, rw e at run.count), omega (arith, run.few)))

    module _ (more : 0 < left) where
      pub keeping-within : clause_end q r at ≤ length q
      keeping-within = omega (arith, end-within q r left at more, run.end, given.parsed.within)

      pub keeping-next : (v m : ℕ) → KeepsOnly q r at v → Joined mask v r m → (place : ℕ) → place ≡ count_of q at → get_or q place 0 < 256
          → Keeping q sizes (clause_end q r at) (left - 1) m (comparisons + get_or q place 0)
      unfolding any comparisons_in clause_at
      keeping-next v m k j place there small = record {
        end = sym (ends_next q r left at more) ∙ run.end;
        same = λ f. rw (clauses-next q r left at more) at (run.same f)
            ∙ rw (k.same f) (sym (or_assoc (inside mask f) (At r f v) (any (kept_by f) rest))
            ∙ ap (λ (b : Bool). b || any (kept_by f) rest) (sym (j.same f)));
        count = omega (arith, rw (clauses-next q r left at more) at run.count, counted);
        few = omega (arith, run.few);
      }
        where
          rest : List Clause
          rest = clauses_at q r (left - 1) (clause_end q r at)

          counted : length (clause_at q r at).comparisons ≡ get_or q place 0
          counted = length-values (comparison_at q r) (layout.comparison_bytes r) (get_or q (count_of q at) 0) (count_of q at + 1)
              ∙ rw there
