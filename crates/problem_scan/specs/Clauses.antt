-- What is seen of a clause at a place of a slice: its literals, then its list of comparisons.
use Rattle.std.specs.Prelude.{◌≡◌, List, ℕ, ◌+◌, ◌≤◌, ◌<◌, length, drop, get_or}
use Rattle.std.proofs.Math.Path.{sym}
use Rattle.std.proofs.Common.{◌∙◌, arith, le-leb}
use Rattle.std.proofs.Math.Bool.{false}
use Rattle.std.proofs.lemmas.Bool.{lt-leb}
use Rattle.std.proofs.Math.Dec.{leb}
use Rattle.rules_types.specs.declared.answers.Refusal.{Refusal}
use Rattle.rules_types.specs.declared.answers.Refusal.TheVariants as refusal
use Rattle.rules_types.specs.Limits as limit
use Rattle.rules.specs.Problem.{Literal, Comparison, Clause, Read, Reader, ◌>>=◌, repeat, field, literal, comparisons, clause}
use Rattle.problem_scan.specs.declared.cursor.Cursor.{Cursor}
use Rattle.problem_scan.specs.declared.cursor.Cursor.TheVariants.{Next, Fault}
use Rattle.problem_scan.specs.declared.cursor.Sizes.{Sizes}
use Rattle.problem_scan.specs.Seen.{seen, next-within, seen-fault, seen_next, seen-then-map}
use Rattle.problem_scan.specs.Steady.{steady-repeat, steady-literal}
use Rattle.problem_scan.specs.Comparisons.{byte-short, byte-bad, byte-good}

-- "a byte t, 0 to 8, then t conditions"
unfoldable pub comparison_list : ℕ → Reader (List Comparison)
comparison_list r = do
  t ← field 1 (λ t. leb t limit.comparisons) refusal.Comparisons
  comparisons t false r

-- a clause and all clauses of a problem of these sizes
abbrev pub clause_of : Sizes → Reader Clause
clause_of sizes = clause sizes.booleans sizes.rationals

abbrev pub clauses_of : Sizes → Reader (List Clause)
clauses_of sizes = repeat sizes.clauses (clause_of sizes)

module _ (q : List ℕ) (at r : ℕ) where
  pub list-short : at ≤ length q → length q ≤ at → seen (comparison_list r (drop at q) at) ≡ Fault refusal.Truncated (length q)
  unfolding comparison_list
  list-short h l = byte-short q _ _ at _ h l

  pub list-bad : at < length q → limit.comparisons < get_or q at 0 → seen (comparison_list r (drop at q) at) ≡ Fault refusal.Comparisons at
  unfolding comparison_list
  list-bad h l = byte-bad q (λ t. leb t limit.comparisons) _ at _ h (lt-leb (get_or q at 0) limit.comparisons l)

  pub list-good : at < length q → get_or q at 0 ≤ limit.comparisons
      → seen (comparison_list r (drop at q) at) ≡ seen (comparisons (get_or q at 0) false r (drop (at + 1) q) (at + 1))
  unfolding comparison_list
  list-good h l = byte-good q (λ t. leb t limit.comparisons) _ at _ h (le-leb (get_or q at 0) limit.comparisons l)

module _ (q : List ℕ) (at b r : ℕ) where
  abbrev literals : Read (List Literal)
  literals = repeat (get_or q at 0) (literal b) (drop (at + 1) q) (at + 1)

  pub clause-short : at ≤ length q → length q ≤ at → seen (clause b r (drop at q) at) ≡ Fault refusal.Truncated (length q)
  unfolding clause
  clause-short h l = byte-short q _ _ at _ h l

  pub clause-bad : at < length q → limit.literals < get_or q at 0 → seen (clause b r (drop at q) at) ≡ Fault refusal.Literal at
  unfolding clause
  clause-bad h l = byte-bad q (λ m. leb m limit.literals) _ at _ h (lt-leb (get_or q at 0) limit.literals l)

  module _ (h : at < length q) (l : get_or q at 0 ≤ limit.literals) (w : Cursor) (given : w ≡ seen literals) where
    pub clause-fault : (f : Refusal) (p : ℕ) → w ≡ Fault f p → w ≡ seen (clause b r (drop at q) at)
    unfolding clause
    clause-fault f p i =
        i ∙ sym (byte-good q (λ m. leb m limit.literals) _ at _ h (le-leb (get_or q at 0) limit.literals l)
        ∙ seen-fault literals _ f p (sym given ∙ i))

    pub clause-within : (n : ℕ) → w ≡ Next n → n ≤ length q
    clause-within n i =
        next-within q literals n (steady-repeat q (literal b) (steady-literal q b) (get_or q at 0) (at + 1) (omega arith)) (sym given ∙ i)

    pub clause-rest : (n : ℕ) → w ≡ Next n → seen (clause b r (drop at q) at) ≡ seen (comparison_list r (drop n q) n)
    unfolding clause comparison_list
    clause-rest n i =
        byte-good q (λ m. leb m limit.literals) _ at _ h (le-leb (get_or q at 0) limit.literals l)
        ∙ seen_next q literals _ n (seen (comparison_list r (drop n q) n))
        (steady-repeat q (literal b) (steady-literal q b) (get_or q at 0) (at + 1) (omega arith)) (sym given ∙ i)
        (λ ls. seen-then-map (field 1 (λ t. leb t limit.comparisons) refusal.Comparisons (drop n q) n)
        (λ t. comparisons t false r) (λ t cs. record {
          start = at;
          literals = ls;
          comparisons = cs;
        }))
