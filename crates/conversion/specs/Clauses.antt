-- The bytes of clauses with their variables split, by their places in the problem.
use Rattle.std.specs.Prelude.{◌≡◌, Bool, List, ◌++◌, ℕ, ◌+◌, ◌-◌, ◌≤◌, length, get_or, take, drop}
use Rattle.std.proofs.Common.{sym, subst, length-take, length-drop}
use native.Mathlib.Omega.{arith}
use Rattle.std.proofs.Math.ListN.{length-append}
use Rattle.problem_scan.specs.Values.{count_of, clause_end}
use Rattle.problem_clauses.specs.Walk.{count_of-is, count-within}
use Rattle.problem_read.specs.Clauses.{clauses_end, ends_next, end-within}
use Rattle.fields.specs.Field.{stored}
use Rattle.conversion.specs.Writing.{Wrote, wrote-++, wrote-size, parts_from, Places}
use Rattle.conversion.specs.Comparisons.{split_comparisons_at}

-- both counts and the literals of the clause at a place, as they are
unfoldable pub head_at : List ℕ → ℕ → List ℕ
head_at q at = take (count_of q at + 1 - at) (drop at q)

module _ (keeps : ℕ → Bool) (q : List ℕ) (r : ℕ) where
  abbrev pub rest_at : ℕ → List ℕ
  rest_at at = split_comparisons_at keeps q r (get_or q (count_of q at) 0) (count_of q at + 1)

  unfoldable pub split_clause_at : ℕ → List ℕ
  split_clause_at at = head_at q at ++ rest_at at

  -- so many of them, one behind another
  abbrev pub split_clauses_at : ℕ → ℕ → List ℕ
  split_clauses_at count from = parts_from split_clause_at (clause_end q r) count from

  -- ---- one clause: what is copied, then its comparisons
  module _ (old : List ℕ) (to at : ℕ) (fits : to + length (split_clause_at at) ≤ length old) (within : clause_end q r at ≤ length q)
      (place : ℕ) (there : place ≡ count_of q at) where
    head-is : take (place + 1 - at) (drop at q) ≡ head_at q at
    unfolding head_at
    head-is = rw there

    head-length : length (head_at q at) ≡ place + 1 - at
    unfolding head_at
    head-length = rw (sym there) (simp (length-take, length-drop) (omega (arith, count_of-is q at, count-within q r at within)))

    pub head-fits : to + length (take (place + 1 - at) (drop at q)) ≤ length old
    unfolding split_clause_at
    head-fits = rw head-is (omega (arith, length-append (head_at q at) (rest_at at)))

    pub place-fits : to + (place + 1 - at) ≤ length old
    place-fits = omega (arith, rw head-is at head-fits, head-length)

    module _ {mid : List ℕ} (head : mid ≡ stored to (take (place + 1 - at) (drop at q)) old) where
      wrote-head : Wrote old to (head_at q at) mid (to + (place + 1 - at))
      wrote-head = record { same = rw head-is at head; behind = omega (arith, head-length) }

      pub rest-fits : to + (place + 1 - at) + length (split_comparisons_at keeps q r (get_or q place 0) (place + 1)) ≤ length mid
      unfolding split_clause_at
      rest-fits =
          rw there (omega (
            arith,
            rw there at head-length,
            length-append (head_at q at) (rest_at at),
            wrote-size
                (rw head-is at head-fits) wrote-head,
          ))

      pub wrote-clause : {new : List ℕ} {end : ℕ}
          → Wrote mid (to + (place + 1 - at)) (split_comparisons_at keeps q r (get_or q place 0) (place + 1)) new end
          → Wrote old to (split_clause_at at) new end
      unfolding split_clause_at
      wrote-clause {new} {end} w =
          wrote-++ (omega (arith, fits)) wrote-head
          (subst (λ (i : ℕ). Wrote mid (to + (place + 1 - at)) (split_comparisons_at keeps q r (get_or q i 0) (i + 1)) new end) there w)

-- where several end
pub clause-places : (q : List ℕ) (r : ℕ) → Places (clause_end q r) (clauses_end q r)
clause-places q r = record { later = ends_next q r; reach = end-within q r }
