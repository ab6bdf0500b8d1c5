-- A whole problem: what its reading comes to up to fault 12, with its sizes in place of the problem; a law for each way it can go.
use Rattle.std.proofs.Math.Path.{◌≡◌, refl, ap}
use Rattle.std.proofs.Common.{sym, ◌∙◌, arith, le-leb, lt-ltb, le-ltb}
use Rattle.std.specs.Prelude.{true, false, ltb, length}
use mathlib.Core.List.{List, [], ◌∷◌}
use Prim.Native.Nat.{ℕ, zero, suc, ◌+◌, ◌≤◌, ◌<◌}
use Rattle.std.proofs.lemmas.Bool.{lt-leb}
use Rattle.std.proofs.Math.Dec.{leb}
use Rattle.std.proofs.Math.ListN.{drop, get_or, drop_of_length-le}
use Rattle.std.proofs.Math.Seq.{drop-cons}
use Rattle.rules_types.specs.declared.answers.Refusal.{Refusal}
use Rattle.rules_types.specs.declared.answers.Refusal.TheVariants as refusal
use Rattle.rules_types.specs.Limits as limit
use Rattle.rules_types.specs.Layout as layout
use Rattle.rules.specs.Bytes.{field_at}
use Rattle.rules.specs.Problem.{Clause, Problem, Read, fault, got, Reader, ◌>>=◌, after, return, repeat, field, end, problem}
use Rattle.problem_scan.specs.declared.cursor.Cursor.{Cursor}
use Rattle.problem_scan.specs.declared.cursor.Cursor.TheVariants as cursor
use Rattle.problem_scan.specs.declared.cursor.Sizes.{Sizes}
use Rattle.problem_scan.specs.declared.cursor.Scan.{Scan}
use Rattle.problem_scan.specs.declared.cursor.Scan.TheVariants.{Sound, Fault}
use Rattle.problem_scan.specs.Seen.{seen, Aligned}
use Rattle.problem_scan.specs.Steady.{steady-repeat, steady-clause}
use Rattle.theory_bytes.specs.Fields.{field_at-1}
use Rattle.problem_scan.specs.Clauses.{clause_of, clauses_of}
use Rattle.problem_scan.specs.Fields.{then-short, then-bad, then-good}

-- b, r and n of a problem
abbrev pub sizes_of : Problem → Sizes
sizes_of p = record { booleans = p.booleans; rationals = p.rationals; clauses = length p.clauses }

unfoldable pub outline : Read Problem → Scan
outline (fault f place) = Fault f place
outline (got p bytes place) = Sound (sizes_of p)

-- 3, before the others: "question over 32,768 bytes; 32,768"
unfoldable pub scanned : List ℕ → Scan
scanned q =
    elim (ltb limit.problem_bytes (length q)) [
      | true ↦ Fault refusal.LongProblem limit.problem_bytes
      | false ↦ outline (problem q 0)
    ]

pub scanned-long : (q : List ℕ) → limit.problem_bytes < length q → scanned q ≡ Fault refusal.LongProblem limit.problem_bytes
unfolding scanned
scanned-long q h = rw (lt-ltb limit.problem_bytes (length q) h, scanned)

pub scanned-short : (q : List ℕ) → length q ≤ limit.problem_bytes → scanned q ≡ outline (problem q 0)
unfolding scanned
scanned-short q h = rw (le-ltb limit.problem_bytes (length q) h, scanned)

-- ---- the clauses
-- what is read after b, r and n
unfoldable pub body : Sizes → Reader Problem
body sizes = do
  clauses ← clauses_of sizes
  end (record { booleans = sizes.booleans; rationals = sizes.rationals; clauses = clauses })

module _ {A : Type 0} where
  abbrev Counts : ℕ → Read (List A) → Type 0
  Counts k (fault f place) = Unit {0}
  Counts k (got xs bytes place) = length xs ≡ k

  counts-more : (k : ℕ) (x : A) (r : Read (List A)) → Counts k r → Counts (suc k) (after r (λ xs. return (x ∷ xs)))
  unfolding after
  counts-more k x (fault f place) h = tt
  counts-more k x (got xs bytes place) h = ap suc h

  counts-after : (k : ℕ) (r : Read A) (rest : Reader (List A)) → ((bytes : List ℕ) (place : ℕ) → Counts k (rest bytes place))
      → Counts (suc k) (after r (λ x bytes place. after (rest bytes place) (λ xs. return (x ∷ xs))))
  unfolding after
  counts-after k (fault f place) rest h = tt
  counts-after k (got x bytes place) rest h = counts-more k x (rest bytes place) (h bytes place)

  repeat-counts : (one : Reader A) (k : ℕ) (bytes : List ℕ) (place : ℕ) → Counts k (repeat k one bytes place)
  unfolding repeat
  repeat-counts one zero bytes place = refl
  repeat-counts one (suc k) bytes place = counts-after k (one bytes place) (repeat k one) (repeat-counts one k)

module _ (q : List ℕ) (sizes : Sizes) where
  abbrev ended : List Clause → Reader Problem
  ended cs = end (record { booleans = sizes.booleans; rationals = sizes.rationals; clauses = cs })

  by-fault : (c : Read (List Clause)) (f : Refusal) (p : ℕ) → seen c ≡ cursor.Fault f p → Fault f p ≡ outline (after c ended)
  unfolding after outline seen
  by-fault (fault g place) f p e = cc
  by-fault (got cs bytes place) f p e = let z : ◌≡◌ {A = ℕ} 0 1 = cc in absurd (omega arith)

  by-trailing : (c : Read (List Clause)) (at : ℕ) → Aligned q c → seen c ≡ cursor.Next at → at < length q
      → Fault refusal.Trailing at ≡ outline (after c ended)
  unfolding after outline seen end
  by-trailing (fault g place) at k e h = let z : ◌≡◌ {A = ℕ} 0 1 = cc in absurd (omega arith)
  by-trailing (got cs bytes place) at k e h =
      let z : place ≡ at = cc in
      let d : bytes ≡ get_or q at 0 ∷ drop (suc at) q = k.0 ∙ ap (λ (i : ℕ). drop i q) z ∙ drop-cons q at 0 h in
      rw (d, z)

  by_end : (c : Read (List Clause)) (at : ℕ) → Aligned q c → Counts sizes.clauses c → seen c ≡ cursor.Next at → length q ≤ at
      → Sound sizes ≡ outline (after c ended)
  unfolding after outline seen end
  by_end (fault g place) at k s e h = let z : ◌≡◌ {A = ℕ} 0 1 = cc in absurd (omega arith)
  by_end (got cs bytes place) at k s e h =
      let z : place ≡ at = cc in
      let d : bytes ≡ [] = k.0 ∙ ap (λ (i : ℕ). drop i q) z ∙ drop_of_length-le q {i = at} h in
      rw (d, s)

  abbrev all : Read (List Clause)
  all = clauses_of sizes (drop layout.first_clause q) layout.first_clause

  abbrev whole : Read Problem
  whole = body sizes (drop layout.first_clause q) layout.first_clause

  module _ (h : layout.first_clause ≤ length q) (w : Cursor) (given : w ≡ seen all) where
    aligned : Aligned q all
    aligned = steady-repeat q (clause_of sizes) (steady-clause q sizes.booleans sizes.rationals) sizes.clauses layout.first_clause h

    pub body-fault : (f : Refusal) (p : ℕ) → w ≡ cursor.Fault f p → Fault f p ≡ outline whole
    unfolding body
    body-fault f p e = by-fault all f p (sym given ∙ e)

    pub body-trailing : (at : ℕ) → w ≡ cursor.Next at → at < length q → Fault refusal.Trailing at ≡ outline whole
    unfolding body
    body-trailing at e l = by-trailing all at aligned (sym given ∙ e) l

    pub body_end : (at : ℕ) → w ≡ cursor.Next at → length q ≤ at → Sound sizes ≡ outline whole
    unfolding body
    body_end at e l =
        by_end all at aligned (repeat-counts (clause_of sizes) sizes.clauses (drop layout.first_clause q) layout.first_clause)
        (sym given ∙ e) l

-- ---- b, r and n
module _ (q : List ℕ) (k : ℕ) (most : ℕ) (f : Refusal) (at : ℕ) (next : ℕ → Reader Problem) where
  at-most-short : at ≤ length q → length q < at + k
      → outline (after (field k (λ v. leb v most) f (drop at q) at) next) ≡ Fault refusal.Truncated (length q)
  unfolding outline
  at-most-short h l = ap outline (then-short q k (λ v. leb v most) f at next h l)

  at-most-bad : at + k ≤ length q → most < field_at at k q → outline (after (field k (λ v. leb v most) f (drop at q) at) next) ≡ Fault f at
  unfolding outline
  at-most-bad h l = ap outline (then-bad q k (λ v. leb v most) f at next h (lt-leb (field_at at k q) most l))

  at-most-good : at + k ≤ length q → field_at at k q ≤ most
      → after (field k (λ v. leb v most) f (drop at q) at) next ≡ next (field_at at k q) (drop (at + k) q) (at + k)
  at-most-good h l = then-good q k (λ v. leb v most) f at next h (le-leb (field_at at k q) most l)

-- the sizes that the first bytes say
abbrev pub sizes_at : List ℕ → Sizes
sizes_at q =
    record {
      booleans = get_or q layout.problem_booleans 0;
      rationals = get_or q layout.problem_rationals 0;
      clauses = field_at layout.problem_clauses 2 q;
    }

module _ (q : List ℕ) where
  -- one of them, of one byte, that is there and within its limit
  byte-good : (most : ℕ) (f : Refusal) (at : ℕ) (next : ℕ → Reader Problem) → at < length q → get_or q at 0 ≤ most
      → after (field 1 (λ v. leb v most) f (drop at q) at) next ≡ next (field_at at 1 q) (drop (at + 1) q) (at + 1)
  byte-good most f at next h l = at-most-good q 1 most f at next (omega arith) (omega (arith, field_at-1 at q h))

  byte-bad : (most : ℕ) (f : Refusal) (at : ℕ) (next : ℕ → Reader Problem) → at < length q → most < get_or q at 0
      → outline (after (field 1 (λ v. leb v most) f (drop at q) at) next) ≡ Fault f at
  byte-bad most f at next h l = at-most-bad q 1 most f at next (omega arith) (omega (arith, field_at-1 at q h))

  pub problem-short-b : length q ≤ layout.problem_booleans → outline (problem q 0) ≡ Fault refusal.Truncated (length q)
  unfolding problem
  problem-short-b l = at-most-short q 1 limit.booleans refusal.Booleans layout.problem_booleans _ (omega arith) (omega arith)

  module _ (hb : layout.problem_booleans < length q) where
    pub problem-bad-b : limit.booleans < (sizes_at q).booleans → outline (problem q 0) ≡ Fault refusal.Booleans layout.problem_booleans
    unfolding problem
    problem-bad-b l = byte-bad limit.booleans refusal.Booleans layout.problem_booleans _ hb l

    module _ (lb : (sizes_at q).booleans ≤ limit.booleans) where
      pub problem-short-r : length q ≤ layout.problem_rationals → outline (problem q 0) ≡ Fault refusal.Truncated (length q)
      unfolding problem
      problem-short-r l =
          ap outline (byte-good limit.booleans refusal.Booleans layout.problem_booleans _ hb lb)
          ∙ at-most-short q 1 limit.rationals refusal.Rationals layout.problem_rationals _ hb (omega arith)

      module _ (hr : layout.problem_rationals < length q) where
        pub problem-bad-r : limit.rationals < (sizes_at q).rationals
            → outline (problem q 0) ≡ Fault refusal.Rationals layout.problem_rationals
        unfolding problem
        problem-bad-r l =
            ap outline (byte-good limit.booleans refusal.Booleans layout.problem_booleans _ hb lb)
            ∙ byte-bad limit.rationals refusal.Rationals layout.problem_rationals _ hr l

        module _ (lr : (sizes_at q).rationals ≤ limit.rationals) where
          pub problem-short-n : length q < layout.first_clause → outline (problem q 0) ≡ Fault refusal.Truncated (length q)
          unfolding problem
          problem-short-n l =
              ap outline (byte-good limit.booleans refusal.Booleans layout.problem_booleans _ hb lb
              ∙ byte-good limit.rationals refusal.Rationals layout.problem_rationals _ hr lr)
              ∙ at-most-short q 2 limit.clauses refusal.Clauses layout.problem_clauses _ hr l

-- b and r are there and within their limits, and n is there
pub record Header (q : List ℕ) : Type 0 where
  pub booleans : (sizes_at q).booleans ≤ limit.booleans
  pub rationals : (sizes_at q).rationals ≤ limit.rationals
  pub clauses : layout.first_clause ≤ length q

module _ (q : List ℕ) (h : Header q) where
  b_there : layout.problem_booleans < length q
  b_there = omega (arith, h.clauses)

  r-there : layout.problem_rationals < length q
  r-there = omega (arith, h.clauses)

  pub problem-bad-n : limit.clauses < (sizes_at q).clauses → outline (problem q 0) ≡ Fault refusal.Clauses layout.problem_clauses
  unfolding problem
  problem-bad-n l =
      ap outline (byte-good q limit.booleans refusal.Booleans layout.problem_booleans _ b_there h.booleans
      ∙ byte-good q limit.rationals refusal.Rationals layout.problem_rationals _ r-there h.rationals)
      ∙ at-most-bad q 2 limit.clauses refusal.Clauses layout.problem_clauses _ h.clauses l

  pub problem-good : (sizes_at q).clauses ≤ limit.clauses → problem q 0 ≡ body (sizes_at q) (drop layout.first_clause q) layout.first_clause
  unfolding problem body
  problem-good l =
      byte-good q limit.booleans refusal.Booleans layout.problem_booleans _ b_there h.booleans
      ∙ byte-good q limit.rationals refusal.Rationals layout.problem_rationals _ r-there h.rationals
      ∙ at-most-good q 2 limit.clauses refusal.Clauses layout.problem_clauses _ h.clauses l
      ∙ rw (field_at-1 layout.problem_booleans q b_there, field_at-1 layout.problem_rationals q r-there)
