-- A problem that is read without fault to 12: its clauses are those at their places, and only fault 13 is left to test.
use Rattle.std.proofs.Math.Path.{◌≡◌, ap, subst}
use Rattle.std.proofs.Common.{sym, ◌∙◌, ⊎_elim, eq-zero-or-pos, arith}
use mathlib.Core.List.{List, [], ◌∷◌}
use Rattle.std.specs.Prelude.{ℕ, ◌-◌, ◌≤◌, ◌<◌, length, drop}
use Rattle.rules_types.specs.declared.answers.Refusal.{Refusal}
use Rattle.rules_types.specs.declared.terms.Edition.{Edition}
use Rattle.rules_types.specs.Limits as limit
use Rattle.rules_types.specs.Layout as layout
use Rattle.rules.specs.Problem.{Clause, Problem, in_edition, Read, Reader, got, after, end, problem}
use Rattle.rules.specs.Calls.{within_splits, read}
use Rattle.problem_scan.specs.declared.cursor.Sizes.{Sizes}
use Rattle.problem_scan.specs.declared.cursor.Scan.TheVariants.{Sound, Fault}
use Rattle.problem_scan.specs.Sound.{SoundClauses}
use Rattle.problem_scan.specs.Valued.{Valued, faulty, given}
use Rattle.problem_scan.specs.Clauses.{clauses_of}
use Rattle.problem_scan.specs.Scans.{sizes_of, outline, scanned, body, sizes_at, Header, problem-short-b, problem-bad-b, problem-short-r}
use Rattle.problem_scan.specs.Scans.{problem-bad-r, problem-short-n, problem-bad-n, problem-good}
use Rattle.problem_scan.specs.Read.{Outlined, scanned-sound}
use Rattle.problem_read.specs.Clauses.{clauses_at, clauses_end, length-clauses_at, clauses-valued}

-- all clauses of a problem of these sizes, and the place behind them
abbrev pub all_clauses : List ℕ → Sizes → List Clause
all_clauses q sizes = clauses_at q sizes.rationals sizes.clauses layout.first_clause

abbrev pub last_end : List ℕ → Sizes → ℕ
last_end q sizes = clauses_end q sizes.rationals sizes.clauses layout.first_clause

-- the problem
abbrev pub problem_at : List ℕ → Sizes → Problem
problem_at q sizes = record { booleans = sizes.booleans; rationals = sizes.rationals; clauses = all_clauses q sizes }

-- in its edition
abbrev pub posed_at : Edition → List ℕ → Sizes → Problem
posed_at edition q sizes = in_edition edition (problem_at q sizes)

pub sizes-are : (q : List ℕ) (sizes : Sizes) → sizes_of (problem_at q sizes) ≡ sizes
sizes-are q sizes = λ i. record {
  booleans = sizes.booleans;
  rationals = sizes.rationals;
  clauses = length-clauses_at q sizes.rationals sizes.clauses layout.first_clause i;
}

-- the sizes are within their limits, and every clause ends in the slice and is within its own
pub record Parsed (q : List ℕ) (sizes : Sizes) : Type 0 where
  pub booleans : sizes.booleans ≤ limit.booleans
  pub rationals : sizes.rationals ≤ limit.rationals
  pub clauses : sizes.clauses ≤ limit.clauses
  pub within : last_end q sizes ≤ length q
  pub sound : SoundClauses q sizes.rationals sizes.clauses layout.first_clause
  pub but-splits : read q ≡ within_splits (got (problem_at q sizes) [] 0)

module _ (q : List ℕ) (sizes : Sizes) where
  -- the clauses as they were read, with the sizes as their bytes have them
  module _ (S : Sizes) (few-b : S.booleans ≤ limit.booleans) (few-r : S.rationals ≤ limit.rationals) (few-n : S.clauses ≤ limit.clauses)
    where
      abbrev sound : Type 0
      sound = SoundClauses q S.rationals S.clauses layout.first_clause

      abbrev ending : List Clause → Reader Problem
      ending cs = end (record { booleans = S.booleans; rationals = S.rationals; clauses = cs })

      ended : (rest : List ℕ) (place : ℕ) → last_end q S ≤ length q → sound → read q ≡ within_splits (ending (all_clauses q S) rest place)
          → outline (ending (all_clauses q S) rest place) ≡ Sound sizes → Parsed q sizes
      unfolding end outline within_splits
      ended (x ∷ bytes) place l s w e = let z : ◌≡◌ {A = ℕ} 0 1 = cc in absurd (omega arith)
      ended [] place l s w e =
          subst (Parsed q) (sym (sizes-are q S) ∙ cc)
          (record { booleans = few-b; rationals = few-r; clauses = few-n; within = l; sound = s; but-splits = w })

      by-clauses : (c : Read (List Clause)) → Valued q (all_clauses q S) sound (last_end q S) c
          → read q ≡ within_splits (after c ending) → outline (after c ending) ≡ Sound sizes → Parsed q sizes
      unfolding after outline
      by-clauses c (faulty f place i) w e = let h = rw i at e in let z : ◌≡◌ {A = ℕ} 0 1 = cc in absurd (omega arith)
      by-clauses c (given i l s) w e = ended (drop (last_end q S) q) (last_end q S) l s (rw i at w) (rw i at e)

  module _ (e : outline (problem q 0) ≡ Sound sizes) where
    -- no fault at a test that the smaller number would fail
    passed : {X : Type 0} (k m : ℕ) (f : Refusal) (place : ℕ) → (k < m → outline (problem q 0) ≡ Fault f place) → (m ≤ k → X) → X
    passed k m f place bad good =
        ⊎_elim (λ z. good (omega arith))
        (λ h. let i = bad (omega arith) in let z : ◌≡◌ {A = ℕ} 0 1 = cc in absurd (omega arith)) (eq-zero-or-pos (m - k))

    opened : read q ≡ within_splits (problem q 0) → Parsed q sizes
    unfolding body
    opened w =
        let S = sizes_at q in
        passed (length q) 1 _ _ (λ h. problem-short-b q (omega arith)) (λ hb.
        passed limit.booleans S.booleans _ _ (problem-bad-b q hb) (λ lb.
        passed (length q) 2 _ _ (λ h. problem-short-r q hb lb (omega arith)) (λ hr.
        passed limit.rationals S.rationals _ _ (problem-bad-r q hb lb hr) (λ lr.
        passed (length q) layout.first_clause _ _ (problem-short-n q hb lb hr lr) (λ hn.
        let h : Header q = record { booleans = lb; rationals = lr; clauses = hn } in
        passed limit.clauses S.clauses _ _ (problem-bad-n q h) (λ ln.
        let g = problem-good q h ln in
        by-clauses S lb lr ln (clauses_of S (drop layout.first_clause q) layout.first_clause)
        (clauses-valued q S.rationals S.booleans S.clauses layout.first_clause hn) (w ∙ ap within_splits g)
        (ap outline (sym g) ∙ e)))))))

  pub scan-parsed : scanned q ≡ Sound sizes → Parsed q sizes
  unfolding outline
  scan-parsed e =
      let o : Outlined q sizes = scanned-sound q sizes e in
      opened (rw (o.got-it, o.same)) (o.within ∙ ap within_splits (sym o.got-it))
