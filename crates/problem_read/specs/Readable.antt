-- What callers know of a problem that was read without fault, and keep while they go from clause to clause.
use Rattle.std.proofs.Math.Path.{◌≡◌, ap, subst}
use Rattle.std.specs.Prelude.{refl, List, ℕ, ◌+◌, ◌-◌, ◌≤◌, ◌<◌, length}
use Rattle.std.proofs.Common.{sym, ◌∙◌, ⊎_elim, eq-zero-or-pos, arith}
use Rattle.std.proofs.Math.Option.{Option, none, some}
use Rattle.rules_types.specs.Limits as limit
use Rattle.rules_types.specs.Layout as layout
use Rattle.rules.specs.Split.{splits_of, over_split}
use Rattle.rules.specs.Calls.{sound, read}
use Rattle.problem_scan.specs.declared.cursor.Sizes.{Sizes}
use Rattle.problem_scan.specs.declared.cursor.Scan.{Scan}
use Rattle.problem_scan.specs.declared.cursor.Scan.TheVariants.{Sound, Fault}
use Rattle.problem_scan.specs.Scans.{scanned}
use Rattle.problem_scan.specs.Values.{clause_at, clause_end}
use Rattle.problem_scan.specs.Sound.{SoundClause, SoundClauses, clauses-first, clauses-rest}
use Rattle.problem_read.specs.Clauses.{clauses_at, clauses_end, clauses-next, ends_next, end-within}
use Rattle.problem_read.specs.Over.{over-here, over-later}
use Rattle.problem_read.specs.Parsed.{all_clauses, problem_at, Parsed, scan-parsed}
use Rattle.problem_read.specs.ScanOf.{scan_of, scan_of-fault, scan_of-sound, read-sound, read-over}

-- a problem of these sizes that is read without fault
pub record Readable (q : List ℕ) (sizes : Sizes) : Type 0 where
  pub parsed : Parsed q sizes
  pub splits : over_split 0 (all_clauses q sizes) ≡ none
  pub is_read : read q ≡ sound (problem_at q sizes)

module _ (q : List ℕ) (sizes : Sizes) (given : scan_of (read q) ≡ Sound sizes) where
  by-splits : (S : Sizes) → Parsed q S → (o : Option ℕ) → over_split 0 (all_clauses q S) ≡ o → Readable q sizes
  unfolding scan_of
  by-splits S p (some place) e =
      let i = ap scan_of (read-over p place e) in
      let z : ◌≡◌ {A = ℕ} 0 1 = cc in
      absurd (omega arith)
  by-splits S p none e =
      let s = read-sound p e in
      let i = scan_of-sound p s in
      let x : S ≡ sizes = cc in
      subst (Readable q) x (record { parsed = p; splits = e; is_read = s })

  by-scan : (s : Scan) → scanned q ≡ s → Readable q sizes
  by-scan (Fault f place) e =
      let i = scan_of-fault q f place e in
      let z : ◌≡◌ {A = ℕ} 0 1 = cc in
      absurd (omega arith)
  by-scan (Sound S) e = by-splits S (scan-parsed q S e) (over_split 0 (all_clauses q S)) refl

  pub readable : Readable q sizes
  readable = by-scan (scanned q) refl

-- ---- from clause to clause
-- n clauses from `at` on, with k split variables before them
pub record Ahead (q : List ℕ) (r n at k : ℕ) : Type 0 where
  pub within : clauses_end q r n at ≤ length q
  pub sound : SoundClauses q r n at
  pub few : k ≤ limit.splits
  pub splits : over_split k (clauses_at q r n at) ≡ none

pub ahead-start : {q : List ℕ} {sizes : Sizes} → Readable q sizes → Ahead q sizes.rationals sizes.clauses layout.first_clause 0
ahead-start h = record { within = h.parsed.within; sound = h.parsed.sound; few = omega arith; splits = h.splits }

module _ {q : List ℕ} {r n at k : ℕ} (ahead : Ahead q r n at k) (more : 0 < n) where
  -- the next clause, for `next`, `literals` and `splits`
  pub ahead_within : clause_end q r at ≤ length q
  ahead_within = omega (arith, end-within q r n at more, ahead.within)

  pub ahead-sound : SoundClause q r at
  ahead-sound = clauses-first q r n at more ahead.sound

  pub ahead-few : k + splits_of (clause_at q r at) ≤ limit.splits
  ahead-few = ⊎_elim (λ z. omega arith) (λ h. absurd (past h)) (eq-zero-or-pos (k + splits_of (clause_at q r at) - limit.splits))
    where
      past : 0 < k + splits_of (clause_at q r at) - limit.splits → ⊥
      past h =
          let i = over-here k (clause_at q r at) (clauses_at q r (n - 1) (clause_end q r at)) (omega arith) in
          let j = ap (over_split k) (clauses-next q r n at more) in
          let z : ◌≡◌ {A = ℕ} 0 1 = cc in
          omega arith

  pub ahead-next : Ahead q r (n - 1) (clause_end q r at) (k + splits_of (clause_at q r at))
  ahead-next =
      record {
        within = omega (arith, ends_next q r n at more, ahead.within);
        sound = clauses-rest q r n at more ahead.sound;
        few = ahead-few;
        splits = sym (over-later k (clause_at q r at) (clauses_at q r (n - 1) (clause_end q r at)) ahead-few)
            ∙ ap (over_split k) (sym (clauses-next q r n at more)) ∙ ahead.splits;
      }
