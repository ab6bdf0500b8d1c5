-- What reading comes to without the problem itself: its sizes, or the first fault.
use Rattle.std.specs.Prelude.{◌≡◌, List, ℕ}
use Rattle.std.proofs.Common.{sym, ◌∙◌, arith}
use Rattle.std.proofs.Math.Path.{ap}
use Rattle.std.proofs.Math.Option.{none, some}
use Rattle.rules_types.specs.declared.answers.Refusal.{Refusal}
use Rattle.rules_types.specs.declared.answers.Refusal.TheVariants as refusal
use Rattle.rules.specs.Split.{over_split}
use Rattle.rules.specs.Calls.{Reading, faulty, sound, within_splits, read}
use Rattle.problem_scan.specs.declared.cursor.Sizes.{Sizes}
use Rattle.problem_scan.specs.declared.cursor.Scan.{Scan}
use Rattle.problem_scan.specs.declared.cursor.Scan.TheVariants.{Sound, Fault}
use Rattle.problem_scan.specs.Scans.{sizes_of, scanned}
use Rattle.problem_scan.specs.Read.{scanned-fault}
use Rattle.problem_read.specs.declared.over.Excess.{Excess}
use Rattle.problem_read.specs.declared.over.Excess.TheVariants.{Within, At}
use Rattle.problem_read.specs.Over.{excess, excess-within, excess-at}
use Rattle.problem_read.specs.Parsed.{all_clauses, problem_at, sizes-are, Parsed}

unfoldable pub scan_of : Reading → Scan
scan_of (faulty f place) = Fault f place
scan_of (sound p) = Sound (sizes_of p)

-- a fault that it says is the problem's
pub scan_of-faulty : (r : Reading) (f : Refusal) (place : ℕ) → scan_of r ≡ Fault f place → r ≡ faulty f place
unfolding scan_of
scan_of-faulty (faulty g p) f place e = cc
scan_of-faulty (sound p) f place e = let z : ◌≡◌ {A = ℕ} 0 1 = cc in absurd (omega arith)

pub scan_of-fault : (q : List ℕ) (f : Refusal) (place : ℕ) → scanned q ≡ Fault f place → scan_of (read q) ≡ Fault f place
unfolding scan_of
scan_of-fault q f place e = ap scan_of (scanned-fault q f place e)

module _ {q : List ℕ} {sizes : Sizes} (parsed : Parsed q sizes) where
  pub read-sound : over_split 0 (all_clauses q sizes) ≡ none → read q ≡ sound (problem_at q sizes)
  unfolding within_splits
  read-sound e = parsed.but-splits ∙ rw (e, within_splits)

  pub read-over : (place : ℕ) → over_split 0 (all_clauses q sizes) ≡ some place → read q ≡ faulty refusal.Splits place
  unfolding within_splits
  read-over place e = parsed.but-splits ∙ rw (e, within_splits)

  pub scan_of-sound : read q ≡ sound (problem_at q sizes) → scan_of (read q) ≡ Sound sizes
  unfolding scan_of
  scan_of-sound e = ap scan_of e ∙ ap Sound (sizes-are q sizes)

  -- by what counting the split variables gave
  module _ (w : Excess) (given : w ≡ excess (over_split 0 (all_clauses q sizes))) where
    pub scan_of-within : w ≡ Within → scan_of (read q) ≡ Sound sizes
    scan_of-within i = scan_of-sound (read-sound (excess-within (over_split 0 (all_clauses q sizes)) (sym i ∙ given)))

    pub scan_of-over : (place : ℕ) → w ≡ At place → scan_of (read q) ≡ Fault refusal.Splits place
    unfolding scan_of
    scan_of-over place i = ap scan_of (read-over place (excess-at (over_split 0 (all_clauses q sizes)) place (sym i ∙ given)))
