-- What a scan says of the definition of reading: its fault is the problem's, or what is left to test is fault 13.
use Rattle.std.specs.Prelude.{◌≡◌, refl, List, ℕ, ltb, length}
use Rattle.std.proofs.Common.{⊎_elim, arith}
use Rattle.rules_types.specs.declared.answers.Refusal.{Refusal}
use Rattle.rules_types.specs.declared.answers.Refusal.TheVariants as refusal
use Rattle.rules_types.specs.Limits as limit
use Rattle.rules.specs.Problem.{Problem, Read, fault, got, problem}
use Rattle.rules.specs.Calls.{faulty, within_splits, read}
use Rattle.theory_lists.specs.Tests.{split, is_true, is_false}
use Rattle.problem_scan.specs.declared.cursor.Sizes.{Sizes}
use Rattle.problem_scan.specs.declared.cursor.Scan.TheVariants.{Sound, Fault}
use Rattle.problem_scan.specs.Scans.{sizes_of, outline, scanned}

-- a problem of these sizes, which is read without fault up to 12
pub record Outlined (q : List ℕ) (sizes : Sizes) : Type 0 where
  pub whole : Problem
  pub rest : List ℕ
  pub next : ℕ
  pub got-it : problem q 0 ≡ got whole rest next
  pub same : sizes_of whole ≡ sizes
  pub within : read q ≡ within_splits (got whole rest next)

outline-fault : (c : Read Problem) (f : Refusal) (p : ℕ) → outline c ≡ Fault f p → within_splits c ≡ faulty f p
unfolding outline within_splits
outline-fault (fault g place) f p e = cc
outline-fault (got w rest next) f p e = let z : ◌≡◌ {A = ℕ} 0 1 = cc in absurd (omega arith)

pub scanned-fault : (q : List ℕ) (f : Refusal) (p : ℕ) → scanned q ≡ Fault f p → read q ≡ faulty f p
unfolding scanned read
scanned-fault q f p e =
    let L = ltb limit.problem_bytes (length q) in
    ⊎_elim
    (λ t. let i = is_true L t in let h = rw (i, scanned) at e in rw (i, read) (long-is f p h))
    (λ t. let i = is_false L t in let h = rw (i, scanned) at e in rw (i, read) (outline-fault (problem q 0) f p h))
    (split L)
  where
    long-is : (f : Refusal) (p : ℕ) → Fault refusal.LongProblem limit.problem_bytes ≡ Fault f p
        → faulty refusal.LongProblem limit.problem_bytes ≡ faulty f p
    long-is f p h = cc

outline-sound : (q : List ℕ) (sizes : Sizes) (c : Read Problem) → problem q 0 ≡ c → read q ≡ within_splits c
    → outline c ≡ Sound sizes → Outlined q sizes
unfolding outline
outline-sound q sizes (fault g place) i w e = let z : ◌≡◌ {A = ℕ} 0 1 = cc in absurd (omega arith)
outline-sound q sizes (got p rest next) i w e = record {
  whole = p;
  rest = rest;
  next = next;
  got-it = i;
  same = cc;
  within = w;
}

pub scanned-sound : (q : List ℕ) (sizes : Sizes) → scanned q ≡ Sound sizes → Outlined q sizes
unfolding scanned read
scanned-sound q sizes e =
    let L = ltb limit.problem_bytes (length q) in
    ⊎_elim
    (λ t. let i = is_true L t in let h = rw (i, scanned) at e in let z : ◌≡◌ {A = ℕ} 0 1 = cc in absurd (omega arith))
    (λ t. let i = is_false L t in let h = rw (i, scanned) at e in outline-sound q sizes (problem q 0) refl (rw (i, read)) h)
    (split L)
