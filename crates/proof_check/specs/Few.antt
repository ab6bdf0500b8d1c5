-- The clauses of a problem that was read without fault have few parts.
use Rattle.std.specs.Prelude.{◌≡◌, List, ℕ, zero, suc, ◌+◌, ◌-◌}
use Rattle.std.proofs.Common.{arith}
use Rattle.rules.specs.Split.{splits_of}
use Rattle.problem_scan.specs.Values.{clause_at, clause_end}
use Rattle.problem_read.specs.Clauses.{clauses_at}
use Rattle.problem_read.specs.Readable.{Ahead, ahead-few, ahead-next}
use Rattle.step_check.specs.Named.{Few}
use Rattle.theory_splitting.specs.Count.{parts-length}

pub few-parts : (q : List ℕ) (r n at k : ℕ) → Ahead q r n at k → Few (clauses_at q r n at)
unfolding clauses_at
few-parts q r zero at k ahead = tt
few-parts q r (suc n) at k ahead =
    let e : suc n - 1 ≡ n = omega arith in
    let next : Ahead q r n (clause_end q r at) (k + splits_of (clause_at q r at)) = rw e at (ahead-next ahead (omega arith)) in (
      λ base. omega (arith, parts-length base (clause_at q r at), ahead-few ahead (omega arith)),
      few-parts q r n (clause_end q r at) (k + splits_of (clause_at q r at)) next,
    )
