-- `access::word_at` meets its contract: four bytes make 32 bits. Assumes nothing.
use native.Mathlib.Omega.{arith}
use Rattle.theory_bytes.specs.Fields.{field_at-<}
use Rattle.steps.proofs.access.word_at.Goals as goal

pub overflow_cast-result : goal.overflow_cast-result
overflow_cast-result c =
    let s = c.args in
    omega (arith, c.u32_at.ensures, field_at-< s.at 4 s.s.now (λ i. omega (arith, c.shared_slice_known-1.given i)))
