-- `convert::convert_readable` meets its contract: a law for each return. Assumes nothing.
use mathlib.Core.Path.{◌≡◌, sym, ap, ◌∙◌}
use Prim.Native.Nat.{ℕ, ◌+◌, ◌*◌, ◌-◌, ◌≤◌, ◌<◌}
use native.Mathlib.Nat.{mul-le-mul}
use native.Mathlib.Omega.{arith}
use lib.ListN.{length, get_or}
use Rattle.rules.specs.Convert.{kept, place_of, carried_over_bytes, Converting}
use Rattle.problem_read.specs.Parsed.{problem_at}
use Rattle.theory_conversion.specs.Length.{place-high}
use Rattle.kept_rationals.specs.Kept.{inside}
use Rattle.rules_types.specs.declared.answers.Converted.TheVariants.{Length}
use Rattle.conversion.specs.Problem.{split_problem_at, count-is, count_low, length-is, written_is, old-short}
use Rattle.conversion.specs.Problem.{convert-over, convert-long, convert-space, convert-done}
use Rattle.conversion.proofs.convert.convert_readable.Goals as goal
use Rattle.conversion.proofs.convert.convert_readable.Goals.{After-gather-kept, After-place_of-r, Else-out-length}

-- a byte of the problem is one
small : (c : After-gather-kept) (i : ℕ) → get_or c.args.input.now i 0 < 256
small c i = omega (arith, c.shared_slice_known-1.given i)

-- the new count of variables
count : (c : After-place_of-r) → c.place_of-r.result ≡ place_of (kept (problem_at c.args.input.now c.args.sizes)) c.args.sizes.rationals
count c =
    count-is c.requires
    (small
    (goal.at.After-place_of-r c).After-gather-kept) _ _ _ c.gather-kept.ensures.mask c.place_of-r.ensures c.gather-kept.ensures.comparisons

low : (c : After-place_of-r) → c.args.sizes.rationals ≤ c.place_of-r.result
low c =
    count_low c.requires
    (small
    (goal.at.After-place_of-r c).After-gather-kept) _ _ _ c.gather-kept.ensures.mask c.place_of-r.ensures c.gather-kept.ensures.comparisons

-- and the new length
long : (c : After-place_of-r) → length c.args.input.now + c.gather-kept.result.comparisons *
    (4 * (c.place_of-r.result - c.args.sizes.rationals))
    ≡ length (carried_over_bytes (problem_at c.args.input.now c.args.sizes))
long c =
    length-is c.requires
    (small
    (goal.at.After-place_of-r c).After-gather-kept) _ _ _ c.gather-kept.ensures.mask c.place_of-r.ensures c.gather-kept.ensures.comparisons

-- what is told, and what the buffer then holds
both : {a b : Converting} → a ≡ b → (b.converted ≡ a.converted) × (b.output ≡ a.output)
both e = (sym (ap (λ (r : Converting). r.converted) e), sym (ap (λ (r : Converting). r.output) e))

pub returns-then-r-gt-RATIONALS : goal.returns-then-r-gt-RATIONALS
returns-then-r-gt-RATIONALS c = record {
  value = (both (convert-over c.requires _
      (omega (arith, count (goal.at.returns-then-r-gt-RATIONALS c).After-place_of-r, c.if-r-gt-RATIONALS.true)))).0;
  out_after =
      (both (convert-over c.requires _ (omega (
        arith,
        count (goal.at.returns-then-r-gt-RATIONALS c).After-place_of-r,
        c.if-r-gt-RATIONALS.true,
      )))).1;
}

pub overflow_sub-more : goal.overflow_sub-more
overflow_sub-more c = low (goal.at.overflow_sub-more c).After-place_of-r

-- at most 32 bytes more for each of at most 65,280 comparisons
few : (c : After-place_of-r) → c.gather-kept.result.comparisons * (4 * (c.place_of-r.result - c.args.sizes.rationals)) ≤ 65280 * 64
few c =
    mul-le-mul {n₂ = 65280} {m₂ = 64} c.gather-kept.ensures.few
    (omega (
      arith,
      c.place_of-r.ensures,
      place-high (inside c.gather-kept.result.mask)
          c.args.sizes.rationals,
      c.requires.parsed.rationals,
    ))

pub overflow_mul-length : goal.overflow_mul-length
overflow_mul-length c = omega (arith, few (goal.at.overflow_mul-length c).After-place_of-r)

pub overflow_add-length : goal.overflow_add-length
overflow_add-length c =
    omega (
      arith,
      few (goal.at.overflow_add-length c).After-place_of-r,
      old-short c.requires (small (goal.at.overflow_add-length c).After-gather-kept),
    )

pub returns-then-length-gt-PROBLEM_BYTES : goal.returns-then-length-gt-PROBLEM_BYTES
returns-then-length-gt-PROBLEM_BYTES c = record {
  value = (both (convert-long c.requires _ (omega (
    arith,
    count (goal.at.returns-then-length-gt-PROBLEM_BYTES c).After-place_of-r,
    c.if-r-gt-RATIONALS.false,
  ))
      (omega (arith, long (goal.at.returns-then-length-gt-PROBLEM_BYTES c).After-place_of-r, c.if-length-gt-PROBLEM_BYTES.true)))).0;
  out_after = (both (convert-long c.requires _ (omega (
    arith,
    count (goal.at.returns-then-length-gt-PROBLEM_BYTES c).After-place_of-r,
    c.if-r-gt-RATIONALS.false,
  ))
      (omega (arith, long (goal.at.returns-then-length-gt-PROBLEM_BYTES c).After-place_of-r, c.if-length-gt-PROBLEM_BYTES.true)))).1;
}

pub returns-then-out-length : goal.returns-then-out-length
returns-then-out-length c = record {
  value = (both (convert-space c.requires _ (omega (
    arith,
    count (goal.at.returns-then-out-length c).After-place_of-r,
    c.if-r-gt-RATIONALS.false,
  ))
      (omega (arith, long (goal.at.returns-then-out-length c).After-place_of-r, c.if-length-gt-PROBLEM_BYTES.false))
      (omega (arith, long (goal.at.returns-then-out-length c).After-place_of-r, c.if-out-length.true)))).0;
  out_after = (both (convert-space c.requires _ (omega (
    arith,
    count (goal.at.returns-then-out-length c).After-place_of-r,
    c.if-r-gt-RATIONALS.false,
  ))
      (omega (arith, long (goal.at.returns-then-out-length c).After-place_of-r, c.if-length-gt-PROBLEM_BYTES.false))
      (omega (arith, long (goal.at.returns-then-out-length c).After-place_of-r, c.if-out-length.true)))).1;
}

-- the new problem as it is written
written : (c : Else-out-length) → split_problem_at (inside c.gather-kept.result.mask) c.place_of-r.result c.args.input.now c.args.sizes
    ≡ carried_over_bytes (problem_at c.args.input.now c.args.sizes)
written c =
    written_is c.requires
    (small
    (goal.at.Else-out-length c).After-gather-kept) _ _ _ c.gather-kept.ensures.mask c.place_of-r.ensures c.gather-kept.ensures.comparisons
    c.if-r-gt-RATIONALS.false

pub put_problem-requires : goal.put_problem-requires
put_problem-requires c = record {
  readable = c.requires;
  sizes_in_bounds = rw (written (goal.at.put_problem-requires c).Else-out-length)
      (omega (arith, long (goal.at.put_problem-requires c).After-place_of-r, c.if-out-length.false));
}

pub returns : goal.returns
returns c =
    let r = convert-done c.requires c.args.out.now (omega
    (arith, count (goal.at.returns c).After-place_of-r, c.if-r-gt-RATIONALS.false))
    (omega (arith, long (goal.at.returns c).After-place_of-r, c.if-length-gt-PROBLEM_BYTES.false))
    (omega (arith, long (goal.at.returns c).After-place_of-r, c.if-out-length.false)) in
    record {
      value = ap Length (long (goal.at.returns c).After-place_of-r) ∙ (both r).0;
      out_after = c.put_problem.ensures
          ∙ rw (written (goal.at.returns c).Else-out-length) (both r).1;
    }
