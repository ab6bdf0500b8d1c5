-- The offsets say every byte: two lists of bytes that hold the same steps, or the same model, are the same up to the end of it.
use Rattle.std.specs.Prelude.{◌≡◌, refl, Bool, List, ◌++◌, ℕ, zero, suc, ◌+◌, ◌*◌, ◌-◌, ◌≤◌, length, take, drop}
use Rattle.std.proofs.Common.{sym, ◌∙◌, arith, take-add, take_all}
use Rattle.rules_types.specs.Limits as limit
use Rattle.rules.specs.Bytes.{field_at}
use Rattle.rules.specs.Meaning.{Assignment}
use Rattle.rules.specs.Steps.{Step}
use Rattle.theory_lists.specs.Places.{element}
use Rattle.theory_bytes.specs.Bytes.{AllBytes}
use Rattle.theory_layout.specs.Offsets.{Zeros, StepAt, HoldsSteps, ModelAt}
use Rattle.theory_layout.specs.Fields.{take-bytes, drop-bytes, grow}
use Rattle.theory_layout.specs.Steps.{amount-same, step-determined, part_length, at_part}

module _ (xs ys : List ℕ) (bx : AllBytes xs) (by : AllBytes ys) where
  zeros-same : (from k : ℕ) → from + k ≤ length xs → from + k ≤ length ys → Zeros from (from + k) xs → Zeros from (from + k) ys
      → take from xs ≡ take from ys → take (from + k) xs ≡ take (from + k) ys
  zeros-same from zero h g p q t = let e : from + 0 ≡ from = omega arith in rw e t
  zeros-same from (suc k) h g p q t =
      let e : from + suc k ≡ from + k + 1 = omega arith in
      rw e (grow xs ys bx by (from + k) 1 (omega arith) (omega arith) (p (from + k) (omega arith) (omega arith) ∙ sym (q (from + k)
      (omega arith) (omega arith))) (zeros-same from k (omega arith) (omega arith) (λ i l u. p i l (omega arith))
      (λ i l u. q i l (omega arith)) t))

  -- ---- a proof
  step_same : (at : ℕ) (s : Step) → StepAt xs at s → StepAt ys at s → take at xs ≡ take at ys → take (at + 64) xs ≡ take (at + 64) ys
  step_same at s p q t =
      let front : (zs : List ℕ) → List ℕ = λ zs. take 64 (drop at zs) in
      let d = step-determined (front xs) (front ys) (take-bytes 64 (drop at xs) (drop-bytes at xs bx))
      (take-bytes 64 (drop at ys) (drop-bytes at ys by)) s (at_part xs at p.room s p) (at_part ys at q.room s q) in
      let whole = sym (take_all 64 (front xs) (omega (arith, part_length xs at p.room s))) ∙ d
      ∙ take_all 64 (front ys) (omega (arith, part_length ys at q.room s)) in
      rw (take-add at 64 xs, take-add at 64 ys) (λ i. t i ++ whole i)

  module _ (steps : List Step) (lines : ℕ) (p : HoldsSteps xs steps lines) (q : HoldsSteps ys steps lines) where
    steps-same : (i : ℕ) → i ≤ length steps → take (64 * i) xs ≡ take (64 * i) ys
    steps-same zero h = refl
    steps-same (suc i) h =
        let e : 64 * suc i ≡ 64 * i + 64 = omega arith in
        let s = element steps i (omega arith) in
        rw e (step_same (64 * i) s.0 (p.step i s.0 s.1) (q.step i s.0 s.1) (steps-same i (omega arith)))

    pub proof-determined : length steps ≤ lines → 64 * lines ≤ length xs → 64 * lines ≤ length ys
        → take (64 * lines) xs ≡ take (64 * lines) ys
    proof-determined few h g =
        let e : 64 * lines ≡ 64 * length steps + (64 * lines - 64 * length steps) = omega arith in
        rw e (zeros-same (64 * length steps) (64 * lines - 64 * length steps) (omega arith) (omega arith)
        (λ i l u. p.unused i l (omega arith)) (λ i l u. q.unused i l (omega arith)) (steps-same (length steps) (omega arith)))

  -- ---- a model
  module _ (b r : ℕ) (opens : ℕ → Bool) (few : b ≤ limit.booleans) (small : r ≤ limit.rationals) (χ : Assignment)
      (p : ModelAt xs b r opens χ) (q : ModelAt ys b r opens χ) where
    more : (at k : ℕ) → at + k ≤ 64 → field_at at k xs ≡ field_at at k ys
        → take at xs ≡ take at ys → take (at + k) xs ≡ take (at + k) ys
    more at k h = grow xs ys bx by at k (omega (arith, p.room)) (omega (arith, q.room))

    booleans-same : (i : ℕ) → i ≤ b → take (1 + i) xs ≡ take (1 + i) ys
    booleans-same zero h = more 0 1 (omega arith) (p.states.booleans ∙ sym q.states.booleans) refl
    booleans-same (suc i) h =
        let e : 1 + suc i ≡ 1 + i + 1 = omega arith in
        rw e (more (1 + i) 1 (omega arith) (p.states.boolean i (omega arith) ∙ sym (q.states.boolean i (omega arith)))
        (booleans-same i (omega arith)))

    head-same : take (6 + b) xs ≡ take (6 + b) ys
    head-same =
        let e : 6 + b ≡ 1 + b + 1 + 4 = omega arith in
        let f : 2 + b ≡ 1 + b + 1 = omega arith in
        rw e (more (1 + b + 1) 4 (omega arith) (rw f at (p.states.denominator ∙ sym q.states.denominator))
        (more (1 + b) 1 (omega arith) (p.states.rationals ∙ sym q.states.rationals) (booleans-same b (omega arith))))

    numerators-same : (f : ℕ) → f ≤ r → take (6 + b + 4 * f) xs ≡ take (6 + b + 4 * f) ys
    numerators-same zero h = let e : 6 + b + 4 * 0 ≡ 6 + b = omega arith in rw e head-same
    numerators-same (suc f) h =
        let e : 6 + b + 4 * suc f ≡ 6 + b + 4 * f + 4 = omega arith in
        rw e (more (6 + b + 4 * f) 4 (omega arith) (amount-same xs ys bx by (6 + b + 4 * f) (χ.numerators f)
        (p.states.numerator f (omega arith)) (q.states.numerator f (omega arith))) (numerators-same f (omega arith)))

    pub model-determined : take 64 xs ≡ take 64 ys
    model-determined =
        let e : 64 ≡ 6 + b + 4 * r + (64 - (6 + b + 4 * r)) = omega arith in
        let m = p.room in
        let n = q.room in
        rw e (zeros-same (6 + b + 4 * r) (64 - (6 + b + 4 * r)) (omega arith) (omega arith)
        (λ i l u. p.zeros i l (omega arith)) (λ i l u. q.zeros i l (omega arith)) (numerators-same r (omega arith)))
