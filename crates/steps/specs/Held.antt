-- The steps that a proof's bytes hold: a step's origin and line come back from its bytes, and one is put behind the others.
use Rattle.std.specs.Prelude.{◌≡◌, refl, List, [], ◌∷◌, ◌++◌, map, ℕ, zero, suc, ◌+◌, ◌*◌, ◌≤◌, ◌<◌, length, take, drop}
use Rattle.std.proofs.Common.{sym, subst, ◌∙◌, append_assoc, append-nil, arith, below_more, take_at, drop_at, take-take, take-add}
use Rattle.std.proofs.Common.{length-take-le}
use Rattle.std.proofs.Math.Path.{ap}
use Rattle.rules_types.specs.Limits.{step_bytes, rationals}
use Rattle.rules_types.specs.Layout.{step_how, step_which, step_first, step_second}
use Rattle.rules.specs.Lists.{tabulate}
use Rattle.rules.specs.Bytes.{field_at}
use Rattle.rules.specs.Steps as rules
use Rattle.rules.specs.Steps.{Header, encode_step, encode_proof}
use Rattle.theory_lists.specs.Tabulated.{length-tabulate, tabulate-snoc, tabulate-cong, map-tabulate}
use Rattle.theory_bytes.specs.Headers.{how-back, which-back, first_back, second_back}
use Rattle.fields.specs.Field.{stored}
use Rattle.lines.specs.declared.line.Line.{Line}
use Rattle.lines.specs.Line.{meaning, Ready}
use Rattle.steps.specs.declared.origin.Step.{Step}
use Rattle.steps.specs.Origin.{header_of, origin_of, step_of, origin_at, Named}
use Rattle.steps.specs.Encoding.{encoded, encode_step-is}
use Rattle.steps.specs.Decoding.{decoded, decoded-encoded}
use Rattle.steps.specs.Places.{step_at, HasStep, part-after, length-put, put-here}
use Rattle.steps.specs.Lines.{line_at, lines_in, ReadyLines}

-- ---- a step by its bytes
unfoldable pub step_from : List ℕ → rules.Step
step_from b = record { origin = origin_of (origin_at b 0); line = meaning (decoded b) }

-- the first n steps
unfoldable pub steps_in : List ℕ → ℕ → List rules.Step
steps_in proof n = tabulate n (λ i. step_from (step_at proof i))

pub length-steps_in : (proof : List ℕ) (n : ℕ) → length (steps_in proof n) ≡ n
unfolding steps_in
length-steps_in proof n = length-tabulate n (λ i. step_from (step_at proof i))

-- their lines
pub lines-steps_in : (proof : List ℕ) (n : ℕ) → lines_in proof n ≡ map (λ s. s.line) (steps_in proof n)
unfolding lines_in steps_in step_from line_at
lines-steps_in proof n = sym (map-tabulate (λ (s : rules.Step). s.line) n (λ i. step_from (step_at proof i)))

-- ---- bytes that are those of a step
pub record StepBytes (b : List ℕ) : Type 0 where
  pub ready : Ready (decoded b)
  pub positive : (decoded b).positive < 4294967296
  pub negative : (decoded b).negative < 4294967296
  pub written : b ≡ encode_step (step_from b)

-- of the first n steps each is
pub record Held (proof : List ℕ) (n : ℕ) : Type 0 where
  pub room : step_bytes * n ≤ length proof
  pub steps : (i : ℕ) → i < n → StepBytes (step_at proof i)

pub held-fewer : {proof : List ℕ} {m n : ℕ} → Held proof n → m ≤ n → Held proof m
held-fewer h l = record { room = omega (arith, h.room); steps = λ i k. h.steps i (omega arith) }

pub held-ready : {proof : List ℕ} {n : ℕ} → Held proof n → ReadyLines proof n
unfolding line_at
held-ready h i k = (h.steps i k).ready

-- a line in machine words that a proof can hold
pub record Words (l : Line) : Type 0 where
  pub ready : Ready l
  pub eight : length l.coefficients ≡ rationals
  pub positive : l.positive < 4294967296
  pub negative : l.negative < 4294967296

-- the bytes that are written for a step
module _ (s : Step) (named : Named s.origin) (words : Words s.line) where
  abbrev h : Header
  h = header_of s.origin

  abbrev bytes : List ℕ
  bytes = encoded h (meaning s.line)

  written : bytes ≡ encode_step (step_of s)
  written = sym (encode_step-is (step_of s) ∙ ap (λ (h : Header). encoded h (meaning s.line)) named.is)

  line-back : decoded bytes ≡ s.line
  line-back = decoded-encoded h s.line words.ready words.eight words.positive words.negative

  pub step_back : step_from bytes ≡ step_of s
  unfolding step_from
  step_back =
      let o = step_of s in
      let a : field_at step_how 1 bytes ≡ h.how =
      ap (field_at step_how 1) written ∙ how-back o ∙ ap (λ (h : Header). h.how) named.is in
      let b : field_at step_which 1 bytes ≡ h.which =
      ap (field_at step_which 1) written ∙ which-back o ∙ ap (λ (h : Header). h.which) named.is in
      let c : field_at step_first 2 bytes ≡ h.first = ap (field_at step_first 2) written
      ∙ first_back o (rw named.is named.first_fits) ∙ ap (λ (h : Header). h.first) named.is in
      let d : field_at step_second 2 bytes ≡ h.second = ap (field_at step_second 2) written
      ∙ second_back o (rw named.is named.second_fits) ∙ ap (λ (h : Header). h.second) named.is in
      λ i. record {
        origin = origin_of (record { how = a i; which = b i; first = c i; second = d i });
        line = meaning (line-back i);
      }

  pub step-bytes : StepBytes bytes
  step-bytes =
      record {
        ready = rw line-back words.ready;
        positive = rw line-back words.positive;
        negative = rw line-back words.negative;
        written = written ∙ ap encode_step (sym step_back);
      }

-- ---- a step's bytes are those of the bytes up to its end
step_at-front : (proof : List ℕ) (i : ℕ) → step_bytes * i ≤ length proof
    → step_at proof i ≡ drop (step_bytes * i) (take (step_bytes * i + step_bytes) proof)
unfolding step_at
step_at-front proof i h = sym (ap (drop (step_bytes * i)) (take-add (step_bytes * i) step_bytes proof)
    ∙ drop_at (take (step_bytes * i) proof) (take step_bytes (drop (step_bytes * i) proof)) (step_bytes * i)
    (length-take-le (step_bytes * i) proof h))

module _ (before after : List ℕ) (n : ℕ) (same : take (step_bytes * n) after ≡ take (step_bytes * n) before)
    (room : step_bytes * n ≤ length before)
    (as_long : length after ≡ length before) where
  pub step_at-same : (i : ℕ) → i < n → step_at after i ≡ step_at before i
  step_at-same i h =
      step_at-front after i (omega arith)
      ∙ ap (drop (step_bytes * i))
      (sym (take-take (step_bytes * i + step_bytes) (step_bytes * n) after (omega arith)) ∙ ap (take (step_bytes * i + step_bytes)) same
      ∙ take-take (step_bytes * i + step_bytes) (step_bytes * n) before (omega arith))
      ∙ sym (step_at-front before i (omega arith))

  pub steps_in-same : steps_in after n ≡ steps_in before n
  unfolding steps_in
  steps_in-same = tabulate-cong n (λ i. step_from (step_at after i)) (λ i. step_from (step_at before i))
      (λ i h. ap step_from (step_at-same i h))

  pub held_same : Held before n → Held after n
  held_same h = record { room = omega arith; steps = λ i k. subst StepBytes (sym (step_at-same i k)) (h.steps i k) }

-- ---- one step more
module _ (proof bytes : List ℕ) (n : ℕ) (room : HasStep proof n) (whole : length bytes ≡ step_bytes) where
  abbrev after : List ℕ
  after = stored (step_bytes * n) bytes proof

  front : length (take (step_bytes * n) proof) ≡ step_bytes * n
  front = length-take-le (step_bytes * n) proof (omega arith)

  pub stored-front : take (step_bytes * n) after ≡ take (step_bytes * n) proof
  stored-front = rw append_assoc
      (take_at (take (step_bytes * n) proof) (bytes ++ drop (step_bytes * n + length bytes) proof) (step_bytes * n) front)

  pub stored-step : step_at after n ≡ bytes
  stored-step = put-here n bytes proof whole room

  pub stored-rest : drop (step_bytes * suc n) after ≡ drop (step_bytes * suc n) proof
  stored-rest = part-after (step_bytes * n) bytes proof (omega arith) (step_bytes * suc n) (omega arith)

  pub stored-length : length after ≡ length proof
  stored-length = length-put n bytes proof whole room

  pub stored-steps : steps_in after (suc n) ≡ steps_in proof n ++ (step_from bytes ∷ [])
  unfolding steps_in
  stored-steps =
      tabulate-snoc n (λ i. step_from (step_at after i))
      ∙ (λ i. steps_in-same proof after n stored-front (omega arith) stored-length i ++ (step_from (stored-step i) ∷ []))

  pub stored-held : Held proof n → StepBytes bytes → Held after (suc n)
  stored-held h k =
      record {
        room = omega (arith, stored-length);
        steps = λ i l. below_more (λ i. StepBytes (step_at after i)) n
            (held_same proof after n stored-front (omega arith) stored-length h).steps
            (rw stored-step k) i (omega arith);
      }

-- ---- the bytes of the first n steps are those of the steps that they say
encode_snoc : (ss : List rules.Step) (s : rules.Step) → encode_proof (ss ++ (s ∷ [])) ≡ encode_proof ss ++ encode_step s
unfolding encode_proof
encode_snoc [] s = append-nil (encode_step s)
encode_snoc (x ∷ ss) s = ap (λ (b : List ℕ). encode_step x ++ b) (encode_snoc ss s)
    ∙ sym (append_assoc (encode_step x) (encode_proof ss) (encode_step s))

pub held_bytes : (proof : List ℕ) (n : ℕ) → Held proof n → take (step_bytes * n) proof ≡ encode_proof (steps_in proof n)
unfolding steps_in tabulate encode_proof step_at
held_bytes proof zero h = refl
held_bytes proof (suc n) h =
    let s = step_from (step_at proof n) in
    let e : step_bytes * suc n ≡ step_bytes * n + step_bytes = omega arith in
    ap (λ (k : ℕ). take k proof) e
    ∙ take-add (step_bytes * n) step_bytes proof
    ∙ (λ i. held_bytes proof n (held-fewer h (omega arith)) i ++ (h.steps n (omega arith)).written i)
    ∙ sym (ap encode_proof (tabulate-snoc n (λ i. step_from (step_at proof i))) ∙ encode_snoc (steps_in proof n) s)
