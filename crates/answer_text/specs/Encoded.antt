-- The text read from a proof's bytes is that of its steps, where every number fits its field.
use Rattle.std.specs.Prelude.{◌≡◌, refl, take, drop}
use Rattle.std.proofs.Common.{sym, ◌∙◌, arith}
use Rattle.std.proofs.Math.Path.{ap}
use mathlib.Core.List.{List, [], ◌∷◌, ◌++◌, map}
use Prim.Native.Nat.{ℕ, suc, ◌+◌, ◌*◌, ◌≤◌, ◌<◌}
use Rattle.std.proofs.Math.ListN.{length, length-append}
use Rattle.std.proofs.Math.Seq.{drop-append-add}
use Rattle.rules_types.specs.Limits as limit
use Rattle.rules_types.specs.Layout as layout
use Rattle.rules.specs.Lists.{concat, tabulate}
use Rattle.rules.specs.Bytes.{from_bytes, field_at}
use Rattle.rules.specs.Steps.{Step, header, encode_step, encode_proof}
use Rattle.rules.specs.Print.{ascii, decimal, print_line, print_step, print_proof}
use Rattle.theory_lists.specs.All.{All}
use Rattle.theory_lists.specs.Tabulated.{tabulate-cong}
use Rattle.theory_resolution.specs.Formed.{Formed}
use Rattle.theory_bytes.specs.Steps.{step-length, take_step}
use Rattle.theory_bytes.specs.Headers.{how-back, which-back, first_back, second_back}
use Rattle.steps.specs.Places.{step_at, field-step_at}
use Rattle.printing.specs.Texts.{texts, header_text, step_text, steps_text, proof_text}

-- a step of 64 bytes, with numbers of two
pub record Numbered (s : Step) : Type 0 where
  pub formed : Formed s.line
  pub first : (header s.origin).first < limit.most_steps
  pub second : (header s.origin).second < limit.most_steps

-- ---- the first step
module _ (s : Step) (ss : List Step) (n : Numbered s) where
  abbrev bytes : List ℕ
  bytes = encode_proof (s ∷ ss)

  enough : limit.step_bytes * 0 + limit.step_bytes ≤ length bytes
  unfolding encode_proof
  enough = omega (arith, step-length s n.formed, length-append (encode_step s) (encode_proof ss))

  here : step_at bytes 0 ≡ encode_step s
  unfolding step_at
  here = take_step s ss n.formed

  field-here : (at size : ℕ) → at + size ≤ limit.step_bytes → field_at (limit.step_bytes * 0 + at) size bytes ≡ field_at at size
      (encode_step s)
  field-here at size h = sym (field-step_at bytes 0 enough at size h) ∙ ap (field_at at size) here

  pub text-here : step_text bytes 0 ≡ print_step s
  unfolding print_step
  text-here = ap header_text (λ i. record {
    how = (field-here layout.step_how 1 (omega arith) ∙ how-back s) i;
    which = (field-here layout.step_which 1 (omega arith) ∙ which-back s) i;
    first = (field-here layout.step_first 2 (omega arith) ∙ first_back s n.first) i;
    second = (field-here layout.step_second 2 (omega arith) ∙ second_back s n.second) i;
  })

  -- ---- the steps behind it
  field_next : (i at size : ℕ)
      → field_at (limit.step_bytes * suc i + at) size bytes ≡ field_at (limit.step_bytes * i + at) size (encode_proof ss)
  unfolding field_at encode_proof
  field_next i at size =
      let k = limit.step_bytes * i + at in
      let e : limit.step_bytes * suc i + at ≡ length (encode_step s) + k = omega (arith, step-length s n.formed) in
      ap (λ (m : ℕ). from_bytes (take size (drop m (encode_step s ++ encode_proof ss)))) e
      ∙ ap (λ (l : List ℕ). from_bytes (take size l)) (drop-append-add (encode_step s) (encode_proof ss) k)

  pub text-next : (i : ℕ) → step_text bytes (suc i) ≡ step_text (encode_proof ss) i
  text-next i = ap header_text (λ j. record {
    how = field_next i layout.step_how 1 j;
    which = field_next i layout.step_which 1 j;
    first = field_next i layout.step_first 2 j;
    second = field_next i layout.step_second 2 j;
  })

steps-text : (ss : List Step) → All Numbered ss → steps_text (encode_proof ss) (length ss) ≡ concat (map print_step ss)
unfolding concat tabulate
steps-text [] h = refl
steps-text (s ∷ ss) h = λ i. text-here s ss h.0 i ++ (rest ∙ steps-text ss h.1) i
  where
    rest : texts (length ss) (λ i. step_text (encode_proof (s ∷ ss)) (suc i)) ≡ steps_text (encode_proof ss) (length ss)
    rest =
        ap concat
        (tabulate-cong (length ss) (λ i. step_text (encode_proof (s ∷ ss)) (suc i)) (step_text (encode_proof ss))
        (λ i k. text-next s ss h.0 i))

pub proof-text : (ss : List Step) → All Numbered ss → proof_text (encode_proof ss) (length ss) ≡ print_proof ss
unfolding print_proof
proof-text ss h = ap (λ (t : List ℕ). print_line (ascii "lines") (decimal (length ss) ∷ []) ++ t) (steps-text ss h)
