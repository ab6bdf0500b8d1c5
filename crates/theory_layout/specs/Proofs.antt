-- What is written for the steps of a proof stands at document 01's offsets: a step every 64 bytes, and zeros after them.
use Rattle.std.specs.Prelude.{◌≡◌, List, [], ◌∷◌, ◌++◌, ℕ, zero, suc, ◌+◌, ◌*◌, ◌-◌, length, take, drop, replicate}
use Rattle.std.proofs.Common.{ap, ◌∙◌, append_assoc, arith, length-append, take_at, drop_at, drop-drop}
use Rattle.std.proofs.Math.Option.{some}
use Rattle.std.proofs.Math.ListN.{get_elem?}
use Rattle.rules.specs.Steps.{Step, encode_step, encode_proof}
use Rattle.theory_lists.specs.All.{All, all_map}
use Rattle.theory_lists.specs.Places.{element-all, element-below}
use Rattle.theory_resolution.specs.Formed.{Formed}
use Rattle.theory_bytes.specs.Steps.{step-length, proof-length}
use Rattle.theory_layout.specs.Offsets.{HoldsSteps}
use Rattle.theory_layout.specs.Fields.{field-drop, zeros-before}
use Rattle.theory_layout.specs.Steps.{Writable, encoded-at}

abbrev AllFormed : List Step → Type 0
AllFormed ss = All (λ s. Formed s.line) ss

-- step i, whatever follows the proof
element-encoded : (ss : List Step) (rest : List ℕ) → AllFormed ss → (i : ℕ) (s : Step) → get_elem? ss i ≡ some s
    → take 64 (drop (64 * i) (encode_proof ss ++ rest)) ≡ encode_step s
unfolding encode_proof
element-encoded [] rest h i s e = absurd (let z : ◌≡◌ {A = ℕ} 0 1 = cc in omega arith)
element-encoded (x ∷ ss) rest h zero s e =
    let q : x ≡ s = cc in
    rw (append_assoc (encode_step x) (encode_proof ss) rest)
    (take_at (encode_step x) (encode_proof ss ++ rest) 64 (step-length x h.0) ∙ ap encode_step q)
element-encoded (x ∷ ss) rest h (suc i) s e =
    let n : 64 * suc i ≡ 64 + 64 * i = omega arith in
    rw (
      n,
      ← drop-drop (64 * i) 64 (encode_proof (x ∷ ss) ++ rest),
      append_assoc (encode_step x) (encode_proof ss) rest,
      drop_at (encode_step x) (encode_proof ss ++ rest) 64 (step-length x h.0),
    ) (element-encoded ss rest h.1 i s e)

-- THE THEOREM
pub proof-at : (steps : List Step) (lines : ℕ) (rest : List ℕ) → All Writable steps
    → HoldsSteps (encode_proof steps ++ replicate (lines * 64 - 64 * length steps) 0 ++ rest) steps lines
proof-at steps lines rest w =
    record {
      step = λ i s e. rw assoc (encoded-at (proof ++ after) (64 * i) s (element-all Writable steps i s e w)
          (rw (length-append proof after) (omega (arith, size, element-below steps i s e))) (element-encoded steps after formed i s e));
      unused = λ place lo hi.
          let e : place ≡ 64 * length steps + (place - 64 * length steps) = omega arith in
          rw (
            assoc,
            e,
            ← field-drop (proof ++ after) (64 * length steps) (place - 64 * length steps) 1,
            drop_at proof after (64 * length steps) size,
          ) (zeros-before count (place - 64 * length steps) rest (omega arith));
    }
  where
    formed : AllFormed steps
    formed = all_map Writable (λ s. Formed s.line) steps (λ s h. h.line.formed) w

    proof : List ℕ
    proof = encode_proof steps

    count : ℕ
    count = lines * 64 - 64 * length steps

    after : List ℕ
    after = replicate count 0 ++ rest

    size : length proof ≡ 64 * length steps
    size = proof-length steps formed

    assoc : proof ++ replicate count 0 ++ rest ≡ proof ++ after
    assoc = append_assoc proof (replicate count 0) rest
