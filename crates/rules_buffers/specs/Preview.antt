-- Whole calls of a preview: 02, (iii), "refusals 1, 15 and 16, handing back, the unused lines after a verdict, the bytes kept beyond the
-- book and the zeroing after 14 and 15 read their sizes from N, and the preview may be full while loading, with no pairs".
use Rattle.std.specs.Prelude.{◌≡◌, refl, List, [], ◌∷◌, ◌++◌, ℕ, ◌+◌, ◌-◌, ◌*◌, ℤ, pos, negsuc, neg_ℤ, replicate}
use Rattle.rules_types.specs.declared.answers.Refusal.{Refusal}
use Rattle.rules_types.specs.declared.answers.Refusal.TheVariants as refusal
use Rattle.rules_types.specs.declared.answers.Verdict.TheVariants.{Satisfiable, Unsatisfiable}
use Rattle.rules_types.specs.declared.answers.Answer.TheVariants.{Decided, Refused}
use Rattle.rules_types.specs.declared.answers.Checked.TheVariants as checked
use Rattle.rules_types.specs.declared.answers.Evidence.TheVariants.{OfProof}
use Rattle.rules_types.specs.Answers.{verdict_number}
use Rattle.rules_types.specs.Limits as limit
use Rattle.rules_types.specs.Terms.{preview}
use Rattle.rules.specs.Lists.{tabulate}
use Rattle.rules.specs.Calls.{Solving, solve, proof_checked, evidence}
use Rattle.rules.specs.Write.{at_most, equals, clause_of, alone, problem_of}
use Rattle.rules.specs.Compute.{definitions}
use Rattle.rules_buffers.specs.Buffers.{zeros, lent_model, seven, seven_lines, ten}

-- "The preview page lends 16,384 bytes, 256 lines."
abbrev proof_bytes : ℕ
proof_bytes = limit.proof_bytes limit.preview

pub preview-bytes : proof_bytes ≡ 16384
preview-bytes = refl

-- a full-size proof is lent, and the preview keeps what lies beyond its own bytes
abbrev beyond : List ℕ
beyond = replicate (limit.proof_bytes limit.standard - proof_bytes) 171

abbrev lent_proof : List ℕ
lent_proof = replicate proof_bytes 171 ++ beyond

-- ---- verdicts, 14 and 15
pub seven-previewed : solve preview seven lent_proof lent_model
    ≡ record {
      solved = record { answer = Decided Unsatisfiable 5; pairs = 2 };
      proof = seven_lines ++ zeros (proof_bytes - 320) ++ beyond;
      model = zeros 64 ++ replicate 2 205;
    }
unfolding definitions
seven-previewed = refl

-- a refused elimination: zeros in the preview's own bytes; what lies beyond, and the model, are kept
abbrev stopped : Refusal → ℕ → ℕ → Solving
stopped f lines pairs =
    record { solved = record { answer = Refused f lines; pairs = pairs }; proof = zeros proof_bytes ++ beyond; model = lent_model }

pub ten-previewed : solve preview ten lent_proof lent_model ≡ stopped refusal.Overflow 2 1
unfolding definitions
ten-previewed = refl

-- x + ky = 0 for k from 1 to 129 loads two lines each: 256, and no room for the next
abbrev many_equalities : List ℕ
many_equalities = problem_of 0 2 (tabulate 129 (λ k. alone (equals (pos 1 ∷ pos (k + 1) ∷ []) (pos 0))))

pub full-while-loading : solve preview many_equalities lent_proof lent_model ≡ stopped refusal.OutOfSteps 256 0
unfolding definitions
full-while-loading = refl

-- x + 100my ≤ 1 for m from 1 to 12 and from -1 to -12, -x + jy ≤ 0 for j from 1 to 20 and from -1 to -20: each pair by x adds a line, and
-- the 193rd finds no room
abbrev many_pairs : List ℕ
many_pairs =
    let row : ℤ → ℤ → ℤ → List ℕ = λ x y bound. alone (at_most (x ∷ y ∷ []) bound) in
    problem_of 0 2
    (tabulate 12 (λ m. row (pos 1) (pos (100 * (m + 1))) (pos 1)) ++ tabulate 12 (λ m. row (pos 1) (neg_ℤ (pos (100 * (m + 1)))) (pos 1))
    ++ tabulate 20 (λ j. row (negsuc 0) (pos (j + 1)) (pos 0)) ++ tabulate 20 (λ j. row (negsuc 0) (negsuc j) (pos 0)))

pub full-in-a-round : solve preview many_pairs lent_proof lent_model ≡ stopped refusal.OutOfSteps 256 193
unfolding definitions
full-in-a-round = refl

-- ---- 1, 16 and handing back
pub short-preview : solve preview seven (zeros (proof_bytes - 1)) lent_model
    ≡ record { solved = record { answer = Refused refusal.ShortProof 0; pairs = 0 }; proof = zeros (proof_bytes - 1); model = lent_model }
unfolding definitions
short-preview = refl

-- a clause with nothing in it is a line of zeros, so zeros are a book of any length that is allowed
abbrev nothing : List ℕ
nothing = problem_of 0 0 (clause_of [] [] ∷ [])

pub as-many-lines : proof_checked preview nothing (zeros proof_bytes) ≡ checked.Accepted
unfolding definitions
as-many-lines = refl

pub one-line-more : proof_checked preview nothing (zeros (proof_bytes + 64)) ≡ checked.Refused refusal.ProofLength 16448
unfolding definitions
one-line-more = refl

pub as-many-handed-back : evidence limit.preview (verdict_number Unsatisfiable) 256 (zeros proof_bytes) lent_model ≡ OfProof proof_bytes
unfolding definitions
as-many-handed-back = refl

pub one-more-not-handed-back : evidence limit.preview (verdict_number Satisfiable) 257 lent_proof lent_model ≡ OfProof 0
unfolding definitions
one-more-not-handed-back = refl
