-- Whole calls on lent buffers: what they say, and every byte of proof and model afterwards.
use Rattle.std.specs.Prelude.{◌≡◌, refl, List, [], ◌∷◌, ◌++◌, ℕ, ◌+◌, ◌-◌, pos, negsuc, replicate, take}
use Rattle.rules_types.specs.declared.answers.Refusal.TheVariants as refusal
use Rattle.rules_types.specs.declared.answers.Verdict.TheVariants.{Satisfiable, Unsatisfiable}
use Rattle.rules_types.specs.declared.answers.Answer.TheVariants.{Decided, Refused}
use Rattle.rules_types.specs.declared.answers.Checked.TheVariants as checked
use Rattle.rules_types.specs.declared.answers.Evidence.TheVariants.{OfProof, OfModel}
use Rattle.rules_types.specs.Answers.{verdict_number}
use Rattle.rules_types.specs.Limits as limit
use Rattle.rules_types.specs.Terms.{standard}
use Rattle.rules.specs.Calls.{solve, proof_checked, model_checked, evidence}
use Rattle.rules.specs.Write.{at_most, below, clause_of, alone, problem_of}
use Rattle.rules.specs.Compute.{definitions}

abbrev pub zeros : ℕ → List ℕ
zeros n = replicate n 0

abbrev proof_bytes : ℕ
proof_bytes = limit.proof_bytes limit.standard

-- lent buffers that hold other bytes, and have some to spare
abbrev lent_proof : List ℕ
lent_proof = replicate (proof_bytes + 64) 171

abbrev pub lent_model : List ℕ
lent_model = replicate 66 205

-- ---- "cannot agree": example 7
abbrev pub seven : List ℕ
seven =
    problem_of 0 2 (alone (at_most (pos 1 ∷ pos 1 ∷ []) (pos 10)) ∷ alone (at_most (negsuc 0 ∷ pos 0 ∷ []) (negsuc 6)) ∷ alone
    (at_most (pos 0 ∷ negsuc 0 ∷ []) (negsuc 3)) ∷ [])

-- its bytes
pub seven-bytes : seven
    ≡ 0 ∷ 2 ∷ 3 ∷ 0
    ∷ 0 ∷ 1 ∷ 1 ∷ 1 ∷ 0 ∷ 0 ∷ 0 ∷ 1 ∷ 0 ∷ 0 ∷ 0 ∷ 10 ∷ 0 ∷ 0 ∷ 0
    ∷ 0 ∷ 1 ∷ 1 ∷ 255 ∷ 255 ∷ 255 ∷ 255 ∷ 0 ∷ 0 ∷ 0 ∷ 0 ∷ 249 ∷ 255 ∷ 255 ∷ 255
    ∷ 0 ∷ 1 ∷ 1 ∷ 0 ∷ 0 ∷ 0 ∷ 0 ∷ 255 ∷ 255 ∷ 255 ∷ 255 ∷ 252 ∷ 255 ∷ 255 ∷ 255 ∷ []
unfolding definitions
seven-bytes = refl

-- its five lines: x + y ≤ 10, -x ≤ -7, -y ≤ -4, y ≤ 3, and the empty one
abbrev pub seven_lines : List ℕ
seven_lines =
    (0 ∷ 0 ∷ 0 ∷ 0 ∷ 0 ∷ 0 ∷ 1 ∷ 0 ∷ []) ++ zeros 8 ++ (1 ∷ 0 ∷ 0 ∷ 0 ∷ 1 ∷ 0 ∷ 0 ∷ 0 ∷ []) ++ zeros 24 ++ (10 ∷ 0 ∷ 0 ∷ 0 ∷ []) ++ zeros 12
    ++ (0 ∷ 0 ∷ 1 ∷ 0 ∷ 0 ∷ 0 ∷ 1 ∷ 0 ∷ []) ++ zeros 8 ++ (255 ∷ 255 ∷ 255 ∷ 255 ∷ []) ++ zeros
    28 ++ (249 ∷ 255 ∷ 255 ∷ 255 ∷ []) ++ zeros 12
    ++ (0 ∷ 0 ∷ 2 ∷ 0 ∷ 0 ∷ 0 ∷ 1 ∷ 0 ∷ []) ++ zeros 12 ++ (255 ∷ 255 ∷ 255 ∷ 255 ∷ []) ++ zeros
    24 ++ (252 ∷ 255 ∷ 255 ∷ 255 ∷ []) ++ zeros 12
    ++ (1 ∷ 0 ∷ 0 ∷ 0 ∷ 1 ∷ 0 ∷ 1 ∷ 0 ∷ []) ++ zeros 12 ++ (1 ∷ 0 ∷ 0 ∷ 0 ∷ []) ++ zeros 24 ++ (3 ∷ 0 ∷ 0 ∷ 0 ∷ []) ++ zeros 12
    ++ (1 ∷ 1 ∷ 3 ∷ 0 ∷ 2 ∷ 0 ∷ 0 ∷ 0 ∷ []) ++ zeros 56

pub seven-solved : solve standard seven lent_proof lent_model
    ≡ record {
      solved = record { answer = Decided Unsatisfiable 5; pairs = 2 };
      proof = seven_lines ++ zeros (proof_bytes - 320) ++ replicate 64 171;
      model = zeros 64 ++ replicate 2 205;
    }
unfolding definitions
seven-solved = refl

-- its used lines are accepted; without the last only the empty end is missing; and they are what is handed back
pub seven-accepted : proof_checked standard seven seven_lines ≡ checked.Accepted
unfolding definitions
seven-accepted = refl

pub seven-without-its-end : proof_checked standard seven (take 256 seven_lines) ≡ checked.Fails 4
unfolding definitions
seven-without-its-end = refl

pub seven-handed-back : evidence limit.standard (verdict_number Unsatisfiable) 5 lent_proof lent_model ≡ OfProof 320
unfolding definitions
seven-handed-back = refl

-- ---- "agrees", with two Boolean variables, of which one is open, and a rational variable: a; x < 5; -x < -4
abbrev half : List ℕ
half = problem_of 2 1 (clause_of (0 ∷ []) [] ∷ alone (below (pos 1 ∷ []) (pos 5)) ∷ alone (below (negsuc 0 ∷ []) (negsuc 3)) ∷ [])

abbrev half_model : List ℕ
half_model = (2 ∷ 1 ∷ 2 ∷ 1 ∷ 2 ∷ 0 ∷ 0 ∷ 0 ∷ 9 ∷ 0 ∷ 0 ∷ 0 ∷ []) ++ zeros 52

pub half-solved : solve standard half lent_proof lent_model
    ≡ record {
      solved = record { answer = Decided Satisfiable 3; pairs = 1 };
      proof =
          zeros 8 ++ (1 ∷ []) ++ zeros 55
          ++ (0 ∷ 0 ∷ 1 ∷ 0 ∷ 0 ∷ 0 ∷ 2 ∷ 0 ∷ []) ++ zeros 8 ++ (1 ∷ 0 ∷ 0 ∷ 0 ∷ []) ++ zeros 28 ++ (5 ∷ 0 ∷ 0 ∷ 0 ∷ []) ++ zeros 12
          ++ (0 ∷ 0 ∷ 2 ∷ 0 ∷ 0 ∷ 0 ∷ 2 ∷ 0 ∷ []) ++ zeros 8 ++ (255 ∷ 255 ∷ 255 ∷ 255 ∷ []) ++ zeros
          28 ++ (252 ∷ 255 ∷ 255 ∷ 255 ∷ []) ++ zeros 12
          ++ zeros (proof_bytes - 192) ++ replicate 64 171;
      model = half_model ++ replicate 2 205;
    }
unfolding definitions
half-solved = refl

pub half-accepted : model_checked standard half half_model ≡ checked.Accepted
unfolding definitions
half-accepted = refl

pub half-handed-back : evidence limit.standard (verdict_number Satisfiable) 3 lent_proof lent_model ≡ OfModel 64
unfolding definitions
half-handed-back = refl

-- ---- refusals
-- 14 zeroes the proof and leaves the model: example 10
abbrev pub ten : List ℕ
ten = problem_of 0 3
    (alone (at_most (pos 1000000000 ∷ pos 3 ∷ pos 0 ∷ []) (pos 0)) ∷ alone (at_most (negsuc 999999998 ∷ pos 0 ∷ pos 1 ∷ []) (pos 0)) ∷ [])

pub ten-solved : solve standard ten lent_proof lent_model
    ≡ record {
      solved = record { answer = Refused refusal.Overflow 2; pairs = 1 };
      proof = zeros proof_bytes ++ replicate 64 171;
      model = lent_model;
    }
unfolding definitions
ten-solved = refl

-- a fault of the problem alters nothing, and comes after 1 and 2: seventeen Boolean variables
pub faulty-solved : solve standard (17 ∷ []) lent_proof lent_model
    ≡ record { solved = record { answer = Refused refusal.Booleans 0; pairs = 0 }; proof = lent_proof; model = lent_model }
unfolding definitions
faulty-solved = refl

pub short-proof-first : solve standard (17 ∷ []) (zeros (proof_bytes - 1)) []
    ≡ record { solved = record { answer = Refused refusal.ShortProof 0; pairs = 0 }; proof = zeros (proof_bytes - 1); model = [] }
unfolding definitions
short-proof-first = refl

pub short-model-next : solve standard (17 ∷ []) (zeros proof_bytes) (zeros 63)
    ≡ record { solved = record { answer = Refused refusal.ShortModel 0; pairs = 0 }; proof = zeros proof_bytes; model = zeros 63 }
unfolding definitions
short-model-next = refl
