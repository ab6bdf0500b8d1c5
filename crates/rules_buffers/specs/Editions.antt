-- Whole calls that name an edition: 02, (v). x ≤ -1 in both, with a preview's lines, and another edition's number.
use Rattle.std.specs.Prelude.{◌≡◌, refl, List, [], ◌∷◌, ◌++◌, ℕ, ◌-◌, pos, negsuc, replicate}
use Rattle.rules_types.specs.declared.answers.Refusal.TheVariants as refusal
use Rattle.rules_types.specs.declared.answers.Verdict.TheVariants.{Satisfiable, Unsatisfiable}
use Rattle.rules_types.specs.declared.answers.Answer.TheVariants.{Decided, Refused}
use Rattle.rules_types.specs.Limits as limit
use Rattle.rules.specs.Calls.{solve_in}
use Rattle.rules.specs.Write.{at_most, alone, problem_of}
use Rattle.rules.specs.Compute.{definitions}
use Rattle.rules_buffers.specs.Buffers.{zeros, lent_model}

abbrev negative : List ℕ
negative = problem_of 0 1 (alone (at_most (pos 1 ∷ []) (negsuc 0)) ∷ [])

abbrev lent_proof : List ℕ
lent_proof = replicate (limit.proof_bytes limit.preview) 171

-- x ≤ -1, from clause 0
abbrev upper : List ℕ
upper = zeros 6 ++ (1 ∷ zeros 9) ++ (1 ∷ zeros 31) ++ replicate 4 255 ++ zeros 12

-- -x ≤ 0, from clause 1, which has no bytes
abbrev lower : List ℕ
lower = 0 ∷ 0 ∷ 1 ∷ 0 ∷ 0 ∷ 0 ∷ 1 ∷ zeros 9 ++ replicate 4 255 ++ zeros 44

-- the empty line, by figure 0 from lines 0 and 1
abbrev end : List ℕ
end = 1 ∷ 0 ∷ 0 ∷ 0 ∷ 1 ∷ zeros 59

pub negative-in-first : solve_in limit.preview 1 negative lent_proof lent_model
    ≡ record {
      solved = record { answer = Decided Satisfiable 1; pairs = 0 };
      proof = upper ++ zeros (limit.proof_bytes limit.preview - 64);
      model = 0 ∷ 1 ∷ 1 ∷ zeros 3 ++ replicate 4 255 ++ zeros 54 ++ replicate 2 205;
    }
unfolding definitions
negative-in-first = refl

pub negative-in-second : solve_in limit.preview 2 negative lent_proof lent_model
    ≡ record {
      solved = record { answer = Decided Unsatisfiable 3; pairs = 1 };
      proof = upper ++ lower ++ end ++ zeros (limit.proof_bytes limit.preview - 192);
      model = zeros 64 ++ replicate 2 205;
    }
unfolding definitions
negative-in-second = refl

pub negative-in-third : solve_in limit.preview 3 negative lent_proof lent_model
    ≡ record { solved = record { answer = Refused refusal.Edition 0; pairs = 0 }; proof = lent_proof; model = lent_model }
unfolding definitions
negative-in-third = refl
