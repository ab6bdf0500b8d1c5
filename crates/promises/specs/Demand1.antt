-- Demand 1, as far as it is about the definition of solving: what it says and leaves in proof and model, for a problem of arbitrary
-- bytes and buffers of every length. The checks return an answer alone: they write nothing.
use Rattle.std.specs.Prelude.{◌≡◌, ◌↔◌, List, ◌++◌, ℕ, ◌≤◌, ◌<◌, length, replicate, drop}
use Rattle.rules_types.specs.declared.answers.Refusal.{Refusal}
use Rattle.rules_types.specs.declared.answers.Refusal.TheVariants as refusal
use Rattle.rules_types.specs.declared.answers.Verdict.{Verdict}
use Rattle.rules_types.specs.declared.answers.Verdict.TheVariants.{Satisfiable}
use Rattle.rules_types.specs.declared.answers.Answer.TheVariants.{Refused}
use Rattle.rules_types.specs.declared.answers.Checked.TheVariants as checked
use Rattle.rules_types.specs.declared.terms.Terms.{Terms}
use Rattle.rules_types.specs.Limits as limit
use Rattle.rules.specs.Problem.{Problem, in_edition}
use Rattle.rules.specs.Calls.{faulty, sound, read, Solving, solve, proof_checked, model_checked}
use Rattle.promises.specs.Words.{Comes, LimitMet, FullSize, HoldsLines, OurModel}
use Rattle.theory_bytes.specs.Bytes.{AllBytes}
use Rattle.theory_reading.specs.Statements.{IsProblem, FirstFault}
use Rattle.theory_reading.specs.Theorems.{reads-exactly, names-first}
use Rattle.promises.specs.Checked.{proof-refused, model-refused}
use Rattle.promises.specs.Total.{Total, total}
use Rattle.promises.specs.Left as left

-- nothing is altered, and there are no pairs to report
abbrev pub untouched : Refusal → ℕ → List ℕ → List ℕ → Solving
untouched f place proof model = record { solved = record { answer = Refused f place; pairs = 0 }; proof = proof; model = model }

pub record Demand1 (terms : Terms) (input lent_proof lent_model : List ℕ) (ours : Solving) : Type 0 where
  -- "The lent memory, for a question of arbitrary bytes and buffers of every length, ends as document 01 says: book and sheet after a
  -- verdict,": the lines, zeros, and what lay beyond; the value rule's model after "agrees", zeros otherwise, and what lay beyond
  pub proof : FullSize terms.limits lent_proof lent_model → (p : Problem) → read input ≡ sound p → terms.limits.steps ≤ limit.most_steps
      → (v : Verdict) → Comes v ours.solved.answer → HoldsLines terms.limits (in_edition terms.edition p) ours.proof lent_proof
  pub satisfiable : FullSize terms.limits lent_proof lent_model → (p : Problem) → read input ≡ sound p
      → Comes Satisfiable ours.solved.answer → OurModel (in_edition terms.edition p) ours lent_model
  pub others : FullSize terms.limits lent_proof lent_model → (p : Problem) → read input ≡ sound p → (v : Verdict)
      → Comes v ours.solved.answer → (v ≡ Satisfiable → ⊥)
      → ours.model ≡ replicate limit.model_bytes 0 ++ drop limit.model_bytes lent_model
  -- "its old bytes after a faulty question or short buffer,": 1 before 2 before the problem's first fault
  pub short_proof : length lent_proof < limit.proof_bytes terms.limits → ours ≡ untouched refusal.ShortProof 0 lent_proof lent_model
  pub short_model : limit.proof_bytes terms.limits ≤ length lent_proof → length lent_model < limit.model_bytes
      → ours ≡ untouched refusal.ShortModel 0 lent_proof lent_model
  pub faulty_input : FullSize terms.limits lent_proof lent_model → (f : Refusal) (place : ℕ) → read input ≡ faulty f place
      → ours ≡ untouched f place lent_proof lent_model
  -- "a zeroed book and the old sheet after a refused course."
  pub refused_elimination : FullSize terms.limits lent_proof lent_model → (p : Problem) → read input ≡ sound p
      → LimitMet ours.solved.answer
      → (ours.proof ≡ replicate (limit.proof_bytes terms.limits) 0 ++ drop (limit.proof_bytes terms.limits) lent_proof)
      × (ours.model ≡ lent_model)
  -- "and names the first fault in 01's order.": which problem the bytes are, or which fault is the first, is said of the bytes alone; the
  -- checks too name it, before they look at proof or model
  pub reads : AllBytes input → (p : Problem) → (read input ≡ sound p) ↔ IsProblem input p
  pub names : AllBytes input → (f : Refusal) (place : ℕ) → (read input ≡ faulty f place) ↔ FirstFault input f place
  pub first_fault : (f : Refusal) (place : ℕ) → read input ≡ faulty f place → (bytes : List ℕ)
      → (proof_checked terms input bytes ≡ checked.Refused f place) × (model_checked terms input bytes ≡ checked.Refused f place)
  -- an answer comes in every case, and no buffer grows or shrinks
  pub total : AllBytes input → Total terms input lent_proof lent_model ours.solved.answer
  pub sizes : (length ours.proof ≡ length lent_proof) × (length ours.model ≡ length lent_model)

pub demand1 : (terms : Terms) (input proof model : List ℕ) → Demand1 terms input proof model (solve terms input proof model)
demand1 terms input proof model =
    record {
      proof = left.proof terms input proof model;
      satisfiable = left.satisfiable terms input proof model;
      others = left.others terms input proof model;
      short_proof = left.short-proof terms input proof model;
      short_model = left.short-model terms input proof model;
      faulty_input = left.faulty-input terms input proof model;
      refused_elimination = left.refused-elimination terms input proof model;
      reads = reads-exactly input;
      names = names-first input;
      first_fault = λ f place e bytes. (proof-refused input f place e terms bytes, model-refused input f place e terms bytes);
      total = total terms input proof model;
      sizes = left.sizes terms input proof model;
    }
