-- What the checks answer, for a problem, a proof and a model of arbitrary bytes; they write nothing.
use Rattle.std.specs.Prelude.{◌≡◌, refl, Bool, ◌↔◌, List, ℕ, ◌/◌, ◌≤◌, ◌<◌, T, length}
use Rattle.std.proofs.Common.{sym, ◌∙◌, ⊎_elim}
use Rattle.rules_types.specs.declared.answers.Refusal.{Refusal}
use Rattle.rules_types.specs.declared.answers.Refusal.TheVariants.{ShortModel, ProofLength, BadModel}
use Rattle.rules_types.specs.declared.answers.Checked.{Checked}
use Rattle.rules_types.specs.declared.answers.Checked.TheVariants.{Accepted, Fails, Refused}
use Rattle.rules_types.specs.declared.terms.Terms.{Terms}
use Rattle.rules_types.specs.Limits as limit
use Rattle.rules.specs.Problem.{Problem, in_edition}
use Rattle.rules.specs.Meaning.{Assignment}
use Rattle.rules.specs.Elimination.{loadable_of}
use Rattle.rules.specs.Model.{is_open}
use Rattle.rules.specs.Calls.{Reading, faulty, sound, read, whole_steps, proof_checked, model_checked}
use Rattle.theory_lists.specs.Tests.{split, clash}
use Rattle.theory_bytes.specs.Bytes.{AllBytes}
use Rattle.theory_layout.specs.Offsets.{StatesModel, FirstBadField}
use Rattle.theory_splitting.specs.Occurs.{open-exactly}
use Rattle.theory_checks.specs.ProofChecked.{proof-checked-refutes}
use Rattle.promises.specs.Decided.{NoAssignment}
use Rattle.promises.specs.Words.{WholeLines, Refutes, InNoClause, OpenVariables, WritesAssignment}
use Rattle.promises.specs.Checked.{model-exactly, accepted-opens, model-short-refused, model-field-refused, proof-refused}
use Rattle.promises.specs.Checked.{model-refused}
use Rattle.promises.specs.Failing.{ClauseFails, LineFails, model-fails}
use Rattle.promises.specs.Whole.{whole-lines, lines-whole, accepted-lines, failing-line, whole-unrefused, refused-length}

-- "The check tests question faults (3 to 13), then 16"
pub record ChecksProof (terms : Terms) (input proof : List ℕ) (says : Checked) : Type 0 where
  pub faulty_input : (f : Refusal) (place : ℕ) → read input ≡ faulty f place → says ≡ Refused f place
  pub proof_length : (p : Problem) → read input ≡ sound p → (place : ℕ) → (says ≡ Refused ProofLength place)
      ↔ ((place ≡ length proof) × ((k : ℕ) → WholeLines terms.limits (length proof) k → ⊥))
  -- "The check accepts a book exactly if its lines follow and the last is empty"
  pub accepted : (p : Problem) → read input ≡ sound p → (says ≡ Accepted)
      ↔ ((k : ℕ) × WholeLines terms.limits (length proof) k × Refutes (loadable_of (in_edition terms.edition p)) k proof)
  -- "the first failing line, the line count if only the empty end is missing"
  pub fails : (p : Problem) → read input ≡ sound p → (k : ℕ) → WholeLines terms.limits (length proof) k → (n : ℕ) → (says ≡ Fails n)
      ↔ LineFails (loadable_of (in_edition terms.edition p)) k proof n
  -- "whenever the check accepts a book for Q ... no choice satisfies Q, whoever wrote the book"
  pub refutes : (p : Problem) → read input ≡ sound p → says ≡ Accepted → NoAssignment (in_edition terms.edition p)

-- "question faults (3 to 13), then ... 2 and 17"
pub record ChecksModel (terms : Terms) (input bytes : List ℕ) (says : Checked) : Type 0 where
  pub faulty_input : (f : Refusal) (place : ℕ) → read input ≡ faulty f place → says ≡ Refused f place
  pub short : (p : Problem) → read input ≡ sound p → length bytes < limit.model_bytes → says ≡ Refused ShortModel 0
  -- 02, (iv): which Boolean variables are open; "An accepted sheet with a 2 satisfies the question with either value."
  pub opens : (p : Problem) → read input ≡ sound p → (i : ℕ)
      → (let posed = in_edition terms.edition p in T (is_open posed i) ↔ InNoClause posed i)
  pub either : (p : Problem) → read input ≡ sound p → says ≡ Accepted → (χ : Assignment)
      → (let posed = in_edition terms.edition p in
      StatesModel bytes posed.booleans posed.rationals (is_open posed) χ → OpenVariables posed bytes χ)
  pub field : (p : Problem) → read input ≡ sound p → limit.model_bytes ≤ length bytes → (place : ℕ) → (says ≡ Refused BadModel place)
      ↔ (let posed = in_edition terms.edition p in FirstBadField bytes posed.booleans posed.rationals (is_open posed) place)
  -- "a sheet exactly if every clause holds": the assignment on it satisfies Q
  pub accepted : (p : Problem) → read input ≡ sound p → (says ≡ Accepted) ↔ WritesAssignment (in_edition terms.edition p) bytes
  -- "the first clause that fails"
  pub fails : (p : Problem) → read input ≡ sound p → (χ : Assignment) → limit.model_bytes ≤ length bytes
      → (let posed = in_edition terms.edition p in StatesModel bytes posed.booleans posed.rationals (is_open posed) χ)
      → (n : ℕ) → (says ≡ Fails n)
      ↔ ClauseFails χ (in_edition terms.edition p).clauses n

pub checks-proof : (terms : Terms) → terms.limits.steps ≤ limit.most_steps → (input proof : List ℕ) → AllBytes proof
    → ChecksProof terms input proof (proof_checked terms input proof)
checks-proof terms few input proof are =
    record {
      faulty_input = λ f place e. proof-refused input f place e terms proof;
      proof_length = λ p e. refused-length terms input p e proof;
      accepted = λ p e. accepted-lines terms input p e proof are few;
      fails = λ p e. failing-line terms input p e proof are few;
      refutes = λ p e a. proof-checked-refutes terms input proof a p e;
    }

-- so one answer is promised of a proof: whoever keeps the promise says what the definition does
pub one_answer : (terms : Terms) → terms.limits.steps ≤ limit.most_steps → (input proof : List ℕ) → AllBytes proof → {says : Checked}
    → ChecksProof terms input proof says → says ≡ proof_checked terms input proof
one_answer terms few input proof are {says} x = by (read input) refl
  where
    ours : Checked
    ours = proof_checked terms input proof

    y : ChecksProof terms input proof ours
    y = checks-proof terms few input proof are

    whole : Bool
    whole = whole_steps terms.limits (length proof)

    followed-by : (p : Problem) → read input ≡ sound p → T whole → (c : Checked) → ours ≡ c → says ≡ c
    followed-by p e t Accepted d = (x.accepted p e).1 ((y.accepted p e).0 d)
    followed-by p e t (Fails n) d =
        let k = length proof / limit.step_bytes in
        let w = whole-lines terms.limits (length proof) t in
        (x.fails p e k w n).1 ((y.fails p e k w n).0 d)
    followed-by p e t (Refused f place) d = absurd (whole-unrefused terms input p e proof t f place d)

    by : (r : Reading) → read input ≡ r → says ≡ ours
    by (faulty f place) e = x.faulty_input f place e ∙ sym (y.faulty_input f place e)
    by (sound p) e = ⊎_elim (λ t. followed-by p e t ours refl)
        (λ t. let never : (k : ℕ) → WholeLines terms.limits (length proof) k → ⊥ =
        λ k w. clash whole (lines-whole terms.limits (length proof) k w) t in
        (x.proof_length p e (length proof)).1 (refl, never) ∙ sym ((y.proof_length p e (length proof)).1 (refl, never))) (split whole)

pub checks-model : (terms : Terms) (input bytes : List ℕ) → ChecksModel terms input bytes (model_checked terms input bytes)
checks-model terms input bytes =
    record {
      faulty_input = λ f place e. model-refused input f place e terms bytes;
      short = λ p e. model-short-refused terms input p e bytes;
      opens = λ p e. open-exactly (in_edition terms.edition p);
      either = λ p e. accepted-opens terms input p e bytes;
      field = λ p e. model-field-refused terms input p e bytes;
      accepted = λ p e. model-exactly terms input p e bytes;
      fails = λ p e. model-fails terms input p e bytes;
    }
