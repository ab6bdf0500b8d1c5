-- 02, (xi): what trimming a proof promises.
use Rattle.std.specs.Prelude.{◌≡◌, ◌↔◌, cond, List, [], ◌∷◌, ◌++◌, ℕ, zero, suc, ◌*◌, ◌≤◌, ◌<◌, eqb, length, take, drop}
use Rattle.std.proofs.Math.Option.{none, some}
use Rattle.std.proofs.Math.ListN.{get_elem?}
use Rattle.rules_types.specs.declared.answers.Refusal.{Refusal}
use Rattle.rules_types.specs.declared.answers.Refusal.TheVariants as refusal
use Rattle.rules_types.specs.declared.answers.Checked.{Checked}
use Rattle.rules_types.specs.declared.answers.Checked.TheVariants as checked
use Rattle.rules_types.specs.declared.answers.Trimmed.TheVariants as trimmed
use Rattle.rules_types.specs.declared.terms.Terms.{Terms}
use Rattle.rules_types.specs.Limits as limit
use Rattle.rules.specs.Problem.{Clause, Problem, in_edition}
use Rattle.rules.specs.Meaning.{Assignment, Satisfies}
use Rattle.rules.specs.Calls.{sound, read, proof_checked}
use Rattle.rules.specs.Trim.{Trimming, trim}
use Rattle.theory_lists.specs.All.{Any}
use Rattle.theory_layout.specs.Offsets.{Zeros}
use Rattle.theory_trimming.specs.Statements.{how, first_of, ShortProof}
use Rattle.promises.specs.Words.{WholeLines}
use Rattle.promises.specs.Checks.{ChecksProof}

-- ---- words
-- one of the first n steps is loaded from clause c
abbrev pub Loads : List ℕ → ℕ → ℕ → Type 0
Loads proof n c = (i : ℕ) × (i < n) × (how proof i ≡ 0) × (first_of proof i ≡ c)

-- the clause stands in the problem, wherever: an equality counts whole
abbrev pub Stands : Clause → Problem → Type 0
Stands x q = Any (λ (y : Clause). (y.literals ≡ x.literals) × (y.comparisons ≡ x.comparisons)) q.clauses

-- "the question reduced to the clauses it loads": a problem in which they stand, whatever else does
abbrev pub HasLoaded : Problem → List ℕ → ℕ → Problem → Type 0
HasLoaded p proof n q = (c : ℕ) (x : Clause) → Loads proof n c → get_elem? p.clauses c ≡ some x → Stands x q

-- the least of these: no clause but theirs, in the order in which they are loaded
unfoldable pub clause_at : Problem → ℕ → List Clause
clause_at p c = elim (get_elem? p.clauses c) [ none ↦ [] | some x ↦ x ∷ [] ]

unfoldable pub loaded_clauses : Problem → List ℕ → ℕ → List Clause
loaded_clauses p proof zero = []
loaded_clauses p proof (suc n) = loaded_clauses p proof n ++ cond (eqb (how proof n) 0) (clause_at p (first_of proof n)) []

unfoldable pub reduced_to : Problem → List ℕ → ℕ → Problem
reduced_to p proof n = record { booleans = p.booleans; rationals = p.rationals; clauses = loaded_clauses p proof n }

-- ---- n steps of a proof, in the first bytes of the target
pub record Trims (terms : Terms) (input proof : List ℕ) (n : ℕ) (target : List ℕ) : Type 0 where
  -- "Write a second book with the last, empty line and only the lines from which it descends, in order"
  pub nonempty : 1 ≤ n
  pub whole : (k : ℕ) × WholeLines terms.limits (length proof) k
  pub short : (k : ℕ) → WholeLines terms.limits (length proof) k → ShortProof proof k (take (limit.step_bytes * n) target) n
  -- "The check accepts it for the same question"
  pub accepted : proof_checked terms input (take (limit.step_bytes * n) target) ≡ checked.Accepted
  -- "the question reduced to the clauses it loads has no solution either", nor has one in which they stand beside others
  pub reduced : (p : Problem) → read input ≡ sound p → (χ : Assignment)
      → Satisfies χ (reduced_to (in_edition terms.edition p) target n) → ⊥
  pub core : (p : Problem) → read input ≡ sound p → (q : Problem) → HasLoaded (in_edition terms.edition p) target n q
      → (χ : Assignment) → Satisfies χ q → ⊥
  -- "the target's unused lines are 0"
  pub unused : Zeros (limit.step_bytes * n) (limit.proof_bytes terms.limits) target
  -- shortened again, it is itself
  pub again : (other : List ℕ) → limit.proof_bytes terms.limits ≤ length other
      → trim terms input (take (limit.step_bytes * n) target) other
      ≡ record {
        trimmed = trimmed.Steps n;
        target = take (limit.proof_bytes terms.limits) target ++ drop (limit.proof_bytes terms.limits) other;
      }

-- ---- the call: `lent` is the target before it
pub record Shortens (terms : Terms) (input proof lent : List ℕ) (ours : Trimming) : Type 0 where
  -- "a target under 65,536 bytes is 1", before the problem is looked at
  pub space : (ours.trimmed ≡ trimmed.Refused refusal.ShortProof 0) ↔ (length lent < limit.proof_bytes terms.limits)
  -- "A book the check doesn't accept is answered as the check does"
  pub says : Checked
  pub as_checked : says ≡ proof_checked terms input proof
  pub checks : ChecksProof terms input proof says
  pub refused : limit.proof_bytes terms.limits ≤ length lent → (f : Refusal) (place : ℕ)
      → (ours.trimmed ≡ trimmed.Refused f place) ↔ (says ≡ checked.Refused f place)
  pub fails : limit.proof_bytes terms.limits ≤ length lent → (n : ℕ) → (ours.trimmed ≡ trimmed.Fails n) ↔ (says ≡ checked.Fails n)
  -- any other is shortened
  pub accepted : limit.proof_bytes terms.limits ≤ length lent → ((n : ℕ) × (ours.trimmed ≡ trimmed.Steps n)) ↔ (says ≡ checked.Accepted)
  pub trims : (n : ℕ) → ours.trimmed ≡ trimmed.Steps n → Trims terms input proof n ours.target
  -- "with nothing written"
  pub untouched : (f : Refusal) (place : ℕ) → ours.trimmed ≡ trimmed.Refused f place → ours.target ≡ lent
  pub fails_untouched : (n : ℕ) → ours.trimmed ≡ trimmed.Fails n → ours.target ≡ lent
  -- bytes beyond the target's lines keep their content
  pub beyond : drop (limit.proof_bytes terms.limits) ours.target ≡ drop (limit.proof_bytes terms.limits) lent
  pub size : length ours.target ≡ length lent
