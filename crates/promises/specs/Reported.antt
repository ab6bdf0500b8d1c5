-- What solving reports and leaves in the proof: the elimination's lines and pairs.
use Rattle.std.specs.Prelude.{◌≡◌, List, ◌++◌, ℕ, ◌*◌, ◌-◌, ◌/◌, ◌≤◌, length, replicate, drop}
use Rattle.std.proofs.Math.Path.{refl}
use Rattle.std.proofs.Common.{ap, ◌∙◌, arith, length-append, drop_at}
use Rattle.std.proofs.Math.Option.{Option, none, some}
use Rattle.std.proofs.lemmas.List.{length-replicate}
use Rattle.rules_types.specs.declared.answers.Verdict.{Verdict}
use Rattle.rules_types.specs.declared.limits.Limits.{Limits}
use Rattle.rules_types.specs.declared.terms.Terms.{Terms}
use Rattle.rules_types.specs.Limits as limit
use Rattle.rules_types.specs.Answers.{answer_value}
use Rattle.rules.specs.Problem.{Problem, in_edition}
use Rattle.rules.specs.Steps.{Step, encode_proof}
use Rattle.rules.specs.Elimination.{limited, State, running, ended, empty, overflow, out_of_steps, order_of, loadable_of}
use Rattle.rules.specs.Elimination.{elimination}
use Rattle.rules.specs.Needs.{steps_of, pairs_of}
use Rattle.rules.specs.Calls.{sound, Outcome, read, concluded, said, proof_after, model_after, Solving, solve}
use Rattle.theory_lists.specs.All.{all_map}
use Rattle.theory_lists.specs.Places.{element-all, element}
use Rattle.theory_resolution.specs.Formed.{Formed}
use Rattle.theory_bytes.specs.Amounts.{zero-unsigned}
use Rattle.theory_bytes.specs.Steps.{proof-length}
use Rattle.theory_layout.specs.Steps.{Writable}
use Rattle.theory_layout.specs.Proofs.{proof-at}
use Rattle.theory_splitting.specs.WellFormed.{WellFormed}
use Rattle.theory_splitting.specs.Lent.{lent-sound}
use Rattle.theory_elimination.specs.Sound.{Sound, loadable-sound}
use Rattle.theory_elimination.specs.PairBound.{pairs-bound}
use Rattle.theory_elimination.specs.Narrow.{NarrowLine, elimination-narrow}
use Rattle.theory_elimination.specs.Chosen.{elimination-ordered}
use Rattle.theory_elimination.specs.OfProblem.{elimination-held}
use Rattle.theory_checks.specs.Writable.{elimination-writable}
use Rattle.theory_resolution.specs.Holds.{Consistent}
use Rattle.promises.specs.Words.{Comes, FullSize, HoldsLines}
use Rattle.promises.specs.Outcomes.{finished, walk_model, concluded-running, answer_of}

-- what an outcome makes of the lent buffers
abbrev pub left : Limits → Outcome → List ℕ → List ℕ → Solving
left limits o proof model = record { solved = said o; proof = proof_after limits o proof; model = model_after o model }

pub solve-is : (terms : Terms) (input : List ℕ) (p : Problem) → read input ≡ sound p → (proof model : List ℕ)
    → FullSize terms.limits proof model → let posed = in_edition terms.edition p in
    solve terms input proof model ≡ left terms.limits (concluded posed (elimination (limited terms.limits) posed)) proof model
unfolding solve
solve-is terms input p e proof model full =
    ap (λ (o : Outcome). left terms.limits o proof model) (lent-sound terms input proof model full.proof_size full.model_size p e)

-- ---- lines and pairs
finished-lines : (steps : List Step) (n : ℕ) (o : Option (List ℕ)) → answer_value (answer_of (finished steps n o)) ≡ length steps
unfolding said answer_value
finished-lines steps n none = refl
finished-lines steps n (some bytes) = refl

finished-pairs : (steps : List Step) (n : ℕ) (o : Option (List ℕ)) → (said (finished steps n o)).pairs ≡ n
unfolding said
finished-pairs steps n none = refl
finished-pairs steps n (some bytes) = refl

module _ (p : Problem) where
  pub reported-lines : (s : State) → answer_value (answer_of (concluded p s)) ≡ length (steps_of s)
  unfolding concluded said answer_value steps_of
  reported-lines (running steps n) = rw (concluded-running p steps n) (finished-lines steps n (walk_model p steps))
  reported-lines (ended empty steps n) = refl
  reported-lines (ended overflow steps n) = refl
  reported-lines (ended out_of_steps steps n) = refl

  pub reported-pairs : (s : State) → (said (concluded p s)).pairs ≡ pairs_of s
  unfolding concluded said pairs_of
  reported-pairs (running steps n) = rw (concluded-running p steps n) (finished-pairs steps n (walk_model p steps))
  reported-pairs (ended empty steps n) = refl
  reported-pairs (ended overflow steps n) = refl
  reported-pairs (ended out_of_steps steps n) = refl

pub at-most : (limits : Limits) (p : Problem) → WellFormed p
    → (said (concluded p (elimination (limited limits) p))).pairs ≤ limits.steps * limits.steps / 4
at-most limits p w =
    rw (reported-pairs p (elimination (limited limits) p), elimination-ordered (limited limits) p)
    (pairs-bound limits (order_of p) (loadable_of p)
    (all_map (λ s. Sound s.line) (λ s. Consistent s.line) (loadable_of p) (λ s h. h.consistent) (loadable-sound p w)))

-- ---- the proof after a verdict
abbrev proof_of : Limits → List Step → List ℕ → List ℕ
proof_of limits steps proof =
    encode_proof steps ++ replicate (limit.proof_bytes limits - limit.step_bytes * length steps) 0 ++ drop (limit.proof_bytes limits) proof

finished-proof : (limits : Limits) (proof : List ℕ) (steps : List Step) (n : ℕ) (o : Option (List ℕ))
    → proof_after limits (finished steps n o) proof ≡ proof_of limits steps proof
unfolding proof_after
finished-proof limits proof steps n none = refl
finished-proof limits proof steps n (some bytes) = refl

pub proof-holds : (limits : Limits) (p : Problem) (proof : List ℕ) (s : State) (v : Verdict) → Comes v (answer_of (concluded p s))
    → proof_after limits (concluded p s) proof ≡ proof_of limits (steps_of s) proof
unfolding concluded said proof_after steps_of
proof-holds limits p proof (running steps n) v h =
    rw (concluded-running p steps n) (finished-proof limits proof steps n (walk_model p steps))
proof-holds limits p proof (ended empty steps n) v h = refl
proof-holds limits p proof (ended overflow steps n) v h = absurd h
proof-holds limits p proof (ended out_of_steps steps n) v h = absurd h

-- by the offsets of its fields
pub lines-held : (limits : Limits) → limits.steps ≤ limit.most_steps → (p : Problem) → WellFormed p → (proof : List ℕ) (v : Verdict)
    → Comes v (answer_of (concluded p (elimination (limited limits) p)))
    → HoldsLines limits p (proof_after limits (concluded p (elimination (limited limits) p)) proof) proof
lines-held limits few p w proof v h =
    let state = elimination (limited limits) p in
    let steps = steps_of state in
    let old = drop (limit.proof_bytes limits) proof in
    let zeros : List ℕ = replicate (limit.proof_bytes limits - limit.step_bytes * length steps) 0 in
    let writable = elimination-writable p w limits few in
    let formed = all_map Writable (λ s. Formed s.line) steps (λ s k. k.line.formed) writable in
    let size : length (encode_proof steps ++ zeros) ≡ limit.proof_bytes limits =
    rw (length-append (encode_proof steps) zeros, length-replicate {A = ℕ} (limit.proof_bytes limits - limit.step_bytes * length steps) 0)
    (omega (arith, proof-length steps formed, elimination-held limits p)) in
    let held = proof-at steps limits.steps old writable in
    rw (proof-holds limits p proof state v h) (record {
      lines = held;
      narrow = λ i f l u k. let s = element steps i l in
          zero-unsigned _ ((held.step i s.0 s.1).coefficients f k
          ∙ element-all (λ x. NarrowLine p.rationals x.line) steps i s.0 s.1 (elimination-narrow (limited limits) p w) f u);
      beyond = drop_at (encode_proof steps ++ zeros) old (limit.proof_bytes limits) size;
    })
