-- What solving leaves in the lent buffers, for bytes of every kind and buffers of every length.
use Rattle.std.specs.Prelude.{◌≡◌, ℕ, ◌≤◌, ltb, length, replicate, drop}
use Rattle.std.proofs.Math.Path.{refl}
use Rattle.std.proofs.Common.{sym, ⊎_elim, arith, ltb→lt, nltb→le, length-append, length-drop}
use mathlib.Core.List.{List, [], ◌++◌, map}
use Rattle.std.proofs.Math.Option.{Option, none, some}
use Rattle.std.proofs.Math.ListN.{length-replicate}
use Rattle.rules_types.specs.declared.answers.Refusal.{Refusal}
use Rattle.rules_types.specs.declared.answers.Refusal.TheVariants as refusal
use Rattle.rules_types.specs.declared.answers.Verdict.{Verdict}
use Rattle.rules_types.specs.declared.answers.Verdict.TheVariants.{Satisfiable, Unsatisfiable, Unwritten}
use Rattle.rules_types.specs.declared.limits.Limits.{Limits}
use Rattle.rules_types.specs.declared.terms.Terms.{Terms}
use Rattle.rules_types.specs.Limits as limit
use Rattle.rules.specs.Problem.{Problem, in_edition}
use Rattle.rules.specs.Steps.{Step}
use Rattle.rules.specs.Elimination.{limited, State, running, ended, empty, overflow, out_of_steps, order_of, elimination}
use Rattle.rules.specs.Needs.{steps_of}
use Rattle.rules.specs.Values.{walk}
use Rattle.rules.specs.Calls.{Reading, faulty, sound, Outcome, faulted, stopped, decided, read, no_model, concluded, lent, said}
use Rattle.rules.specs.Calls.{proof_after}
use Rattle.rules.specs.Calls.{model_after, solve}
use Rattle.theory_lists.specs.Tests.{split}
use Rattle.theory_lists.specs.All.{All, all_map}
use Rattle.theory_resolution.specs.Formed.{Formed}
use Rattle.theory_splitting.specs.WellRead.{posed-well-formed}
use Rattle.theory_splitting.specs.Lent.{lent-short-proof, lent-short-model, lent-fault, lent-sound}
use Rattle.theory_elimination.specs.OfProblem.{elimination-normalized, elimination-held}
use Rattle.theory_elimination.specs.Sound.{Sound}
use Rattle.theory_bytes.specs.Steps.{proof-length}
use Rattle.theory_checks.specs.ModelAccepted.{written-accepted}
use Rattle.promises.specs.Decided.{running-satisfies}
use Rattle.promises.specs.Words.{FullSize, Comes, LimitMet}
use Rattle.promises.specs.Outcomes.{finished, walk_model, concluded-running, answer_of, finished-not-stopped}

-- ---- a refused elimination, and a verdict
module _ (limits : Limits) (p : Problem) (proof model : List ℕ) where
  zeroed-by : (s : State) → LimitMet (answer_of (concluded p s)) → (proof_after limits (concluded p s) proof
      ≡ replicate (limit.proof_bytes limits) 0 ++ drop (limit.proof_bytes limits) proof) × (model_after (concluded p s) model ≡ model)
  unfolding concluded said proof_after model_after
  zeroed-by (running steps n) h = absurd (finished-not-stopped steps n (walk_model p steps) (rw (concluded-running p steps n) at h))
  zeroed-by (ended empty steps n) h = absurd (⊎_elim (λ k. k) (λ k. k) h)
  zeroed-by (ended overflow steps n) h = (refl, refl)
  zeroed-by (ended out_of_steps steps n) h = (refl, refl)

  pub stopped-zeroes : LimitMet (answer_of (concluded p (elimination (limited limits) p))) → (proof_after limits
      (concluded p (elimination (limited limits) p)) proof ≡ replicate (limit.proof_bytes limits) 0
      ++ drop (limit.proof_bytes limits) proof)
      × (model_after (concluded p (elimination (limited limits) p)) model ≡ model)
  stopped-zeroes = zeroed-by (elimination (limited limits) p)

  finished-model : (steps : List Step) (n : ℕ) (o : Option (List ℕ)) (v : Verdict) → Comes v (answer_of (finished steps n o))
      → (v ≡ Satisfiable → ⊥) → model_after (finished steps n o) model ≡ no_model ++ drop limit.model_bytes model
  unfolding said model_after
  finished-model steps n none v h k = refl
  finished-model steps n (some bytes) v h k = absurd (k (sym h))

  no-model-by : (s : State) (v : Verdict) → Comes v (answer_of (concluded p s)) → (v ≡ Satisfiable → ⊥)
      → model_after (concluded p s) model ≡ no_model ++ drop limit.model_bytes model
  unfolding concluded said model_after
  no-model-by (running steps n) v h k =
      rw (concluded-running p steps n) (finished-model steps n (walk_model p steps) v (rw (concluded-running p steps n) at h) k)
  no-model-by (ended empty steps n) v h k = refl
  no-model-by (ended overflow steps n) v h k = absurd h
  no-model-by (ended out_of_steps steps n) v h k = absurd h

  pub no-model : (v : Verdict) → Comes v (answer_of (concluded p (elimination (limited limits) p))) → (v ≡ Satisfiable → ⊥)
      → model_after (concluded p (elimination (limited limits) p)) model ≡ replicate limit.model_bytes 0 ++ drop limit.model_bytes model
  unfolding no_model
  no-model = no-model-by (elimination (limited limits) p)

-- ---- no buffer grows or shrinks
abbrev SameLengths : Limits → List ℕ → List ℕ → Outcome → Type 0
SameLengths limits proof model o = (length (proof_after limits o proof) ≡ length proof) × (length (model_after o model) ≡ length model)

module _ (terms : Terms) (proof model : List ℕ) (full : FullSize terms.limits proof model) where
  abbrev limits : Limits
  limits = terms.limits

  kept-stopped : (f : Refusal) (steps n : ℕ) → SameLengths limits proof model (stopped f steps n)
  unfolding proof_after model_after
  kept-stopped f steps n = (simp (length-append, length-replicate, length-drop) (omega (arith, full.proof_size)), refl)

  kept-decided : (v : Verdict) (steps : List Step) (n : ℕ) (bytes : List ℕ) → All (λ s. Formed s.line) steps
      → length steps ≤ limits.steps → length bytes ≡ limit.model_bytes → SameLengths limits proof model (decided v steps n bytes)
  unfolding proof_after model_after
  kept-decided v steps n bytes f h e = (
    simp (length-append, length-replicate, length-drop) (omega (arith, proof-length steps f, full.proof_size)),
    simp (length-append, length-drop) (omega (arith, full.model_size)),
  )

  module _ (input : List ℕ) (q : Problem) (e : read input ≡ sound q) where
    abbrev p : Problem
    p = in_edition terms.edition q

    kept-finished : (steps : List Step) (n : ℕ) → elimination (limited limits) p ≡ running steps n → All (λ s. Formed s.line) steps
        → length steps ≤ limits.steps → (o : Option (List ℕ)) → walk_model p steps ≡ o → SameLengths limits proof model (finished steps n o)
    unfolding no_model
    kept-finished steps n c f h none m = kept-decided Unwritten steps n no_model f h refl
    kept-finished steps n c f h (some bytes) m =
        kept-decided Satisfiable steps n bytes f h
        (written-accepted terms input q e (walk (order_of p) (map (λ s. s.line) steps)) bytes [] m
        (running-satisfies p (posed-well-formed terms.edition input q e) (limited limits) steps n c)).0

    kept-concluded : (s : State) → elimination (limited limits) p ≡ s → All (λ x. Formed x.line) (steps_of s)
        → length (steps_of s) ≤ limits.steps → SameLengths limits proof model (concluded p s)
    unfolding concluded steps_of no_model
    kept-concluded (running steps n) c f h = rw (concluded-running p steps n) (kept-finished steps n c f h (walk_model p steps) refl)
    kept-concluded (ended empty steps n) c f h = kept-decided Unsatisfiable steps n no_model f h refl
    kept-concluded (ended overflow steps n) c f h = kept-stopped refusal.Overflow (length steps) n
    kept-concluded (ended out_of_steps steps n) c f h = kept-stopped refusal.OutOfSteps (length steps) n

    kept-elimination : SameLengths limits proof model (concluded p (elimination (limited limits) p))
    kept-elimination =
        kept-concluded (elimination (limited limits) p) refl
        (all_map (λ s. Sound s.line) (λ s. Formed s.line) (steps_of (elimination (limited limits) p)) (λ s h. h.formed)
        (elimination-normalized p (limited limits) (posed-well-formed terms.edition input q e)))
        (elimination-held limits p)

kept-faulted : (limits : Limits) (proof model : List ℕ) (f : Refusal) (place : ℕ) → SameLengths limits proof model (faulted f place)
unfolding proof_after model_after
kept-faulted limits proof model f place = (refl, refl)

pub sizes-kept : (terms : Terms) (input proof model : List ℕ) → (length (solve terms input proof model).proof ≡ length proof)
    × (length (solve terms input proof model).model ≡ length model)
unfolding solve
sizes-kept terms input proof model =
    let B = ltb (length proof) (limit.proof_bytes terms.limits) in
    let S = ltb (length model) limit.model_bytes in
    ⊎_elim (λ t. rw (lent-short-proof terms input proof model (ltb→lt (length proof) (limit.proof_bytes terms.limits) t))
    (kept-faulted terms.limits proof model refusal.ShortProof 0))
    (λ t. let z = nltb→le (length proof) (limit.proof_bytes terms.limits) t in
    ⊎_elim (λ u. rw (lent-short-model terms input proof model z (ltb→lt (length model) limit.model_bytes u))
    (kept-faulted terms.limits proof model refusal.ShortModel 0))
    (λ u. by (record { proof_size = z; model_size = nltb→le (length model) limit.model_bytes u }) (read input) refl) (split S)) (split B)
  where
    by : FullSize terms.limits proof model → (r : Reading) → read input ≡ r
        → SameLengths terms.limits proof model (lent terms input proof model)
    by full (faulty f place) e =
        rw (lent-fault terms input proof model full.proof_size full.model_size f place e)
        (kept-faulted terms.limits proof model f place)
    by full (sound p) e = rw (lent-sound terms input proof model full.proof_size full.model_size p e)
        (kept-elimination terms proof model full input p e)
