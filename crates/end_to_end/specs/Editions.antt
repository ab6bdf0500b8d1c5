-- What joins the calls of the two editions, by the numbers that they returned and the buffers that they left. The premises are the records
-- and equations of the calls' own `ensures`.
use Rattle.std.specs.Prelude.{◌≡◌, List, ℕ}
use Rattle.std.proofs.Math.Path.{refl, ap}
use Rattle.std.proofs.Common.{sym, ◌∙◌, arith}
use Rattle.rules_types.specs.declared.answers.Refusal.TheVariants as refusal
use Rattle.rules_types.specs.declared.answers.Verdict.{Verdict}
use Rattle.rules_types.specs.declared.answers.Answer.TheVariants.{Refused}
use Rattle.rules_types.specs.declared.limits.Limits.{Limits}
use Rattle.rules_types.specs.declared.terms.Edition.TheVariants.{First}
use Rattle.rules_types.specs.declared.terms.Named.{Named}
use Rattle.rules_types.specs.declared.terms.Named.TheVariants.{Known, Unknown}
use Rattle.rules_types.specs.Limits as limit
use Rattle.rules_types.specs.Terms.{standard, preview, edition_named}
use Rattle.rules_types.specs.Answers.{refusal_number, verdict_number, answer_number, answer_value, checked_number}
use Rattle.rules.specs.Calls.{Solving, solve, solve_in, proof_checked, model_checked, proof_checked_in, model_checked_in}
use Rattle.promises.specs.Words.{FullSize}
use Rattle.promises.specs.Numbers.{verdict-exactly}
use Rattle.promises.specs.Editions.{named-first, solve-known, solve-unknown, proof-known, model-known}
use Rattle.jemuling.specs.declared.told.Told.{Told}
use Rattle.jemuling.specs.declared.told.SolvedTold.{SolvedTold}
use Rattle.jemuling.specs.Told.{solved_told, checked_told}
use Rattle.jemuling.specs.Promised.{BookCheckedIn, SheetCheckedIn}
use Rattle.end_to_end.specs.Previewed.{Solves, Previewed, previewed}

-- ---- both checks
module _ (limits : Limits) (input bytes : List ℕ) (told other : Told) where
  -- a proof for which the check in the first edition returns 67, for it the check in the second does
  pub book-in-both : BookCheckedIn limits 1 input bytes told → other ≡ checked_told (proof_checked_in limits 2 input bytes)
      → told.number ≡ 67 → other.number ≡ 67
  unfolding checked_told checked_number
  book-in-both h t n = ap (λ (x : Told). x.number) (t ∙ ap checked_told (h.kept refl n))

  -- and a model for which the check in the second does
  pub sheet-in-both : SheetCheckedIn limits 2 input bytes told → other ≡ checked_told (model_checked_in limits 1 input bytes)
      → told.number ≡ 67 → other.number ≡ 67
  unfolding checked_told checked_number
  sheet-in-both h t n = ap (λ (x : Told). x.number) (t ∙ ap checked_told (h.kept refl n))

-- ---- "Old batches ... keep edition 1": with 1 the calls are those that name none, with either limit of lines
module _ (input : List ℕ) where
  pub solve-as-before : (proof model : List ℕ) → (solve_in limit.standard 1 input proof model ≡ solve standard input proof model)
      × (solve_in limit.preview 1 input proof model ≡ solve preview input proof model)
  solve-as-before proof model = (
    solve-known limit.standard 1 input proof model First (named-first 1 refl),
    solve-known limit.preview 1 input proof model First (named-first 1 refl),
  )

  pub book-as-before : (proof : List ℕ) → (proof_checked_in limit.standard 1 input proof ≡ proof_checked standard input proof)
      × (proof_checked_in limit.preview 1 input proof ≡ proof_checked preview input proof)
  book-as-before proof = (
    proof-known limit.standard 1 input proof First (named-first 1 refl),
    proof-known limit.preview 1 input proof First (named-first 1 refl),
  )

  pub sheet-as-before : (model : List ℕ) → model_checked_in limit.standard 1 input model ≡ model_checked standard input model
  sheet-as-before model = model-known limit.standard 1 input model First (named-first 1 refl)

-- ---- a preview beside the large caller, by an edition's number
-- the equations in the `ensures` of a call for solving that names an edition
pub record SolvesIn (limits : Limits) (edition : ℕ) (input lent_proof lent_model : List ℕ) (told : SolvedTold) (proof model : List ℕ)
    : Type 0 where
  pub tells : told ≡ solved_told (solve_in limits edition input lent_proof lent_model).solved
  pub leaves_proof : proof ≡ (solve_in limits edition input lent_proof lent_model).proof
  pub leaves_model : model ≡ (solve_in limits edition input lent_proof lent_model).model

pub previewed-in : (edition : ℕ) (input lent_proof lent_model : List ℕ) (told : SolvedTold) (proof model : List ℕ)
    → FullSize limit.preview lent_proof lent_model → SolvesIn limit.preview edition input lent_proof lent_model told proof model
    → (lent_large lent_sheet : List ℕ) (large : SolvedTold) (large_proof large_model : List ℕ)
    → FullSize limit.standard lent_large lent_sheet
    → SolvesIn limit.standard edition input lent_large lent_sheet large large_proof large_model
    → Previewed limit.preview input told proof model large large_proof large_model
unfolding solved_told answer_number answer_value refusal_number
previewed-in edition input lent_proof lent_model told proof model full ours lent_large lent_sheet large large_proof large_model large_full
    theirs =
    by (edition_named edition) refl
  where
    by : (n : Named) → edition_named edition ≡ n → Previewed limit.preview input told proof model large large_proof large_model
    by (Known e) h =
        let small = solve-known limit.preview edition input lent_proof lent_model e h in
        let big = solve-known limit.standard edition input lent_large lent_sheet e h in
        previewed e input lent_proof lent_model told proof model full
        (record {
          tells = ours.tells ∙ ap (λ (x : Solving). solved_told x.solved) small;
          leaves_proof = ours.leaves_proof ∙ ap (λ (x : Solving). x.proof) small;
          leaves_model = ours.leaves_model ∙ ap (λ (x : Solving). x.model) small;
        })
        lent_large lent_sheet large large_proof large_model large_full
        (record {
          tells = theirs.tells ∙ ap (λ (x : Solving). solved_told x.solved) big;
          leaves_proof = theirs.leaves_proof ∙ ap (λ (x : Solving). x.proof) big;
          leaves_model = theirs.leaves_model ∙ ap (λ (x : Solving). x.model) big;
        })
    by Unknown h =
        let small = ours.tells
        ∙ ap (λ (x : Solving). solved_told x.solved) (solve-unknown limit.preview edition input lent_proof lent_model h) in
        let big = theirs.tells
        ∙ ap (λ (x : Solving). solved_told x.solved) (solve-unknown limit.standard edition input lent_large lent_sheet h) in
        let never : (v : Verdict) → told.number ≡ verdict_number v → ⊥ =
        λ v k. (verdict-exactly v (Refused refusal.Edition 0)).0 (sym (ap (λ (x : SolvedTold). x.number) small) ∙ k) in
        record {
          solved = λ k. small ∙ sym big;
          book = λ v k. absurd (never v k);
          sheet = λ v k. absurd (never v k);
          out_of_steps = λ p e. (
            λ k. absurd (omega (arith, sym (ap (λ (x : SolvedTold). x.number) small) ∙ k)),
            λ k. absurd (omega (arith, k, ap (λ (x : SolvedTold). x.value) big)),
          );
        }
