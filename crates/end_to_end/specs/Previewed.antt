-- What joins solving with fewer lines and with more: `jemuling_preview_solve` and `jemuling_solve` on one problem, or
-- `jemuling_preview_solve_in` and `jemuling_solve_in` in one edition, by the numbers that they returned and the buffers that they left.
use Rattle.std.specs.Prelude.{◌≡◌, refl, ◌↔◌, List, ℕ, ◌<◌, take}
use Rattle.std.proofs.Common.{sym, ap, ◌∙◌, arith}
use Rattle.rules_types.specs.declared.answers.Refusal.{Refusal}
use Rattle.rules_types.specs.declared.answers.Refusal.TheVariants.{OutOfSteps}
use Rattle.rules_types.specs.declared.answers.Verdict.{Verdict}
use Rattle.rules_types.specs.declared.answers.Answer.TheVariants.{Refused}
use Rattle.rules_types.specs.declared.limits.Limits.{Limits}
use Rattle.rules_types.specs.declared.terms.Edition.{Edition}
use Rattle.rules_types.specs.declared.terms.Terms.{Terms}
use Rattle.rules_types.specs.Limits as limit
use Rattle.rules_types.specs.Answers.{refusal_number, verdict_number, answer_number}
use Rattle.rules_types.specs.Terms.{on}
use Rattle.rules.specs.Problem.{Problem}
use Rattle.rules.specs.Calls.{Reading, faulty, sound, read, Solving, solve}
use Rattle.promises.specs.Words.{Comes, FullSize}
use Rattle.promises.specs.Numbers.{verdict-exactly, refusal-exactly}
use Rattle.promises.specs.Demand1.{untouched, demand1}
use Rattle.promises.specs.Preview.{AsLarger, not-both, as-larger}
use Rattle.jemuling.specs.declared.told.SolvedTold.{SolvedTold}
use Rattle.jemuling.specs.Told.{solved_told}

-- the equations in the `ensures` of a call for solving
pub record Solves (terms : Terms) (input lent_proof lent_model : List ℕ) (told : SolvedTold) (proof model : List ℕ) : Type 0 where
  pub tells : told ≡ solved_told (solve terms input lent_proof lent_model).solved
  pub leaves_proof : proof ≡ (solve terms input lent_proof lent_model).proof
  pub leaves_model : model ≡ (solve terms input lent_proof lent_model).model

pub record Previewed (lesser : Limits) (input : List ℕ) (told : SolvedTold) (proof model : List ℕ) (large : SolvedTold)
    (large_proof large_model : List ℕ) : Type 0 where
  -- "a preview verdict or 14 is also the large caller's, with the same lines", and the same pairs; so is a fault of the problem
  pub solved : (told.number ≡ refusal_number OutOfSteps → ⊥) → told ≡ large
  -- after a verdict the lines are the same, zeros behind them, and so is the sheet
  pub book : (v : Verdict) → told.number ≡ verdict_number v
      → take (limit.proof_bytes lesser) proof ≡ take (limit.proof_bytes lesser) large_proof
  pub sheet : (v : Verdict) → told.number ≡ verdict_number v → take limit.model_bytes model ≡ take limit.model_bytes large_model
  -- 15 comes exactly if the large caller's lines are more than the preview has
  pub out_of_steps : (p : Problem) → read input ≡ sound p → (told.number ≡ refusal_number OutOfSteps) ↔ (lesser.steps < large.value)

-- of a problem read without fault
of-sound : (lesser : Limits) (input : List ℕ) (ours theirs : Solving) → AsLarger lesser ours theirs
    → Previewed lesser input (solved_told ours.solved) ours.proof ours.model (solved_told theirs.solved) theirs.proof
    theirs.model
unfolding solved_told
of-sound lesser input ours theirs h =
    let r = refusal-exactly OutOfSteps ours.solved.answer in
    let comes : (v : Verdict) → answer_number ours.solved.answer ≡ verdict_number v → Comes v ours.solved.answer =
    λ v k. (verdict-exactly v ours.solved.answer).0 k in
    record {
      solved = λ k. ap solved_told (h.solved (λ f. k (r.1 f)));
      book = λ v k. h.proof (λ f. not-both ours.solved.answer v OutOfSteps (comes v k) f);
      sheet = λ v k. h.model v (comes v k);
      out_of_steps = λ p e. (λ k. h.out_of_steps.0 (r.0 k), λ k. r.1 (h.out_of_steps.1 k));
    }

-- of one at fault
of-faulty : (lesser : Limits) (input : List ℕ) (f : Refusal) (place : ℕ) → read input ≡ faulty f place
    → (proof model large_proof large_model : List ℕ)
    → let told = solved_told (untouched f place proof model).solved in Previewed lesser input told proof model told large_proof large_model
unfolding solved_told
of-faulty lesser input f place e proof model large_proof large_model =
    let never : (v : Verdict) → answer_number (Refused f place) ≡ verdict_number v → ⊥ = λ v k. (verdict-exactly v (Refused f place)).0 k in
    record {
      solved = λ k. refl;
      book = λ v k. absurd (never v k);
      sheet = λ v k. absurd (never v k);
      out_of_steps = λ p s. absurd (let z : ◌≡◌ {A = ℕ} 0 1 = cc in omega arith);
    }

-- the two calls, on bytes of every kind: "With full-size buffers"
pub previewed : (edition : Edition) (input lent_proof lent_model : List ℕ) (told : SolvedTold) (proof model : List ℕ)
    → FullSize limit.preview lent_proof lent_model → Solves (on limit.preview edition) input lent_proof lent_model told proof model
    → (lent_large lent_sheet : List ℕ) (large : SolvedTold) (large_proof large_model : List ℕ)
    → FullSize limit.standard lent_large lent_sheet
    → Solves (on limit.standard edition) input lent_large lent_sheet large large_proof large_model
    → Previewed limit.preview input told proof model large large_proof large_model
previewed edition input lent_proof lent_model told proof model full ours lent_large lent_sheet large large_proof large_model large_full
    theirs =
    rw (ours.tells, ours.leaves_proof, ours.leaves_model, theirs.tells, theirs.leaves_proof, theirs.leaves_model) (by (read input) refl)
  where
    small : Solving
    small = solve (on limit.preview edition) input lent_proof lent_model

    big : Solving
    big = solve (on limit.standard edition) input lent_large lent_sheet

    by : (r : Reading) → read input ≡ r
        → Previewed limit.preview input (solved_told small.solved) small.proof small.model (solved_told big.solved)
        big.proof big.model
    by (sound p) e =
        of-sound limit.preview input small big
        (as-larger limit.preview limit.standard (omega arith) edition input p e lent_proof lent_model lent_large lent_sheet full large_full)
    by (faulty f place) e =
        rw (
          (demand1 (on limit.preview edition) input lent_proof lent_model).faulty_input full f place e,
          (demand1 (on limit.standard edition) input lent_large lent_sheet).faulty_input large_full f place e,
        )
        (of-faulty limit.preview input f place e lent_proof lent_model lent_large lent_sheet)
