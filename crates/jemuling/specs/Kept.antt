-- The calls keep what they promise: from the equations with document 01's definitions.
use Rattle.std.specs.Prelude.{◌≡◌, refl, ◌↔◌, List, ℕ, ◌≤◌}
use Rattle.std.proofs.Common.{sym, subst, ◌∙◌}
use Rattle.std.proofs.Math.Path.{ap}
use Rattle.rules_types.specs.declared.answers.Solved.{Solved}
use Rattle.rules_types.specs.declared.answers.Checked.{Checked}
use Rattle.rules_types.specs.declared.answers.Checked.TheVariants.{Refused}
use Rattle.rules_types.specs.declared.answers.Evidence.{Evidence}
use Rattle.rules_types.specs.declared.limits.Limits.{Limits}
use Rattle.rules_types.specs.declared.answers.Refusal.TheVariants.{Edition as EditionRefused}
use Rattle.rules_types.specs.declared.terms.Edition.{Edition}
use Rattle.rules_types.specs.declared.terms.Edition.TheVariants.{First, Second}
use Rattle.rules_types.specs.declared.terms.Named.TheVariants.{Known, Unknown}
use Rattle.rules_types.specs.declared.terms.Terms.{Terms}
use Rattle.rules_types.specs.Limits as limit
use Rattle.rules_types.specs.Answers.{refusal_number, answer_number, answer_value, checked_number, checked_value}
use Rattle.rules_types.specs.Terms.{on, edition_named}
use Rattle.rules.specs.Problem.{Problem}
use Rattle.rules.specs.Calls.{sound, read, Solving, solve, proof_checked, model_checked, solve_in, proof_checked_in, model_checked_in}
use Rattle.rules.specs.Calls.{evidence}
use Rattle.theory_bytes.specs.Bytes.{AllBytes}
use Rattle.promises.specs.Numbers.{verdict-exactly, refusal-exactly, accepted-exactly, fails-exactly, refused-exactly, of-proof-exactly}
use Rattle.promises.specs.Numbers.{of-model-exactly}
use Rattle.promises.specs.Handing.{hands}
use Rattle.promises.specs.Editions.{Editions, editions, Other, solve-not, proof-not, model-not, proof-kept, model-kept}
use Rattle.promises.specs.Editions.{named-first, named-second, named_other, nineteen-exactly, solve-known, solve-unknown}
use Rattle.promises.specs.Editions.{proof-known, proof-unknown, model-known, model-unknown}
use Rattle.theory_splitting.specs.WellRead.{posed-well-formed}
use Rattle.promises.specs.Checks.{checks-proof, checks-model}
use Rattle.promises.specs.Demand1.{demand1}
use Rattle.promises.specs.Demand2.{demand2}
use Rattle.promises.specs.Demand3.{demand3}
use Rattle.jemuling.specs.declared.told.Told.{Told}
use Rattle.jemuling.specs.declared.told.SolvedTold.{SolvedTold}
use Rattle.jemuling.specs.Told.{solved_told, checked_told, evidence_told}
use Rattle.jemuling.specs.Promised.{TellsSolved, TellsChecked, TellsPart, Delivered, BookChecked, SheetChecked, PartHanded}
use Rattle.jemuling.specs.Promised.{DeliveredIn, BookCheckedIn, SheetCheckedIn}

-- ---- numbers
solved-tells : (s : Solved) → TellsSolved (solved_told s) s
unfolding solved_told
solved-tells s = record {
  verdict = λ v. verdict-exactly v s.answer;
  refusal = λ f. refusal-exactly f s.answer;
  value = refl;
  pairs = refl;
}

checked-tells : (c : Checked) → TellsChecked (checked_told c) c
unfolding checked_told
checked-tells c = record { accepted = accepted-exactly c; fails = fails-exactly c; refused = refused-exactly c }

part-tells : (e : Evidence) → TellsPart (evidence_told e) e
unfolding evidence_told
part-tells e = record { of_proof = of-proof-exactly e; of_model = of-model-exactly e }

-- ---- the calls
pub delivered : (terms : Terms) → terms.limits.steps ≤ limit.most_steps → (input lent_proof lent_model : List ℕ) (told : SolvedTold)
    (proof model : List ℕ) → AllBytes input → AllBytes proof → AllBytes model
    → told ≡ solved_told (solve terms input lent_proof lent_model).solved
    → proof ≡ (solve terms input lent_proof lent_model).proof
    → model ≡ (solve terms input lent_proof lent_model).model → Delivered terms input lent_proof lent_model told proof model
delivered terms few input lent_proof lent_model told proof model are lines sheet t b s =
    let ours = solve terms input lent_proof lent_model in
    record {
      bytes = are;
      bytes_left = (lines, sheet);
      ours = ours;
      tells = subst (λ (x : SolvedTold). TellsSolved x ours.solved) (sym t) (solved-tells ours.solved);
      leaves_proof = b;
      leaves_model = s;
      first = demand1 terms input lent_proof lent_model;
      second = demand2 terms.edition input;
      third = λ p e full. demand3 terms few input p e lent_proof lent_model full;
    }

pub book-checked : (terms : Terms) → terms.limits.steps ≤ limit.most_steps → (input proof : List ℕ) (told : Told)
    → AllBytes input → AllBytes proof
    → told ≡ checked_told (proof_checked terms input proof) → BookChecked terms input proof told
book-checked terms few input proof told are lines t =
    let says = proof_checked terms input proof in
    record {
      bytes = are;
      says = says;
      tells = subst (λ (x : Told). TellsChecked x says) (sym t) (checked-tells says);
      checks = checks-proof terms few input proof lines;
    }

pub sheet-checked : (terms : Terms) (input model : List ℕ) (told : Told) → AllBytes input
    → told ≡ checked_told (model_checked terms input model) → SheetChecked terms input model told
sheet-checked terms input model told are t =
    let says = model_checked terms input model in
    record {
      bytes = are;
      says = says;
      tells = subst (λ (x : Told). TellsChecked x says) (sym t) (checked-tells says);
      checks = checks-model terms input model;
    }

pub part-handed : (limits : Limits) (number lines : ℕ) (proof model : List ℕ) (told : Told)
    → told ≡ evidence_told (evidence limits number lines proof model) → PartHanded limits number lines proof model told
part-handed limits number lines proof model told t =
    let part = evidence limits number lines proof model in
    record {
      part = part;
      tells = subst (λ (x : Told). TellsPart x part) (sym t) (part-tells part);
      hands = hands limits number lines proof model;
    }

-- ---- the calls that name an edition
-- what the second edition asks
pub editions-of : (input : List ℕ) (p : Problem) → read input ≡ sound p → Editions p
editions-of input p e = editions p (posed-well-formed First input p e).rationals

pub delivered-in : (limits : Limits) → limits.steps ≤ limit.most_steps → (edition : ℕ) (input lent_proof lent_model : List ℕ)
    (told : SolvedTold) (proof model : List ℕ) → AllBytes input → AllBytes proof → AllBytes model
    → told ≡ solved_told (solve_in limits edition input lent_proof lent_model).solved
    → proof ≡ (solve_in limits edition input lent_proof lent_model).proof
    → model ≡ (solve_in limits edition input lent_proof lent_model).model
    → DeliveredIn limits edition input lent_proof lent_model told proof model
unfolding solved_told answer_number answer_value refusal_number
delivered-in limits few edition input lent_proof lent_model told proof model are lines sheet t b s =
    record {
      first = λ e. by First (named-first edition e);
      second = λ e. by Second (named-second edition e);
      editions = editions-of input;
      refused = nineteen-exactly edition told.number not-refused (λ h. ap (λ (x : SolvedTold). x.number) (left h).0);
      other = left;
    }
  where
    by : (e : Edition) → edition_named edition ≡ Known e → Delivered (on limits e) input lent_proof lent_model told proof model
    by e h = let is = solve-known limits edition input lent_proof lent_model e h in
        delivered (on limits e) few input lent_proof lent_model told proof model are lines sheet
        (t ∙ ap (λ (x : Solving). solved_told x.solved) is) (b ∙ ap (λ (x : Solving). x.proof) is)
        (s ∙ ap (λ (x : Solving). x.model) is)

    not-refused : (e : Edition) → edition_named edition ≡ Known e → told.number ≡ 19 → ⊥
    not-refused e h n = let is = solve-known limits edition input lent_proof lent_model e h in
        solve-not (on limits e) input are lent_proof lent_model
        ((refusal-exactly EditionRefused (solve (on limits e) input lent_proof lent_model).solved.answer).0
        (sym (ap (λ (x : SolvedTold). x.number) (t ∙ ap (λ (x : Solving). solved_told x.solved) is)) ∙ n))

    left : Other edition → (told ≡ record { number = 19; value = 0; pairs = 0 }) × (proof ≡ lent_proof) × (model ≡ lent_model)
    left h = let is = solve-unknown limits edition input lent_proof lent_model (named_other edition h) in (
      t ∙ ap (λ (x : Solving). solved_told x.solved) is,
      b ∙ ap (λ (x : Solving). x.proof) is,
      s ∙ ap (λ (x : Solving). x.model) is,
    )

-- what a check says in each edition that a number may name, and of every other number
record InEditions (edition : ℕ) (told : Told) (in-edition : Edition → Checked) : Type 0 where
  says : Checked
  tells : told ≡ checked_told says
  known : (e : Edition) → edition_named edition ≡ Known e → says ≡ in-edition e
  unknown : edition_named edition ≡ Unknown → says ≡ Refused EditionRefused 0
  unrefused : (e : Edition) (place : ℕ) → in-edition e ≡ Refused EditionRefused place → ⊥

module _ {edition : ℕ} {told : Told} {in-edition : Edition → Checked} (k : InEditions edition told in-edition) where
  told_in : (e : Edition) → edition_named edition ≡ Known e → told ≡ checked_told (in-edition e)
  told_in e h = k.tells ∙ ap checked_told (k.known e h)

  tells-in : (e : Edition) → edition_named edition ≡ Known e → TellsChecked told (in-edition e)
  tells-in e h = subst (λ (x : Told). TellsChecked x (in-edition e)) (sym (told_in e h)) (checked-tells (in-edition e))

  -- 19, and for no other reason
  other-told : Other edition → told ≡ record { number = 19; value = 0 }
  unfolding checked_told checked_number checked_value refusal_number
  other-told h = k.tells ∙ ap checked_told (k.unknown (named_other edition h))

  known-told : (e : Edition) → edition_named edition ≡ Known e → told.number ≡ 19 → ⊥
  unfolding refusal_number
  known-told e h n = k.unrefused e told.value (((tells-in e h).refused EditionRefused told.value).0 (n, refl))

  refused-told : (told.number ≡ 19) ↔ Other edition
  refused-told = nineteen-exactly edition told.number known-told (λ h. ap (λ (x : Told). x.number) (other-told h))

pub book-checked-in : (limits : Limits) → limits.steps ≤ limit.most_steps → (edition : ℕ) (input proof : List ℕ) (told : Told)
    → AllBytes input → AllBytes proof → told ≡ checked_told (proof_checked_in limits edition input proof)
    → BookCheckedIn limits edition input proof told
book-checked-in limits few edition input proof told are lines t =
    let k : InEditions edition told (λ e. proof_checked (on limits e) input proof) = record {
      says = proof_checked_in limits edition input proof;
      tells = t;
      known = proof-known limits edition input proof;
      unknown = proof-unknown limits edition input proof;
      unrefused = λ e. proof-not (on limits e) input are proof;
    } in
    record {
      first = λ e. book-checked (on limits First) few input proof told are lines (told_in k First (named-first edition e));
      second = λ e. book-checked (on limits Second) few input proof told are lines (told_in k Second (named-second edition e));
      editions = editions-of input;
      kept = λ e n. proof-known limits 2 input proof Second (named-second 2 refl)
          ∙ proof-kept limits input proof few lines ((tells-in k First (named-first edition e)).accepted.0 n);
      refused = refused-told k;
      other = other-told k;
    }

pub sheet-checked-in : (limits : Limits) (edition : ℕ) (input model : List ℕ) (told : Told) → AllBytes input
    → told ≡ checked_told (model_checked_in limits edition input model) → SheetCheckedIn limits edition input model told
sheet-checked-in limits edition input model told are t =
    let k : InEditions edition told (λ e. model_checked (on limits e) input model) = record {
      says = model_checked_in limits edition input model;
      tells = t;
      known = model-known limits edition input model;
      unknown = model-unknown limits edition input model;
      unrefused = λ e. model-not (on limits e) input are model;
    } in
    record {
      first = λ e. sheet-checked (on limits First) input model told are (told_in k First (named-first edition e));
      second = λ e. sheet-checked (on limits Second) input model told are (told_in k Second (named-second edition e));
      editions = editions-of input;
      kept = λ e n. model-known limits 1 input model First (named-first 1 refl)
          ∙ model-kept limits input model ((tells-in k Second (named-second edition e)).accepted.0 n);
      refused = refused-told k;
      other = other-told k;
    }
