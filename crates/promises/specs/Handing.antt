-- Handing back, for every number, count of lines and pair of buffers that a caller may pass.
use Rattle.std.proofs.Math.Path.{◌≡◌, refl}
use Rattle.std.proofs.Common.{sym, ⊎_elim, eqb→eq, ltb→lt, nltb→le, lt-ltb, le-ltb}
use Rattle.std.specs.Prelude.{Bool, not, ◌||◌, List, ℕ, ◌*◌, ◌≤◌, ◌<◌, T, ltb, length}
use Rattle.std.proofs.Math.Bool.{true, false}
use Rattle.std.proofs.Math.Dec.{eqb}
use Rattle.std.proofs.Math.Facts.{yes_eqb, eqb_yes}
use Rattle.rules_types.specs.declared.answers.Verdict.TheVariants.{Satisfiable, Unsatisfiable}
use Rattle.rules_types.specs.declared.answers.Evidence.{Evidence}
use Rattle.rules_types.specs.declared.answers.Evidence.TheVariants.{OfProof, OfModel}
use Rattle.rules_types.specs.declared.limits.Limits.{Limits}
use Rattle.rules_types.specs.Limits as limit
use Rattle.rules_types.specs.Answers.{verdict_number}
use Rattle.rules.specs.Calls.{evidence}
use Rattle.theory_lists.specs.Tests.{split, is_true, is_false, of-true, clash}
use Rattle.promises.specs.Words.{FullSize}

pub record Hands (limits : Limits) (number steps : ℕ) (proof model : List ℕ) (part : Evidence) : Type 0 where
  -- "Handing back gives the caller the sheet's 64 bytes after "agrees" and the used lines of the book after "cannot agree";"
  pub of_model : FullSize limits proof model → steps ≤ limits.steps → number ≡ verdict_number Satisfiable → part ≡ OfModel limit.model_bytes
  pub of_proof : FullSize limits proof model → steps ≤ limits.steps → number ≡ verdict_number Unsatisfiable
      → part ≡ OfProof (limit.step_bytes * steps)
  -- "otherwise, or with a buffer that 1 or 2 refuses, or over 1,024 lines, an empty part of the book"
  pub otherwise : (number ≡ verdict_number Satisfiable → ⊥) → (number ≡ verdict_number Unsatisfiable → ⊥) → part ≡ OfProof 0
  pub short_proof : length proof < limit.proof_bytes limits → part ≡ OfProof 0
  pub short_model : length model < limit.model_bytes → part ≡ OfProof 0
  pub many : limits.steps < steps → part ≡ OfProof 0

-- ---- so it is
module _ (limits : Limits) (number steps : ℕ) (proof model : List ℕ) where
  abbrev part : Evidence
  part = evidence limits number steps proof model

  abbrev short_of : Bool
  short_of = ltb (length proof) (limit.proof_bytes limits)

  abbrev slim_of : Bool
  slim_of = ltb (length model) limit.model_bytes

  abbrev many_of : Bool
  many_of = ltb limits.steps steps

  refused-part : (short_of || slim_of || many_of) ≡ true → part ≡ OfProof 0
  unfolding evidence
  refused-part e = rw (e, evidence)

  all-false : FullSize limits proof model → steps ≤ limits.steps → (short_of || slim_of || many_of) ≡ false
  all-false f l =
      rw (
        le-ltb (length proof) (limit.proof_bytes limits) f.proof_size,
        le-ltb (length model) limit.model_bytes f.model_size,
        le-ltb limits.steps steps l,
      )

  model-part : FullSize limits proof model → steps ≤ limits.steps → number ≡ verdict_number Satisfiable → part ≡ OfModel limit.model_bytes
  unfolding evidence verdict_number
  model-part f l e = rw (all-false f l, evidence, is_true (eqb number 64) (yes_eqb e))

  proof-part : FullSize limits proof model → steps ≤ limits.steps → number ≡ verdict_number Unsatisfiable
      → part ≡ OfProof (limit.step_bytes * steps)
  unfolding evidence verdict_number
  proof-part f l e = rw (all-false f l, evidence, is_false (eqb number 64) (rw e tt), is_true (eqb number 65) (yes_eqb e))

  other-part : (number ≡ verdict_number Satisfiable → ⊥) → (number ≡ verdict_number Unsatisfiable → ⊥) → part ≡ OfProof 0
  unfolding evidence verdict_number
  other-part a b = by (short_of || slim_of || many_of) (eqb number 64) refl (eqb number 65) refl
    where
      by : (s one : Bool) → eqb number 64 ≡ one → (two : Bool) → eqb number 65 ≡ two
          → ◌≡◌ {A = Evidence} (elim s [
            | true ↦ OfProof 0
            | false ↦ elim one [
              | true ↦ OfModel limit.model_bytes
              | false ↦ elim two [ true ↦ OfProof (limit.step_bytes * steps) | false ↦ OfProof 0 ]
            ]
          ]) (OfProof 0)
      by true one i two j = refl
      by false true i two j = absurd (a (eqb_yes (of-true (eqb number 64) i)))
      by false false i true j = absurd (b (eqb_yes (of-true (eqb number 65) j)))
      by false false i false j = refl

  pub hands : Hands limits number steps proof model (evidence limits number steps proof model)
  hands =
      record {
        of_model = model-part;
        of_proof = proof-part;
        otherwise = other-part;
        short_proof = λ h. refused-part (rw (lt-ltb (length proof) (limit.proof_bytes limits) h));
        short_model = λ h. refused-part (by short_of slim_of many_of (lt-ltb (length model) limit.model_bytes h));
        many = λ h. refused-part (at_last short_of slim_of many_of (lt-ltb limits.steps steps h));
      }
    where
      by : (a b c : Bool) → b ≡ true → (a || b || c) ≡ true
      by true b c e = refl
      by false b c e = rw e

      at_last : (a b c : Bool) → c ≡ true → (a || b || c) ≡ true
      at_last true b c e = refl
      at_last false true c e = refl
      at_last false false c e = e

-- ---- by cases, from the record alone
module _ {limits : Limits} {number steps : ℕ} {proof model : List ℕ} {part : Evidence} (h : Hands limits number steps proof model part)
    (P : Evidence → Type 0) where
  pub by_part : P (OfProof 0) → (number ≡ verdict_number Satisfiable → P (OfModel limit.model_bytes))
      → (number ≡ verdict_number Unsatisfiable → P (OfProof (limit.step_bytes * steps))) → P part
  by_part z m b =
      ⊎_elim (λ t. rw (h.short_proof (ltb→lt (length proof) (limit.proof_bytes limits) t)) z)
      (λ t. ⊎_elim (λ u. rw (h.short_model (ltb→lt (length model) limit.model_bytes u)) z)
      (λ u. ⊎_elim (λ w. rw (h.many (ltb→lt limits.steps steps w)) z)
      (λ w. full (record {
        proof_size = nltb→le (length proof) (limit.proof_bytes limits) t;
        model_size = nltb→le (length model) limit.model_bytes u;
      }) (nltb→le limits.steps steps w))
      (split (ltb limits.steps steps)))
      (split (ltb (length model) limit.model_bytes))) (split (ltb (length proof) (limit.proof_bytes limits)))
    where
      number_is : (n : ℕ) → T (eqb number n) → number ≡ n
      number_is n t = eqb→eq number n t

      full : FullSize limits proof model → steps ≤ limits.steps → P part
      full f l =
          ⊎_elim (λ t. let e = number_is (verdict_number Satisfiable) t in rw (h.of_model f l e) (m e))
          (λ t. ⊎_elim (λ u. let e = number_is (verdict_number Unsatisfiable) u in rw (h.of_proof f l e) (b e))
          (λ u. rw (h.otherwise (λ e. clash (eqb number (verdict_number Satisfiable)) (yes_eqb e) t)
          (λ e. clash (eqb number (verdict_number Unsatisfiable)) (yes_eqb e) u)) z)
          (split (eqb number (verdict_number Unsatisfiable)))) (split (eqb number (verdict_number Satisfiable)))
