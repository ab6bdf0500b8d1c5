-- The check accepts a proof exactly if its lines follow and the last is empty, and a model exactly if every clause holds.
use Rattle.std.proofs.Math.Path.{◌≡◌, refl}
use Rattle.std.proofs.Common.{sym, ◌∙◌, arith, leb→le}
use Rattle.std.specs.Prelude.{Bool, true, false, ◌&&◌, ◌↔◌, List, [], ◌∷◌, ℕ, suc, ◌*◌, ◌/◌, ◌%◌, ◌≤◌, ◌<◌, T, eqb, leb, length}
use Rattle.std.proofs.Math.Logic.{⊎_elim}
use borrow.Author.Tests.{lt-ltb, le-ltb}
use Rattle.std.proofs.Math.Facts.{and_yes}
use Rattle.rules_types.specs.declared.answers.Refusal.{Refusal}
use Rattle.rules_types.specs.declared.answers.Refusal.TheVariants.{ShortModel, ProofLength, BadModel}
use Rattle.rules_types.specs.declared.answers.Checked.{Checked}
use Rattle.rules_types.specs.declared.answers.Checked.TheVariants.{Accepted, Fails, Refused}
use Rattle.rules_types.specs.declared.limits.Limits.{Limits}
use Rattle.rules_types.specs.declared.terms.Terms.{Terms}
use Rattle.rules_types.specs.Limits as limit
use Rattle.rules.specs.Lists.{all}
use Rattle.rules.specs.Problem.{Clause, Problem, in_edition, Read, fault, got}
use Rattle.rules.specs.Meaning.{Assignment, clause_holds, Satisfies}
use Rattle.rules.specs.Elimination.{loadable_of}
use Rattle.rules.specs.Model.{is_open, model}
use Rattle.rules.specs.Checker.{followed_lines, check_proof, check_clauses}
use Rattle.rules.specs.Calls.{faulty, sound, read, whole_steps, proof_checked, model_checked}
use Rattle.theory_lists.specs.Tests.{split, is_true, is_false, clash}
use Rattle.theory_checks.specs.ProofChecked.{refused-not, same-problem}
use Rattle.theory_checks.specs.ModelChecked.{accepted-clauses, CheckedModel, model-checked-satisfies, model-checks}
use Rattle.theory_checks.specs.ModelChecked.{satisfying-model-checked}
use Rattle.theory_splitting.specs.WellFormed.{WellFormed}
use Rattle.theory_splitting.specs.WellRead.{posed-well-formed}
use Rattle.theory_bytes.specs.Bytes.{AllBytes}
use Rattle.theory_layout.specs.Offsets.{StatesModel, FirstBadField}
use Rattle.theory_layout.specs.Models.{refused-exactly}
use Rattle.theory_checks.specs.EndsEmpty.{end-accepted}
use Rattle.theory_checks.specs.LinesFollow.{follow-exactly}
use Rattle.theory_checks.specs.Writable.{parts-writable}
use Rattle.promises.specs.Words.{Refutes, WritesAssignment, OpenVariables}
use Rattle.promises.specs.Opens.{open-variables}

accepted-exactly : (p : Problem) → WellFormed p → (bytes : List ℕ) → AllBytes bytes → length bytes / limit.step_bytes ≤ limit.most_steps
    → check_proof p bytes ≡ Accepted
    ↔ Refutes (loadable_of p) (length bytes / limit.step_bytes) bytes
unfolding check_proof followed_lines
accepted-exactly p w bytes b n =
    let x = end-accepted (followed_lines p bytes) in
    let y = follow-exactly (loadable_of p) (parts-writable p w) (length bytes / limit.step_bytes) bytes b n in (
      λ a. let h = x.0 a in
          let f = (y h.0).0 h.1 in
          record { lines = h.0; follow = record { count = f.0; follow = f.1 }; last = h.2 },
      λ r. x.1 (r.lines, (y r.lines).1 (r.follow.count, r.follow.follow), r.last),
    )

-- no more lines than the limit
pub whole-few : (limits : Limits) → limits.steps ≤ limit.most_steps → (n : ℕ) → T (whole_steps limits n)
    → n / limit.step_bytes ≤ limit.most_steps
unfolding whole_steps
whole-few limits few n t =
    let a = and_yes (leb limit.step_bytes n && leb n (limit.proof_bytes limits)) (eqb (n % limit.step_bytes) 0) t in
    let b : n ≤ limits.steps * limit.step_bytes =
    leb→le n (limit.proof_bytes limits) (and_yes (leb limit.step_bytes n) (leb n (limit.proof_bytes limits)) a.0).1 in
    omega arith

-- the clauses refuse nothing
pub never-refused : (χ : Assignment) (k : ℕ) (cs : List Clause) (f : Refusal) (place : ℕ) → check_clauses χ k cs ≡ Refused f place → ⊥
unfolding check_clauses
never-refused χ k [] f place e = let z : ◌≡◌ {A = ℕ} 0 1 = cc in omega arith
never-refused χ k (c ∷ cs) f place e = by (clause_holds χ c) (never-refused χ (suc k) cs f place) e
  where
    by : (t : Bool) → (check_clauses χ (suc k) cs ≡ Refused f place → ⊥)
        → ◌≡◌ {A = Checked} (elim t [ true ↦ check_clauses χ (suc k) cs | false ↦ Fails k ]) (Refused f place) → ⊥
    by true r e = r e
    by false r e = let z : ◌≡◌ {A = ℕ} 0 1 = cc in omega arith

-- ---- the calls, for a problem read without fault, in its edition
module _ (terms : Terms) (input : List ℕ) (q : Problem) (e : read input ≡ sound q) where
  abbrev limits : Limits
  limits = terms.limits

  abbrev p : Problem
  p = in_edition terms.edition q

  pub proof-exactly : limits.steps ≤ limit.most_steps → (bytes : List ℕ) → AllBytes bytes
      → proof_checked terms input bytes ≡ Accepted
      ↔ (T (whole_steps limits (length bytes)) × Refutes (loadable_of p) (length bytes / limit.step_bytes) bytes)
  unfolding proof_checked
  proof-exactly few bytes b =
      let whole = whole_steps limits (length bytes) in
      ⊎_elim
      (λ t. let x = accepted-exactly p (posed-well-formed terms.edition input q e) bytes b (whole-few limits few (length bytes) t) in
      (λ a. (t, x.0 (rw (e, proof_checked, is_true whole t) at a)), λ h. rw (e, proof_checked, is_true whole t) (x.1 h.1)))
      (λ t. (
        λ a. absurd (refused-not ProofLength (length bytes) (rw (e, proof_checked, is_false whole t) at a)),
        λ h. clash whole h.0 t,
      )) (split whole)

  read-assignment : (bytes : List ℕ) (c : CheckedModel terms input bytes) → c.problem ≡ q → WritesAssignment p bytes
  read-assignment bytes c same =
      record {
        size = c.size;
        assignment = c.assignment;
        stated = rw same at c.states;
        satisfies = rw same at c.satisfies;
      }

  pub model-exactly : (bytes : List ℕ) → model_checked terms input bytes ≡ Accepted ↔ WritesAssignment p bytes
  model-exactly bytes = (
    λ a. let c = model-checked-satisfies terms input bytes a in
        read-assignment bytes c (same-problem (read input) c.problem q c.reads e),
    λ h. satisfying-model-checked terms input bytes q e h.size h.assignment h.stated h.satisfies,
  )

  -- 02, (iv): an accepted model has 2 exactly at open variables, and satisfies with either value
  pub accepted-opens : (bytes : List ℕ) → model_checked terms input bytes ≡ Accepted → (χ : Assignment)
      → StatesModel bytes p.booleans p.rationals (is_open p) χ → OpenVariables p bytes χ
  accepted-opens bytes a χ s =
      let c = model-checked-satisfies terms input bytes a in
      let h = satisfied ((accepted-clauses χ 0 p.clauses).0 (sym (model-checks terms input bytes q e c.size χ s) ∙ a)) in
      open-variables p (posed-well-formed terms.edition input q e) χ bytes s h
    where
      satisfied : T (all (clause_holds χ) p.clauses) → Satisfies χ p
      satisfied h = record { denominator = s.least; clauses = h }

  -- what a check refuses itself: a proof by its length; a model too short, else by the first field that is refused
  pub proof-length-refused : (bytes : List ℕ) → whole_steps limits (length bytes) ≡ false
      → proof_checked terms input bytes ≡ Refused ProofLength (length bytes)
  unfolding proof_checked
  proof-length-refused bytes h = rw (e, proof_checked, h)

  pub model-short-refused : (bytes : List ℕ) → length bytes < limit.model_bytes → model_checked terms input bytes ≡ Refused ShortModel 0
  unfolding model_checked
  model-short-refused bytes h = rw (e, model_checked, lt-ltb (length bytes) limit.model_bytes h)

  -- 17, and which field: the first that is not as it must be
  pub model-field-refused : (bytes : List ℕ) → limit.model_bytes ≤ length bytes → (place : ℕ)
      → model_checked terms input bytes ≡ Refused BadModel place ↔ FirstBadField bytes p.booleans p.rationals (is_open p) place
  unfolding model_checked
  model-field-refused bytes h place =
      let w = posed-well-formed terms.edition input q e in
      let x = refused-exactly bytes p.booleans p.rationals (is_open p) h w.booleans w.rationals place in (
        λ a. x.0 (by (model p.booleans p.rationals (is_open p) bytes 0) refl
            (rw (e, model_checked, le-ltb (length bytes) limit.model_bytes h) at a)),
        λ k. rw (e, model_checked, le-ltb (length bytes) limit.model_bytes h, x.1 k),
      )
    where
      by : (m : Read Assignment) → model p.booleans p.rationals (is_open p) bytes 0 ≡ m
          → ◌≡◌ {A = Checked} (elim m [ fault f at ↦ Refused f at | got χ rest at ↦ check_clauses χ 0 p.clauses ])
          (Refused BadModel place)
          → model p.booleans p.rationals (is_open p) bytes 0 ≡ fault BadModel place
      by (fault f at) m a = let i : f ≡ BadModel = cc in let j : at ≡ place = cc in m ∙ (λ k. fault (i k) (j k))
      by (got χ rest at) m a = absurd (never-refused χ 0 p.clauses BadModel place a)

-- ---- and for one with a fault
module _ (input : List ℕ) (f : Refusal) (place : ℕ) (e : read input ≡ faulty f place) where
  pub proof-refused : (terms : Terms) (bytes : List ℕ) → proof_checked terms input bytes ≡ Refused f place
  unfolding proof_checked
  proof-refused terms bytes = rw (e, proof_checked)

  pub model-refused : (terms : Terms) (bytes : List ℕ) → model_checked terms input bytes ≡ Refused f place
  unfolding model_checked
  model-refused terms bytes = rw (e, model_checked)
