-- The text of what solving says and leaves is what the definitions print.
use Rattle.std.specs.Prelude.{◌≡◌, false, ℕ, ◌*◌, ◌-◌, ◌≤◌, take}
use Rattle.std.proofs.Math.Path.{refl, ap, subst}
use Rattle.std.proofs.Common.{sym, ◌∙◌, arith}
use mathlib.Core.List.{List, [], ◌∷◌, ◌++◌, map, append_assoc}
use Rattle.std.proofs.Math.Option.{Option, none, some}
use borrow.Author.Tests.{le-ltb}
use Rattle.std.proofs.Math.ListN.{length, drop, replicate}
use Rattle.std.proofs.Math.Seq.{take_at}
use Rattle.rules_types.specs.declared.answers.Verdict.{Verdict}
use Rattle.rules_types.specs.declared.answers.Verdict.TheVariants.{Satisfiable, Unsatisfiable, Unwritten}
use Rattle.rules_types.specs.declared.answers.Solved.{Solved}
use Rattle.rules_types.specs.declared.limits.Limits.{Limits}
use Rattle.rules_types.specs.Limits as limit
use Rattle.rules_types.specs.Terms.{standard}
use Rattle.rules_types.specs.Answers.{verdict_number}
use Rattle.rules.specs.Problem.{Problem, in_edition}
use Rattle.rules.specs.Steps.{Step, encode_proof}
use Rattle.rules.specs.Elimination.{State, running, ended, empty, overflow, out_of_steps, order_of, limited, elimination}
use Rattle.rules.specs.Needs.{steps_of}
use Rattle.rules.specs.Values.{walk}
use Rattle.rules.specs.Model.{is_open, written}
use Rattle.rules.specs.Calls.{Reading, faulty, sound, read, Outcome, faulted, stopped, decided, concluded, outcome}
use Rattle.rules.specs.Calls.{lent, said, proof_after, model_after, solve, evidence_bytes}
use Rattle.rules.specs.Print.{ascii, decimal, print_line, print_model, print_proof, print_refusal, printed}
use Rattle.theory_lists.specs.All.{All, all_map}
use Rattle.theory_resolution.specs.Formed.{Formed}
use Rattle.theory_bytes.specs.Steps.{proof-length, take-proof}
use Rattle.theory_layout.specs.Steps.{Writable}
use Rattle.theory_splitting.specs.Lent.{lent-full}
use Rattle.theory_splitting.specs.WellRead.{posed-well-formed}
use Rattle.theory_splitting.specs.WellFormed.{WellFormed}
use Rattle.theory_elimination.specs.OfProblem.{elimination-held}
use Rattle.theory_checks.specs.Writable.{elimination-writable}
use Rattle.handing_back.specs.Evidence.{refused, handed_back, part-model, part-proof}
use Rattle.printing.specs.Texts.{Printable}
use Rattle.answer_text.specs.Encoded.{Numbered, proof-text}
use Rattle.answer_text.specs.Written.{written-printable}
use Rattle.answer_text.specs.Answers.{satisfiable_text, unsatisfiable_text, solved_text, Ready}

-- ---- what is known of an outcome
abbrev PrintableVerdict : Verdict → List Step → List ℕ → Type 0
PrintableVerdict Satisfiable steps bytes = Printable bytes
PrintableVerdict Unsatisfiable steps bytes = All Numbered steps
PrintableVerdict Unwritten steps bytes = Unit {0}

abbrev PrintableOutcome : Outcome → Type 0
PrintableOutcome (faulted f place) = Unit {0}
PrintableOutcome (stopped f steps pairs) = Unit {0}
PrintableOutcome (decided v steps pairs bytes) = (length steps ≤ limit.steps) × PrintableVerdict v steps bytes

module _ (p : Problem) (w : WellFormed p) where
  concluded-printable : (s : State) → length (steps_of s) ≤ limit.steps → All Numbered (steps_of s) → PrintableOutcome (concluded p s)
  unfolding concluded steps_of
  concluded-printable (running steps pairs) n h =
      by (written p.booleans p.rationals (is_open p) (walk (order_of p) (map (λ s. s.line) steps))) refl
    where
      by : (o : Option (List ℕ)) → written p.booleans p.rationals (is_open p) (walk (order_of p) (map (λ s. s.line) steps)) ≡ o
          → PrintableOutcome (concluded p (running steps pairs))
      by none e = rw (e, concluded) (n, tt)
      by (some bytes) e =
          rw (e, concluded) (
            n,
            written-printable p.booleans p.rationals (is_open p) (walk (order_of p) (map (λ s. s.line) steps)) bytes w.booleans
                w.rationals e,
          )
  concluded-printable (ended empty steps pairs) n h = (n, h)
  concluded-printable (ended overflow steps pairs) n h = tt
  concluded-printable (ended out_of_steps steps pairs) n h = tt

numbered : (p : Problem) → WellFormed p → (limits : Limits) → limits.steps ≤ limit.most_steps
    → All Numbered (steps_of (elimination (limited limits) p))
numbered p w limits h =
    all_map Writable Numbered (steps_of (elimination (limited limits) p))
    (λ s k. record { formed = k.line.formed; first = k.first; second = k.second }) (elimination-writable p w limits h)

outcome-printable : (q : List ℕ) → PrintableOutcome (outcome standard q)
unfolding outcome
outcome-printable q = by (read q) refl
  where
    by : (r : Reading) → read q ≡ r → PrintableOutcome (outcome standard q)
    by (faulty f place) e = rw (e, outcome) tt
    by (sound asked) e =
        let p = in_edition standard.edition asked in
        let w = posed-well-formed standard.edition q asked e in
        rw (e, outcome) (concluded-printable p w (elimination (limited limit.standard) p)
        (elimination-held limit.standard p) (numbered p w limit.standard (omega arith)))

-- ---- what is handed back
module _ (n : ℕ) (proof model : List ℕ) (l : length proof ≡ limit.proof_bytes limit.standard) (m : length model ≡ limit.model_bytes)
    (h : n ≤ limit.steps) where
  whole : refused limit.standard n proof model ≡ false
  unfolding refused
  whole = rw (
    le-ltb (length proof) (limit.proof_bytes limit.standard) (omega arith),
    le-ltb (length model) limit.model_bytes (omega arith),
    le-ltb limit.steps n h,
  )

  handed-model : handed_back limit.standard (verdict_number Satisfiable) n proof model ≡ take limit.model_bytes model
  unfolding evidence_bytes verdict_number
  handed-model = ap (λ e. evidence_bytes e proof model) (part-model limit.standard 64 n proof model whole refl)

  handed-proof : handed_back limit.standard (verdict_number Unsatisfiable) n proof model ≡ take (limit.step_bytes * n) proof
  unfolding evidence_bytes verdict_number
  handed-proof = ap (λ e. evidence_bytes e proof model) (part-proof limit.standard 65 n proof model whole refl refl)

-- ---- the text, and that it can be made
abbrev printed_of : Outcome → List ℕ
printed_of (faulted f place) = print_refusal f place 0
printed_of (stopped f steps pairs) = print_refusal f steps pairs
printed_of (decided Satisfiable steps pairs bytes) = print_line (ascii "agrees") (map decimal (length steps ∷ pairs ∷ []))
    ++ print_model bytes
printed_of (decided Unsatisfiable steps pairs bytes) =
    print_line (ascii "cannot") (map decimal (length steps ∷ pairs ∷ [])) ++ print_proof steps
printed_of (decided Unwritten steps pairs bytes) = print_line (ascii "unwritten") (map decimal (length steps ∷ pairs ∷ []))

-- what solving said and left can be printed, and its text is this
pub record TextOf (text : List ℕ) (said : Solved) (proof model : List ℕ) : Type 0 where
  pub ready : Ready said proof model
  pub is : solved_text said proof model ≡ text

module _ (proof model : List ℕ) where
  outcome-told : (o : Outcome) → PrintableOutcome o → length (proof_after limit.standard o proof) ≡ limit.proof_bytes limit.standard
      → length (model_after o model) ≡ limit.model_bytes
      → TextOf (printed_of o) (said o) (proof_after limit.standard o proof) (model_after o model)
  unfolding said proof_after model_after
  outcome-told (faulted f place) s l m = record { ready = tt; is = refl }
  outcome-told (stopped f steps pairs) s l m = record { ready = tt; is = refl }
  outcome-told (decided Satisfiable steps pairs bytes) s l m =
      let e = handed-model (length steps) _ _ l m s.0 ∙ take_at bytes (drop limit.model_bytes model) limit.model_bytes s.1.whole in
      record { ready = subst Printable (sym e) s.1; is = ap (satisfiable_text (length steps) pairs) e }
  outcome-told (decided Unsatisfiable steps pairs bytes) s l m =
      let zeros = replicate {A = ℕ} (limit.proof_bytes limit.standard - limit.step_bytes * length steps) 0 in
      let rest = drop (limit.proof_bytes limit.standard) proof in
      let formed = all_map Numbered (λ s. Formed s.line) steps (λ s k. k.formed) s.1 in
      let used = proof-length steps formed in
      let e = handed-proof (length steps) _ _ l m s.0
      ∙ ap (take (limit.step_bytes * length steps)) (append_assoc (encode_proof steps) zeros rest)
      ∙ take-proof steps (zeros ++ rest) formed in
      record {
        ready = (s.0, subst (λ (x : List ℕ). limit.step_bytes * length steps ≤ length x) (sym e) (omega (arith, used)));
        is = ap (unsatisfiable_text (length steps) pairs) e
            ∙ ap (λ (x : List ℕ). print_line (ascii "cannot") (map decimal (length steps ∷ pairs ∷ [])) ++ x) (proof-text steps s.1);
      }
  outcome-told (decided Unwritten steps pairs bytes) s l m = record { ready = tt; is = refl }

  -- solving with buffers of full size
  module _ (q : List ℕ) (l : length proof ≡ limit.proof_bytes limit.standard) (m : length model ≡ limit.model_bytes) where
    lent-whole : lent standard q proof model ≡ outcome standard q
    lent-whole = lent-full standard q proof model (omega arith) (omega arith)

    printed-is : printed_of (outcome standard q) ≡ printed standard q
    unfolding printed
    printed-is = by (outcome standard q) refl
      where
        by : (o : Outcome) → outcome standard q ≡ o → printed_of (outcome standard q) ≡ printed standard q
        by (faulted f place) e = rw (e, printed)
        by (stopped f steps pairs) e = rw (e, printed)
        by (decided Satisfiable steps pairs bytes) e = rw (e, printed)
        by (decided Unsatisfiable steps pairs bytes) e = rw (e, printed)
        by (decided Unwritten steps pairs bytes) e = rw (e, printed)

    pub solved-told : (s : Solved) (after filled : List ℕ) → s ≡ (solve standard q proof model).solved
        → after ≡ (solve standard q proof model).proof
        → filled ≡ (solve standard q proof model).model
        → length after ≡ limit.proof_bytes limit.standard
        → length filled ≡ limit.model_bytes
        → TextOf (printed standard q) s after filled
    unfolding solve
    solved-told s after filled e f g lp lm =
        let o = outcome standard q in
        let e' : s ≡ said o = e ∙ ap said lent-whole in
        let f' : after ≡ proof_after limit.standard o proof = f ∙ ap (λ o. proof_after limit.standard o proof) lent-whole in
        let g' : filled ≡ model_after o model = g ∙ ap (λ o. model_after o model) lent-whole in
        rw (e', f', g', ← printed-is) (outcome-told o (outcome-printable q) (rw f' at lp) (rw g' at lm))
