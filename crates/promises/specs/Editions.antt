-- 02, (v): what the second edition asks of a choice, which clauses it has and what they load; what the checks of the two editions have to
-- do with each other; and that none but another edition's number is refused with 19.
use Rattle.std.proofs.Math.Path.{◌≡◌, refl, sym, ap}
use Rattle.std.proofs.Common.{subst, ◌∙◌, inl, inr, ne_eqb, T_not, nltb→le, eqb→eq}
use Rattle.std.proofs.Math.Bool.{Bool}
use Rattle.std.specs.Prelude.{true, false, not, ◌↔◌, ◌⊎◌, List, [], ◌∷◌, ◌++◌, ℕ, ◌+◌, ◌-◌, ◌/◌, ◌≤◌, ◌<◌, pos, T, eqb, length, drop}
use Rattle.std.proofs.Math.Logic.{⊎_elim}
use Rattle.std.proofs.Math.Option.{some}
use native.Mathlib.Omega.{arith}
use Rattle.std.specs.Int.Signed.{le_z}
use Rattle.std.proofs.Math.Dec.{ltb, eqb_refl}
use Rattle.std.proofs.Math.ListN.{get_elem?, length-append}
use Rattle.rules_types.specs.declared.answers.Refusal.{Refusal}
use Rattle.rules_types.specs.declared.answers.Refusal.TheVariants as refusal
use Rattle.rules_types.specs.declared.answers.Verdict.{Verdict}
use Rattle.rules_types.specs.declared.answers.Answer.{Answer}
use Rattle.rules_types.specs.declared.answers.Answer.TheVariants.{Decided, Refused as RefusedAnswer}
use Rattle.rules_types.specs.declared.answers.Checked.{Checked}
use Rattle.rules_types.specs.declared.answers.Checked.TheVariants.{Accepted, Fails, Refused}
use Rattle.rules_types.specs.declared.answers.Trimmed.TheVariants as trimmed
use Rattle.rules_types.specs.declared.limits.Limits.{Limits}
use Rattle.rules_types.specs.declared.terms.Edition.{Edition}
use Rattle.rules_types.specs.declared.terms.Edition.TheVariants.{First, Second}
use Rattle.rules_types.specs.declared.terms.Named.TheVariants.{Known, Unknown}
use Rattle.rules_types.specs.declared.terms.Terms.{Terms}
use Rattle.rules_types.specs.Limits as limit
use Rattle.rules_types.specs.Answers.{refusal_number}
use Rattle.rules_types.specs.Terms.{on, edition_named}
use Rattle.rules.specs.Lists.{tabulate}
use Rattle.rules.specs.Problem.{Clause, Problem, non_negative, added, in_edition, Read, fault, got}
use Rattle.rules.specs.Meaning.{Assignment, clause_holds, Satisfies}
use Rattle.rules.specs.Lines.{Line}
use Rattle.rules.specs.Steps.{Step}
use Rattle.rules.specs.Elimination.{loadable_of}
use Rattle.rules.specs.Model.{is_open, model}
use Rattle.rules.specs.Calls.{Reading, faulty, sound, read, whole_steps, said, solve, proof_checked, model_checked}
use Rattle.rules.specs.Calls.{in_named, solve_in, proof_checked_in, model_checked_in}
use Rattle.rules.specs.Trim.{trim_checked, trim, trim_in}
use Rattle.theory_lists.specs.Tests.{split, is_true, is_false}
use Rattle.theory_lists.specs.All.{any_left}
use Rattle.theory_lists.specs.Places.{element-left, element-right}
use Rattle.theory_lists.specs.Tabulated.{length-tabulate, element-tabulate}
use Rattle.theory_bytes.specs.Bytes.{AllBytes}
use Rattle.theory_layout.specs.Offsets.{StatesModel}
use Rattle.theory_splitting.specs.WellRead.{posed-well-formed}
use Rattle.theory_splitting.specs.Editions.{posed-first, holds-added, open-posed, loadable-posed, added_step}
use Rattle.theory_checks.specs.LinesFollow.{LinesFollow}
use Rattle.theory_checks.specs.ProofChecked.{checked-proof}
use Rattle.theory_checks.specs.ModelChecked.{model-checked-satisfies}
use Rattle.theory_layout.specs.Models.{model-refusal}
use Rattle.theory_conversion.specs.Second.{NotBelowZero, satisfies-second}
use Rattle.theory_reading.specs.Numbers.{Named, to-13, is-18, fault-named}
use Rattle.theory_reading.specs.Theorems.{names-first}
use Rattle.promises.specs.Words.{Comes, IsRefused, LimitMet, Refutes, WritesAssignment}
use Rattle.promises.specs.Checked.{proof-exactly, model-exactly, never-refused, proof-refused, model-refused}
use Rattle.promises.specs.Whole.{whole-unrefused}
use Rattle.promises.specs.Total.{BeforeCourse, total}
use Rattle.promises.specs.Demand1.{untouched}

-- ---- what the second edition is, of a problem as it was read
-- clause n states that rational variable f is ≥ 0, of every choice, and has no literal
pub record Bounds (p : Problem) (n f : ℕ) : Type 0 where
  pub clause : Clause
  pub at : get_elem? p.clauses n ≡ some clause
  pub holds : (χ : Assignment) → clause_holds χ clause ≡ le_z (pos 0) (χ.numerators f)
  pub literals : clause.literals ≡ []

pub record Editions (p : Problem) : Type 0 where
  -- the first is the problem as written
  pub first : in_edition First p ≡ p
  -- ""Satisfies" is meant per edition", and "a share below zero is no share"
  pub satisfies : (χ : Assignment) → Satisfies χ (in_edition Second p) ↔ (Satisfies χ p × NotBelowZero p.rationals χ)
  -- "after clause n - 1, clauses n to n + r - 1 state that figure 0, 1 and so on is ≥ 0"
  pub count : length (in_edition Second p).clauses ≡ length p.clauses + p.rationals
  pub written : (c : ℕ) → c < length p.clauses → get_elem? (in_edition Second p).clauses c ≡ get_elem? p.clauses c
  pub bounds : (f : ℕ) → f < p.rationals → Bounds (in_edition Second p) (length p.clauses + f) f
  -- "they load like others": one line each, -x ≤ 0, as part 0 of clause n + f, and no split variable
  pub loads : loadable_of (in_edition Second p) ≡ loadable_of p ++ tabulate p.rationals (added_step (length p.clauses))
  -- which Boolean variables are open does not depend on it
  pub opens : is_open (in_edition Second p) ≡ is_open p

module _ (p : Problem) where
  abbrev n : ℕ
  n = length p.clauses

  abbrev more : List Clause
  more = tabulate p.rationals non_negative

  module _ (few : p.rationals ≤ limit.rationals) where
    bounds : (f : ℕ) → f < p.rationals → Bounds (in_edition Second p) (n + f) f
    unfolding added non_negative
    bounds f h = record {
      clause = non_negative f;
      at =
          let e : n + f - n ≡ f = omega arith in
          sym (element-right p.clauses more (n + f) (omega arith)) ∙ ap (get_elem? more) e
          ∙ element-tabulate p.rationals non_negative f h;
      holds = λ χ. holds-added χ f (omega arith);
      literals = refl;
    }

    loads : loadable_of (in_edition Second p) ≡ loadable_of p ++ tabulate p.rationals (added_step n)
    unfolding added
    loads = loadable-posed Second p few
        ∙ ap (λ (m : ℕ). loadable_of p ++ tabulate m (added_step n)) (length-tabulate p.rationals non_negative)

    pub editions : Editions p
    unfolding added
    editions = record {
      first = posed-first p;
      satisfies = satisfies-second p few;
      count = omega (arith, length-append p.clauses more, length-tabulate p.rationals non_negative);
      written = λ c h. sym (element-left p.clauses more c h);
      bounds = bounds;
      loads = loads;
      opens = open-posed Second p;
    }

-- ---- the checks of both editions
lines_more : (parts new : List Step) (earlier : List Line) (bytes : List ℕ) (ls : List Line) → LinesFollow parts earlier bytes ls
    → LinesFollow (parts ++ new) earlier bytes ls
lines_more parts new earlier bytes [] h = tt
lines_more parts new earlier bytes (l ∷ ls) (f, h) = (
  ⊎_elim (λ a. inl (any_left _ parts new a)) (λ r. inr r) f,
  lines_more parts new (earlier ++ (l ∷ [])) (drop limit.step_bytes bytes) ls h,
)

refutes-more : (parts new : List Step) (k : ℕ) (bytes : List ℕ) → Refutes parts k bytes → Refutes (parts ++ new) k bytes
refutes-more parts new k bytes h = record {
  lines = h.lines;
  follow = record { count = h.follow.count; follow = lines_more parts new [] bytes h.lines h.follow.follow };
  last = h.last;
}

module _ (limits : Limits) (input bytes : List ℕ) where
  -- a proof that the check accepts in the first edition it accepts in the second
  pub proof-kept : limits.steps ≤ limit.most_steps → AllBytes bytes → proof_checked (on limits First) input bytes ≡ Accepted
      → proof_checked (on limits Second) input bytes ≡ Accepted
  proof-kept few are a =
      let c = checked-proof (on limits First) input bytes a in
      let p = c.problem in
      let w = posed-well-formed First input p c.reads in
      let known = editions p w.rationals in
      let h = (proof-exactly (on limits First) input p c.reads few bytes are).0 a in
      (proof-exactly (on limits Second) input p c.reads few bytes are).1 (
        h.0,
        rw known.loads (refutes-more (loadable_of p) _ _ bytes
            (subst (λ (q : Problem). Refutes (loadable_of q) (length bytes / limit.step_bytes) bytes) known.first h.1)),
      )

  -- a model that it accepts in the second it accepts in the first
  pub model-kept : model_checked (on limits Second) input bytes ≡ Accepted → model_checked (on limits First) input bytes ≡ Accepted
  model-kept a =
      let c = model-checked-satisfies (on limits Second) input bytes a in
      let p = c.problem in
      let w = posed-well-formed Second input p c.reads in
      let known = editions p w.rationals in
      let h = (model-exactly (on limits Second) input p c.reads bytes).0 a in
      (model-exactly (on limits First) input p c.reads bytes).1 (subst (λ (q : Problem). WritesAssignment q bytes) (sym known.first)
      (record {
        size = h.size;
        assignment = h.assignment;
        stated = subst (λ (o : ℕ → Bool). StatesModel bytes p.booleans p.rationals o h.assignment) known.opens h.stated;
        satisfies = ((known.satisfies h.assignment).0 h.satisfies).0;
      }))

-- ---- 19 is for no other reason
named-less : (f : Refusal) → Named f → refusal_number f ≡ 19 → ⊥
named-less f (to-13 a b) e = omega arith
named-less f (is-18 h) e = omega arith

-- no fault of a problem is 19
fault-not : (input : List ℕ) → AllBytes input → (place : ℕ) → read input ≡ faulty refusal.Edition place → ⊥
unfolding refusal_number
fault-not input are place e = named-less refusal.Edition (fault-named input refusal.Edition place
    ((names-first input are refusal.Edition place).0 e)) refl

module _ (terms : Terms) (input : List ℕ) (are : AllBytes input) where
  pub solve-not : (proof model : List ℕ) → IsRefused refusal.Edition (solve terms input proof model).solved.answer → ⊥
  unfolding refusal_number
  solve-not proof model h =
      let t = total terms input proof model are in
      let r = t.refuses (λ p e full. never (solve terms input proof model).solved.answer h (t.comes p e full)) in
      before r.0 r.2 (same (solve terms input proof model).solved.answer r.0 h r.1)
    where
      never : (a : Answer) → IsRefused refusal.Edition a → ((v : Verdict) × Comes v a) ⊎ LimitMet a → ⊥
      never (Decided v n) h e = h
      never (RefusedAnswer g n) h (inl c) = c.1
      never (RefusedAnswer g n) h (inr (inl k)) = omega (arith, ap refusal_number (sym h ∙ k))
      never (RefusedAnswer g n) h (inr (inr k)) = omega (arith, ap refusal_number (sym h ∙ k))

      same : (a : Answer) (f : Refusal) → IsRefused refusal.Edition a → IsRefused f a → refusal_number f ≡ 19
      same (Decided v n) f h g = absurd h
      same (RefusedAnswer k n) f h g = ap refusal_number (sym g ∙ h)

      before : (f : Refusal) → BeforeCourse f → refusal_number f ≡ 19 → ⊥
      before f b e = ⊎_elim (λ h. omega (arith, h.1)) (λ h. omega (arith, h)) b

  -- which refusals a proof has: a fault of the problem, or its own length
  pub proof-refusal : (proof : List ℕ) (f : Refusal) (place : ℕ) → proof_checked terms input proof ≡ Refused f place
      → Named f ⊎ (f ≡ refusal.ProofLength)
  unfolding proof_checked
  proof-refusal proof f place a = by (read input) refl
    where
      whole : Bool
      whole = whole_steps terms.limits (length proof)

      by : (r : Reading) → read input ≡ r → Named f ⊎ (f ≡ refusal.ProofLength)
      by (faulty g at) e =
          let b = sym (proof-refused input g at e terms proof) ∙ a in
          let is : g ≡ f = cc in
          inl (subst Named is (fault-named input g at ((names-first input are g at).0 e)))
      by (sound q) e = ⊎_elim
          (λ t. absurd (whole-unrefused terms input q e proof t f place a))
          (λ t. let b : Refused refusal.ProofLength (length proof) ≡ Refused f place =
          rw (e, proof_checked, is_false whole t) at a in inr (cc))
          (split whole)

  pub proof-not : (proof : List ℕ) (place : ℕ) → proof_checked terms input proof ≡ Refused refusal.Edition place → ⊥
  unfolding refusal_number
  proof-not proof place a = ⊎_elim (λ n. named-less refusal.Edition n refl) (λ e. omega (arith, ap refusal_number e))
      (proof-refusal proof refusal.Edition place a)

  pub trim-not : (proof target : List ℕ) (place : ℕ) → (trim terms input proof target).trimmed ≡ trimmed.Refused refusal.Edition place → ⊥
  unfolding trim trim_checked refusal_number
  trim-not proof target place a = by (ltb (length target) (limit.proof_bytes terms.limits)) refl
    where
      said-by : (c : Checked) → proof_checked terms input proof ≡ c
          → (trim_checked terms.limits c proof target).trimmed ≡ trimmed.Refused refusal.Edition place → ⊥
      said-by Accepted e b = let z : ◌≡◌ {A = ℕ} 0 1 = cc in omega arith
      said-by (Fails n) e b = let z : ◌≡◌ {A = ℕ} 0 1 = cc in omega arith
      said-by (Refused f at) e b =
          let is : f ≡ refusal.Edition = cc in proof-not proof at (e ∙ ap (λ (g : Refusal). Refused g at) is)

      by : (t : Bool) → ltb (length target) (limit.proof_bytes terms.limits) ≡ t → ⊥
      by true e =
          let b : trimmed.Refused refusal.ShortProof 0 ≡ trimmed.Refused refusal.Edition place = rw (e, trim) at a in
          let is : refusal.ShortProof ≡ refusal.Edition = cc in omega (arith, ap refusal_number is)
      by false e = said-by (proof_checked terms input proof) refl (rw (e, trim) at a)

  pub model-not : (bytes : List ℕ) (place : ℕ) → model_checked terms input bytes ≡ Refused refusal.Edition place → ⊥
  unfolding model_checked refusal_number
  model-not bytes place a = by (read input) refl
    where
      short : Bool
      short = ltb (length bytes) limit.model_bytes

      posed : Problem → Problem
      posed = in_edition terms.edition

      other : (f : Refusal) (at : ℕ) → refusal_number f ≤ 18 → Refused f at ≡ Refused refusal.Edition place → ⊥
      other f at h b = let is : f ≡ refusal.Edition = cc in omega (arith, h, ap refusal_number is)

      reading : Problem → Read Assignment
      reading q = model (posed q).booleans (posed q).rationals (is_open (posed q)) bytes 0

      read_by : (q : Problem) → read input ≡ sound q → T (not short) → (m : Read Assignment) → reading q ≡ m → ⊥
      read_by q e t (fault f at) d =
          let w = posed-well-formed terms.edition input q e in
          let size = nltb→le (length bytes) limit.model_bytes t in
          let is = model-refusal bytes (posed q).booleans (posed q).rationals (is_open (posed q)) size w.booleans w.rationals f at
          d in
          other refusal.BadModel at (omega arith) (ap (λ (g : Refusal). Refused g at) (sym is)
          ∙ (rw (e, model_checked, is_false short t, d) at a))
      read_by q e t (got χ rest at) d =
          never-refused χ 0 (posed q).clauses refusal.Edition place (rw (e, model_checked, is_false short t, d) at a)

      by : (r : Reading) → read input ≡ r → ⊥
      by (faulty f at) e =
          let b = sym (model-refused input f at e terms bytes) ∙ a in
          let is : f ≡ refusal.Edition = cc in
          fault-not input are at (e ∙ ap (λ (g : Refusal). faulty g at) is)
      by (sound q) e = ⊎_elim (λ t. other refusal.ShortModel 0 (omega arith) (rw (e, model_checked, is_true short t) at a))
          (λ t. read_by q e t (reading q) refl) (split short)

-- ---- calls that name an edition by its number
-- "any other edition"
abbrev pub Other : ℕ → Type 0
Other n = (n ≡ 1 → ⊥) × (n ≡ 2 → ⊥)

pub either-edition : (n : ℕ) → (Other n → ⊥) → (n ≡ 1) ⊎ (n ≡ 2)
either-edition n h =
    let never : (k : ℕ) → T (not (eqb n k)) → n ≡ k → ⊥ = λ k t e. T_not (eqb n k) t (rw e (eqb_refl k)) in
    ⊎_elim (λ t. inl (eqb→eq n 1 t))
    (λ t. ⊎_elim (λ u. inr (eqb→eq n 2 u)) (λ u. absurd (h (never 1 t, never 2 u))) (split (eqb n 2))) (split (eqb n 1))

pub named-first : (n : ℕ) → n ≡ 1 → edition_named n ≡ Known First
unfolding edition_named
named-first n e = ap edition_named e

pub named-second : (n : ℕ) → n ≡ 2 → edition_named n ≡ Known Second
unfolding edition_named
named-second n e = ap edition_named e

pub named_other : (n : ℕ) → Other n → edition_named n ≡ Unknown
unfolding edition_named
named_other n h = rw (ne_eqb n 1 h.0, ne_eqb n 2 h.1)

-- 19 comes exactly for those: no edition gives it, and they do
pub nineteen-exactly : (n number : ℕ) → ((e : Edition) → edition_named n ≡ Known e → number ≡ 19 → ⊥) → (Other n → number ≡ 19)
    → (number ≡ 19) ↔ Other n
nineteen-exactly n number never other =
    (λ e. (λ f. never First (named-first n f) e, λ f. never Second (named-second n f) e), other)

module _ (limits : Limits) (n : ℕ) (input : List ℕ) where
  module _ (proof model : List ℕ) where
    pub solve-known : (e : Edition) → edition_named n ≡ Known e
        → solve_in limits n input proof model ≡ solve (on limits e) input proof model
    unfolding solve_in in_named
    solve-known e h = rw (h, solve_in, in_named)

    -- nothing is altered, and there are no pairs to report
    pub solve-unknown : edition_named n ≡ Unknown → solve_in limits n input proof model ≡ untouched refusal.Edition 0 proof model
    unfolding solve_in in_named said
    solve-unknown h = rw (h, solve_in, in_named)

  module _ (bytes : List ℕ) where
    pub proof-known : (e : Edition) → edition_named n ≡ Known e
        → proof_checked_in limits n input bytes ≡ proof_checked (on limits e) input bytes
    unfolding proof_checked_in in_named
    proof-known e h = rw (h, proof_checked_in, in_named)

    pub proof-unknown : edition_named n ≡ Unknown → proof_checked_in limits n input bytes ≡ Refused refusal.Edition 0
    unfolding proof_checked_in in_named
    proof-unknown h = rw (h, proof_checked_in, in_named)

    pub model-known : (e : Edition) → edition_named n ≡ Known e
        → model_checked_in limits n input bytes ≡ model_checked (on limits e) input bytes
    unfolding model_checked_in in_named
    model-known e h = rw (h, model_checked_in, in_named)

    pub model-unknown : edition_named n ≡ Unknown → model_checked_in limits n input bytes ≡ Refused refusal.Edition 0
    unfolding model_checked_in in_named
    model-unknown h = rw (h, model_checked_in, in_named)

  module _ (proof target : List ℕ) where
    pub trim-known : (e : Edition) → edition_named n ≡ Known e
        → trim_in limits n input proof target ≡ trim (on limits e) input proof target
    unfolding trim_in in_named
    trim-known e h = rw (h, trim_in, in_named)

    -- nothing is written
    pub trim-unknown : edition_named n ≡ Unknown
        → trim_in limits n input proof target ≡ record { trimmed = trimmed.Refused refusal.Edition 0; target = target }
    unfolding trim_in in_named
    trim-unknown h = rw (h, trim_in, in_named)
