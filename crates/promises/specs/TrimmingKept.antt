-- Trimming keeps what it promises (Trimming.antt).
use Rattle.std.specs.Prelude.{◌≡◌, refl, ◌||◌, ℕ, ◌+◌, ◌*◌, ◌-◌, ◌≤◌, ◌<◌, T, take}
use Rattle.std.proofs.Math.Path.{sym, ap}
use Rattle.std.proofs.Common.{subst, ◌∙◌, le-ltb, length-append, length-drop, take_at, drop_at}
use mathlib.Core.List.{List, ◌++◌, append_assoc}
use native.Mathlib.Omega.{arith}
use Rattle.std.proofs.Math.ListN.{length, drop, replicate}
use Rattle.rules_types.specs.declared.answers.Checked.{Checked}
use Rattle.rules_types.specs.declared.answers.Checked.TheVariants as checked
use Rattle.rules_types.specs.declared.answers.Trimmed.TheVariants.{Steps}
use Rattle.rules_types.specs.declared.terms.Terms.{Terms}
use Rattle.rules_types.specs.Limits as limit
use Rattle.rules.specs.Lists.{any}
use Rattle.rules.specs.Bytes.{field_at, padded}
use Rattle.rules.specs.Problem.{Literal, Comparison, Clause, Problem, in_edition}
use Rattle.rules.specs.Meaning.{Assignment, literal_holds, comparison_holds, clause_holds, Satisfies}
use Rattle.rules.specs.Calls.{sound, read, proof_checked}
use Rattle.rules.specs.Trim.{step_count, trimmed, Trimming, trim_checked, trim}
use Rattle.theory_lists.specs.All.{all_any, all_yes}
use Rattle.theory_bytes.specs.Bytes.{AllBytes, length-padded}
use Rattle.theory_layout.specs.Fields.{field-part, field-drop, zeros-before}
use Rattle.theory_layout.specs.Offsets.{Zeros}
use Rattle.theory_checks.specs.Core.{LoadsClause}
use Rattle.theory_checks.specs.ProofChecked.{proof-checked-core}
use Rattle.theory_trimming.specs.Ordered.{Trimmable, accepted-trimmable}
use Rattle.theory_trimming.specs.Trimmed.{trimmed-length, trimmed-count, trimmed-some, trimmed-few}
use Rattle.theory_trimming.specs.Short.{trimmed-short}
use Rattle.theory_trimming.specs.TrimmedAccepted.{trimmed-accepted}
use Rattle.theory_trimming.specs.TrimmedAgain.{trimmed-again}
use Rattle.promises.specs.Whole.{lines_are}
use Rattle.promises.specs.Checks.{checks-proof}
use Rattle.promises.specs.Halves.{impossible}
use Rattle.promises.specs.Reduced.{reduced-has}
use Rattle.promises.specs.TrimmingAnswers as the
use Rattle.promises.specs.TrimmingAnswers.{Answered, narrow, refuses, fails, trims, answered}
use Rattle.promises.specs.Trimming.{Loads, Stands, HasLoaded, reduced_to, Trims, Shortens}

-- ---- a clause holds by its literals and its comparisons alone
same-holds : (χ : Assignment) (y x : Clause) → T (clause_holds χ y) → (y.literals ≡ x.literals) × (y.comparisons ≡ x.comparisons)
    → T (clause_holds χ x)
unfolding clause_holds
same-holds χ y x h e =
    subst (λ (cs : List Comparison). T (any (literal_holds χ) x.literals || any (comparison_holds χ) cs)) e.1
    (subst (λ (ls : List Literal). T (any (literal_holds χ) ls || any (comparison_holds χ) y.comparisons)) e.0 h)

-- so a clause that stands in a satisfied problem holds
stands-holds : (χ : Assignment) (q : Problem) (x : Clause) → Satisfies χ q → Stands x q → T (clause_holds χ x)
stands-holds χ q x s h =
    all_any _ _ q.clauses (λ y. same-holds χ y x) (all_yes (clause_holds χ) q.clauses s.clauses) h

-- ---- so many steps, zeros up to a length, and what lay beyond
module _ (room : ℕ) (s rest : List ℕ) (n : ℕ) (size : length s ≡ 64 * n) (fits : 64 * n ≤ room) where
  abbrev filled : List ℕ
  filled = padded room s ++ rest

  front : take room filled ≡ padded room s
  front = take_at (padded room s) rest room (length-padded room s (omega arith))

  back : drop room filled ≡ rest
  back = drop_at (padded room s) rest room (length-padded room s (omega arith))

  first : take (64 * n) filled ≡ s
  unfolding padded
  first = rw append_assoc (take_at s (replicate (room - length s) 0 ++ rest) (64 * n) size)

  zeros : Zeros (64 * n) room filled
  unfolding padded
  zeros place h l =
      let e : drop (64 * n) filled ≡ replicate (room - length s) 0 ++ rest =
      rw append_assoc (drop_at s (replicate (room - length s) 0 ++ rest) (64 * n) size) in
      let i : 64 * n + (place - 64 * n) ≡ place = omega arith in
      ap (λ (k : ℕ). field_at k 1 filled) (sym i) ∙ sym (field-drop filled (64 * n) (place - 64 * n) 1)
      ∙ ap (field_at (place - 64 * n) 1) e ∙ zeros-before (room - length s) (place - 64 * n) rest (omega arith)

-- the fields of the first bytes are those of the whole
field-first : (bytes : List ℕ) (n k size : ℕ) → k + size ≤ n → field_at k size (take n bytes) ≡ field_at k size bytes
field-first bytes n k size h =
    let e : 0 + k ≡ k = omega arith in field-part bytes 0 n k size h ∙ ap (λ (j : ℕ). field_at j size bytes) e

loads-in : (target : List ℕ) (n c : ℕ) → length (take (64 * n) target) ≡ 64 * n → LoadsClause (take (64 * n) target) c → Loads target n c
loads-in target n c size (i, l, h, f) =
    let below : i < n = omega arith in (
      i,
      below,
      sym (field-first target (64 * n) (64 * i) 1 (omega arith)) ∙ h,
      sym (field-first target (64 * n) (64 * i + 2) 2 (omega arith)) ∙ f,
    )

module _ (terms : Terms) (few : terms.limits.steps ≤ limit.most_steps) (input proof lent : List ℕ) (are_input : AllBytes input)
    (are : AllBytes proof) where
  abbrev ours : Trimming
  ours = trim terms input proof lent

  abbrev room : ℕ
  room = limit.proof_bytes terms.limits

  abbrev says : Checked
  says = proof_checked terms input proof

  abbrev left : ℕ
  left = step_count (trimmed proof)

  -- ---- of a proof that the check accepts
  module _ (ok : says ≡ checked.Accepted) where
    can : Trimmable terms.limits proof
    can = accepted-trimmable terms input proof ok

    short-accepted : proof_checked terms input (trimmed proof) ≡ checked.Accepted
    short-accepted = trimmed-accepted terms few input proof ok

    -- how many bytes the trimmed one has
    record Sized : Type 0 where
      some : 1 ≤ left
      size : length (trimmed proof) ≡ 64 * left
      fits : 64 * left ≤ room

    sized : Sized
    sized =
        let e = trimmed-count can in
        let c = can.few in
        record {
          some = omega (arith, trimmed-some can);
          size = omega (arith, trimmed-length can);
          fits = omega (arith, trimmed-few can);
        }

    abbrev target : List ℕ
    target = padded room (trimmed proof) ++ drop room lent

    is_front : take room target ≡ padded room (trimmed proof)
    is_front = front room (trimmed proof) (drop room lent) left sized.size sized.fits

    is-first : take (64 * left) target ≡ trimmed proof
    is-first = first room (trimmed proof) (drop room lent) left sized.size sized.fits

    core : (p : Problem) → read input ≡ sound p → (q : Problem) → HasLoaded (in_edition terms.edition p) target left q
        → (χ : Assignment) → Satisfies χ q → ⊥
    core p e q h χ s =
        proof-checked-core terms input (trimmed proof) short-accepted p e χ s.denominator
        (λ c x l at. stands-holds χ q x s (h c x (loads-in target left c (rw is-first sized.size) (rw is-first l)) at))

    again : (other : List ℕ) → room ≤ length other
        → trim terms input (trimmed proof) other
        ≡ record { trimmed = Steps left; target = take room target ++ drop room other }
    unfolding trim trim_checked
    again other h = rw (le-ltb (length other) room h, trim, short-accepted, trimmed-again can few, is_front)

    is-trims : Trims terms input proof left target
    unfolding step_count
    is-trims = record {
      nonempty = sized.some;
      whole = (step_count proof, record { count = can.whole; some = can.some; few = can.few });
      short = λ k w. rw (is-first, ← lines_are terms.limits (length proof) k w, trimmed-count can) (trimmed-short can few);
      accepted = rw is-first short-accepted;
      reduced = λ p e. let posed = in_edition terms.edition p in
          core p e (reduced_to posed target left) (reduced-has posed target left);
      core = core;
      unused = zeros room (trimmed proof) (drop room lent) left sized.size sized.fits;
      again = λ other h. rw is-first (again other h);
    }

  -- the bytes that are written
  pub written : room ≤ length lent → says ≡ checked.Accepted → ours.target ≡ padded room (trimmed proof) ++ drop room lent
  written h a = by (answered terms input proof lent)
    where
      by : Answered terms input proof lent → ours.target ≡ padded room (trimmed proof) ++ drop room lent
      by (narrow l t o) = absurd (omega arith)
      by (refuses l g at e t o) = impossible cc
      by (fails l m e t o) = impossible cc
      by (trims l e t o) = o

  trims-so : (n : ℕ) → ours.trimmed ≡ Steps n → Trims terms input proof n ours.target
  trims-so n a = by (answered terms input proof lent)
    where
      by : Answered terms input proof lent → Trims terms input proof n ours.target
      by (narrow l t o) = impossible cc
      by (refuses l g at e t o) = impossible cc
      by (fails l m e t o) = impossible cc
      by (trims l e t o) = let i : left ≡ n = cc in rw (o, ← i) (is-trims e)

  beyond : drop room ours.target ≡ drop room lent
  beyond = by (answered terms input proof lent)
    where
      by : Answered terms input proof lent → drop room ours.target ≡ drop room lent
      by (narrow l t o) = ap (drop room) o
      by (refuses l g at e t o) = ap (drop room) o
      by (fails l m e t o) = ap (drop room) o
      by (trims l e t o) = rw o (back room (trimmed proof) (drop room lent) left (sized e).size (sized e).fits)

  size : length ours.target ≡ length lent
  size = by (answered terms input proof lent)
    where
      by : Answered terms input proof lent → length ours.target ≡ length lent
      by (narrow l t o) = ap length o
      by (refuses l g at e t o) = ap length o
      by (fails l m e t o) = ap length o
      by (trims l e t o) =
          let h = length-padded room (trimmed proof) (omega (arith, (sized e).size, (sized e).fits)) in
          rw (o, length-append, length-drop) (omega arith)

  pub shortens : Shortens terms input proof lent ours
  shortens = record {
    space = the.space terms input proof lent are_input;
    says = says;
    as_checked = refl;
    checks = checks-proof terms few input proof are;
    refused = the.refused terms input proof lent;
    fails = the.failing terms input proof lent;
    accepted = the.accepted terms input proof lent;
    trims = trims-so;
    untouched = the.untouched terms input proof lent;
    fails_untouched = the.fails_untouched terms input proof lent;
    beyond = beyond;
    size = size;
  }
