-- The check goes from step to step: what is left to check comes to the same.
use Rattle.std.specs.Prelude.{◌≡◌, Bool, true, false, List, [], ◌∷◌, ◌++◌, ℕ, suc, ◌+◌, ◌*◌, ◌-◌, ◌/◌, ◌<◌, ◌≤◌}
use Rattle.std.proofs.Math.Path.{sym, ap, subst}
use Rattle.std.proofs.Common.{◌∙◌, eq-zero-or-pos, add-one}
use Rattle.std.proofs.Math.Bool.{cond}
use Rattle.std.proofs.Math.Logic.{⊎_elim}
use native.Mathlib.Omega.{arith}
use Rattle.std.proofs.Math.ListN.{length, drop}
use Rattle.std.proofs.Math.Seq.{drop-drop}
use Rattle.rules_types.specs.Limits.{step_bytes}
use Rattle.rules_types.specs.declared.answers.Checked.TheVariants as checked
use Rattle.rules.specs.Lists.{tabulate}
use Rattle.rules.specs.Problem.{Problem}
use Rattle.rules.specs.Lines as lines
use Rattle.rules.specs.Lines.{is_empty}
use Rattle.rules.specs.Steps.{Step}
use Rattle.rules.specs.Checker as rules
use Rattle.rules.specs.Checker.{fails, follow, stated_line, followed, followed_lines, ends_empty, with_empty_end, check_proof}
use Rattle.theory_lists.specs.Tabulated.{length-tabulate, element-tabulate, tabulate-snoc}
use Rattle.lines.specs.Line.{meaning, Ready}
use Rattle.steps.specs.Places.{step_at}
use Rattle.steps.specs.Lines.{line_at, lines_in, ReadyLines}
use Rattle.step_check.specs.declared.compare.Stated.{Stated}
use Rattle.step_check.specs.Stated.{States, found-is, unfound-is}
use Rattle.proof_check.specs.declared.follow.Followed.{Followed}
use Rattle.proof_check.specs.declared.follow.Followed.TheVariants.{Fails, Follow}

length-lines : (proof : List ℕ) (n : ℕ) → length (lines_in proof n) ≡ n
unfolding lines_in
length-lines proof n = length-tabulate n (λ i. meaning (line_at proof i))

-- what the code's answer stands for, of the steps in these bytes
unfoldable pub followed_as : List ℕ → Followed → rules.Followed
followed_as proof (Fails i) = fails i
followed_as proof Follow = follow (lines_in proof (length proof / step_bytes))

-- i steps follow
pub record Following (parts : List Step) (proof : List ℕ) (count : ℕ) (i : ℕ) : Type 0 where
  pub few : i ≤ count
  pub ready : ReadyLines proof i
  pub same : followed parts (count - i) (lines_in proof i) (drop (step_bytes * i) proof) ≡ followed parts count [] proof

pub following-start : (parts : List Step) (proof : List ℕ) (count : ℕ) → Following parts proof count 0
unfolding lines_in tabulate
following-start parts proof count =
    let e : count - 0 ≡ count = omega arith in
    record { few = omega arith; ready = λ i h. absurd (omega arith); same = rw e }

module _ {parts : List Step} {proof : List ℕ} {count : ℕ} {i : ℕ} (run : Following parts proof count i) where
  pub following-done : count ≤ i → follow (lines_in proof count) ≡ followed parts count [] proof
  unfolding followed
  following-done h =
      let e : count - i ≡ 0 = omega (arith, run.few) in
      let q : count ≡ i = omega (arith, run.few) in
      ap (λ (n : ℕ). follow (lines_in proof n)) q
      ∙ sym (ap (λ (n : ℕ). followed parts n (lines_in proof i) (drop (step_bytes * i) proof)) e) ∙ run.same

  module _ (more : i < count) (s : Stated) (states : States (stated_line parts (lines_in proof i) (step_at proof i))
      (step_at proof i) s) where
    first : followed parts (suc (count - (i + 1))) (lines_in proof i) (drop (step_bytes * i) proof) ≡ followed parts count [] proof
    first = let e : suc (count - (i + 1)) ≡ count - i = omega arith in
        ap (λ (n : ℕ). followed parts n (lines_in proof i) (drop (step_bytes * i) proof)) e ∙ run.same

    pub following-stop : s.found ≡ false → fails i ≡ followed parts count [] proof
    unfolding followed step_at
    following-stop e =
        ap fails (sym (length-lines proof i)) ∙ sym (rw (sym states.line ∙ unfound-is s e, followed)) ∙ first

    module _ (e : s.found ≡ true) where
      line-is : line_at proof i ≡ s.line
      unfolding line_at
      line-is = states.back e

      lines_next : lines_in proof i ++ (meaning s.line ∷ []) ≡ lines_in proof (i + 1)
      unfolding lines_in
      lines_next =
          ap (λ (l : lines.Line). lines_in proof i ++ (l ∷ [])) (ap meaning (sym line-is))
          ∙ sym (tabulate-snoc i (λ j. meaning (line_at proof j)))
          ∙ ap (λ (n : ℕ). tabulate n (λ j. meaning (line_at proof j))) (sym (add-one i))

      pub following-next : Following parts proof count (i + 1)
      unfolding followed step_at
      following-next =
          let d : drop step_bytes (drop (step_bytes * i) proof) ≡ drop (step_bytes * (i + 1)) proof =
          drop-drop step_bytes (step_bytes * i) proof
          ∙ (let z : step_bytes * i + step_bytes ≡ step_bytes * (i + 1) = omega arith in ap (λ (n : ℕ). drop n proof) z) in
          record {
            few = omega arith;
            ready = λ j h. ⊎_elim
                (λ z. let x : i ≡ j = omega arith in
                subst (λ (n : ℕ). Ready (line_at proof n)) x (subst Ready (sym line-is) states.ready))
                (λ z. run.ready j (omega arith))
                (eq-zero-or-pos (i - j));
            same =
                (λ t. followed parts (count - (i + 1)) (sym lines_next t) (sym d t))
                ∙ sym (rw (sym states.line ∙ found-is s e, followed))
                ∙ first;
          }

-- ---- its end
pub ends-none : (proof : List ℕ) (n : ℕ) → n ≡ 0 → false ≡ ends_empty (lines_in proof n)
unfolding ends_empty lines_in tabulate
ends-none proof n e = sym (rw e)

pub ends_last : (proof : List ℕ) (n : ℕ) → 0 < n → is_empty (meaning (line_at proof (n - 1))) ≡ ends_empty (lines_in proof n)
unfolding ends_empty lines_in
ends_last proof n h =
    let f : ℕ → lines.Line = λ i. meaning (line_at proof i) in
    sym (rw (length-tabulate n f, element-tabulate n f (n - 1) (omega arith), ends_empty))

-- ---- both together
module _ (p : Problem) (proof : List ℕ) {f : Followed} (is : followed_as proof f ≡ followed_lines p proof) where
  pub check-fails : (i : ℕ) → f ≡ Fails i → checked.Fails i ≡ check_proof p proof
  unfolding followed_as check_proof with_empty_end
  check-fails i e = ap (λ (g : Followed). with_empty_end (followed_as proof g)) (sym e) ∙ ap with_empty_end is

  pub check-follow : f ≡ Follow → {ends : Bool} → ends ≡ ends_empty (lines_in proof (length proof / step_bytes))
      → cond ends checked.Accepted (checked.Fails (length proof / step_bytes)) ≡ check_proof p proof
  unfolding followed_as check_proof with_empty_end
  check-follow e h =
      let n = length proof / step_bytes in
      (λ i. cond (h i) checked.Accepted (checked.Fails (sym (length-lines proof n) i)))
      ∙ ap (λ (g : Followed). with_empty_end (followed_as proof g)) (sym e) ∙ ap with_empty_end is
