-- When the last of some lines is empty, and what the check of a proof comes to by that.
use Rattle.std.specs.Prelude.{◌≡◌, refl, Bool, true, false, cond, ◌↔◌, ◌⊎◌, List, ℕ, ◌-◌, T, length}
use Rattle.std.proofs.Common.{sym, ap, ◌∙◌, inl, inr, arith}
use Rattle.std.proofs.Math.Logic.{⊎_elim}
use Rattle.std.proofs.Math.Option.{Option, none, some}
use Rattle.std.proofs.Math.ListN.{get_elem?}
use Rattle.rules_types.specs.declared.answers.Refusal.{Refusal}
use Rattle.rules_types.specs.declared.answers.Checked.TheVariants.{Accepted, Fails, Refused}
use Rattle.rules.specs.Lines.{Line, is_empty}
use Rattle.rules.specs.Checker.{Followed, fails, follow, ends_empty, with_empty_end}
use Rattle.theory_lists.specs.Tests.{split, is_true, is_false, clash}

abbrev pub EndsEmpty : List Line → Type 0
EndsEmpty lines = (l : Line) × (get_elem? lines (length lines - 1) ≡ some l) × T (is_empty l)

pub ends-exactly : (lines : List Line) → T (ends_empty lines) ↔ EndsEmpty lines
unfolding ends_empty
ends-exactly lines = (λ t. by (get_elem? lines (length lines - 1)) refl t, λ h. rw (h.1, ends_empty) h.2)
  where
    by : (o : Option Line) → get_elem? lines (length lines - 1) ≡ o → T (elim o [ none ↦ false | some l ↦ is_empty l ]) → EndsEmpty lines
    by none e t = absurd t
    by (some l) e t = (l, e, t)

-- ---- what the check of a proof says
module _ (lines : List Line) where
  abbrev ends : Bool
  ends = ends_empty lines

  follow-accepted : EndsEmpty lines → with_empty_end (follow lines) ≡ Accepted
  unfolding with_empty_end
  follow-accepted h = rw (is_true ends ((ends-exactly lines).1 h))

  follow-fails : (EndsEmpty lines → ⊥) → with_empty_end (follow lines) ≡ Fails (length lines)
  unfolding with_empty_end
  follow-fails h = ⊎_elim (λ t. absurd (h ((ends-exactly lines).0 t))) (λ t. rw (is_false ends t)) (split ends)

  follow-says : EndsEmpty lines ⊎ (EndsEmpty lines → ⊥)
  follow-says = ⊎_elim (λ t. inl ((ends-exactly lines).0 t)) (λ t. inr (λ h. clash ends ((ends-exactly lines).1 h) t)) (split ends)

pub end-accepted : (a : Followed) → with_empty_end a ≡ Accepted ↔ ((lines : List Line) × (a ≡ follow lines) × EndsEmpty lines)
unfolding with_empty_end
end-accepted (fails n) = (
  λ e. absurd (let z : ◌≡◌ {A = ℕ} 0 1 = cc in omega arith),
  λ h. absurd (let e = h.1 in let z : ◌≡◌ {A = ℕ} 0 1 = cc in omega arith),
)
end-accepted (follow lines) = (
  λ e. ⊎_elim (λ t. (lines, refl, t)) (λ t. absurd (let y = sym (follow-fails lines t) ∙ e in let z : ◌≡◌ {A = ℕ} 0 1 = cc in omega arith))
      (follow-says lines),
  λ h. ap with_empty_end h.1 ∙ follow-accepted h.0 h.2,
)

-- "the first failing line, the line count if only the empty end is missing"
pub end-fails : (a : Followed) (n : ℕ) → with_empty_end a ≡ Fails n
    ↔ ((a ≡ fails n) ⊎ ((lines : List Line) × (a ≡ follow lines) × (EndsEmpty lines → ⊥) × (n ≡ length lines)))
unfolding with_empty_end
end-fails (fails m) n = (
  λ e. inl (let q : m ≡ n = cc in ap fails q),
  ⊎_elim (λ e. let q : m ≡ n = cc in ap Fails q) (λ h. absurd (let e = h.1 in let z : ◌≡◌ {A = ℕ} 0 1 = cc in omega arith)),
)
end-fails (follow lines) n = (
  λ e. ⊎_elim (λ t. absurd (let y = sym (follow-accepted lines t) ∙ e in let z : ◌≡◌ {A = ℕ} 0 1 = cc in omega arith))
      (λ t. inr (lines, refl, t, (let y = sym (follow-fails lines t) ∙ e in cc))) (follow-says lines),
  ⊎_elim (λ e. absurd (let z : ◌≡◌ {A = ℕ} 0 1 = cc in omega arith))
      (λ h. ap with_empty_end h.1 ∙ follow-fails h.0 h.2 ∙ ap Fails (sym h.3)),
)

pub end-unrefused : (a : Followed) (f : Refusal) (place : ℕ) → with_empty_end a ≡ Refused f place → ⊥
unfolding with_empty_end
end-unrefused (fails n) f place e = let z : ◌≡◌ {A = ℕ} 0 1 = cc in omega arith
end-unrefused (follow lines) f place e = by (ends_empty lines) e
  where
    by : (b : Bool) → cond b Accepted (Fails (length lines)) ≡ Refused f place → ⊥
    by true e = let z : ◌≡◌ {A = ℕ} 0 1 = cc in omega arith
    by false e = let z : ◌≡◌ {A = ℕ} 0 1 = cc in omega arith
