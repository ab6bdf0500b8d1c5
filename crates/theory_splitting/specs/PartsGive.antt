-- The parts of a normal clause give the clause: from the last one back, each split variable passes on what is left.
use Rattle.std.proofs.Common.{subst, inl, inr}
use Rattle.std.specs.Prelude.{Bool, false, not, ◌⊎◌, List, [], ◌∷◌, ℕ, suc}
use Rattle.std.proofs.Math.Logic.{⊎_elim}
use Rattle.std.proofs.Math.Option.{none, some}
use Rattle.std.proofs.Math.Dec.{T}
use Rattle.std.proofs.Math.Facts.{or_yes}
use Rattle.theory_lists.specs.Tests.{clash, or_l, or_r}
use Rattle.theory_lists.specs.All.{All}
use Rattle.rules.specs.Lists.{any}
use Rattle.rules.specs.Problem.{Constraint}
use Rattle.rules.specs.Meaning.{Assignment, constraint_holds}
use Rattle.rules.specs.Lines.{Booleans, no_booleans, including, some_yes, the_constraint_holds, line_holds}
use Rattle.rules.specs.Normalize.{Normal}
use Rattle.rules.specs.Split.{chain, parts}
use Rattle.theory_resolution.specs.Members.{none-yes, including-has, yes-member, member-yes}
use Rattle.theory_resolution.specs.Holds.{no-constraint}
use Rattle.theory_splitting.specs.NormalClause.{normal_holds}
use Rattle.theory_splitting.specs.Parts.{part, whole, literal, normal-cases, by-literals, by-constraints, part-cases}

including-yes : (i : ℕ) (s : Booleans) (f : ℕ → Bool) → T (some_yes (including i s) f) → T (f i) ⊎ T (some_yes s f)
including-yes i s f h =
    let r = yes-member (including i s) f h in
    ⊎_elim (λ e. inl (subst (λ (j : ℕ). T (f j)) e r.yes)) (λ k. inr (member-yes s f r.member k r.yes))
    (including-has i s r.member r.belongs)

module _ (χ : Assignment) (k : ℕ) where
  abbrev no : ℕ → Bool
  no i = not (χ.booleans i)

  -- with the previous split variable yes, its negation fails in the next part
  unlinked : T (χ.booleans k) → T (literal χ no_booleans (including k no_booleans)) → ⊥
  unlinked y h =
      ⊎_elim (λ e. subst T (none-yes χ.booleans) e)
      (λ e. ⊎_elim (λ z. clash (χ.booleans k) y z) (λ z. subst T (none-yes no) z) (including-yes k no_booleans no e))
      (or_yes (some_yes no_booleans χ.booleans) (some_yes (including k no_booleans) no) h)

  one-part : (p n : Booleans) (c : Constraint) (cs : List Constraint) → T (line_holds χ (part (including k p) n (some c)))
      → T (normal_holds χ (whole no_booleans (including k no_booleans) cs)) → T (normal_holds χ (whole p n (c ∷ cs)))
  unfolding any the_constraint_holds
  one-part p n c cs h r =
      let P = some_yes p χ.booleans in
      let N = some_yes n no in
      let C = constraint_holds χ c in
      let D = any (constraint_holds χ) cs in
      let left : T (χ.booleans k) → T D =
      λ y. ⊎_elim (λ t. absurd (unlinked y t)) (λ t. t) (normal-cases χ no_booleans (including k no_booleans) cs r) in
      ⊎_elim
      (λ t. ⊎_elim (λ y. ⊎_elim (λ z. by-constraints χ p n (c ∷ cs) (or_r C D (left z))) (λ z. by-literals χ p n (c ∷ cs) (or_l P N z))
      (including-yes k p χ.booleans y))
      (λ y. by-literals χ p n (c ∷ cs) (or_r P N y)) (or_yes (some_yes (including k p) χ.booleans) N t))
      (λ t. by-constraints χ p n (c ∷ cs) (or_l C D t)) (part-cases χ (including k p) n (some c) h)

chain-gives : (χ : Assignment) (k : ℕ) (p n : Booleans) (c : Constraint) (cs : List Constraint)
    → All (λ l. T (line_holds χ l)) (chain k p n c cs) → T (normal_holds χ (whole p n (c ∷ cs)))
unfolding chain any the_constraint_holds
chain-gives χ k p n c [] h = ⊎_elim (by-literals χ p n (c ∷ [])) (λ t. by-constraints χ p n (c ∷ []) (or_l (constraint_holds χ c) false t))
    (part-cases χ p n (some c) h.0)
chain-gives χ k p n c (d ∷ ds) h =
    one-part χ k p n c (d ∷ ds) h.0 (chain-gives χ (suc k) no_booleans (including k no_booleans) d ds h.1)

parts-of : (χ : Assignment) (k : ℕ) (p n : Booleans) (cs : List Constraint) → All (λ l. T (line_holds χ l)) (parts k (whole p n cs))
    → T (normal_holds χ (whole p n cs))
unfolding parts
parts-of χ k p n [] h = ⊎_elim (by-literals χ p n []) (λ t. absurd (no-constraint χ t)) (part-cases χ p n none h.0)
parts-of χ k p n (c ∷ cs) h = chain-gives χ k p n c cs h

pub parts-give : (χ : Assignment) (k : ℕ) (c : Normal) → All (λ l. T (line_holds χ l)) (parts k c) → T (normal_holds χ c)
parts-give χ k c h = parts-of χ k c.positive c.negative c.constraints h
