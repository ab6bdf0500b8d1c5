-- A resolvent by a Boolean says enough: where the resolvent of every pair holds, the rule's yes or no makes every line with the Boolean
-- hold, and a line without it does not see it.
use Rattle.std.specs.Prelude.{◌≡◌, refl, Bool, true, false, ◌&&◌, ◌⊎◌, List, ℕ, T}
use Rattle.std.proofs.Math.Path.{sym}
use Rattle.std.proofs.Math.Bool.{not}
use Rattle.std.proofs.Common.{inl, inr, ⊎_elim}
use Rattle.std.proofs.Math.Logic.{⊎_map}
use Rattle.std.proofs.Math.Option.{Option, none, some}
use Rattle.std.proofs.Math.Facts.{and_yes, or_yes, or_no}
use Rattle.rules.specs.Lists.{put}
use Rattle.rules.specs.Problem.{Constraint}
use Rattle.rules.specs.Meaning.{Assignment}
use Rattle.rules.specs.Lines.{Booleans, Line, boolean, a_literal_holds, the_constraint_holds, line_holds, positively, negatively, contains}
use Rattle.rules.specs.Resolve.{one_of, resolvent}
use Rattle.rules.specs.Values.{without_boolean, boolean_value, with_boolean}
use Rattle.theory_lists.specs.Tests.{of-true, of-false, is_false, clash, unless}
use Rattle.theory_lists.specs.All.{All, all_any, all_map, any-yes, any-no}
use Rattle.theory_vectors.specs.Put.{put_same, put_other}
use Rattle.theory_resolution.specs.Members.{has, Within, excluded, else-yes, member-yes}
use Rattle.theory_resolution.specs.Holds.{line-cases, by-literal, by-constraint, by-positive, by-negative, literals-map, line-map}
use Rattle.theory_resolution.specs.Choosing.{Same, line-choosing}
use Rattle.theory_resolution.specs.Resolution.{resolvent-literals}
use Rattle.theory_saturation.specs.Rule.{PairsHold, ContainersHold}

-- ---- a line without the Boolean
module _ (i : ℕ) (a : Bool) (χ : Assignment) where
  -- the others keep their values
  others_same : (s : Booleans) → has s i ≡ false → Within (Same χ (put i a χ.booleans)) s
  others_same s e j h = sym (put_other i a χ.booleans j (λ q. rw (q, e) at h))

  keeps : (l : Line) → has l.positive i ≡ false → has l.negative i ≡ false → line_holds (with_boolean i a χ) l ≡ line_holds χ l
  unfolding with_boolean
  keeps l p n = sym (line-choosing χ (put i a χ.booleans) l (others_same l.positive p) (others_same l.negative n))

  pub boolean-keeps : (l : Line) → T (not (contains (boolean i) l)) → line_holds (with_boolean i a χ) l ≡ line_holds χ l
  unfolding contains positively negatively
  boolean-keeps l n =
      let r = or_no (has l.positive i) (has l.negative i) n in
      keeps l (is_false (has l.positive i) r.0) (is_false (has l.negative i) r.1)

  -- ---- a line with it: what holds without it holds with any value of it
  without-holds : (l : Line) → T (line_holds χ (without_boolean i l)) → T (line_holds (with_boolean i a χ) l)
  unfolding without_boolean
  without-holds l h =
      let ψ = with_boolean i a χ in
      line-map ψ ψ (without_boolean i l) l
      (literals-map ψ ψ (without_boolean i l) l (else-yes i l.positive ψ.booleans)
      (else-yes i l.negative (λ j. not (ψ.booleans j)))) (λ k. k)
      (rw (keeps (without_boolean i l) (excluded i l.positive) (excluded i l.negative)) h)

yes-holds : (i : ℕ) (χ : Assignment) (l : Line) → T (positively (boolean i) l) → T (line_holds (with_boolean i true χ) l)
unfolding positively with_boolean
yes-holds i χ l h =
    let ψ = with_boolean i true χ in
    by-literal ψ l (by-positive ψ l (member-yes l.positive ψ.booleans i h (rw (put_same i true χ.booleans) tt)))

no-holds : (i : ℕ) (χ : Assignment) (l : Line) → T (negatively (boolean i) l) → T (line_holds (with_boolean i false χ) l)
unfolding negatively with_boolean
no-holds i χ l h =
    let ψ = with_boolean i false χ in
    by-literal ψ l (by-negative ψ l (member-yes l.negative (λ j. not (ψ.booleans j)) i h (rw (put_same i false χ.booleans) tt)))

-- ---- a resolvent says that one parent holds without it
one_of-holds : (χ : Assignment) (u l : Option Constraint) → T (the_constraint_holds χ (one_of u l)) → T (the_constraint_holds χ u)
    ⊎ T (the_constraint_holds χ l)
unfolding one_of
one_of-holds χ none l h = inr h
one_of-holds χ (some u) l h = inl h

one_parent : (i : ℕ) (χ : Assignment) (u l : Line) → T (line_holds χ (resolvent (boolean i) u l)) → T (line_holds χ (without_boolean i u))
    ⊎ T (line_holds χ (without_boolean i l))
unfolding resolvent without_boolean
one_parent i χ u l h =
    let U = without_boolean i u in
    let L = without_boolean i l in
    ⊎_elim (λ k. ⊎_map (by-literal χ U) (by-literal χ L)
    (or_yes (a_literal_holds χ U) (a_literal_holds χ L) (rw (resolvent-literals χ (boolean i) u l) at k)))
    (λ k. ⊎_map (by-constraint χ U) (by-constraint χ L) (one_of-holds χ u.constraint l.constraint k))
    (line-cases χ (resolvent (boolean i) u l) h)

-- ---- the rule's yes or no
needed : ℕ → Assignment → Line → Bool
needed i χ l = positively (boolean i) l && not (line_holds χ (without_boolean i l))

value-enough : (i : ℕ) (χ : Assignment) (ls : List Line) (a : Bool) → boolean_value χ i ls ≡ a → PairsHold χ (boolean i) ls
    → ContainersHold (with_boolean i a χ) (boolean i) ls
unfolding boolean_value contains needed
value-enough i χ ls true e ps =
    all_any (λ u. All (λ l. T (positively (boolean i) u) → T (negatively (boolean i) l) → T (line_holds χ (resolvent (boolean i) u l))) ls)
    (λ u. T (needed i χ u)) ls
    (λ u h t. let r = and_yes (positively (boolean i) u) (not (line_holds χ (without_boolean i u))) t in
    all_map (λ l. T (positively (boolean i) u) → T (negatively (boolean i) l) → T (line_holds χ (resolvent (boolean i) u l)))
    (λ l. T (contains (boolean i) l) → T (line_holds (with_boolean i true χ) l)) ls
    (λ l f c. ⊎_elim (yes-holds i χ l) (λ k. without-holds i true χ l (⊎_elim (λ t. clash (line_holds χ (without_boolean i u)) t r.1)
    (λ t. t) (one_parent i χ u l (f r.0 k)))) (or_yes (positively (boolean i) l) (negatively (boolean i) l) c)) h)
    ps (any-yes (needed i χ) ls (of-true (boolean_value χ i ls) e))
value-enough i χ ls false e ps =
    all_map (λ l. T (not (needed i χ l))) (λ l. T (contains (boolean i) l) → T (line_holds (with_boolean i false χ) l)) ls
    (λ l n c. ⊎_elim (λ k. without-holds i false χ l (unless (positively (boolean i) l) (line_holds χ (without_boolean i l)) n k))
    (no-holds i χ l) (or_yes (positively (boolean i) l) (negatively (boolean i) l) c))
    (any-no (needed i χ) ls (of-false (boolean_value χ i ls) e))

pub boolean-enough : (i : ℕ) (χ : Assignment) (ls : List Line) → PairsHold χ (boolean i) ls
    → ContainersHold (with_boolean i (boolean_value χ i ls) χ) (boolean i) ls
boolean-enough i χ ls ps = value-enough i χ ls (boolean_value χ i ls) refl ps
