-- A resolvent by a rational says enough: where the resolvent of every pair holds, the bounds gathered agree, so the rule's value meets
-- them all, and every line with the rational holds. A line without it does not see it.
use Rattle.std.specs.Prelude.{◌≡◌, not, ◌||◌, List, ℕ, ◌≤◌, pos}
use Rattle.std.proofs.Math.Path.{refl}
use Rattle.std.proofs.Math.Bool.{or_comm}
use Rattle.std.proofs.Math.Logic.{⊎_elim}
use Rattle.std.proofs.Math.Option.{Option, none, some}
use Rattle.std.proofs.Math.Dec.{T}
use Rattle.std.proofs.Math.ListN.{get_or}
use Rattle.std.proofs.Math.Facts.{and_yes, yes_and, or_yes, T_not-not}
use Rattle.rules.specs.Arithmetic.{is_positive, is_negative, is_zero}
use Rattle.rules.specs.Problem.{Constraint}
use Rattle.rules.specs.Meaning.{Assignment, constraint_holds}
use Rattle.rules.specs.Lines.{Line, rational, a_literal_holds, the_constraint_holds, line_holds, coefficient, positively, negatively}
use Rattle.rules.specs.Lines.{contains}
use Rattle.rules.specs.Resolve.{combination, combination_of, resolvent}
use Rattle.rules.specs.Values.{Fraction, bound_of, gather, rational_value, with_rational}
use Rattle.theory_lists.specs.Tests.{split, clash, or_else, tests_agree}
use Rattle.theory_lists.specs.All.{All, all_map, all_both}
use Rattle.theory_vectors.specs.Sign.{zero-yes}
use Rattle.theory_vectors.specs.Constraint.{constraint-yes, yes-constraint}
use Rattle.theory_bounds.specs.Below.{Positive, Below}
use Rattle.theory_bounds.specs.Value.{Agree, value-meets-lowers, value-meets-uppers}
use Rattle.theory_bounds.specs.Meets.{bounds-agree, with-keeps, with-upper, with-lower}
use Rattle.theory_resolution.specs.Holds.{line-cases, by-literal, by-constraint}
use Rattle.theory_resolution.specs.Resolution.{resolvent-literals}
use Rattle.theory_resolution.specs.Variables.{nonzero, contains-rational}
use Rattle.theory_saturation.specs.Rule.{PairsHold, ContainersHold}
use Rattle.theory_saturation.specs.Gathered.{OfBound, gives, gather-all, all-gather, lowers-sound, uppers-sound, rational-sound}

module _ (f : ℕ) (χ : Assignment) (z : 1 ≤ χ.denominator) where
  -- ---- a line without the rational
  module _ (q : Fraction) (p : Positive q) where
    constraint-keeps : (k : Option Constraint) → T (not (nonzero (coefficient f k)))
        → the_constraint_holds (with_rational f q χ) k ≡ the_constraint_holds χ k
    unfolding the_constraint_holds coefficient
    constraint-keeps none n = refl
    constraint-keeps (some c) n =
        let a = get_or c.coefficients f (pos 0) in
        let r = with-keeps f q χ z p {s = c.strict} c.coefficients c.bound (zero-yes a (T_not-not (is_zero a) n)) in
        tests_agree (constraint_holds (with_rational f q χ) c) (constraint_holds χ c)
        (λ h. yes-constraint χ c (r.0 (constraint-yes (with_rational f q χ) c h)))
        (λ h. yes-constraint (with_rational f q χ) c (r.1 (constraint-yes χ c h)))

    pub rational-keeps : (l : Line) → T (not (contains (rational f) l)) → line_holds (with_rational f q χ) l ≡ line_holds χ l
    unfolding line_holds a_literal_holds with_rational
    rational-keeps l n = rw (constraint-keeps l.constraint (rw (contains-rational f l) at n))

    -- ---- a line with it: a value that meets its bound makes it hold
    upper-holds : (k : Option Constraint) → T (is_positive (coefficient f k)) → OfBound (λ g. Below g.strict q g.at) χ f k
        → T (the_constraint_holds (with_rational f q χ) k)
    unfolding the_constraint_holds coefficient bound_of is_positive
    upper-holds none s h = absurd s
    upper-holds (some c) s h = yes-constraint (with_rational f q χ) c (with-upper f q χ z p c.coefficients c.bound s h)

    lower-holds : (k : Option Constraint) → T (is_negative (coefficient f k)) → OfBound (λ g. Below g.strict g.at q) χ f k
        → T (the_constraint_holds (with_rational f q χ) k)
    unfolding the_constraint_holds coefficient bound_of is_negative
    lower-holds none s h = absurd s
    lower-holds (some c) s h = yes-constraint (with_rational f q χ) c (with-lower f q χ z p c.coefficients c.bound s h)

    literal-stays : (l : Line) → T (a_literal_holds χ l) → T (a_literal_holds (with_rational f q χ) l)
    unfolding a_literal_holds with_rational
    literal-stays l h = h

    line-holds : (l : Line) → (T (gives positively χ f l) → OfBound (λ g. Below g.strict q g.at) χ f l.constraint)
        → (T (gives negatively χ f l) → OfBound (λ g. Below g.strict g.at q) χ f l.constraint)
        → T (contains (rational f) l) → T (line_holds (with_rational f q χ) l)
    unfolding contains positively negatively
    line-holds l up low c =
        let k = l.constraint in
        ⊎_elim (λ t. by-literal (with_rational f q χ) l (literal-stays l t))
        (λ n. by-constraint (with_rational f q χ) l
        (⊎_elim (λ s. upper-holds k s (up (yes_and (is_positive (coefficient f k)) (not (a_literal_holds χ l)) s n)))
        (λ s. lower-holds k s (low (yes_and (is_negative (coefficient f k)) (not (a_literal_holds χ l)) s n)))
        (or_yes (is_positive (coefficient f k)) (is_negative (coefficient f k)) c)))
        (split (a_literal_holds χ l))

  -- ---- a combination that holds makes the two bounds agree
  Compatible : Option Constraint → Option Constraint → Type 0
  Compatible u l = OfBound (λ g. OfBound (λ h. Below (h.strict || g.strict) h.at g.at) χ f l) χ f u

  constraints-agree : (u l : Option Constraint) → T (is_positive (coefficient f u)) → T (is_negative (coefficient f l))
      → T (the_constraint_holds χ (combination_of f u l)) → Compatible u l
  unfolding Compatible the_constraint_holds combination_of combination coefficient bound_of
  constraints-agree none l p n h = tt
  constraints-agree (some u) none p n h = tt
  constraints-agree (some u) (some l) p n h =
      rw (or_comm l.strict u.strict)
      (bounds-agree f u.coefficients u.bound l.coefficients l.bound χ.numerators χ.denominator z p n
      (constraint-yes χ (combination f u l) h))

  lines-agree : (u l : Line) → T (gives positively χ f u) → T (gives negatively χ f l) → (T (positively (rational f) u)
      → T (negatively (rational f) l) → T (line_holds χ (resolvent (rational f) u l))) → Compatible u.constraint l.constraint
  unfolding positively negatively resolvent
  lines-agree u l gu gl h =
      let p = and_yes (is_positive (coefficient f u.constraint)) (not (a_literal_holds χ u)) gu in
      let n = and_yes (is_negative (coefficient f l.constraint)) (not (a_literal_holds χ l)) gl in
      ⊎_elim (λ t. clash (a_literal_holds χ l)
      (or_else (a_literal_holds χ u) (a_literal_holds χ l) p.1 (rw (resolvent-literals χ (rational f) u l) at t)) n.1)
      (λ t. constraints-agree u.constraint l.constraint p.0 n.0 t) (line-cases χ (resolvent (rational f) u l) (h p.0 n.0))

  module _ (ls : List Line) (ps : PairsHold χ (rational f) ls) where
    lowers-agree : (k : Option Constraint) → All (λ l. T (gives negatively χ f l) → Compatible k l.constraint) ls
        → OfBound (λ g. All (λ h. Below (h.strict || g.strict) h.at g.at) (gather negatively χ f ls)) χ f k
    unfolding Compatible
    lowers-agree none h = tt
    lowers-agree (some c) h = gather-all (λ h. Below (h.strict || c.strict) h.at (bound_of χ f c)) χ f negatively ls h

    gathered-agree : Agree (gather negatively χ f ls) (gather positively χ f ls)
    gathered-agree =
        gather-all (λ g. All (λ h. Below (h.strict || g.strict) h.at g.at) (gather negatively χ f ls)) χ f positively ls
        (all_map (λ u. All
        (λ l. T (positively (rational f) u) → T (negatively (rational f) l) → T (line_holds χ (resolvent (rational f) u l))) ls)
        (λ u. T (gives positively χ f u)
        → OfBound (λ g. All (λ h. Below (h.strict || g.strict) h.at g.at) (gather negatively χ f ls)) χ f u.constraint) ls
        (λ u h gu. lowers-agree u.constraint
        (all_map (λ l. T (positively (rational f) u) → T (negatively (rational f) l) → T (line_holds χ (resolvent (rational f) u l)))
        (λ l. T (gives negatively χ f l) → Compatible u.constraint l.constraint) ls (λ l k gl. lines-agree u l gu gl k) h))
        ps)

    -- ---- the rule's value
    pub rational-enough : ContainersHold (with_rational f (rational_value χ f ls) χ) (rational f) ls
    unfolding rational_value
    rational-enough =
        let q = rational_value χ f ls in
        let low = lowers-sound χ z f ls in
        let up = uppers-sound χ z f ls in
        let us = all-gather (λ g. Below g.strict q g.at) χ f positively ls
        (value-meets-uppers (gather negatively χ f ls) (gather positively χ f ls) low up gathered-agree) in
        let bs = all-gather (λ g. Below g.strict g.at q) χ f negatively ls
        (value-meets-lowers (gather negatively χ f ls) (gather positively χ f ls) low up gathered-agree) in
        let Up : Line → Type 0 = λ l. T (gives positively χ f l) → OfBound (λ g. Below g.strict q g.at) χ f l.constraint in
        let Low : Line → Type 0 = λ l. T (gives negatively χ f l) → OfBound (λ g. Below g.strict g.at q) χ f l.constraint in
        all_map (λ l. Up l × Low l) (λ l. T (contains (rational f) l) → T (line_holds (with_rational f q χ) l)) ls
        (λ l h. line-holds q (rational-sound χ z f ls) l h.0 h.1) (all_both Up Low ls us bs)
