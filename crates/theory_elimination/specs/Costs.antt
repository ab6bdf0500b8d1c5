-- What a rational variable costs: "U × L - U - L, U and L being its uppers and lowers among the lines without a figure already taken".
use Rattle.std.specs.Prelude.{◌≡◌, refl, Bool, true, false, not, ◌&&◌, List, [], ◌∷◌, ℕ, suc, ◌+◌, ◌*◌, pos, ◌-ℤ◌, T, length}
use Rattle.std.proofs.Common.{ap, subst, arith}
use Rattle.std.proofs.Math.Facts.{and_yes, yes_and}
use Rattle.rules.specs.Lists.{any, filter}
use Rattle.rules.specs.Lines.{Line, Variable, rational, positively, negatively, contains}
use Rattle.rules.specs.Steps.{Step}
use Rattle.rules.specs.Elimination.{Numbered, select, without, count, cost_of, cost}
use Rattle.theory_lists.specs.All.{All, Any, all_map, any-map, any-no}
use Rattle.theory_lists.specs.Tests.{nor}
use Rattle.theory_elimination.specs.Pairs.{LineAt, Selected, select-selected}
use Rattle.theory_elimination.specs.InOrder.{Rising, select-rising, select-every}

-- it has none of these rational variables
abbrev pub Untaken : List ℕ → Line → Type 0
Untaken taken l = All (λ g. T (not (contains (rational g) l))) taken

-- the lines that have f on a side, without a variable taken, each once
pub record Sided (side : Variable → Line → Bool) (taken : List ℕ) (steps : List Step) (f : ℕ) (xs : List Numbered) : Type 0 where
  pub only : All (λ x. LineAt steps x.number x.line × T (side (rational f) x.line) × Untaken taken x.line) xs
  pub every : (i : ℕ) (l : Line) → LineAt steps i l → T (side (rational f) l) → Untaken taken l → Any (λ x. x.number ≡ i) xs
  pub rising : Rising xs

pub record Costs (taken : List ℕ) (steps : List Step) (f : ℕ) : Type 0 where
  pub uppers : List Numbered
  pub upper : Sided positively taken steps f uppers
  pub lowers : List Numbered
  pub lower : Sided negatively taken steps f lowers
  pub is : cost taken steps f ≡ pos (length uppers * length lowers) -ℤ pos (length uppers) -ℤ pos (length lowers)

-- ---- the test, and what it says
without-yes : (taken : List ℕ) (l : Line) → T (without taken l) → Untaken taken l
unfolding without
without-yes taken l h = any-no (λ f. contains (rational f) l) taken h

yes-without : (taken : List ℕ) (l : Line) → Untaken taken l → T (without taken l)
unfolding without any
yes-without [] l h = tt
yes-without (f ∷ taken) l h =
    nor (contains (rational f) l) (any (λ g. contains (rational g) l) taken) h.0 (yes-without taken l h.1)

length-select : (test : Line → Bool) (n : ℕ) (steps : List Step)
    → length (filter (λ s. test s.line) steps) ≡ length (select test n steps)
unfolding filter select
length-select test n [] = refl
length-select test n (s ∷ ss) = by (test s.line) (length-select test (suc n) ss)
  where
    by : (b : Bool) → length (filter (λ x. test x.line) ss) ≡ length (select test (suc n) ss)
        → length {A = Step} (elim b [ true ↦ s ∷ filter (λ x. test x.line) ss | false ↦ filter (λ x. test x.line) ss ])
        ≡ length {A = Numbered} (elim b [
          | true ↦ record { number = n; line = s.line } ∷ select test (suc n) ss
          | false ↦ select test (suc n) ss
        ])
    by true e = ap suc e
    by false e = e

module _ (side : Variable → Line → Bool) (taken : List ℕ) (steps : List Step) (f : ℕ) where
  abbrev test : Line → Bool
  test l = without taken l && side (rational f) l

  sided : Sided side taken steps f (select test 0 steps)
  sided =
      record {
        only = all_map (Selected test 0 steps) _ (select test 0 steps) (λ x h.
            let r = and_yes (without taken x.line) (side (rational f) x.line) h.passes in
            let e : h.place ≡ x.number = omega (arith, h.number) in
            (subst (λ (i : ℕ). LineAt steps i x.line) e h.at, r.1, without-yes taken x.line r.0))
            (select-selected test 0 steps);
        every = λ i l a s u.
            any-map (λ (x : Numbered). x.number ≡ 0 + i) (λ (x : Numbered). x.number ≡ i) (select test 0 steps) (λ x e. omega (arith, e))
            (select-every test 0 steps i l a (yes_and (without taken l) (side (rational f) l) (yes-without taken l u) s));
        rising = select-rising test 0 steps;
      }

  count-is : count side taken steps f ≡ length (select test 0 steps)
  unfolding count
  count-is = length-select test 0 steps

pub costs : (taken : List ℕ) (steps : List Step) (f : ℕ) → Costs taken steps f
unfolding cost cost_of
costs taken steps f =
    let u = count-is positively taken steps f in
    let l = count-is negatively taken steps f in
    record {
      uppers = select (λ m. without taken m && positively (rational f) m) 0 steps;
      upper = sided positively taken steps f;
      lowers = select (λ m. without taken m && negatively (rational f) m) 0 steps;
      lower = sided negatively taken steps f;
      is = λ i. cost_of (u i) (l i);
    }
