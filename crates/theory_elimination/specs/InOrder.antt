-- A round's pairs: "its lines with it positive (upper bounds) are paired, in line order, with the lines with it negative, the inner loop".
-- All of them are there, and one comes before another if its upper does, or both have the same upper and its lower does.
use Rattle.std.specs.Prelude.{◌≡◌, refl, Bool, ◌&&◌, ◌⊎◌, eqb}
use Rattle.std.proofs.Common.{sym, ap, ◌∙◌, subst, arith}
use Rattle.std.proofs.Math.Bool.{true, false}
use Rattle.std.proofs.Math.Logic.{inl, inr}
use mathlib.Core.List.{List, [], ◌∷◌, ◌++◌, map}
use Prim.Native.Nat.{ℕ, zero, suc, ◌+◌, ◌<◌, ◌≤◌}
use Rattle.std.proofs.Math.Dec.{T}
use Rattle.std.proofs.Math.Facts.{yes_and, yes_eqb}
use Rattle.rules.specs.Lines.{Line, Variable, positively, negatively}
use Rattle.rules.specs.Steps.{Step}
use Rattle.rules.specs.Elimination.{Numbered, Pair, round_of, select, pair_up, side_of, round_pairs}
use Rattle.theory_lists.specs.Tests.{is_true}
use Rattle.theory_lists.specs.All.{All, Any, all_map, all_append, any_left, any-right, any-map, kept-one}
use Rattle.theory_elimination.specs.Pairs.{LineAt, PairOf, round-pairs}

abbrev pub Before : Pair → Pair → Type 0
Before p q = (p.upper.number < q.upper.number)
    ⊎ ((p.upper.number ≡ q.upper.number) × (p.lower.number < q.lower.number))

abbrev pub Increasing : List Pair → Type 0
Increasing [] = Unit {0}
Increasing (p ∷ ps) = All (Before p) ps × Increasing ps

-- of the lines of a proof, in the round of number t, by its variable
pub record InOrder (variables : List Variable) (v : Variable) (t : ℕ) (steps : List Step) (ps : List Pair) : Type 0 where
  pub only : All (PairOf variables v t steps) ps
  pub every : (i j : ℕ) (u l : Line) → LineAt steps i u → LineAt steps j l → T (positively v u) → T (negatively v l)
      → round_of variables u ≡ t → round_of variables l ≡ t → Any (λ p. (p.upper.number ≡ i) × (p.lower.number ≡ j)) ps
  pub increasing : Increasing ps

-- ---- selected lines are numbered in order, and every line that passes is among them
abbrev pub Rising : List Numbered → Type 0
Rising [] = Unit {0}
Rising (x ∷ xs) = All (λ y. x.number < y.number) xs × Rising xs

module _ (test : Line → Bool) where
  select-from : (n : ℕ) (ss : List Step) → All (λ x. n ≤ x.number) (select test n ss)
  unfolding select
  select-from n [] = tt
  select-from n (s ∷ ss) =
      kept-one (λ x. n ≤ x.number) (record { number = n; line = s.line }) (select test (suc n) ss) (test s.line) (λ h. omega arith)
      (all_map (λ x. suc n ≤ x.number) (λ x. n ≤ x.number) (select test (suc n) ss) (λ x h. omega (arith, h)) (select-from (suc n) ss))

  pub select-rising : (n : ℕ) (ss : List Step) → Rising (select test n ss)
  unfolding select
  select-rising n [] = tt
  select-rising n (s ∷ ss) = by (test s.line) (select-from (suc n) ss) (select-rising (suc n) ss)
    where
      by : (t : Bool) → All (λ x. suc n ≤ x.number) (select test (suc n) ss) → Rising (select test (suc n) ss)
          → Rising (elim t [ true ↦ record { number = n; line = s.line } ∷ select test (suc n) ss | false ↦ select test (suc n) ss ])
      by true h r = (
        all_map (λ x. suc n ≤ x.number) (λ x. n < x.number) (select test (suc n) ss) (λ x h. omega (arith, h)) h,
        r,
      )
      by false h r = r

  pub select-every : (n : ℕ) (ss : List Step) (i : ℕ) (l : Line) → LineAt ss i l → T (test l)
      → Any (λ (x : Numbered). x.number ≡ n + i) (select test n ss)
  unfolding select
  select-every n [] i l a h = absurd a
  select-every n (s ∷ ss) zero l a h = by (test s.line) (rw a h)
    where
      by : (t : Bool) → T t → Any (λ (x : Numbered). x.number ≡ n + zero)
          (elim t [ true ↦ record { number = n; line = s.line } ∷ select test (suc n) ss | false ↦ select test (suc n) ss ])
      by true k = inl (omega arith)
      by false k = absurd k
  select-every n (s ∷ ss) (suc i) l a h =
      by (test s.line) (any-map (λ (x : Numbered). x.number ≡ suc n + i) (λ (x : Numbered). x.number ≡ n + suc i)
      (select test (suc n) ss)
      (λ x e. omega (arith, e)) (select-every (suc n) ss i l a h))
    where
      by : (t : Bool) → Any (λ (x : Numbered). x.number ≡ n + suc i) (select test (suc n) ss)
          → Any (λ (x : Numbered). x.number ≡ n + suc i)
          (elim t [ true ↦ record { number = n; line = s.line } ∷ select test (suc n) ss | false ↦ select test (suc n) ss ])
      by true k = inr k
      by false k = k

-- ---- so are pairs of them
abbrev with : Numbered → List Numbered → List Pair
with u ls = map (λ l. record { upper = u; lower = l }) ls

with-above : (p : Pair) (u : Numbered) (ls : List Numbered) → p.upper.number < u.number → All (Before p) (with u ls)
with-above p u [] h = tt
with-above p u (l ∷ ls) h = (inl h, with-above p u ls h)

pairs-above : (p : Pair) (us ls : List Numbered) → All (λ u. p.upper.number < u.number) us → All (Before p) (pair_up us ls)
unfolding pair_up
pairs-above p [] ls h = tt
pairs-above p (u ∷ us) ls h =
    all_append (Before p) (with u ls) (pair_up us ls) (with-above p u ls h.0) (pairs-above p us ls h.1)

with-increasing : (u : Numbered) (us all ls : List Numbered) → All (λ x. u.number < x.number) us → Rising ls
    → Increasing (pair_up us all) → Increasing (with u ls ++ pair_up us all)
with-increasing u us all [] h r k = k
with-increasing u us all (l ∷ ls) h r k = (
  all_append (Before (record { upper = u; lower = l })) (with u ls) (pair_up us all) (same-upper ls r.0)
      (pairs-above (record { upper = u; lower = l }) us all h),
  with-increasing u us all ls h r.1 k,
)
  where
    same-upper : (xs : List Numbered) → All (λ y. l.number < y.number) xs → All (Before (record { upper = u; lower = l })) (with u xs)
    same-upper [] g = tt
    same-upper (x ∷ xs) g = (inr (refl, g.0), same-upper xs g.1)

pairs-increasing : (us ls : List Numbered) → Rising us → Rising ls → Increasing (pair_up us ls)
unfolding pair_up
pairs-increasing [] ls h k = tt
pairs-increasing (u ∷ us) ls h k = with-increasing u us ls ls h.0 k (pairs-increasing us ls h.1 k)

module _ (i j : ℕ) where
  abbrev Of-both : Pair → Type 0
  Of-both p = (p.upper.number ≡ i) × (p.lower.number ≡ j)

  with-every : (u : Numbered) (ls : List Numbered) → u.number ≡ i → Any (λ l. l.number ≡ j) ls → Any Of-both (with u ls)
  with-every u [] e h = absurd h
  with-every u (l ∷ ls) e (inl h) = inl (e, h)
  with-every u (l ∷ ls) e (inr h) = inr (with-every u ls e h)

  pairs-every : (us ls : List Numbered) → Any (λ u. u.number ≡ i) us → Any (λ l. l.number ≡ j) ls → Any Of-both (pair_up us ls)
  unfolding pair_up
  pairs-every [] ls h k = absurd h
  pairs-every (u ∷ us) ls (inl h) k = any_left Of-both (with u ls) (pair_up us ls) (with-every u ls h k)
  pairs-every (u ∷ us) ls (inr h) k = any-right Of-both (with u ls) (pair_up us ls) (pairs-every us ls h k)

pub round-in-order : (variables : List Variable) (v : Variable) (t : ℕ) (steps : List Step)
    → InOrder variables v t steps (round_pairs variables v t steps)
unfolding round_pairs side_of
round-in-order variables v t steps =
    record {
      only = round-pairs variables v t steps;
      every = λ i j u l a b p n e f. pairs-every i j (select (test positively) 0 steps) (select (test negatively) 0 steps)
          (side positively i u a p e) (side negatively j l b n f);
      increasing = pairs-increasing (select (test positively) 0 steps) (select (test negatively) 0 steps)
          (select-rising (test positively) 0 steps) (select-rising (test negatively) 0 steps);
    }
  where
    test : (Variable → Line → Bool) → Line → Bool
    test side l = side v l && eqb (round_of variables l) t

    side : (of : Variable → Line → Bool) (i : ℕ) (l : Line) → LineAt steps i l → T (of v l) → round_of variables l ≡ t
        → Any (λ x. x.number ≡ i) (select (test of) 0 steps)
    side of i l a h e =
        let z : 0 + i ≡ i = omega arith in
        rw z at (select-every (test of) 0 steps i l a (yes_and (of v l) (eqb (round_of variables l) t) h (yes_eqb e)))
