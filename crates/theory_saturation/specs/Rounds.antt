-- A line's round is the place of the first variable that it contains; what has only variables of two lines, without the variable of
-- their round, belongs to a later one.
use Rattle.std.specs.Prelude.{◌≡◌, not, ◌⊎◌, List, [], ◌∷◌, ℕ, zero, suc, ◌≤◌, ◌<◌, T, length, drop}
use Rattle.std.proofs.Common.{sym, ◌∙◌, subst, ⊎_elim, arith}
use Rattle.std.proofs.Math.Facts.{not_T}
use Rattle.rules.specs.Lists.{any}
use Rattle.rules.specs.Lines.{Line, Variable, contains}
use Rattle.rules.specs.Elimination.{round_of}
use Rattle.theory_lists.specs.Places.{AtPlace, place-both}
use Rattle.theory_lists.specs.Tests.{split, is_true, is_false, clash, or_l, or_r, or_else}

-- ---- variable v at place t
abbrev pub At : List Variable → ℕ → Variable → Type 0
At vs t v = AtPlace (λ w. w ≡ v) vs t

pub at-unique : (vs : List Variable) (t : ℕ) (v w : Variable) → At vs t v → At vs t w → v ≡ w
at-unique vs t v w a b = place-both (λ z. z ≡ v) (λ z. z ≡ w) vs t (λ z e f. sym e ∙ f) a b

no-variable {ℓ} : {X : Type ℓ} {v : Variable} {vs : List Variable} → [] ≡ v ∷ vs → X
no-variable e = absurd (let z : ◌≡◌ {A = ℕ} 0 1 = cc in omega arith)

-- where from place t on there are v and then vs
pub drop_at : (ws : List Variable) (t : ℕ) (v : Variable) (vs : List Variable) → drop t ws ≡ v ∷ vs → At ws t v
drop_at [] zero v vs e = no-variable e
drop_at [] (suc t) v vs e = no-variable e
drop_at (w ∷ ws) zero v vs e = cc
drop_at (w ∷ ws) (suc t) v vs e = drop_at ws t v vs e

pub at_drop : (ws : List Variable) (t : ℕ) (v : Variable) → At ws t v → drop t ws ≡ v ∷ drop (suc t) ws
at_drop [] t v a = absurd a
at_drop (w ∷ ws) zero v a = cc
at_drop (w ∷ ws) (suc t) v a = at_drop ws t v a

pub drop-next : (ws : List Variable) (t : ℕ) (v : Variable) (vs : List Variable) → drop t ws ≡ v ∷ vs → drop (suc t) ws ≡ vs
drop-next [] zero v vs e = no-variable e
drop-next [] (suc t) v vs e = no-variable e
drop-next (w ∷ ws) zero v vs e = cc
drop-next (w ∷ ws) (suc t) v vs e = drop-next ws t v vs e

pub drop-none : (ws : List Variable) (t : ℕ) → drop t ws ≡ [] → length ws ≤ t
drop-none [] t e = omega arith
drop-none (w ∷ ws) zero e = no-variable (sym e)
drop-none (w ∷ ws) (suc t) e = let h = drop-none ws t e in omega arith

-- ---- the round
round-here : (v : Variable) (vs : List Variable) (l : Line) → T (contains v l) → round_of (v ∷ vs) l ≡ 0
unfolding round_of
round-here v vs l h = rw (is_true (contains v l) h, round_of)

round-on : (v : Variable) (vs : List Variable) (l : Line) → T (not (contains v l)) → round_of (v ∷ vs) l ≡ suc (round_of vs l)
unfolding round_of
round-on v vs l h = rw (is_false (contains v l) h, round_of)

pub round-below : (vs : List Variable) (l : Line) → T (any (λ v. contains v l) vs) → round_of vs l < length vs
unfolding any
round-below [] l h = absurd h
round-below (v ∷ vs) l h =
    ⊎_elim (λ k. omega (arith, round-here v vs l k))
    (λ k. let r = round-below vs l (or_else (contains v l) (any (λ w. contains w l) vs) k h) in
    omega (arith, round-on v vs l k)) (split (contains v l))

pub at-contains : (vs : List Variable) (t : ℕ) (v : Variable) (l : Line) → At vs t v → T (contains v l) → T (any (λ w. contains w l) vs)
unfolding any
at-contains [] t v l a h = absurd a
at-contains (w ∷ ws) zero v l a h = or_l (contains w l) (any (λ y. contains y l) ws) (subst (λ (y : Variable). T (contains y l)) (sym a) h)
at-contains (w ∷ ws) (suc t) v l a h = or_r (contains w l) (any (λ y. contains y l) ws) (at-contains ws t v l a h)

-- its variable is in the line, and none before is
pub round-contains : (vs : List Variable) (t : ℕ) (v : Variable) (l : Line) → At vs t v → round_of vs l ≡ t → T (contains v l)
round-contains [] t v l a e = absurd a
round-contains (w ∷ ws) zero v l a e =
    subst (λ (y : Variable). T (contains y l)) a (⊎_elim (λ k. k) (λ k. absurd (omega (arith, round-on w ws l k))) (split (contains w l)))
round-contains (w ∷ ws) (suc t) v l a e =
    ⊎_elim (λ k. absurd (omega (arith, round-here w ws l k)))
    (λ k. round-contains ws t v l a (omega (arith, round-on w ws l k))) (split (contains w l))

pub round-before : (vs : List Variable) (t : ℕ) (v : Variable) (l : Line) → At vs t v → t < round_of vs l → T (not (contains v l))
round-before [] t v l a h = absurd a
round-before (w ∷ ws) zero v l a h = subst (λ (y : Variable). T (not (contains y l))) a
    (⊎_elim (λ k. absurd (omega (arith, round-here w ws l k))) (λ k. k) (split (contains w l)))
round-before (w ∷ ws) (suc t) v l a h =
    ⊎_elim (λ k. absurd (omega (arith, round-here w ws l k)))
    (λ k. round-before ws t v l a (omega (arith, round-on w ws l k))) (split (contains w l))

pub round-later : (vs : List Variable) (t : ℕ) (v : Variable) (u l j : Line) → At vs t v → t ≤ round_of vs u → t ≤ round_of vs l
    → ((w : Variable) → T (contains w j) → T (contains w u) ⊎ T (contains w l)) → T (not (contains v j)) → t < round_of vs j
round-later [] t v u l j a hu hl f n = absurd a
round-later (w ∷ ws) zero v u l j a hu hl f n = omega (arith, round-on w ws j (subst (λ (y : Variable). T (not (contains y j))) (sym a) n))
round-later (w ∷ ws) (suc t) v u l j a hu hl f n =
    ⊎_elim (λ k. absurd (omega (arith, round-here w ws u k)))
    (λ nu. ⊎_elim (λ k. absurd (omega (arith, round-here w ws l k)))
    (λ nl. let nj : T (not (contains w j)) =
    not_T (contains w j) (λ k. ⊎_elim (λ t. clash (contains w u) t nu) (λ t. clash (contains w l) t nl) (f w k)) in
    let r = round-later ws t v u l j a (omega (arith, round-on w ws u nu)) (omega (arith, round-on w ws l nl)) f n in
    omega (arith, round-on w ws j nj)) (split (contains w l))) (split (contains w u))
