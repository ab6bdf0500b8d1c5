-- Which numbers are wanted while the steps are gone through from the last to the first. A parent stands before its step: what wants a
-- number is gone through before the number.
use Rattle.std.specs.Prelude.{◌≡◌, true, false, not, cond, ◌||◌, ◌↔◌, ◌⊎◌, List, [], ◌∷◌, ◌++◌, eqb}
use Rattle.std.proofs.Common.{sym, subst, inl, inr, eq-or-lt_of_le, arith, eqb→eq}
use Rattle.std.proofs.Math.Logic.{⊎_elim}
use Prim.Native.Nat.{ℕ, zero, suc, ◌≤◌, ◌<◌}
use Rattle.std.proofs.Math.Dec.{T, eqb_refl}
use Rattle.std.proofs.Math.Facts.{or_yes}
use Rattle.rules_types.specs.Layout as layout
use Rattle.rules.specs.Lists.{any}
use Rattle.rules.specs.Bytes.{field_at}
use Rattle.rules.specs.Steps.{step_at}
use Rattle.rules.specs.Trim.{is_loaded, parents, ancestors, step_count}
use Rattle.theory_lists.specs.Tests.{split, is_true, is_false, or_l, or_r}
use Rattle.theory_lists.specs.Scan.{any_append}
use Rattle.theory_trimming.specs.Statements.{first_of, second_of, Parent, Descends}
use Rattle.theory_trimming.specs.Ordered.{Ordered}
use Rattle.theory_trimming.specs.StepFields.{first-at, second_at, loaded-how, resolved-how, how-resolved}

abbrev pub Wanted : List ℕ → ℕ → Type 0
Wanted w i = T (any (eqb i) w)

pub wanted-here : (i : ℕ) (w : List ℕ) → Wanted (i ∷ w) i
unfolding any
wanted-here i w = or_l (eqb i i) (any (eqb i) w) (eqb_refl i)

pub wanted-one : (a j : ℕ) → Wanted (a ∷ []) j → a ≡ j
unfolding any
wanted-one a j t = ⊎_elim (λ e. sym (eqb→eq j a e)) (λ e. absurd e) (or_yes (eqb j a) false t)

wanted-two : (a b j : ℕ) → Wanted (a ∷ b ∷ []) j ↔ ((a ≡ j) ⊎ (b ≡ j))
unfolding any
wanted-two a b j = (
  λ t. ⊎_elim (λ s. inl (sym (eqb→eq j a s))) (λ s. inr (wanted-one b j s)) (or_yes (eqb j a) (any (eqb j) (b ∷ [])) t),
  ⊎_elim (λ e. subst (Wanted (a ∷ b ∷ [])) e (wanted-here a (b ∷ [])))
      (λ e. or_r (eqb j a) (any (eqb j) (b ∷ [])) (subst (Wanted (b ∷ [])) e (wanted-here b []))),
)

parents-loaded : (step : List ℕ) → is_loaded step ≡ true → parents step ≡ []
unfolding parents
parents-loaded step e = rw e

parents-resolved : (step : List ℕ) → is_loaded step ≡ false
    → parents step ≡ field_at layout.step_first 2 step ∷ field_at layout.step_second 2 step ∷ []
unfolding parents
parents-resolved step e = rw e

module _ (proof : List ℕ) where
  parents-are : (k j : ℕ) → Wanted (parents (step_at proof k)) j ↔ Parent proof k j
  unfolding any
  parents-are k j = ⊎_elim loaded resolved (split (is_loaded (step_at proof k)))
    where
      loaded : T (is_loaded (step_at proof k)) → Wanted (parents (step_at proof k)) j ↔ Parent proof k j
      loaded t =
          let e = is_true (is_loaded (step_at proof k)) t in (
            λ s. absurd (rw (parents-loaded (step_at proof k) e) at s),
            λ p. absurd (let z = loaded-how proof k e in omega (arith, p.0)),
          )

      resolved : T (not (is_loaded (step_at proof k))) → Wanted (parents (step_at proof k)) j ↔ Parent proof k j
      resolved t =
          let e = is_false (is_loaded (step_at proof k)) t in
          let two = wanted-two (first_of proof k) (second_of proof k) j in
          rw (parents-resolved (step_at proof k) e, first-at proof k, second_at proof k)
          (λ s. (resolved-how proof k e, two.0 s), λ p. two.1 p.1)

  -- ---- one step gone through
  abbrev next : ℕ → List ℕ → List ℕ
  next k w = cond (any (eqb k) w) (parents (step_at proof k) ++ w) w

  module _ (k : ℕ) (w : List ℕ) (j : ℕ) where
    appended : any (eqb j) (parents (step_at proof k) ++ w) ≡ any (eqb j) (parents (step_at proof k)) || any (eqb j) w
    appended = any_append (eqb j) (parents (step_at proof k)) w

    next-in : Wanted (next k w) j → Wanted w j ⊎ (Wanted w k × Parent proof k j)
    next-in t =
        ⊎_elim (λ y. ⊎_elim (λ s. inr (y, (parents-are k j).0 s)) (λ s. inl s)
        (or_yes (any (eqb j) (parents (step_at proof k))) (any (eqb j) w) (rw (is_true (any (eqb k) w) y, appended) at t)))
        (λ n. inl (rw (is_false (any (eqb k) w) n) at t)) (split (any (eqb k) w))

    in-next : Wanted w j → Wanted (next k w) j
    in-next t =
        ⊎_elim (λ y. rw (is_true (any (eqb k) w) y, appended) (or_r (any (eqb j) (parents (step_at proof k))) (any (eqb j) w) t))
        (λ n. rw (is_false (any (eqb k) w) n) t) (split (any (eqb k) w))

    parent-next : Wanted w k → Parent proof k j → Wanted (next k w) j
    parent-next y p =
        rw (is_true (any (eqb k) w) y, appended)
        (or_l (any (eqb j) (parents (step_at proof k))) (any (eqb j) w) ((parents-are k j).1 p))

  -- ---- all of them: nothing is lost, and nothing else is wanted
  pub wanted-stays : (k : ℕ) (w : List ℕ) (j : ℕ) → Wanted w j → Wanted (ancestors proof k w) j
  unfolding ancestors
  wanted-stays zero w j t = t
  wanted-stays (suc k) w j t = wanted-stays k (next k w) j (in-next k w j t)

  pub wanted-descends : (n k : ℕ) (w : List ℕ) → ((j : ℕ) → Wanted w j → Descends proof n j) → (j : ℕ) → Wanted (ancestors proof k w) j
      → Descends proof n j
  unfolding ancestors
  wanted-descends n zero w f j t = f j t
  wanted-descends n (suc k) w f j t = wanted-descends n k (next k w) (λ i s. ⊎_elim (f i) (back i) (next-in k w i s)) j t
    where
      back : (i : ℕ) → Wanted w k × Parent proof k i → Descends proof n i
      back i (y, p) = let r = f k y in (suc r.0, (k, r.1, p))

  module _ (o : Ordered proof) where
    pub parent-before : (k j : ℕ) → k < step_count proof → Parent proof k j → j < k
    parent-before k j h (r, p) =
        let b = o.parents k h (how-resolved proof k r) in
        let first = first-at proof k in
        let second = second_at proof k in
        ⊎_elim (λ e. omega (arith, e)) (λ e. omega (arith, e)) p

    -- what is wanted from k on was wanted before
    pub wanted-late : (k : ℕ) (w : List ℕ) (j : ℕ) → k ≤ step_count proof → k ≤ j → Wanted (ancestors proof k w) j → Wanted w j
    unfolding ancestors
    wanted-late zero w j h l t = t
    wanted-late (suc k) w j h l t =
        ⊎_elim (λ s. s) (λ p. absurd (omega (arith, parent-before k j (omega arith) p.1)))
        (next-in k w j (wanted-late k (next k w) j (omega arith) (omega arith) t))

    pub wanted-closed : (k : ℕ) (w : List ℕ) (i j : ℕ) → k ≤ step_count proof → i < k → Wanted (ancestors proof k w) i → Parent proof i j
        → Wanted (ancestors proof k w) j
    unfolding ancestors
    wanted-closed zero w i j h l t p = absurd (omega arith)
    wanted-closed (suc k) w i j h l t p =
        ⊎_elim (λ e. here e t p) (λ b. wanted-closed k (next k w) i j (omega arith) b t p) (eq-or-lt_of_le {n = i} {m = k} (omega arith))
      where
        last : Wanted (ancestors proof k (next k w)) k → Wanted w k
        last t = ⊎_elim (λ s. s) (λ p. p.0) (next-in k w k (wanted-late k (next k w) k (omega arith) (omega arith) t))

        here : i ≡ k → Wanted (ancestors proof k (next k w)) i → Parent proof i j → Wanted (ancestors proof k (next k w)) j
        here e t p =
            let s = subst (Wanted (ancestors proof k (next k w))) e t in
            let q = subst (λ (n : ℕ). Parent proof n j) e p in
            wanted-stays k (next k w) j (parent-next k w j (last s) q)
