-- Equal lists: the test of rules/Lists decides it, and joined lists are equal part by part.
use Rattle.std.specs.Prelude.{◌≡◌, Bool, T, length}
use Rattle.std.proofs.Math.Path.{refl}
use Rattle.std.proofs.Common.{subst, arith}
use mathlib.Core.List.{List, [], ◌∷◌, ◌++◌}
use Rattle.std.proofs.Math.Facts.{and_yes, yes_and}
use Rattle.rules.specs.Lists.{same}

module _ {A : Type 0} (eq : A → A → Bool) where
  pub same-yes : ((a b : A) → T (eq a b) → a ≡ b) → (s t : List A) → T (same eq s t) → s ≡ t
  unfolding same
  same-yes yes-eq [] [] h = refl
  same-yes yes-eq [] (b ∷ t) h = absurd h
  same-yes yes-eq (a ∷ s) [] h = absurd h
  same-yes yes-eq (a ∷ s) (b ∷ t) h =
      let r = and_yes (eq a b) (same eq s t) h in
      λ i. yes-eq a b r.0 i ∷ same-yes yes-eq s t r.1 i

  same_self : ((a : A) → T (eq a a)) → (s : List A) → T (same eq s s)
  unfolding same
  same_self self [] = tt
  same_self self (a ∷ s) = yes_and (eq a a) (same eq s s) (self a) (same_self self s)

  pub yes-same : ((a : A) → T (eq a a)) → (s t : List A) → s ≡ t → T (same eq s t)
  yes-same self s t e = subst (λ (t : List A). T (same eq s t)) e (same_self self s)

pub append-injective : {A : Type 0} (a b x y : List A) → length a ≡ length b → a ++ x ≡ b ++ y → (a ≡ b) × (x ≡ y)
append-injective [] [] x y l e = (refl, e)
append-injective [] (b ∷ t) x y l e = absurd (omega arith)
append-injective (a ∷ s) [] x y l e = absurd (omega arith)
append-injective (a ∷ s) (b ∷ t) x y l e =
    let heads : a ≡ b = cc in
    let tails : s ++ x ≡ t ++ y = cc in
    let r = append-injective s t x y (omega arith) tails in
    (λ i. heads i ∷ r.0 i, r.1)
