-- Dropped, or so: a claim of what a rule may drop, by cases and with no equation.
use Rattle.std.specs.Prelude.{◌≡◌, ◌↔◌}
use Rattle.std.proofs.Common.{sym, subst}
use Rattle.std.proofs.Math.Option.{Option, none, some}

module _ {A : Type 0} where
  abbrev pub DroppedOr : (A → Type 0) → Option A → Type 0
  DroppedOr P none = Unit {0}
  DroppedOr P (some a) = P a

  pub dropped-map : (P R : A → Type 0) (o : Option A) → ((a : A) → P a → R a) → DroppedOr P o → DroppedOr R o
  dropped-map P R none f h = tt
  dropped-map P R (some a) f h = f a h

  pub dropped-both : (P R : A → Type 0) (o : Option A) → DroppedOr P o → DroppedOr R o → DroppedOr (λ a. P a × R a) o
  dropped-both P R none h k = tt
  dropped-both P R (some a) h k = (h, k)

  -- of what holds exactly if it is dropped or so: it holds where it is dropped
  pub dropped-holds : (P : A → Type 0) {X : Type 0} (o : Option A) → X ↔ DroppedOr P o → o ≡ none → X
  dropped-holds P o h e = h.1 (subst (DroppedOr P) (sym e) tt)

  -- what is not dropped is so
  pub dropped-is : (P : A → Type 0) {o : Option A} {a : A} → o ≡ some a → DroppedOr P o → P a
  dropped-is P e h = subst (DroppedOr P) e h

-- what is made of what is not dropped
pub dropped-then : {A B : Type 0} (P : A → Type 0) (R : B → Type 0) (f : A → Option B) (o : Option A) → DroppedOr P o
    → ((a : A) → P a → DroppedOr R (f a))
    → DroppedOr R (elim o [ none ↦ none | some a ↦ f a ])
dropped-then P R f none h g = tt
dropped-then P R f (some a) h g = g a h
