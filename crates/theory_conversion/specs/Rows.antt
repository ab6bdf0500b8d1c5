-- A row with its halves, by places: number f stands where the halves before it end, and turned behind it where variable f is split.
use Rattle.std.specs.Prelude.{◌≡◌, refl, Bool, true, false, ℤ, pos, replicate}
use Rattle.std.proofs.Math.Path.{sym, ap}
use Rattle.std.proofs.Common.{◌∙◌, get_or-append-add}
use Rattle.std.proofs.Math.Bool.{cond}
use mathlib.Core.List.{List, [], ◌∷◌, ◌++◌, map, append_assoc}
use Prim.Native.Nat.{ℕ, zero, suc, ◌+◌, ◌-◌, ◌<◌}
use native.Mathlib.Omega.{arith}
use Rattle.std.proofs.Math.ListN.{length, get_or, take, drop, get_or-map}
use Rattle.std.proofs.Math.Seq.{length-take-le, split_at}
use Rattle.rules_types.specs.Limits as limit
use Rattle.rules_types.specs.Layout as layout
use Rattle.rules.specs.Bytes.{from_unsigned}
use Rattle.rules.specs.Written.{WrittenComparison, comparison_meant}
use Rattle.rules.specs.Convert.{place_of, turned, split_row}
use Rattle.theory_lists.specs.All.{All, get_or-replicate-same}
use Rattle.theory_conversion.specs.Length.{length-split_row}

module _ (keeps : ℕ → Bool) where
  row-append : (f : ℕ) (ns ms : List ℕ) → split_row keeps f (ns ++ ms) ≡ split_row keeps f ns ++ split_row keeps (f + length ns) ms
  unfolding split_row
  row-append f [] ms = let e : f ≡ f + 0 = omega arith in ap (λ (g : ℕ). split_row keeps g ms) e
  row-append f (n ∷ ns) ms =
      let here = cond (keeps f) (n ∷ []) (n ∷ turned n ∷ []) in
      let e : suc f + length ns ≡ f + suc (length ns) = omega arith in
      ap (λ (s : List ℕ). here ++ s) (row-append (suc f) ns ms ∙ ap (λ (g : ℕ). split_row keeps (suc f) ns ++ split_row keeps g ms) e)
      ∙ sym (append_assoc here (split_row keeps (suc f) ns) (split_row keeps (f + suc (length ns)) ms))

  -- half j of number f
  row_at : (ns : List ℕ) (f j : ℕ) → f < length ns → let n = get_or ns f 0 in
      get_or (split_row keeps 0 ns) (place_of keeps f + j) 0
      ≡ get_or (cond (keeps f) (n ∷ []) (n ∷ turned n ∷ []) ++ split_row keeps (suc f) (drop (suc f) ns)) j 0
  unfolding split_row place_of
  row_at ns f j h =
      let front = take f ns in
      let back = get_or ns f 0 ∷ drop (suc f) ns in
      let here : 0 + length front ≡ f = omega (arith, length-take-le f ns (omega arith)) in
      let whole : split_row keeps 0 ns ≡ split_row keeps 0 front ++ split_row keeps f back =
      ap (split_row keeps 0) (split_at ns f 0 h) ∙ row-append 0 front back
      ∙ ap (λ (g : ℕ). split_row keeps 0 front ++ split_row keeps g back) here in
      let place : length (split_row keeps 0 front) ≡ place_of keeps f = omega (arith, rw here at (length-split_row keeps 0 front)) in
      ap (λ (s : List ℕ). get_or s (place_of keeps f + j) 0) whole
      ∙ rw (← place) (get_or-append-add (split_row keeps 0 front) (split_row keeps f back) j 0)

  pub row_first : (ns : List ℕ) (f : ℕ) → f < length ns → get_or (split_row keeps 0 ns) (place_of keeps f) 0 ≡ get_or ns f 0
  row_first ns f h = let e : place_of keeps f ≡ place_of keeps f + 0 = omega arith in
      ap (λ (i : ℕ). get_or (split_row keeps 0 ns) i 0) e ∙ row_at ns f 0 h ∙ by (keeps f)
    where
      by : (t : Bool) → let n = get_or ns f 0 in
          get_or (cond t (n ∷ []) (n ∷ turned n ∷ []) ++ split_row keeps (suc f) (drop (suc f) ns)) 0 0 ≡ n
      by true = refl
      by false = refl

  pub row-second : (ns : List ℕ) (f : ℕ) → f < length ns → keeps f ≡ false
      → get_or (split_row keeps 0 ns) (suc (place_of keeps f)) 0 ≡ turned (get_or ns f 0)
  row-second ns f h k = let e : suc (place_of keeps f) ≡ place_of keeps f + 1 = omega arith in
      ap (λ (i : ℕ). get_or (split_row keeps 0 ns) i 0) e ∙ row_at ns f 1 h ∙ rw k

-- ---- what a written comparison means, at a place
padded-at : (zs : List ℤ) (n i : ℕ) → get_or (zs ++ replicate n (pos 0)) i (pos 0) ≡ get_or zs i (pos 0)
padded-at [] n i = get_or-replicate-same n i (pos 0)
padded-at (z ∷ zs) n zero = refl
padded-at (z ∷ zs) n (suc i) = padded-at zs n i

pub meant-at : (c : WrittenComparison) (i : ℕ)
    → get_or (comparison_meant c).coefficients i (pos 0) ≡ from_unsigned (get_or c.coefficients i 0)
unfolding comparison_meant from_unsigned
meant-at c i =
    padded-at (map from_unsigned c.coefficients) (limit.rationals - length c.coefficients) i
    ∙ get_or-map from_unsigned c.coefficients i 0

pub zero-meant : from_unsigned 0 ≡ pos 0
unfolding from_unsigned
zero-meant = refl

pub all-at : {A : Type 0} (P : A → Type 0) (s : List A) (i : ℕ) (d : A) → i < length s → All P s → P (get_or s i d)
all-at P [] i d h k = absurd (omega arith)
all-at P (a ∷ s) zero d h k = k.0
all-at P (a ∷ s) (suc i) d h k = all-at P s i d (omega arith) k.1
