-- Whether a literal holds, by masks: a positive variable is one of those that are yes, a negative one is one of the others.
use Rattle.std.specs.Prelude.{◌≡◌, refl, Bool, true, false, not, ◌&&◌, ◌||◌, [], ◌∷◌, map, ℕ, zero, suc, ◌*◌, ◌-◌, ◌/◌, ◌%◌, ◌^◌, ◌<◌, eqb}
use Rattle.std.specs.Prelude.{length, get_or}
use Rattle.std.proofs.Common.{sym, ap, ◌∙◌, mod-lt, arith}
use Rattle.std.proofs.Math.Nat.{pow-succ'}
use Rattle.rules_types.specs.Limits as limit
use Rattle.rules.specs.Lines.{Booleans, meet, some_yes, a_literal_holds}
use Rattle.masks.specs.Mask.{bits, all_bits, length-bits}
use Rattle.lines.specs.declared.line.Line.{Line}
use Rattle.lines.specs.Line.{meaning}
use Rattle.models.specs.declared.model.Model.{Model}
use Rattle.models.specs.Model.{assignment}

-- the members that no other set has
complement : (k n : ℕ) → n < 2 ^ k → bits k (2 ^ k - 1 - n) ≡ map not (bits k n)
unfolding bits
complement zero n h = refl
complement (suc k) n h =
    let p : 2 ^ suc k ≡ 2 * 2 ^ k = pow-succ' 2 k in
    let l : n / 2 < 2 ^ k = omega arith in
    let d : (2 ^ suc k - 1 - n) % 2 ≡ 1 - n % 2 = omega arith in
    let q : (2 ^ suc k - 1 - n) / 2 ≡ 2 ^ k - 1 - n / 2 = omega arith in
    rw (d, q, complement k (n / 2) l) (ap (λ (a : Bool). a ∷ map not (bits k (n / 2))) (digit (n % 2) (mod-lt n (omega arith))))
  where
    digit : (x : ℕ) → x < 2 → eqb (1 - x) 1 ≡ not (eqb x 1)
    digit zero h = refl
    digit (suc zero) h = refl
    digit (suc (suc x)) h = absurd (omega arith)

yes-meet : (s t : Booleans) → some_yes s (λ i. get_or t i false) ≡ meet s t
unfolding some_yes meet
yes-meet [] t = refl
yes-meet (a ∷ s) [] = by a (yes-meet s [])
  where
    none : (s : Booleans) → meet s [] ≡ false
    none [] = refl
    none (a ∷ s) = refl

    by : (a : Bool) → some_yes s (λ i. false) ≡ meet s [] → a && false || some_yes s (λ i. false) ≡ false
    by true e = e ∙ none s
    by false e = e ∙ none s
yes-meet (a ∷ s) (b ∷ t) = ap (λ (c : Bool). a && b || c) (yes-meet s t)

no-meet : (s t : Booleans) → length s ≡ length t → some_yes s (λ i. not (get_or t i false)) ≡ meet s (map not t)
unfolding some_yes meet
no-meet [] t h = refl
no-meet (a ∷ s) [] h = absurd (omega arith)
no-meet (a ∷ s) (b ∷ t) h = ap (λ (c : Bool). a && not b || c) (no-meet s t (omega arith))

pub literal-is : (l : Line) (m : Model) → m.booleans < 4294967296
    → a_literal_holds (assignment m) (meaning l) ≡ meet (bits limit.all_booleans l.positive) (bits limit.all_booleans m.booleans)
    || meet (bits limit.all_booleans l.negative) (bits limit.all_booleans (all_bits - m.booleans))
unfolding a_literal_holds assignment meaning
literal-is l m h =
    rw (
      yes-meet (bits limit.all_booleans l.positive) (bits limit.all_booleans m.booleans),
      no-meet (bits limit.all_booleans l.negative) (bits limit.all_booleans m.booleans)
          (length-bits limit.all_booleans l.negative ∙ sym (length-bits limit.all_booleans m.booleans)),
      complement limit.all_booleans m.booleans h,
    )
