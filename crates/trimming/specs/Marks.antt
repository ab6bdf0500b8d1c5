-- A mark for each step, in words of 32 bits.
use Rattle.std.specs.Prelude.{◌≡◌, Bool, ◌||◌, List, ℕ, ◌/◌, ◌%◌, ◌<◌, length, set, replicate}
use Rattle.std.proofs.Math.Path.{refl, ap}
use Rattle.std.proofs.Common.{sym, ◌∙◌, arith}
use Rattle.std.proofs.Math.Bool.{true, false}
use borrow.Author.Tests.{eqb-true, eqb-false}
use Rattle.std.proofs.Math.Dec.{eqb}
use Rattle.std.proofs.Math.ListN.{get_or, length-set}
use Rattle.std.proofs.Math.Seq.{get_or-set_same, get_or-set_other}
use Rattle.rules_types.specs.Limits as limit
use Rattle.rules.specs.Lines.{Booleans, no_booleans, including}
use Rattle.theory_lists.specs.All.{get_or-replicate-same}
use Rattle.masks.specs.Mask.{bits, length-bits}

abbrev pub words : ℕ
words = 32

unfoldable pub is_marked : List ℕ → ℕ → Bool
is_marked marks i = get_or (bits limit.all_booleans (get_or marks (i / 32) 0)) (i % 32) false

-- none is marked
abbrev pub Unmarked : List ℕ → Type 0
Unmarked marks = (j : ℕ) → is_marked marks j ≡ false

pub unmarked : Unmarked (replicate words 0)
unfolding is_marked bits no_booleans
unmarked j = rw (get_or-replicate-same {A = ℕ} words (j / 32) 0) (get_or-replicate-same limit.all_booleans (j % 32) false)

-- one mark more
pub record Marks (old : List ℕ) (i : ℕ) (new : List ℕ) : Type 0 where
  pub size : length new ≡ length old
  pub same : (j : ℕ) → is_marked new j ≡ eqb j i || is_marked old j

-- by its word
module _ (marks : List ℕ) (i word : ℕ) (room : i / 32 < length marks)
    (with_it : bits limit.all_booleans word ≡ including (i % 32) (bits limit.all_booleans (get_or marks (i / 32) 0))) where
  abbrev new : List ℕ
  new = set marks (i / 32) word

  abbrev old : Booleans
  old = bits limit.all_booleans (get_or marks (i / 32) 0)

  there : (j : ℕ) → j / 32 ≡ i / 32 → is_marked new j ≡ get_or (including (i % 32) old) (j % 32) false
  unfolding is_marked
  there j e = rw (e, get_or-set_same marks (i / 32) word 0 room, with_it)

  elsewhere : (j : ℕ) → (j / 32 ≡ i / 32 → ⊥) → is_marked new j ≡ is_marked marks j
  unfolding is_marked
  elsewhere j n = rw (get_or-set_other marks (i / 32) (j / 32) word 0 n)

  pub marks-set : Marks marks i new
  unfolding is_marked including
  marks-set = record { size = length-set marks (i / 32) word; same = λ j. by j (eqb (j / 32) (i / 32)) refl (eqb j i) refl }
    where
      by : (j : ℕ) (a : Bool) → eqb (j / 32) (i / 32) ≡ a → (b : Bool) → eqb j i ≡ b → is_marked new j ≡ eqb j i || is_marked marks j
      by j a e true f =
          let s : j ≡ i = eqb-true j i f in
          let q : j % 32 ≡ i % 32 = ap (λ (n : ℕ). n % 32) s in
          rw f (there j (ap (λ (n : ℕ). n / 32) s) ∙ ap (λ (n : ℕ). get_or (including (i % 32) old) n false) q
          ∙ get_or-set_same old (i % 32) true false (omega (arith, length-bits limit.all_booleans (get_or marks (i / 32) 0))))
      by j true e false f =
          let s : j / 32 ≡ i / 32 = eqb-true (j / 32) (i / 32) e in
          rw f (there j s ∙ get_or-set_other old (i % 32) (j % 32) true false (λ q. eqb-false j i f (omega arith))
          ∙ ap (λ (w : ℕ). get_or (bits limit.all_booleans (get_or marks w 0)) (j % 32) false) (sym s))
      by j false e false f = rw f (elsewhere j (eqb-false (j / 32) (i / 32) e))
