-- A loop that fills a row from the front; quotients and combinations of rows, element by element.
use Rattle.std.specs.Prelude.{◌≡◌, refl, List, [], ◌∷◌, ℕ, suc, ◌+◌, ◌<◌, ℤ, pos, negsuc, length, get_or, set, take}
use Rattle.std.proofs.Common.{sym, ap, ◌∙◌, div-one, add-one, arith, length-set, take-suc, take-suc-set}
use Rattle.std.specs.Int.Signed.{quot_z}
use Rattle.std.proofs.Math.Seq.{take-length}
use Rattle.rules.specs.Arithmetic.{combine}
use Rattle.theory_vectors.specs.Dot.{length-combine}
use Rattle.theory_vectors.specs.Constraint.{quotients}

-- the first i elements of a list as long as the wanted one are right
pub record Filled (wanted : List ℤ) (i : ℕ) (out : List ℤ) : Type 0 where
  pub long : length out ≡ length wanted
  pub front : take i out ≡ take i wanted

pub filled_none : (wanted out : List ℤ) → length out ≡ length wanted → Filled wanted 0 out
filled_none wanted out h = record { long = h; front = refl }

pub filled_more : {wanted : List ℤ} {i : ℕ} {out : List ℤ} (z : ℤ) → Filled wanted i out → i < length wanted → z ≡ get_or wanted i (pos 0)
    → Filled wanted (i + 1) (set out i z)
filled_more {wanted} {i} {out} z f h e =
    let l : i < length out = omega (arith, f.long) in
    record {
      long = length-set out i z ∙ f.long;
      front = rw (add-one i, take-suc-set out i z l, take-suc wanted i (pos 0) h, f.front, e);
    }

pub filled-all : {wanted : List ℤ} {i : ℕ} {out : List ℤ} → Filled wanted i out → i ≡ length wanted → out ≡ wanted
filled-all {wanted} {i} {out} f e =
    let l : i ≡ length out = e ∙ sym f.long in
    sym (take-length out) ∙ ap (λ (n : ℕ). take n out) (sym l) ∙ f.front ∙ ap (λ (n : ℕ). take n wanted) e ∙ take-length wanted

-- ---- quotients
pub quot-one : (z : ℤ) → quot_z z (pos 1) ≡ z
quot-one (pos n) = ap pos (div-one n)
quot-one (negsuc n) = rw (div-one (suc n))

pub quotients-one : (zs : List ℤ) → quotients 1 zs ≡ zs
quotients-one [] = refl
quotients-one (z ∷ zs) = rw (quot-one z, quotients-one zs)

-- ---- combinations of rows that are as long as each other
pub length-rows : (c : ℤ) (us : List ℤ) (a : ℤ) (ls : List ℤ) {n : ℕ} → length us ≡ n → length ls ≡ n → length (combine c us a ls) ≡ n
length-rows c us a ls h k = omega (arith, length-combine c us a ls)
