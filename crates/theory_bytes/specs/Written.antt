-- A model that is written has room for its assignment.
use Rattle.std.specs.Prelude.{◌≡◌, Bool, not, ◌||◌, List, ℕ, ◌≤◌, nat_abs, T, ltb}
use Rattle.std.proofs.Common.{⊎_elim, arith, nltb→le}
use Rattle.std.proofs.Math.Option.{none, some}
use Rattle.std.proofs.Math.Facts.{or_no}
use Rattle.rules_types.specs.Limits as limit
use Rattle.rules.specs.Lists.{any, tabulate}
use Rattle.rules.specs.Meaning.{Assignment}
use Rattle.rules.specs.Values.{Walked}
use Rattle.rules.specs.Model.{encode_model, too_large, written}
use Rattle.theory_lists.specs.Tests.{split, is_true, is_false}
use Rattle.theory_lists.specs.All.{all_map, any-no}
use Rattle.theory_vectors.specs.Amounts.{Small}
use Rattle.theory_bytes.specs.Models.{Fitting}

small-fits : (b r : ℕ) (χ : Assignment) → b ≤ limit.booleans → r ≤ limit.rationals → 1 ≤ χ.denominator
    → T (not (too_large r χ)) → Fitting b r χ
unfolding too_large
small-fits b r χ x y d h =
    let k = or_no (ltb limit.amount χ.denominator) (any (λ z. ltb limit.amount (nat_abs z)) (tabulate r χ.numerators)) h in
    record {
      booleans = x;
      rationals = y;
      positive = d;
      denominator = nltb→le limit.amount χ.denominator k.0;
      numerators =
          all_map (λ z. T (not (ltb limit.amount (nat_abs z)))) Small (tabulate r χ.numerators) (λ z t. nltb→le limit.amount (nat_abs z) t)
          (any-no (λ z. ltb limit.amount (nat_abs z)) (tabulate r χ.numerators) k.1);
    }

pub record WrittenAs (b r : ℕ) (opens : ℕ → Bool) (χ : Assignment) (bytes : List ℕ) : Type 0 where
  pub fits : Fitting b r χ
  pub is : bytes ≡ encode_model b r opens χ

pub written-fits : (b r : ℕ) (opens : ℕ → Bool) (w : Walked) (bytes : List ℕ) → b ≤ limit.booleans → r ≤ limit.rationals
    → 1 ≤ w.assignment.denominator
    → written b r opens w ≡ some bytes
    → WrittenAs b r opens w.assignment bytes
unfolding written
written-fits b r opens w bytes x y d e =
    ⊎_elim (λ t. no (rw (is_true unfit t, written) at e)) (λ t. yes t (rw (is_false unfit t, written) at e)) (split unfit)
  where
    unfit : Bool
    unfit = w.exceeded || too_large r w.assignment

    no : none ≡ some bytes → WrittenAs b r opens w.assignment bytes
    no e = let z : ◌≡◌ {A = ℕ} 0 1 = cc in absurd (omega arith)

    yes : T (not unfit) → some (encode_model b r opens w.assignment) ≡ some bytes → WrittenAs b r opens w.assignment bytes
    yes t e = record { fits = small-fits b r w.assignment x y d (or_no w.exceeded (too_large r w.assignment) t).1; is = cc }
