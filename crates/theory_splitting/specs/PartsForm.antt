-- The form of the parts of a clause: 32 places and 8 coefficients, amounts in their range, no constant constraint, no Boolean variable in
-- both signs, and no other than the clause's and its own split variables.
use Rattle.std.specs.Prelude.{◌≡◌, not, List, [], ◌∷◌, ℕ, suc, ◌+◌, ◌-◌, ◌≤◌, ◌<◌, T, length}
use Rattle.std.proofs.Common.{◌∙◌, ⊎_elim, arith}
use Rattle.std.proofs.Math.Dec.{not_T}
use Rattle.rules_types.specs.Limits as limit
use Rattle.theory_lists.specs.Tests.{clash}
use Rattle.theory_lists.specs.All.{All}
use Rattle.rules.specs.Problem.{Constraint}
use Rattle.rules.specs.Lines.{Booleans, Line, no_booleans, including, meet}
use Rattle.rules.specs.Normalize.{Normal}
use Rattle.rules.specs.Split.{chain, parts}
use Rattle.theory_vectors.specs.Amounts.{SmallAmounts}
use Rattle.theory_resolution.specs.Members.{Within, Common, none_has, including-has, length_none, length-including, meet-member}
use Rattle.theory_resolution.specs.Members.{member-meet}
use Rattle.theory_resolution.specs.Holds.{Consistent}
use Rattle.theory_resolution.specs.Formed.{Formed}
use Rattle.theory_resolution.specs.Proper.{Proper, Divided}
use Rattle.theory_splitting.specs.NormalForm.{Kept, Below, below_split, within_none, within-including, NormalForm}
use Rattle.theory_splitting.specs.Parts.{whole}

-- a line whose Boolean variables are so
pub record LineForm (P : ℕ → Type 0) (l : Line) : Type 0 where
  pub formed : Formed l
  pub proper : Proper l.constraint
  pub divided : Divided l.constraint
  pub small : SmallAmounts l.constraint
  pub consistent : Consistent l
  pub positive : Within P l.positive
  pub negative : Within P l.negative

including-apart : (k : ℕ) (p n : Booleans) → T (not (meet p n)) → Below k n → T (not (meet (including k p) n))
including-apart k p n a w = not_T (meet (including k p) n) (λ m. no (member-meet (including k p) n m))
  where
    no : Common (including k p) n → ⊥
    no c = ⊎_elim (λ e. let l = w c.member c.right in omega arith)
        (λ h. clash (meet p n) (meet-member p n c.member h c.right) a) (including-has k p c.member c.left)

none_apart : (n : Booleans) → T (not (meet no_booleans n))
none_apart n = not_T (meet no_booleans n) (λ m. let c = member-meet no_booleans n m in none_has c.member c.left)

chain-form : (P : ℕ → Type 0) (k : ℕ) (p n : Booleans) (c : Constraint) (cs : List Constraint) → length p ≡ limit.all_booleans
    → length n ≡ limit.all_booleans
    → T (not (meet p n)) → Below k n → Within P p → Within P n
    → ((i : ℕ) → k ≤ i → i < k + length cs → P i)
    → All Kept (c ∷ cs) → All (LineForm P) (chain k p n c cs)
unfolding chain
chain-form P k p n c [] lp ln a w wp wn q e = (
  record {
    formed = record { positive = lp; negative = ln; constraint = e.0.eight };
    proper = e.0.proper;
    divided = e.0.divided;
    small = e.0.small;
    consistent = a;
    positive = wp;
    negative = wn;
  },
  tt,
)
chain-form P k p n c (d ∷ ds) lp ln a w wp wn q e =
    let y = q k (omega arith) (omega arith) in (
      record {
        formed = record { positive = length-including k p ∙ lp; negative = ln; constraint = e.0.eight };
        proper = e.0.proper;
        divided = e.0.divided;
        small = e.0.small;
        consistent = including-apart k p n a w;
        positive = within-including P k p y wp;
        negative = wn;
      },
      chain-form P (suc k) no_booleans (including k no_booleans) d ds length_none (length-including k no_booleans ∙ length_none)
          (none_apart (including k no_booleans)) (below_split k)
          (within_none P) (within-including P k no_booleans y (within_none P)) (λ i h l. q i (omega arith) (omega arith)) e.1,
    )

parts-of : (P : ℕ → Type 0) (k : ℕ) (p n : Booleans) (cs : List Constraint) → NormalForm P (whole p n cs) → Below k n
    → ((i : ℕ) → k ≤ i → i < k + (length cs - 1) → P i)
    → All (LineForm P) (parts k (whole p n cs))
unfolding parts
parts-of P k p n [] f w q = (
  record {
    formed = record { positive = f.positive-length; negative = f.negative-length; constraint = tt };
    proper = tt;
    divided = tt;
    small = tt;
    consistent = f.consistent;
    positive = f.positive;
    negative = f.negative;
  },
  tt,
)
parts-of P k p n (c ∷ cs) f w q = chain-form P k p n c cs f.positive-length f.negative-length f.consistent w f.positive
    f.negative (λ i h l. q i h (omega arith)) f.constraints

pub parts-form : (P : ℕ → Type 0) (k : ℕ) (c : Normal) → NormalForm P c → Below k c.negative
    → ((i : ℕ) → k ≤ i → i < k + (length c.constraints - 1) → P i)
    → All (LineForm P) (parts k c)
parts-form P k c f w q = parts-of P k c.positive c.negative c.constraints f w q
