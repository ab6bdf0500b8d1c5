-- The test of the split variables: it passes exactly if all clauses together stay within the limit, and else names the first that does not.
use Rattle.std.specs.Prelude.{◌≡◌, refl, List, [], ◌∷◌, ◌++◌, ℕ, ◌+◌, ◌≤◌, ◌<◌, ltb}
use Rattle.std.proofs.Common.{ap, ⊎_elim, arith, lt-ltb, le-ltb, ltb→lt, nltb→le}
use Rattle.std.proofs.Math.Option.{none, some}
use Rattle.rules_types.specs.Limits as limit
use Rattle.rules.specs.Problem.{Clause}
use Rattle.rules.specs.Split.{splits_of, over_split}
use Rattle.theory_lists.specs.Tests.{split, is_true, is_false}
use Rattle.theory_splitting.specs.WellFormed.{splits_in}

-- k split variables stand before these clauses
pub record Passing (k : ℕ) (cs : List Clause) (start : ℕ) : Type 0 where
  pub before : List Clause
  pub it : Clause
  pub after : List Clause
  pub clauses : cs ≡ before ++ (it ∷ after)
  pub not_yet : k + splits_in before ≤ limit.splits
  pub passing : limit.splits < k + splits_in before + splits_of it
  pub start_is : start ≡ it.start

pub passes : (k : ℕ) (cs : List Clause) (start : ℕ) → k ≤ limit.splits → over_split k cs ≡ some start → Passing k cs start
unfolding over_split
passes k [] start h e = absurd (let z : ◌≡◌ {A = ℕ} 0 1 = cc in omega arith)
passes k (c ∷ cs) start h e =
    let L = ltb limit.splits (k + splits_of c) in
    ⊎_elim (λ t. now (ltb→lt limit.splits (k + splits_of c) t) (rw (is_true L t, over_split) at e))
    (λ t. let n = nltb→le limit.splits (k + splits_of c) t in later
    (passes (k + splits_of c) cs start n (rw (is_false L t, over_split) at e)))
    (split L)
  where
    now : limit.splits < k + splits_of c → some c.start ≡ some start → Passing k (c ∷ cs) start
    now l q = record {
      before = [];
      it = c;
      after = cs;
      clauses = refl;
      not_yet = omega arith;
      passing = omega arith;
      start_is = cc;
    }

    later : Passing (k + splits_of c) cs start → Passing k (c ∷ cs) start
    later p = record {
      before = c ∷ p.before;
      it = p.it;
      after = p.after;
      clauses = ap (λ (s : List Clause). c ∷ s) p.clauses;
      not_yet = omega (arith, p.not_yet);
      passing = omega (arith, p.passing);
      start_is = p.start_is;
    }

pub passes-not : (k : ℕ) (cs : List Clause) → k + splits_in cs ≤ limit.splits → over_split k cs ≡ none
unfolding over_split
passes-not k [] h = refl
passes-not k (c ∷ cs) h =
    rw (le-ltb limit.splits (k + splits_of c) (omega arith), over_split) (passes-not (k + splits_of c) cs (omega arith))

pub passes-back : (k : ℕ) (before : List Clause) (it : Clause) (after : List Clause) → k + splits_in before ≤ limit.splits
    → limit.splits < k + splits_in before + splits_of it
    → over_split k (before ++ (it ∷ after)) ≡ some it.start
unfolding over_split
passes-back k [] it after h l = rw (lt-ltb limit.splits (k + splits_of it) (omega arith), over_split)
passes-back k (c ∷ cs) it after h l =
    rw (le-ltb limit.splits (k + splits_of c) (omega arith), over_split)
    (passes-back (k + splits_of c) cs it after (omega arith) (omega arith))
