-- What the parts of a normalized clause are, each by its number: "Piece 0 has the literals, condition 0 and its link; each later piece has
-- the previous link negated, its condition and, except the last, the next link."
use Rattle.std.specs.Prelude.{◌≡◌, refl, ◌↔◌, ◌⊎◌, List, [], ◌∷◌, ℕ, zero, suc, ◌+◌, ◌-◌, ◌≤◌, ◌<◌, T, length}
use Rattle.std.proofs.Common.{subst, inl, inr, ⊎_elim, arith}
use Rattle.std.proofs.Math.Option.{Option, none, some}
use Rattle.std.proofs.Math.ListN.{get_elem?}
use Rattle.rules_types.specs.Limits as limit
use Rattle.rules.specs.Problem.{Constraint}
use Rattle.rules.specs.Lines.{Booleans, no_booleans, including, Line}
use Rattle.rules.specs.Normalize.{Normal}
use Rattle.rules.specs.Split.{chain, parts}
use Rattle.theory_resolution.specs.Members.{has, including-has, none_has, length_none}
use Rattle.theory_splitting.specs.Count.{chain_length}
use Rattle.theory_splitting.specs.Normalized.{has-including, including-keeps}

-- part j of a clause with these literals and constraints, whose split variables are numbered from k on
pub record PartIs (k : ℕ) (p n : Booleans) (cs : List Constraint) (j : ℕ) (l : Line) : Type 0 where
  pub constraint : l.constraint ≡ get_elem? cs j
  pub positive : (i : ℕ) → T (has l.positive i) ↔ (((j ≡ 0) × T (has p i)) ⊎ ((i ≡ k + j) × (suc j < length cs)))
  pub negative : (i : ℕ) → T (has l.negative i) ↔ (((j ≡ 0) × T (has n i)) ⊎ ((suc i ≡ k + j) × (0 < j)))

-- "splits into k pieces"; without a constraint there is one
pub record PartsAre (k : ℕ) (c : Normal) (ls : List Line) : Type 0 where
  pub one : length c.constraints ≡ 0 → length ls ≡ 1
  pub several : 0 < length c.constraints → length ls ≡ length c.constraints
  pub each : (j : ℕ) (l : Line) → get_elem? ls j ≡ some l → PartIs k c.positive c.negative c.constraints j l

-- ---- so they are
nothing : {A X : Type 0} {a : A} → ◌≡◌ {A = Option A} none (some a) → X
nothing e = absurd (let z : ◌≡◌ {A = ℕ} 0 1 = cc in omega arith)

inside : {A : Type 0} {a b : A} → ◌≡◌ {A = Option A} (some a) (some b) → a ≡ b
inside e = cc

-- a line alone: the literals, and at most one constraint
alone : (k : ℕ) (p n : Booleans) (o : Option Constraint) (cs : List Constraint) → o ≡ get_elem? cs 0 → length cs ≤ 1
    → PartIs k p n cs 0 (record { positive = p; negative = n; constraint = o })
alone k p n o cs e few =
    record {
      constraint = e;
      positive = λ i. (λ h. inl (refl, h), ⊎_elim (λ h. h.1) (λ h. absurd (omega (arith, h.1))));
      negative = λ i. (λ h. inl (refl, h), ⊎_elim (λ h. h.1) (λ h. absurd (omega (arith, h.1))));
    }

-- the first of several
first : (k : ℕ) (p n : Booleans) (c d : Constraint) (ds : List Constraint) → k < length p
    → PartIs k p n (c ∷ d ∷ ds) 0 (record { positive = including k p; negative = n; constraint = some c })
first k p n c d ds h =
    record {
      constraint = refl;
      positive = λ i. (
        λ t. ⊎_elim (λ e. inr (omega (arith, e), omega arith)) (λ t. inl (refl, t)) (including-has k p i t),
        ⊎_elim (λ t. including-keeps k p i t.1)
            (λ t. let e : k ≡ i = omega (arith, t.0) in subst (λ (x : ℕ). T (has (including k p) x)) e (has-including k p h)),
      );
      negative = λ i. (λ t. inl (refl, t), ⊎_elim (λ t. t.1) (λ t. absurd (omega (arith, t.1))));
    }

-- one behind it, from where it stands among the later ones
later : (k : ℕ) (p n : Booleans) (c : Constraint) (ds : List Constraint) (j : ℕ) (l : Line) → k < limit.all_booleans
    → PartIs (suc k) no_booleans (including k no_booleans) ds j l → PartIs k p n (c ∷ ds) (suc j) l
later k p n c ds j l h r =
    record {
      constraint = r.constraint;
      positive = λ i. (
        λ t. ⊎_elim (λ x. absurd (none_has i x.1)) (λ x. inr (omega (arith, x.0), omega (arith, x.1))) ((r.positive i).0 t),
        ⊎_elim (λ x. absurd (omega (arith, x.0))) (λ x. (r.positive i).1 (inr (omega (arith, x.0), omega (arith, x.1)))),
      );
      negative = λ i. (
        λ t. ⊎_elim (λ x. inr (at i x.0 (including-has k no_booleans i x.1), omega arith))
            (λ x. inr (omega (arith, x.0), omega arith)) ((r.negative i).0 t),
        ⊎_elim (λ x. absurd (omega (arith, x.0))) (λ x. (r.negative i).1 (back j i x.0)),
      );
    }
  where
    at : (i : ℕ) → j ≡ 0 → (i ≡ k) ⊎ T (has no_booleans i) → suc i ≡ k + suc j
    at i e (inl q) = omega (arith, e, q)
    at i e (inr t) = absurd (none_has i t)

    back : (j i : ℕ) → suc i ≡ k + suc j → ((j ≡ 0) × T (has (including k no_booleans) i)) ⊎ ((suc i ≡ suc k + j) × (0 < j))
    back zero i e =
        let q : k ≡ i = omega (arith, e) in
        inl (
          refl,
          subst (λ (x : ℕ). T (has (including k no_booleans) x)) q
              (has-including k no_booleans (omega (arith, length_none))),
        )
    back (suc m) i e = inr (omega (arith, e), omega arith)

chain-each : (k : ℕ) (p n : Booleans) (c : Constraint) (cs : List Constraint) → length p ≡ limit.all_booleans
    → k + length cs ≤ limit.all_booleans → (j : ℕ) (l : Line) → get_elem? (chain k p n c cs) j ≡ some l → PartIs k p n (c ∷ cs) j l
unfolding chain
chain-each k p n c [] h f zero l e = subst (PartIs k p n (c ∷ []) 0) (inside e) (alone k p n (some c) (c ∷ []) refl (omega arith))
chain-each k p n c [] h f (suc j) l e = nothing e
chain-each k p n c (d ∷ ds) h f zero l e = subst (PartIs k p n (c ∷ d ∷ ds) 0) (inside e) (first k p n c d ds (omega arith))
chain-each k p n c (d ∷ ds) h f (suc j) l e =
    later k p n c (d ∷ ds) j l (omega arith) (chain-each (suc k) no_booleans (including k no_booleans) d ds length_none (omega arith) j l e)

each_part : (k : ℕ) (p n : Booleans) (cs : List Constraint) → length p ≡ limit.all_booleans → k + (length cs - 1) ≤ limit.all_booleans
    → (j : ℕ) (l : Line) → get_elem? (parts k (record { positive = p; negative = n; constraints = cs })) j ≡ some l → PartIs k p n cs j l
unfolding parts
each_part k p n [] h f zero l e = subst (PartIs k p n [] 0) (inside e) (alone k p n none [] refl (omega arith))
each_part k p n [] h f (suc j) l e = nothing e
each_part k p n (c ∷ cs) h f j l e = chain-each k p n c cs h (omega arith) j l e

how-many : (k : ℕ) (p n : Booleans) (cs : List Constraint)
    → let ls = parts k (record { positive = p; negative = n; constraints = cs }) in
    (length cs ≡ 0 → length ls ≡ 1) × (0 < length cs → length ls ≡ length cs)
unfolding parts
how-many k p n [] = (λ e. refl, λ h. absurd (omega arith))
how-many k p n (c ∷ cs) = (λ e. absurd (omega arith), λ h. chain_length k p n c cs)

pub parts_are : (k : ℕ) (c : Normal) → length c.positive ≡ limit.all_booleans → k + (length c.constraints - 1) ≤ limit.all_booleans
    → PartsAre k c (parts k c)
parts_are k c h f =
    let m = how-many k c.positive c.negative c.constraints in
    record { one = m.0; several = m.1; each = each_part k c.positive c.negative c.constraints h f }
