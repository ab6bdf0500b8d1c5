-- Every problem that reading accepts is well formed, in each edition.
use Rattle.std.specs.Prelude.{◌≡◌, refl, Bool, true, false, not, cond, ◌&&◌, ◌||◌, List, [], ◌∷◌, ◌++◌, ℕ, zero, suc, ◌+◌, ◌-◌, ◌%◌, ◌≤◌}
use Rattle.std.specs.Prelude.{◌<◌, ℤ, pos, ltb, length, get_or, replicate}
use Rattle.std.proofs.Common.{subst, ⊎_elim, arith, leb→le, ltb→lt, nltb→le, length-append}
use Rattle.std.proofs.Math.Option.{Option, none, some}
use Rattle.std.proofs.lemmas.List.{length-replicate}
use Rattle.rules_types.specs.declared.answers.Refusal.{Refusal}
use Rattle.rules_types.specs.declared.answers.Refusal.TheVariants as refusal
use Rattle.rules_types.specs.declared.terms.Edition.{Edition}
use Rattle.rules_types.specs.declared.terms.Edition.TheVariants.{First}
use Rattle.rules_types.specs.Limits as limit
use Rattle.theory_lists.specs.Tests.{split, is_true, is_false}
use Rattle.theory_lists.specs.All.{All, all_append, get_or-replicate-same}
use Rattle.rules.specs.Bytes.{from_unsigned}
use Rattle.rules.specs.Problem.{Relation, Comparison, Clause, Problem, in_edition, Read, fault, got, after, return, tested, field}
use Rattle.rules.specs.Problem.{amount, literal, is_relation, relation_of, is_equality, relation, comparison, comparisons, clause, end}
use Rattle.rules.specs.Problem.{problem}
use Rattle.rules.specs.Split.{splits_of, over_split}
use Rattle.rules.specs.Calls.{Reading, faulty, sound, within_splits, read}
use Rattle.theory_vectors.specs.Amounts.{Small, range_small, zeros-small}
use Rattle.theory_splitting.specs.WellFormed.{WellFormedRow, WellFormedComparison, WellFormedClause, equalities, splits_in, WellFormed}
use Rattle.theory_splitting.specs.Editions.{posed-first, posed-formed}
use Rattle.theory_splitting.specs.Readers.{Gives, Yields, gives-any, after-gives, then-yields, field-then, repeat-then}

-- ---- literals
literal-yields : (b : ℕ) → Yields (λ l. l.boolean < b) (literal b)
unfolding literal
literal-yields b = field-then (λ l. l.boolean < b) _ _ _ _ (λ code h bytes place. ltb→lt (code % 128) b h)

-- ---- comparisons
amount-yields : (f : Refusal) → Yields Small (amount f)
unfolding amount
amount-yields f = field-then Small _ _ _ _ (λ n h bytes place. (range_small (from_unsigned n)).0 h)

get_or-padded : (cs : List ℤ) (n i : ℕ) → length cs ≤ i → get_or (cs ++ replicate n (pos 0)) i (pos 0) ≡ pos 0
get_or-padded [] n i h = get_or-replicate-same n i (pos 0)
get_or-padded (c ∷ cs) n zero h = absurd (omega arith)
get_or-padded (c ∷ cs) n (suc i) h = get_or-padded cs n i (omega arith)

padded-formed : (r : ℕ) (cs : List ℤ) (β : ℤ) → r ≤ limit.rationals → length cs ≡ r → All Small cs → Small β
    → WellFormedRow r (cs ++ replicate (limit.rationals - r) (pos 0)) β
padded-formed r cs β z e h k =
    let n = limit.rationals - r in
    record {
      coefficients = omega (arith, length-append cs (replicate n (pos 0)), length-replicate n (pos 0));
      beyond = λ i l. get_or-padded cs n i (omega arith);
      amounts = all_append Small cs (replicate n (pos 0)) h (zeros-small n);
      bound = k;
    }

-- no = behind another
abbrev Apart : Bool → Relation → Type 0
Apart equated ρ = equated && is_equality ρ ≡ false

relation-yields : (equated : Bool) → Yields (Apart equated) (relation equated)
unfolding relation tested after
relation-yields equated bytes place =
    after-gives (λ n. Unit {0}) (Apart equated) (field 1 is_relation refusal.Relation bytes place) _
    (gives-any (field 1 is_relation refusal.Relation bytes place))
    (λ n u bytes next. by n bytes next (equated && is_equality (relation_of n)) refl)
  where
    by : (n : ℕ) (bytes : List ℕ) (next : ℕ) (t : Bool) → equated && is_equality (relation_of n) ≡ t
        → Gives (Apart equated) (after (tested (not t) refusal.SecondEquality place n bytes next) (λ code. return (relation_of code)))
    by n bytes next true e = tt
    by n bytes next false e = e

-- a comparison behind one that is an = or not
abbrev Formed : Bool → ℕ → Comparison → Type 0
Formed equated r c = WellFormedComparison r c × Apart equated c.relation

comparison-yields : (equated : Bool) (r : ℕ) → r ≤ limit.rationals → Yields (Formed equated r) (comparison equated r)
unfolding comparison
comparison-yields equated r z =
    then-yields (Apart equated) (Formed equated r) _ _ (relation-yields equated) (λ ρ t.
    repeat-then (Formed equated r) Small _ _ _ (amount-yields refusal.Amount) (λ cs h e.
    then-yields Small (Formed equated r) _ _ (amount-yields refusal.Amount)
    (λ β k bytes place. (padded-formed r cs β z e h k, t))))

-- "a second = in one clause" is refused
abbrev AllFormed : Bool → ℕ → List Comparison → Type 0
AllFormed equated r cs = All (WellFormedComparison r) cs × (cond equated 1 0 + equalities cs ≤ 1)

comparisons-yields : (k : ℕ) (equated : Bool) (r : ℕ) → r ≤ limit.rationals → Yields (AllFormed equated r) (comparisons k equated r)
unfolding comparisons equalities
comparisons-yields zero equated r z = λ bytes place. (tt, by equated)
  where
    by : (t : Bool) → cond t 1 0 + 0 ≤ 1
    by true = omega arith
    by false = omega arith
comparisons-yields (suc k) equated r z =
    then-yields (Formed equated r) (AllFormed equated r) _ _ (comparison-yields equated r z) (λ c h.
    then-yields (AllFormed (equated || is_equality c.relation) r) (AllFormed equated r) _ _
    (comparisons-yields k (equated || is_equality c.relation) r z)
    (λ cs t bytes place. ((h.0, t.0), counted equated (is_equality c.relation) (equalities cs) h.1 t.1)))
  where
    counted : (a b : Bool) (n : ℕ) → a && b ≡ false → cond (a || b) 1 0 + n ≤ 1 → cond a 1 0 + (cond b 1 0 + n) ≤ 1
    counted true true n e h = absurd (let z : ◌≡◌ {A = ℕ} 0 1 = cc in omega arith)
    counted true false n e h = omega (arith, h)
    counted false b n e h = omega (arith, h)

-- ---- clauses
clause-yields : (b r : ℕ) → r ≤ limit.rationals → Yields (WellFormedClause b r) (clause b r)
unfolding clause
clause-yields b r z bytes start =
    field-then (WellFormedClause b r) _ _ _ _ (λ m u.
    repeat-then (WellFormedClause b r) (λ l. l.boolean < b) _ _ _ (literal-yields b) (λ ls h e.
    field-then (WellFormedClause b r) _ _ _ _ (λ t v.
    then-yields (AllFormed false r) (WellFormedClause b r) _ _ (comparisons-yields t false r z) (λ cs k bytes place. record {
      literals = h;
      comparisons = k.0;
      single = omega (arith, k.1);
    }))))
    bytes start

-- ---- problems, in any edition, whose splits are counted later
abbrev FormedIn : Problem → Type 0
FormedIn p = (e : Edition) → WellFormed (in_edition e p)

abbrev FormedBut : Problem → Type 0
FormedBut p = splits_in p.clauses ≤ limit.splits → FormedIn p

end-yields : (P : Problem → Type 0) (p : Problem) → P p → Yields P (end p)
unfolding end
end-yields P p h [] place = h
end-yields P p h (x ∷ bytes) place = tt

problem-yields : Yields FormedBut problem
unfolding problem
problem-yields =
    field-then FormedBut _ _ _ _ (λ b h.
    field-then FormedBut _ _ _ _ (λ r k.
    field-then FormedBut _ _ _ _ (λ n u.
    repeat-then FormedBut (WellFormedClause b r) _ _ _ (clause-yields b r (leb→le r limit.rationals k)) (λ cs c e.
    end-yields FormedBut _ (posed-formed (record { booleans = b; rationals = r; clauses = cs }) (leb→le b limit.booleans h)
    (leb→le r limit.rationals k) (rw e (leb→le n limit.clauses u)) c)))))

-- ---- splits
some-not-none : {A : Type 0} (a : A) → some a ≡ none → ⊥
some-not-none a e = let z : ◌≡◌ {A = ℕ} 0 1 = cc in omega arith

pub within-splits : (k : ℕ) (cs : List Clause) → k ≤ limit.splits → over_split k cs ≡ none → k + splits_in cs ≤ limit.splits
unfolding over_split
within-splits k [] z e = omega arith
within-splits k (c ∷ cs) z e =
    let n = k + splits_of c in
    let L = ltb limit.splits n in
    ⊎_elim (λ t. absurd (some-not-none c.start (rw (is_true L t, over_split) at e)))
    (λ t. omega (arith, within-splits n cs (nltb→le limit.splits n t) (rw (is_false L t, over_split) at e))) (split L)

-- ---- problems
abbrev pub SoundIs : (Problem → Type 0) → Reading → Type 0
SoundIs P (faulty f place) = Unit {0}
SoundIs P (sound p) = P p

splits-formed : (r : Read Problem) → Gives FormedBut r → SoundIs FormedIn (within_splits r)
unfolding within_splits
splits-formed (fault f place) h = tt
splits-formed (got p bytes place) h = by (over_split 0 p.clauses) refl
  where
    by : (o : Option ℕ) → over_split 0 p.clauses ≡ o → SoundIs FormedIn (within_splits (got p bytes place))
    by none e = rw (e, within_splits) (h (omega (arith, within-splits 0 p.clauses (omega arith) e)))
    by (some start) e = rw (e, within_splits) tt

read-is-formed : (q : List ℕ) → SoundIs FormedIn (read q)
unfolding read
read-is-formed q = let L = ltb limit.problem_bytes (length q) in
    ⊎_elim (λ t. rw (is_true L t, read) tt) (λ t. rw (is_false L t, read) (splits-formed (problem q 0) (problem-yields q 0))) (split L)

pub posed-well-formed : (edition : Edition) (q : List ℕ) (p : Problem) → read q ≡ sound p → WellFormed (in_edition edition p)
posed-well-formed edition q p e = subst (SoundIs FormedIn) e (read-is-formed q) edition

pub read-well-formed : (q : List ℕ) (p : Problem) → read q ≡ sound p → WellFormed p
read-well-formed q p e = subst WellFormed (posed-first p) (posed-well-formed First q p e)
