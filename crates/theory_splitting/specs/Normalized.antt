-- What a reading of a clause normalized is, said by literals, coefficients and bounds.
use Rattle.std.specs.Prelude.{◌≡◌, refl, Bool, true, false, not, ◌↔◌, ◌⊎◌, List, [], ◌∷◌, ℕ, zero, suc, ◌<◌, pos, T, length}
use Rattle.std.proofs.Common.{sym, ◌∙◌, subst, inl, inr, ⊎_elim, arith}
use Rattle.std.specs.Bool.{beq}
use Rattle.std.proofs.Math.Option.{Option, none, some}
use Rattle.rules_types.specs.Limits as limit
use Rattle.rules.specs.Problem.{Literal, Constraint}
use Rattle.rules.specs.Readings.{Disjunction}
use Rattle.rules.specs.Lines.{Booleans, including}
use Rattle.rules.specs.Normalize.{Settled, always, never, kept, Normal, members_of, settled, settled_all, normal_clause}
use Rattle.theory_lists.specs.All.{All, Any}
use Rattle.theory_lists.specs.Tests.{clash}
use Rattle.theory_vectors.specs.Relation.{Rel}
use Rattle.theory_resolution.specs.Members.{has, including-has, none_has, meet-member, member-meet}
use Rattle.theory_resolution.specs.Result.{Constant, Settles, SettlesTo, settled_is}
use Rattle.theory_splitting.specs.NormalClause.{normal_of, meets, clause-ends, length-members}

-- ---- the words
-- some literal is this Boolean variable, in this sign
abbrev pub Written : List Literal → Bool → ℕ → Type 0
Written ls negated i = Any (λ l. (l.boolean ≡ i) × (l.negated ≡ negated)) ls

-- "a literal written twice counts as one"
abbrev pub MembersAre : List Literal → Bool → Booleans → Type 0
MembersAre ls negated s = (i : ℕ) → T (has s i) ↔ Written ls negated i

-- "drops the clause if true"
abbrev pub True : Constraint → Type 0
True c = Constant c × Rel c.strict (pos 0) c.bound

-- "if false, the condition alone is struck out. Other conditions are divided"; "Conditions that repeat are kept."
abbrev pub Remain : List Constraint → List Constraint → Type 0
Remain [] ds = ds ≡ []
Remain (c ∷ cs) [] = Settles (some c) none × Remain cs []
Remain (c ∷ cs) (d ∷ ds) = (Settles (some c) none × Remain cs (d ∷ ds)) ⊎ (Settles (some c) (some d) × Remain cs ds)

-- "A mark in both signs: the clause is dropped."
abbrev pub BothSigns : List Literal → Type 0
BothSigns ls = (i : ℕ) × Written ls false i × Written ls true i

abbrev pub NormalizedTo : Disjunction → Option Normal → Type 0
NormalizedTo c none = BothSigns c.literals ⊎ Any True c.constraints
NormalizedTo c (some n) = (BothSigns c.literals → ⊥) × MembersAre c.literals false n.positive
    × MembersAre c.literals true n.negative × Remain c.constraints n.constraints

-- ---- literals
pub has-including : (i : ℕ) (s : Booleans) → i < length s → T (has (including i s) i)
unfolding including
has-including i [] h = absurd (omega arith)
has-including zero (a ∷ s) h = tt
has-including (suc i) (a ∷ s) h = has-including i s (omega arith)

pub including-keeps : (i : ℕ) (s : Booleans) (j : ℕ) → T (has s j) → T (has (including i s) j)
unfolding including
including-keeps i [] j h = h
including-keeps zero (a ∷ s) zero h = tt
including-keeps zero (a ∷ s) (suc j) h = h
including-keeps (suc i) (a ∷ s) zero h = h
including-keeps (suc i) (a ∷ s) (suc j) h = including-keeps i s j h

differ : ◌≡◌ {A = Bool} true false → ⊥
differ e = let z : ◌≡◌ {A = ℕ} 0 1 = cc in omega arith

-- one literal more
module _ (g : Bool) (l : Literal) (ls : List Literal) (below : l.boolean < limit.all_booleans) (i : ℕ)
    (rest : T (has (members_of g ls) i) ↔ Written ls g i) where
  with : l.negated ≡ g → T (has (including l.boolean (members_of g ls)) i) ↔ Written (l ∷ ls) g i
  with e = (
    λ h. ⊎_elim (λ q. inl (sym q, e)) (λ k. inr (rest.0 k)) (including-has l.boolean (members_of g ls) i h),
    ⊎_elim
        (λ k. subst (λ (j : ℕ). T (has (including l.boolean (members_of g ls)) j)) k.0
        (has-including l.boolean (members_of g ls) (rw (length-members g ls) below)))
        (λ k. including-keeps l.boolean (members_of g ls) i (rest.1 k)),
  )

  without : (l.negated ≡ g → ⊥) → T (has (members_of g ls) i) ↔ Written (l ∷ ls) g i
  without n = (λ h. inr (rest.0 h), ⊎_elim (λ k. absurd (n k.1)) rest.1)

  one_more : (a b : Bool) → l.negated ≡ a → g ≡ b
      → T (has (elim (beq a b) [ true ↦ including l.boolean (members_of g ls) | false ↦ members_of g ls ]) i)
      ↔ Written (l ∷ ls) g i
  one_more true true e f = with (e ∙ sym f)
  one_more true false e f = without (λ q. differ (sym e ∙ q ∙ f))
  one_more false true e f = without (λ q. differ (sym (sym e ∙ q ∙ f)))
  one_more false false e f = with (e ∙ sym f)

members-are : (g : Bool) (ls : List Literal) → All (λ l. l.boolean < limit.all_booleans) ls → MembersAre ls g (members_of g ls)
unfolding members_of
members-are g [] w i = (none_has i, λ h. absurd h)
members-are g (l ∷ ls) w i = one_more g l ls w.0 i (members-are g ls w.1 i) l.negated g refl refl

-- ---- constraints
abbrev AllSettled : List Constraint → Option (List Constraint) → Type 0
AllSettled cs none = Any True cs
AllSettled cs (some ds) = Remain cs ds

one-settled : (c : Constraint) (cs : List Constraint) (s : Settled) → SettlesTo c s → (o : Option (List Constraint)) → AllSettled cs o
    → AllSettled (c ∷ cs) (elim s [ always ↦ none | never ↦ o | kept d ↦ elim o [ none ↦ none | some ds ↦ some (d ∷ ds) ] ])
one-settled c cs always h o k = inl h
one-settled c cs never h none k = inr k
one-settled c cs never h (some []) k = (h, k)
one-settled c cs never h (some (d ∷ ds)) k = inl (h, k)
one-settled c cs (kept d) h none k = inr k
one-settled c cs (kept d) h (some ds) k = inr (h, k)

all_settled : (cs : List Constraint) → AllSettled cs (settled_all cs)
unfolding settled_all
all_settled [] = refl
all_settled (c ∷ cs) = one-settled c cs (settled c) (settled_is c) (settled_all cs) (all_settled cs)

-- ---- the clause
module _ (c : Disjunction) (w : All (λ l. l.boolean < limit.all_booleans) c.literals) where
  abbrev positives : Booleans
  positives = members_of false c.literals

  abbrev negatives : Booleans
  negatives = members_of true c.literals

  both : T (meets c) → BothSigns c.literals
  both h =
      let m = member-meet positives negatives h in
      (m.member, (members-are false c.literals w m.member).0 m.left, (members-are true c.literals w m.member).0 m.right)

  apart : T (not (meets c)) → BothSigns c.literals → ⊥
  apart n h =
      clash (meets c) (meet-member positives negatives h.0 ((members-are false c.literals w h.0).1 h.1)
      ((members-are true c.literals w h.0).1 h.2)) n

  with-constraints : T (not (meets c)) → (o : Option (List Constraint)) → AllSettled c.constraints o → NormalizedTo c (normal_of c o)
  with-constraints n none h = inr h
  with-constraints n (some ds) h = (apart n, members-are false c.literals w, members-are true c.literals w, h)

  pub clause-normalized : NormalizedTo c (normal_clause c)
  clause-normalized =
      clause-ends (NormalizedTo c) c (λ h. inl (both h))
      (λ n. with-constraints n (settled_all c.constraints) (all_settled c.constraints))
