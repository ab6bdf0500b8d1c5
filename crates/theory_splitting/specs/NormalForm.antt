-- The form of a normal clause: its Boolean variables, each in one sign, are those of the reading, and its constraints keep their
-- length and the range of their amounts.
use Rattle.std.specs.Prelude.{◌≡◌, Bool, true, false, not, ℕ, suc, ◌<◌, T, length}
use Rattle.std.proofs.Common.{sym, ◌∙◌, subst, ⊎_elim, arith}
use Rattle.std.specs.Bool.{beq}
use mathlib.Core.List.{List, [], ◌∷◌}
use Rattle.std.proofs.Math.Option.{Option, none, some}
use Rattle.rules_types.specs.Limits as limit
use Rattle.theory_lists.specs.All.{All}
use Rattle.rules.specs.Problem.{Literal, Constraint}
use Rattle.rules.specs.Readings.{Disjunction}
use Rattle.rules.specs.Lines.{Booleans, no_booleans, including, meet}
use Rattle.rules.specs.Normalize.{members_of, Settled, always, never, kept, settled, Normal, settled_all, normal_clause}
use Rattle.theory_vectors.specs.Amounts.{SmallAmounts, reduced-small}
use Rattle.theory_resolution.specs.Members.{Within, including-has, none_has}
use Rattle.theory_lists.specs.Dropped.{DroppedOr, dropped-then}
use Rattle.theory_resolution.specs.Settled.{settled-cases}
use Rattle.theory_resolution.specs.Formed.{Eight, length-reduced}
use Rattle.theory_resolution.specs.Proper.{Proper, Divided, reduced-proper, reduced-divided}
use Rattle.theory_splitting.specs.NormalClause.{normal_of, meets, clause-ends, length-members}

pub within_none : (P : ℕ → Type 0) → Within P no_booleans
within_none P i h = absurd (none_has i h)

pub within-including : (P : ℕ → Type 0) (k : ℕ) (s : Booleans) → P k → Within P s → Within P (including k s)
within-including P k s p w i h = ⊎_elim (λ e. subst P (sym e) p) (w i) (including-has k s i h)

-- below k
abbrev pub Below : ℕ → Booleans → Type 0
Below k = Within (λ i. i < k)

pub below_none : (k : ℕ) → Below k no_booleans
below_none k = within_none (λ i. i < k)

pub below_split : (k : ℕ) → Below (suc k) (including k no_booleans)
below_split k = within-including (λ i. i < suc k) k no_booleans (omega arith) (below_none (suc k))

-- ---- literals
one-member : (P : ℕ → Type 0) (i : ℕ) (a : Bool) (s : Booleans) → P i → Within P s → Within P (elim a [ true ↦ including i s | false ↦ s ])
one-member P i true s p w = within-including P i s p w
one-member P i false s p w = w

pub members-within : (P : ℕ → Type 0) (g : Bool) (ls : List Literal) → All (λ l. P l.boolean) ls → Within P (members_of g ls)
unfolding members_of
members-within P g [] h = within_none P
members-within P g (l ∷ ls) h = one-member P l.boolean (beq l.negated g) (members_of g ls) h.0 (members-within P g ls h.1)

-- ---- constraints
-- as read: eight coefficients, and amounts in their range
abbrev pub Sized : Constraint → Type 0
Sized c = Eight (some c) × SmallAmounts (some c)

pub record Kept (c : Constraint) : Type 0 where
  pub eight : Eight (some c)
  pub small : SmallAmounts (some c)
  pub proper : Proper (some c)
  pub divided : Divided (some c)

-- what settling a constraint leaves has a property, and so what is left of several
module _ (Q : Constraint → Type 0) where
  abbrev pub SettledTo : Settled → Type 0
  SettledTo always = Unit {0}
  SettledTo never = Unit {0}
  SettledTo (kept d) = Q d

  one-settled : (s : Settled) (o : Option (List Constraint)) → SettledTo s → DroppedOr (All Q) o
      → DroppedOr (All Q) (elim s [ always ↦ none | never ↦ o | kept d ↦ elim o [ none ↦ none | some ds ↦ some (d ∷ ds) ] ])
  one-settled always o e f = tt
  one-settled never o e f = f
  one-settled (kept d) o e f = dropped-then (All Q) (All Q) (λ ds. some (d ∷ ds)) o f (λ ds h. (e, h))

  pub settled-all : (P : Constraint → Type 0) → ((c : Constraint) → P c → SettledTo (settled c)) → (cs : List Constraint) → All P cs
      → DroppedOr (All Q) (settled_all cs)
  unfolding settled_all
  settled-all P one [] h = tt
  settled-all P one (c ∷ cs) h = one-settled (settled c) (settled_all cs) (one c h.0) (settled-all P one cs h.1)

settled-kept : (c : Constraint) → Sized c → SettledTo Kept (settled c)
settled-kept c h = settled-cases (SettledTo Kept) c (λ z r. tt) (λ z r. tt) (λ z. record {
  eight = length-reduced c ∙ h.0;
  small = reduced-small c h.1;
  proper = reduced-proper c z;
  divided = reduced-divided c z;
})

-- ---- clauses
pub record NormalForm (P : ℕ → Type 0) (n : Normal) : Type 0 where
  pub consistent : T (not (meet n.positive n.negative))
  pub positive-length : length n.positive ≡ limit.all_booleans
  pub negative-length : length n.negative ≡ limit.all_booleans
  pub positive : Within P n.positive
  pub negative : Within P n.negative
  pub constraints : All Kept n.constraints

normal-with : (P : ℕ → Type 0) (c : Disjunction) → T (not (meets c)) → All (λ l. P l.boolean) c.literals
    → DroppedOr (All Kept) (settled_all c.constraints)
    → DroppedOr (NormalForm P) (normal_of c (settled_all c.constraints))
normal-with P c n l e =
    dropped-then (All Kept) (NormalForm P) _ (settled_all c.constraints) e
    (λ cs h. record {
      consistent = n;
      positive-length = length-members false c.literals;
      negative-length = length-members true c.literals;
      positive = members-within P false c.literals l;
      negative = members-within P true c.literals l;
      constraints = h;
    })

pub normal-form : (P : ℕ → Type 0) (c : Disjunction) → All (λ l. P l.boolean) c.literals → All Sized c.constraints
    → DroppedOr (NormalForm P) (normal_clause c)
normal-form P c l e =
    clause-ends (DroppedOr (NormalForm P)) c (λ m. tt) (λ n. normal-with P c n l (settled-all Kept Sized settled-kept c.constraints e))
