-- Normalizing a reading of a clause keeps its meaning: it holds exactly if it is dropped or the normal clause holds.
use Rattle.std.specs.Prelude.{◌≡◌, Bool, ◌||◌, ◌↔◌, ℕ, ◌<◌, T, length}
use Rattle.std.proofs.Common.{sym, ◌∙◌}
use Rattle.std.proofs.Math.Bool.{true, false, not, or_assoc}
use Rattle.std.specs.Bool.{beq}
use Rattle.std.proofs.Math.Logic.{⊎_elim}
use mathlib.Core.List.{List, [], ◌∷◌}
use Rattle.std.proofs.Math.Option.{Option, none, some}
use Rattle.std.proofs.Math.Facts.{or_yes}
use Rattle.rules_types.specs.Limits as limit
use Rattle.theory_lists.specs.Tests.{split, is_true, is_false, or_l, or_r, or_map, or-left-comm}
use Rattle.theory_lists.specs.All.{All}
use Rattle.rules.specs.Lists.{any}
use Rattle.rules.specs.Problem.{Literal, Constraint}
use Rattle.rules.specs.Readings.{Disjunction}
use Rattle.rules.specs.Meaning.{Assignment, literal_holds, constraint_holds}
use Rattle.rules.specs.Lines.{Booleans, including, meet, some_yes}
use Rattle.rules.specs.Normalize.{members_of, Settled, always, never, kept, settled, Normal, settled_all, normal_clause}
use Rattle.theory_resolution.specs.Members.{none-yes, length_none, length-including, yes-including}
use Rattle.theory_lists.specs.Dropped.{DroppedOr, dropped-holds}
use Rattle.theory_resolution.specs.Holds.{both-signs}
use Rattle.theory_resolution.specs.Settled.{SettledHolds, settled-holds}

-- a reading holds by a literal or a constraint
unfoldable pub reading_holds : Assignment → Disjunction → Bool
reading_holds χ d = any (literal_holds χ) d.literals || any (constraint_holds χ) d.constraints

-- normalized: some literal of either sign holds, or some constraint
unfoldable pub normal_holds : Assignment → Normal → Bool
normal_holds χ n = (some_yes n.positive χ.booleans || some_yes n.negative (λ i. not (χ.booleans i)))
    || any (constraint_holds χ) n.constraints

-- ---- literals
length-step : (i : ℕ) (a : Bool) (s : Booleans) → length s ≡ limit.all_booleans
    → length {A = Bool} (elim a [ true ↦ including i s | false ↦ s ]) ≡ limit.all_booleans
length-step i true s h = length-including i s ∙ h
length-step i false s h = h

pub length-members : (g : Bool) (ls : List Literal) → length (members_of g ls) ≡ limit.all_booleans
unfolding members_of
length-members g [] = length_none
length-members g (l ∷ ls) = length-step l.boolean (beq l.negated g) (members_of g ls) (length-members g ls)

module _ (χ : Assignment) where
  abbrev no : ℕ → Bool
  no i = not (χ.booleans i)

  abbrev some_literal : List Literal → Bool
  some_literal ls = some_yes (members_of false ls) χ.booleans || some_yes (members_of true ls) no

  one-literal : (i : ℕ) (g : Bool) (ls : List Literal) → i < limit.all_booleans → any (literal_holds χ) ls ≡ some_literal ls
      → let l : Literal = record { boolean = i; negated = g } in any (literal_holds χ) (l ∷ ls) ≡ some_literal (l ∷ ls)
  unfolding any literal_holds members_of
  one-literal i false ls h e =
      let p = members_of false ls in
      rw (e, yes-including i p χ.booleans (rw (length-members false ls) h))
      (sym (or_assoc (χ.booleans i) (some_yes p χ.booleans) (some_yes (members_of true ls) no)))
  one-literal i true ls h e =
      let n = members_of true ls in
      rw (e, yes-including i n no (rw (length-members true ls) h))
      (or-left-comm (no i) (some_yes (members_of false ls) χ.booleans) (some_yes n no))

  pub literals-hold : (ls : List Literal) → All (λ l. l.boolean < limit.all_booleans) ls → any (literal_holds χ) ls ≡ some_literal ls
  unfolding any members_of
  literals-hold [] h = rw (none-yes χ.booleans, none-yes no)
  literals-hold (l ∷ ls) h = one-literal l.boolean l.negated ls h.0 (literals-hold ls h.1)

  -- ---- constraints
  abbrev some_holds : List Constraint → Type 0
  some_holds cs = T (any (constraint_holds χ) cs)

  one-constraint : (a r : Bool) (s : Settled) (o : Option (List Constraint)) → T a ↔ SettledHolds χ s → T r ↔ DroppedOr some_holds o
      → T (a || r) ↔ DroppedOr some_holds (elim s [ always ↦ none | never ↦ o | kept d ↦ elim o [ none ↦ none | some ds ↦ some (d ∷ ds) ] ])
  unfolding any
  one-constraint a r always o e f = (λ h. tt, λ h. or_l a r (e.1 tt))
  one-constraint a r never o e f = (λ h. ⊎_elim (λ k. absurd (e.0 k)) f.0 (or_yes a r h), λ h. or_r a r (f.1 h))
  one-constraint a r (kept d) none e f = (λ h. tt, λ h. or_r a r (f.1 tt))
  one-constraint a r (kept d) (some ds) e f = (
    or_map a r (constraint_holds χ d) (any (constraint_holds χ) ds) e.0 f.0,
    or_map (constraint_holds χ d) (any (constraint_holds χ) ds) a r e.1 f.1,
  )

  pub settled-all-holds : 0 < χ.denominator → (cs : List Constraint) → T (any (constraint_holds χ) cs)
      ↔ DroppedOr (λ ds. T (any (constraint_holds χ) ds)) (settled_all cs)
  unfolding any settled_all
  settled-all-holds d [] = (λ h. h, λ h. h)
  settled-all-holds d (c ∷ cs) = one-constraint (constraint_holds χ c) (any (constraint_holds χ) cs) (settled c) (settled_all cs)
      (settled-holds χ d c) (settled-all-holds d cs)

-- ---- readings: the ends of one, for any claim of them
abbrev pub normal_of : Disjunction → Option (List Constraint) → Option Normal
normal_of c o = elim o [
  | none ↦ none
  | some cs ↦ some (record {
    positive = members_of false c.literals;
    negative = members_of true c.literals;
    constraints = cs;
  })
]

abbrev pub meets : Disjunction → Bool
meets c = meet (members_of false c.literals) (members_of true c.literals)

pub clause-ends : (P : Option Normal → Type 0) (c : Disjunction) → (T (meets c) → P none)
    → (T (not (meets c)) → P (normal_of c (settled_all c.constraints))) → P (normal_clause c)
unfolding normal_clause
clause-ends P c m n =
    ⊎_elim (λ h. rw (is_true (meets c) h, normal_clause) (m h)) (λ h. rw (is_false (meets c) h, normal_clause) (n h)) (split (meets c))

module _ (χ : Assignment) (d : 0 < χ.denominator) (c : Disjunction) (w : All (λ l. l.boolean < limit.all_booleans) c.literals) where
  with-constraints : (o : Option (List Constraint)) → T (any (constraint_holds χ) c.constraints)
      ↔ DroppedOr (λ ds. T (any (constraint_holds χ) ds)) o
      → T (reading_holds χ c) ↔ DroppedOr (λ n. T (normal_holds χ n)) (normal_of c o)
  unfolding reading_holds normal_holds
  with-constraints none e = (λ h. tt, λ h. or_r (any (literal_holds χ) c.literals) (any (constraint_holds χ) c.constraints) (e.1 tt))
  with-constraints (some cs) e =
      let L = any (literal_holds χ) c.literals in
      let C = any (constraint_holds χ) c.constraints in
      let D = any (constraint_holds χ) cs in
      rw (← literals-hold χ c.literals w) (or_map L C L D (λ h. h) e.0, or_map L D L C (λ h. h) e.1)

  meets-holds : T (meets c) → T (reading_holds χ c)
  unfolding reading_holds
  meets-holds m =
      let p = members_of false c.literals in
      let n = members_of true c.literals in
      let P = some_yes p χ.booleans in
      let N = some_yes n (λ i. not (χ.booleans i)) in
      or_l (any (literal_holds χ) c.literals) (any (constraint_holds χ) c.constraints)
      (rw (literals-hold χ c.literals w) (⊎_elim (or_l P N) (or_r P N) (both-signs χ p n m)))

  pub normal-clause-holds : T (reading_holds χ c) ↔ DroppedOr (λ n. T (normal_holds χ n)) (normal_clause c)
  normal-clause-holds =
      clause-ends (λ o. T (reading_holds χ c) ↔ DroppedOr (λ n. T (normal_holds χ n)) o) c (λ m. (λ h. tt, λ h. meets-holds m))
      (λ m. with-constraints (settled_all c.constraints) (settled-all-holds χ d c.constraints))

  pub dropped-clause-holds : normal_clause c ≡ none → T (reading_holds χ c)
  dropped-clause-holds = dropped-holds (λ n. T (normal_holds χ n)) (normal_clause c) normal-clause-holds
