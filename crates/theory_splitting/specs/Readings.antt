-- A clause holds exactly if each of its readings does; and they are as well formed as it is.
use Rattle.std.proofs.Math.Path.{◌≡◌, refl, sym}
use Rattle.std.proofs.Common.{ap, ◌∙◌, subst}
use Rattle.std.proofs.Math.Bool.{Bool, true, false, cond, and-true, or-and_distrib_left, or-and_distrib_right}
use Rattle.std.specs.Prelude.{◌&&◌, ◌||◌, ◌↔◌, ℕ, ◌+◌, ◌≤◌, ℤ, pos, ◌*ℤ◌, ◌≤ℤ◌, ◌<ℤ◌}
use mathlib.Core.List.{List, [], ◌∷◌, map}
use native.Mathlib.Omega.{arith}
use Rattle.std.specs.Int.Signed.{le_z}
use Rattle.std.proofs.Math.Dec.{T}
use Rattle.std.proofs.lemmas.List.{length-map}
use Rattle.std.proofs.Math.Facts.{and_yes, yes_and}
use Rattle.rules.specs.Lists.{any, all}
use Rattle.rules.specs.Arithmetic.{sum, related, equal}
use Rattle.rules.specs.Problem.{Relation, le, lt, eq, ge, Comparison, Clause, is_equality}
use Rattle.rules.specs.Readings.{is_strict, turns, signed, read_as, reading, has_equality, readings}
use Rattle.rules.specs.Meaning.{Assignment, literal_holds, compared, comparison_holds, constraint_holds, clause_holds}
use Rattle.theory_lists.specs.Tests.{tests_agree}
use Rattle.theory_lists.specs.All.{All, all_map, all-mapped}
use Rattle.theory_vectors.specs.Amounts.{Small}
use Rattle.theory_vectors.specs.Sign.{equal-yes, yes-equal}
use Rattle.theory_vectors.specs.Signed.{signed-zero, signed-*, abs-signed, get_or-signed, sum-signed}
use Rattle.theory_vectors.specs.Relation.{related-yes, yes-related, rel-reflexive, rel-antisym, rel-neg, rel-neg-cancel}
use Rattle.theory_splitting.specs.WellFormed.{WellFormedComparison, WellFormedConstraint, WellFormedClause, WellFormedReading}
use Rattle.theory_splitting.specs.WellFormed.{equalities}
use Rattle.theory_splitting.specs.NormalClause.{reading_holds}

-- ---- what each relation says
abbrev pub Relates : Relation → ℤ → ℤ → Type 0
Relates le a b = a ≤ℤ b
Relates lt a b = a <ℤ b
Relates eq a b = a ≡ b
Relates ge a b = b ≤ℤ a

pub compared-exactly : (ρ : Relation) (a b : ℤ) → T (compared ρ a b) ↔ Relates ρ a b
unfolding compared
compared-exactly le a b = (λ t. record { le = t }, λ h. h.le)
compared-exactly lt a b = (λ t. record { lt = t }, λ h. h.lt)
compared-exactly eq a b = (equal-yes a b, yes-equal)
compared-exactly ge a b = (λ t. record { le = t }, λ h. h.le)

-- ---- a comparison and what it is read as
-- two numbers as read, with the signs turned or not
abbrev read_by : Bool → Relation → ℤ → ℤ → Bool
read_by second ρ a b = related (is_strict ρ) (signed (turns second ρ) a) (signed (turns second ρ) b)

module _ (a b : ℤ) where
  turned : le_z b a ≡ related false (signed true a) (signed true b)
  unfolding related signed
  turned = tests_agree (le_z b a) (related false (signed true a) (signed true b))
      (λ h. yes-related (rel-neg (related-yes false b a h))) (λ h. yes-related (rel-neg-cancel b a (related-yes false _ _ h)))

  -- ≤, < and ≥ say the same in either reading
  compared-once : (second : Bool) (ρ : Relation) → is_equality ρ ≡ false → compared ρ a b ≡ read_by second ρ a b
  unfolding compared related is_strict turns signed is_equality
  compared-once second le e = refl
  compared-once second lt e = refl
  compared-once second eq e = absurd (let z : ◌≡◌ {A = ℕ} 0 1 = cc in omega arith)
  compared-once second ge e = turned

  -- = is ≤ and ≥
  compared-twice : (ρ : Relation) → is_equality ρ ≡ true → compared ρ a b ≡ read_by false ρ a b && read_by true ρ a b
  unfolding compared is_strict turns is_equality related signed
  compared-twice le e = absurd (let z : ◌≡◌ {A = ℕ} 0 1 = cc in omega arith)
  compared-twice lt e = absurd (let z : ◌≡◌ {A = ℕ} 0 1 = cc in omega arith)
  compared-twice eq e =
      let X = le_z a b in
      let Y = related false (signed true a) (signed true b) in
      tests_agree (equal a b) (X && Y)
      (λ h. let q = equal-yes a b h in
      yes_and X Y (yes-related {s = false} (rel-reflexive q)) (subst T turned (yes-related {s = false} (rel-reflexive (sym q)))))
      (λ h. let t = and_yes X Y h in
      yes-equal (rel-antisym (related-yes false a b t.0) (related-yes false b a (subst T (sym turned) t.1))))
  compared-twice ge e = absurd (let z : ◌≡◌ {A = ℕ} 0 1 = cc in omega arith)

module _ (χ : Assignment) where
  -- by its sum and its bound × denominator
  read-holds : (second : Bool) (c : Comparison) → constraint_holds χ (read_as second c)
      ≡ read_by second c.relation (sum c.coefficients χ.numerators) (c.bound *ℤ pos χ.denominator)
  unfolding constraint_holds read_as
  read-holds second c =
      let t = turns second c.relation in
      λ i. related (is_strict c.relation) (sum-signed t c.coefficients χ.numerators i)
      (signed-* t c.bound (pos χ.denominator) i)

  holds-once : (second : Bool) (c : Comparison) → is_equality c.relation ≡ false
      → comparison_holds χ c ≡ constraint_holds χ (read_as second c)
  unfolding comparison_holds
  holds-once second c e = compared-once _ _ second c.relation e ∙ sym (read-holds second c)

  holds-twice : (c : Comparison) → is_equality c.relation ≡ true
      → comparison_holds χ c ≡ constraint_holds χ (read_as false c) && constraint_holds χ (read_as true c)
  unfolding comparison_holds
  holds-twice c e = compared-twice _ _ c.relation e ∙ (λ i. sym (read-holds false c) i && sym (read-holds true c) i)

  -- ---- several
  abbrev as_read : Bool → List Comparison → Bool
  as_read second cs = any (constraint_holds χ) (map (read_as second) cs)

  none-twice : (second : Bool) (cs : List Comparison) → equalities cs ≤ 0 → any (comparison_holds χ) cs ≡ as_read second cs
  unfolding any equalities
  none-twice second [] h = refl
  none-twice second (c ∷ cs) h = by (is_equality c.relation) refl h (none-twice second cs)
    where
      by : (t : Bool) → is_equality c.relation ≡ t → cond t 1 0 + equalities cs ≤ 0
          → (equalities cs ≤ 0 → any (comparison_holds χ) cs ≡ as_read second cs)
          → comparison_holds χ c || any (comparison_holds χ) cs ≡ constraint_holds χ (read_as second c) || as_read second cs
      by true e h rest = absurd (omega arith)
      by false e h rest = λ i. holds-once second c e i || rest (omega arith) i

  one-twice : (cs : List Comparison) → equalities cs ≤ 1 → any (comparison_holds χ) cs ≡ as_read false cs && as_read true cs
  unfolding any equalities
  one-twice [] h = refl
  one-twice (c ∷ cs) h = by (is_equality c.relation) refl h (one-twice cs)
    where
      by : (t : Bool) → is_equality c.relation ≡ t → cond t 1 0 + equalities cs ≤ 1
          → (equalities cs ≤ 1 → any (comparison_holds χ) cs ≡ as_read false cs && as_read true cs)
          → comparison_holds χ c || any (comparison_holds χ) cs
          ≡ (constraint_holds χ (read_as false c) || as_read false cs) && (constraint_holds χ (read_as true c) || as_read true cs)
      by true e h rest =
          (λ i. holds-twice c e i || any (comparison_holds χ) cs)
          ∙ or-and_distrib_right (constraint_holds χ (read_as false c)) (constraint_holds χ (read_as true c)) (any (comparison_holds χ) cs)
          ∙ (λ i. (constraint_holds χ (read_as false c) || none-twice false cs (omega arith) i)
          && (constraint_holds χ (read_as true c) || none-twice true cs (omega arith) i))
      by false e h rest =
          (λ i. comparison_holds χ c || rest (omega arith) i) ∙ or-and_distrib_left (comparison_holds χ c) (as_read false cs)
          (as_read true cs)
          ∙ (λ i. (holds-once false c e i || as_read false cs) && (holds-once true c e i || as_read true cs))

  -- ---- a clause
  -- no = is written
  unequal : (cs : List Comparison) → has_equality cs ≡ false → equalities cs ≤ 0
  unfolding has_equality any equalities
  unequal [] h = omega arith
  unequal (c ∷ cs) h = by (is_equality c.relation) h (unequal cs)
    where
      by : (t : Bool) → t || has_equality cs ≡ false → (has_equality cs ≡ false → equalities cs ≤ 0) → cond t 1 0 + equalities cs ≤ 0
      by true h rest = absurd (let z : ◌≡◌ {A = ℕ} 0 1 = cc in omega arith)
      by false h rest = omega (arith, rest h)

  pub clause-readings : (c : Clause) → equalities c.comparisons ≤ 1 → clause_holds χ c ≡ all (reading_holds χ) (readings c)
  unfolding clause_holds readings reading_holds reading all
  clause-readings c h = by (has_equality c.comparisons) refl
    where
      L : Bool
      L = any (literal_holds χ) c.literals

      by : (t : Bool) → has_equality c.comparisons ≡ t → L || any (comparison_holds χ) c.comparisons
          ≡ (L || as_read false c.comparisons) && all (reading_holds χ) (cond t (reading true c ∷ []) [])
      by true e =
          (λ i. L || one-twice c.comparisons h i) ∙ or-and_distrib_left L (as_read false c.comparisons) (as_read true c.comparisons)
          ∙ (λ i. (L || as_read false c.comparisons) && sym (and-true (L || as_read true c.comparisons)) i)
      by false e =
          (λ i. L || none-twice false c.comparisons (unequal c.comparisons e) i)
          ∙ sym (and-true (L || as_read false c.comparisons))

-- ---- their form
read-formed : (second : Bool) (r : ℕ) (c : Comparison) → WellFormedComparison r c → WellFormedConstraint r (read_as second c)
unfolding read_as
read-formed second r c w =
    let t = turns second c.relation in
    record {
      coefficients = length-map c.coefficients (signed t) ∙ w.coefficients;
      beyond = λ i h. get_or-signed t c.coefficients i ∙ ap (signed t) (w.beyond i h) ∙ signed-zero t;
      amounts = all-mapped Small (signed t) c.coefficients
          (all_map Small (λ z. Small (signed t z)) c.coefficients (λ z h. omega (arith, abs-signed t z, h)) w.amounts);
      bound = omega (arith, abs-signed t c.bound, w.bound);
    }

module _ (b r : ℕ) (c : Clause) (w : WellFormedClause b r c) where
  reading-formed : (second : Bool) → WellFormedReading b r (reading second c)
  unfolding reading
  reading-formed second = record {
    literals = w.literals;
    constraints = all-mapped (WellFormedConstraint r) (read_as second) c.comparisons
        (all_map (WellFormedComparison r) (λ d. WellFormedConstraint r (read_as second d)) c.comparisons
        (λ d h. read-formed second r d h) w.comparisons);
  }

  pub readings-formed : All (WellFormedReading b r) (readings c)
  unfolding readings
  readings-formed = (reading-formed false, by (has_equality c.comparisons))
    where
      by : (t : Bool) → All (WellFormedReading b r) (cond t (reading true c ∷ []) [])
      by true = (reading-formed true, tt)
      by false = tt
