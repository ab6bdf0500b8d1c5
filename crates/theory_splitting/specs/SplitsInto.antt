-- What a clause splits into: of each of its readings nothing where normalizing drops it, else the parts of the clause that is left.
use Rattle.std.specs.Prelude.{◌≡◌, refl, Bool, true, false, ◌↔◌, List, [], ◌∷◌, ◌++◌, map, ℕ, zero, suc, ◌+◌, ◌-◌, ◌≤◌, ◌<◌, neg_ℤ, T}
use Rattle.std.specs.Prelude.{length, take}
use Rattle.std.proofs.Common.{sym, ap, subst, arith}
use Rattle.std.proofs.Math.Option.{Option, none, some}
use Rattle.std.proofs.Math.ListN.{get_elem?}
use Rattle.rules_types.specs.Limits as limit
use Rattle.rules.specs.Problem.{Relation, le, lt, eq, ge, Comparison, Constraint, Clause, Problem, is_equality}
use Rattle.rules.specs.Readings.{Disjunction, is_strict, turns, signed, read_as, reading, has_equality}
use Rattle.rules.specs.Lines.{Line}
use Rattle.rules.specs.Normalize.{Normal, normal_clause, settled_all}
use Rattle.rules.specs.Split.{reading_parts, reading_splits, parts_of, splits_of}
use Rattle.theory_lists.specs.All.{All, Any, all_map, any-map, any-yes, yes-any}
use Rattle.theory_lists.specs.Tests.{is_true, of-true, clash, of-false}
use Rattle.theory_lists.specs.Places.{element-all}
use Rattle.theory_vectors.specs.Signed.{signed_same}
use Rattle.theory_splitting.specs.WellFormed.{WellFormedClause, splits_in, WellFormed}
use Rattle.theory_splitting.specs.NormalClause.{normal_of, clause-ends, length-members}
use Rattle.theory_splitting.specs.Normalized.{NormalizedTo, clause-normalized}
use Rattle.theory_splitting.specs.PartsAre.{PartsAre, parts_are}
use Rattle.theory_splitting.specs.Count.{normal_parts, normal_splits, splits-number}
use Rattle.theory_splitting.specs.Twice.{splits-once, parts-once, splits-twice, parts_twice}

-- ---- the words
-- "A ≥ is read with all signs turned."
abbrev Turned : Comparison → Constraint → Type 0
Turned c d = (d.strict ≡ false) × (d.coefficients ≡ map neg_ℤ c.coefficients) × (d.bound ≡ neg_ℤ c.bound)

-- as it is written
abbrev Kept : Bool → Comparison → Constraint → Type 0
Kept strict c d = (d.strict ≡ strict) × (d.coefficients ≡ c.coefficients) × (d.bound ≡ c.bound)

-- an = is read "first with ≤, then with ≥"
abbrev pub ReadAs : Bool → Relation → Comparison → Constraint → Type 0
ReadAs second le c d = Kept false c d
ReadAs second lt c d = Kept true c d
ReadAs false eq c d = Kept false c d
ReadAs true eq c d = Turned c d
ReadAs second ge c d = Turned c d

abbrev pub AllReadAs : Bool → List Comparison → List Constraint → Type 0
AllReadAs second [] [] = Unit {0}
AllReadAs second [] (d ∷ ds) = ⊥
AllReadAs second (c ∷ cs) [] = ⊥
AllReadAs second (c ∷ cs) (d ∷ ds) = ReadAs second c.relation c d × AllReadAs second cs ds

pub record IsReading (second : Bool) (c : Clause) (d : Disjunction) : Type 0 where
  pub literals : d.literals ≡ c.literals
  pub constraints : AllReadAs second c.comparisons d.constraints

abbrev pub Into : ℕ → Option Normal → List Line → Type 0
Into k none ls = ls ≡ []
Into k (some n) ls = PartsAre k n ls

-- a reading, with split variables numbered from k on
pub record ReadingInto (k : ℕ) (second : Bool) (c : Clause) (ls : List Line) : Type 0 where
  pub read : Disjunction
  pub reads : IsReading second c read
  pub normal : Option Normal
  pub normalized : NormalizedTo read normal
  pub into : Into k normal ls

-- a clause, and the split variables that it takes, "k - 1 links" for k pieces: "A clause with one = is read as two, first with ≤, then
-- with ≥, the second's pieces numbered on and its links counted"
pub data SplitsInto (k : ℕ) (c : Clause) (ls : List Line) (n : ℕ) : Type 0 where
  once : (Any (λ d. d.relation ≡ eq) c.comparisons → ⊥) → ReadingInto k false c ls → n ≡ length ls - 1 → SplitsInto k c ls n
  twice : Any (λ d. d.relation ≡ eq) c.comparisons → (first second : List Line) → ls ≡ first ++ second → ReadingInto k false c first
      → ReadingInto (k + (length first - 1)) true c second → n ≡ (length first - 1) + (length second - 1) → SplitsInto k c ls n

-- ---- so it does
-- 32 places for the positive literals, where the reading is not dropped
abbrev Sized : Option Normal → Type 0
Sized none = Unit {0}
Sized (some n) = length n.positive ≡ limit.all_booleans

sized : (d : Disjunction) → Sized (normal_clause d)
sized d = clause-ends Sized d (λ m. tt) (λ m. by (settled_all d.constraints))
  where
    by : (o : Option (List Constraint)) → Sized (normal_of d o)
    by none = tt
    by (some cs) = length-members false d.literals

into-parts : (k : ℕ) (o : Option Normal) → Sized o
    → k + normal_splits o ≤ limit.all_booleans → Into k o (normal_parts k o)
into-parts k none h f = refl
into-parts k (some n) h f = parts_are k n h f

read_as_lem : (second : Bool) (c : Comparison) → ReadAs second c.relation c (read_as second c)
unfolding read_as is_strict turns signed
read_as_lem second c = by second c.relation
  where
    by : (second : Bool) (ρ : Relation) → let t = turns second ρ in ReadAs second ρ c (record {
      strict = is_strict ρ;
      coefficients = map (signed t) c.coefficients;
      bound = signed t c.bound;
    })
    by second le = (refl, signed_same c.coefficients, refl)
    by second lt = (refl, signed_same c.coefficients, refl)
    by false eq = (refl, signed_same c.coefficients, refl)
    by true eq = (refl, refl, refl)
    by second ge = (refl, refl, refl)

all-read-as : (second : Bool) (cs : List Comparison) → AllReadAs second cs (map (read_as second) cs)
all-read-as second [] = tt
all-read-as second (c ∷ cs) = (read_as_lem second c, all-read-as second cs)

-- whether an = is written
is-equality : (ρ : Relation) → is_equality ρ ≡ true → ρ ≡ eq
unfolding is_equality
is-equality le e = absurd (let z : ◌≡◌ {A = ℕ} 0 1 = cc in omega arith)
is-equality lt e = absurd (let z : ◌≡◌ {A = ℕ} 0 1 = cc in omega arith)
is-equality eq e = refl
is-equality ge e = absurd (let z : ◌≡◌ {A = ℕ} 0 1 = cc in omega arith)

equality-is : (cs : List Comparison) → T (has_equality cs) ↔ Any (λ d. d.relation ≡ eq) cs
unfolding has_equality is_equality
equality-is cs = (
  λ h. any-map (λ d. T (is_equality d.relation)) (λ d. d.relation ≡ eq) cs (λ d t. is-equality d.relation (is_true _ t))
      (any-yes (λ d. is_equality d.relation) cs h),
  λ h. yes-any (λ d. is_equality d.relation) cs (any-map (λ d. d.relation ≡ eq) (λ d. T (is_equality d.relation)) cs
      (λ d e. subst (λ (ρ : Relation). T (is_equality ρ)) (sym e) tt) h),
)

module _ (c : Clause) (w : All (λ l. l.boolean < limit.all_booleans) c.literals) where
  reading-into : (k : ℕ) (second : Bool) → k + reading_splits (reading second c) ≤ limit.all_booleans
      → ReadingInto k second c (reading_parts k (reading second c))
  unfolding reading_parts reading_splits reading
  reading-into k second f =
      let d = reading second c in
      record {
        read = d;
        reads = record { literals = refl; constraints = all-read-as second c.comparisons };
        normal = normal_clause d;
        normalized = clause-normalized d w;
        into = into-parts k (normal_clause d) (sized d) f;
      }

  pub splits-into : (k : ℕ) → k + splits_of c ≤ limit.all_booleans → SplitsInto k c (parts_of k c) (splits_of c)
  splits-into k f = by (has_equality c.comparisons) refl
    where
      d : Disjunction
      d = reading false c

      by : (t : Bool) → has_equality c.comparisons ≡ t → SplitsInto k c (parts_of k c) (splits_of c)
      by true h =
          let n = splits-number k d in
          let second = reading_parts (k + reading_splits d) (reading true c) in
          let s = splits-twice c h in
          twice ((equality-is c.comparisons).0 (of-true (has_equality c.comparisons) h)) (reading_parts k d) second (parts_twice c h k)
          (reading-into k false (omega (arith, f, s)))
          (subst (λ (j : ℕ). ReadingInto (k + j) true c second) n (reading-into (k + reading_splits d) true (omega (arith, f, s))))
          (omega (arith, n, s, splits-number (k + reading_splits d) (reading true c)))
      by false h =
          let n = splits-number k d in
          let s = splits-once c h in
          let z = parts-once c h k in
          once (λ t. clash (has_equality c.comparisons) ((equality-is c.comparisons).1 t) (of-false (has_equality c.comparisons) h))
          (subst (ReadingInto k false c) (sym z) (reading-into k false (omega (arith, f, s))))
          (omega (arith, n, s, ap length z))

-- ---- every clause of a problem
splits-within : (clauses : List Clause) (n : ℕ) (c : Clause) → get_elem? clauses n ≡ some c
    → splits_in (take n clauses) + splits_of c ≤ splits_in clauses
splits-within [] n c e = absurd (let z : ◌≡◌ {A = ℕ} 0 1 = cc in omega arith)
splits-within (x ∷ xs) zero c e = let q : x ≡ c = cc in rw q (omega arith)
splits-within (x ∷ xs) (suc n) c e = omega (arith, splits-within xs n c e)

pub clause-splits : (p : Problem) → WellFormed p → (n : ℕ) (c : Clause) → get_elem? p.clauses n ≡ some c
    → let k = p.booleans + splits_in (take n p.clauses) in SplitsInto k c (parts_of k c) (splits_of c)
clause-splits p w n c e =
    let few = w.booleans in
    let all = w.splits in
    let f = element-all (WellFormedClause p.booleans p.rationals) p.clauses n c e w.clauses in
    splits-into c
    (all_map (λ l. l.boolean < p.booleans) (λ l. l.boolean < limit.all_booleans) c.literals (λ l h. omega (arith, h)) f.literals)
    (p.booleans + splits_in (take n p.clauses)) (omega (arith, splits-within p.clauses n c e))
