-- The parts of a clause that are left, and what is known of them.
use Rattle.std.proofs.Math.Path.{◌≡◌, refl, sym, ap}
use Rattle.std.proofs.Common.{◌∙◌, lt-ltb, le-ltb}
use Rattle.std.specs.Prelude.{Bool, cond, List, [], ◌∷◌, ltb, get_or}
use Rattle.std.proofs.Math.Bool.{true, false}
use Rattle.std.proofs.Math.Option.{Option, none, some}
use Prim.Native.Nat.{ℕ, suc, ◌+◌, ◌-◌, ◌≤◌, max}
use Rattle.std.proofs.Math.Numerals.{add-one}
use native.Mathlib.Omega.{arith}
use Rattle.std.proofs.Math.ListN.{length}
use Rattle.rules_types.specs.Limits.{all_booleans}
use Rattle.theory_lists.specs.Tests.{of-true}
use Rattle.rules_types.specs.Layout.{comparison_bytes}
use Rattle.rules.specs.Problem.{Constraint}
use Rattle.rules.specs.Readings.{Disjunction, reading}
use Rattle.rules.specs.Lines.{Booleans, no_booleans, including, meet}
use Rattle.rules.specs.Lines as rules
use Rattle.rules.specs.Normalize.{reduced, settled_all, members_of, normal_clause}
use Rattle.rules.specs.Split.{chain, parts, reading_parts, reading_splits}
use Rattle.masks.specs.Mask.{bits}
use Rattle.problem_clauses.specs.declared.splits.Staying.{Staying}
use Rattle.problem_clauses.specs.declared.splits.Staying.TheVariants.{Dropped, Count}
use Rattle.problem_clauses.specs.Passes.{values-next}
use Rattle.problem_clauses.specs.Remaining.{counted}
use Rattle.problem_clauses.specs.Readings.{constraints-at}
use Rattle.problem_clauses.specs.Splits.{splits_by, splits-at}
use Rattle.problem_scan.specs.Values.{values_at, literal_at, constraint_at, constraints_at, count_of, clause_at}
use Rattle.problem_scan.specs.Sound.{Each, SoundComparison, SoundClause}
use Rattle.problem_parts.specs.declared.parts.Parts.{Parts}
use Rattle.problem_parts.specs.declared.skip.ConstraintsAt.{ConstraintsAt}
use Rattle.problem_parts.specs.Skip.{Skipped, kept-first}
use Rattle.problem_parts.specs.Constraint.{line_of}

-- the literals of the next part, as sets
abbrev pub positive_of : Parts → Booleans
positive_of c = bits all_booleans c.positive

abbrev pub negative_of : Parts → Booleans
negative_of c = bits all_booleans c.negative

-- the parts with the first part's literals p and n and the constraints that stay; none where the clause is dropped
unfoldable pub parts_by : ℕ → Booleans → Booleans → Option (List Constraint) → List rules.Line
parts_by k p n none = []
parts_by k p n (some cs) = parts k (record { positive = p; negative = n; constraints = cs })

unfoldable pub parts_if : Bool → ℕ → Booleans → Booleans → Option (List Constraint) → List rules.Line
parts_if false k p n o = []
parts_if true k p n o = parts_by k p n o

-- what normalizing leaves of the constraints
abbrev pub settled_of : List ℕ → ℕ → Parts → Option (List Constraint)
settled_of q r c = settled_all (constraints_at q c.second r c.left c.at)

abbrev pub staying_of : List ℕ → ℕ → Parts → Staying
staying_of q r c = counted 0 (settled_of q r c)

unfoldable pub parts_from : List ℕ → ℕ → Parts → List rules.Line
parts_from q r c = parts_if c.more c.split (positive_of c) (negative_of c) (settled_of q r c)

-- the constraints are sound, and those that stay are counted
pub record SoundParts (q : List ℕ) (r : ℕ) (c : Parts) : Type 0 where
  pub each : Each (SoundComparison q r) (comparison_bytes r) c.left c.at
  pub stays : c.more ≡ true → staying_of q r c ≡ Count c.stay
  pub few : c.split + c.stay ≤ 1000

-- how many there are
unfoldable pub parts_left : Parts → ℕ
parts_left c = cond c.more (max 1 c.stay) 0

-- the split variables that they take
abbrev pub splits_in : Parts → ℕ
splits_in c = splits_by false (Count c.stay)

-- ---- from the first part on
module _ (k : ℕ) (c : Disjunction) where
  abbrev positives : Booleans
  positives = members_of false c.literals

  abbrev negatives : Booleans
  negatives = members_of true c.literals

  clash-parts : meet positives negatives ≡ true → reading_parts k c ≡ []
  unfolding reading_parts normal_clause
  clash-parts e = rw (e, normal_clause, reading_parts)

  normal-parts : (o : Option (List Constraint)) → meet positives negatives ≡ false → settled_all c.constraints ≡ o
      → reading_parts k c ≡ parts_by k positives negatives o
  unfolding reading_parts normal_clause parts_by
  normal-parts none e f = rw (e, f, normal_clause, reading_parts)
  normal-parts (some cs) e f = rw (e, f, normal_clause, reading_parts)

-- all parts of a reading: its constraints and its literals
pub record Started (q : List ℕ) (r at : ℕ) (c : Parts) : Type 0 where
  pub place : c.at ≡ count_of q at + 1
  pub count : c.left ≡ get_or q (count_of q at) 0
  pub positive : positive_of c ≡ members_of false (values_at (literal_at q) 1 (get_or q at 0) (at + 1))
  pub negative : negative_of c ≡ members_of true (values_at (literal_at q) 1 (get_or q at 0) (at + 1))

-- so they are those of the reading
pub record Begun (q : List ℕ) (r at split : ℕ) (second : Bool) (c : Parts) : Type 0 where
  pub parts : parts_from q r c ≡ reading_parts split (reading second (clause_at q r at))
  pub sound : SoundParts q r c
  pub splits : splits_in c ≡ reading_splits (reading second (clause_at q r at))

-- none where the literals clash or a constraint drops the reading, else as many as stay
abbrev pub Agreeing : Bool → Staying → Parts → Type 0
Agreeing true k c = (c.more ≡ false) × (c.stay ≡ 0)
Agreeing false Dropped c = (c.more ≡ false) × (c.stay ≡ 0)
Agreeing false (Count n) c = (c.more ≡ true) × (c.stay ≡ n)

module _ (q : List ℕ) (r at : ℕ) (c : Parts) (start : Started q r at c) where
  abbrev whole : Disjunction
  whole = reading c.second (clause_at q r at)

  clash-begun : c.more ≡ false → meet (positive_of c) (negative_of c) ≡ true → parts_from q r c ≡ reading_parts c.split whole
  unfolding parts_from parts_if reading clause_at
  clash-begun m e = rw m (sym (clash-parts c.split whole (rw (start.positive, start.negative) at e)))

  normal-here : meet (positive_of c) (negative_of c) ≡ false
      → parts_by c.split (positive_of c) (negative_of c) (settled_of q r c) ≡ reading_parts c.split whole
  unfolding reading clause_at
  normal-here e = rw (start.place, start.count, start.positive, start.negative)
      (sym (normal-parts c.split whole _ (rw (start.positive, start.negative) at e)
      (ap settled_all (constraints-at q c.second r at))))

  dropped-none : (o : Option (List Constraint)) → Dropped ≡ counted 0 o → [] ≡ parts_by c.split (positive_of c) (negative_of c) o
  unfolding counted parts_by
  dropped-none none i = refl
  dropped-none (some cs) i = let z : ◌≡◌ {A = ℕ} 0 1 = cc in absurd (omega arith)

  splits-here : (m : Bool) (k : Staying) → meet (positive_of c) (negative_of c) ≡ m → k ≡ staying_of q r c
      → splits_by m k ≡ reading_splits whole
  splits-here m k e i = ap (splits_by m) i ∙ rw (start.place, start.count)
      (sym (splits-at q r at c.positive c.negative start.positive start.negative c.second m (count_of q at) e refl))

  module _ (sound : SoundClause q r at) (few : c.split + c.stay ≤ 1000) where
    sound-here : (c.more ≡ true → staying_of q r c ≡ Count c.stay) → SoundParts q r c
    sound-here k = record { each = rw (start.place, start.count) sound.comparisons; stays = k; few = few }

    sound_none : c.more ≡ false → SoundParts q r c
    sound_none m = sound-here (λ e. absurd (of-true false (sym m ∙ e)))

    pub begun : (m : Bool) (k : Staying) → meet (positive_of c) (negative_of c) ≡ m → k ≡ staying_of q r c → Agreeing m k c
        → Begun q r at c.split c.second c
    unfolding parts_from parts_if
    begun true k e i a = record {
      parts = clash-begun a.0 e;
      sound = sound_none a.0;
      splits = ap (λ (n : ℕ). n - 1) a.1 ∙ splits-here true k e i;
    }
    begun false Dropped e i a = record {
      parts = rw a.0 (dropped-none (settled_of q r c) i ∙ normal-here e);
      sound = sound_none a.0;
      splits = ap (λ (n : ℕ). n - 1) a.1 ∙ splits-here false Dropped e i;
    }
    begun false (Count n) e i a = record {
      parts = rw a.0 (normal-here e);
      sound = sound-here (λ t. sym i ∙ ap Count (sym a.1));
      splits = ap (λ (n : ℕ). n - 1) a.1 ∙ splits-here false (Count n) e i;
    }

-- ---- one part more
-- the part's own split variable, except the last's
unfoldable pub with_split : Bool → ℕ → Booleans → Booleans
with_split true k p = including k p
with_split false k p = p

module _ (k : ℕ) (p n : Booleans) (d : Constraint) (stay : ℕ) where
  abbrev with_first : Option (List Constraint) → Option (List Constraint)
  with_first o = elim o [ none ↦ none | some ds ↦ some (d ∷ ds) ]

  pub next-part : (o : Option (List Constraint)) → counted 0 (with_first o) ≡ Count stay
      → parts_by k p n (with_first o) ≡ record { positive = with_split (ltb 1 stay) k p; negative = n; constraint = some d } ∷ parts_if
      (ltb 1 stay) (k + 1) no_booleans (including k no_booleans) o
  unfolding parts_by parts_if with_split counted parts chain
  next-part none e = let z : ◌≡◌ {A = ℕ} 0 1 = cc in absurd (omega arith)
  next-part (some []) e =
      let s : 0 + 1 ≡ stay = cc in
      rw (le-ltb 1 stay (omega arith))
  next-part (some (x ∷ xs)) e =
      let s : 0 + suc (suc (length xs)) ≡ stay = cc in
      rw (lt-ltb 1 stay (omega arith), add-one k)

  pub next-count : (o : Option (List Constraint)) → counted 0 (with_first o) ≡ Count stay → counted 0 o ≡ Count (stay - 1)
  unfolding counted
  next-count none e = let z : ◌≡◌ {A = ℕ} 0 1 = cc in absurd (omega arith)
  next-count (some xs) e =
      let s : 0 + suc (length xs) ≡ stay = cc in
      let t : 0 + length xs ≡ stay - 1 = omega arith in
      ap Count t

-- the parts behind the one whose constraint stands at a place
unfoldable pub parts_behind : List ℕ → ℕ → Parts → ConstraintsAt → List rules.Line
parts_behind q r c p = parts_if (ltb 1 c.stay) (c.split + 1) no_booleans (including c.split no_booleans)
    (settled_all (constraints_at q c.second r (p.left - 1) (p.at + comparison_bytes r)))

-- the only part, without a constraint
pub bare-part : (k : ℕ) (p n : Booleans) (o : Option (List Constraint)) → counted 0 o ≡ Count 0 → parts_by k p n o ≡ record {
  positive = p;
  negative = n;
  constraint = none;
} ∷ []
unfolding parts_by counted parts
bare-part k p n none e = let z : ◌≡◌ {A = ℕ} 0 1 = cc in absurd (omega arith)
bare-part k p n (some []) e = refl
bare-part k p n (some (x ∷ xs)) e = let s : 0 + suc (length xs) ≡ 0 = cc in absurd (omega arith)

-- ---- the next one: the part without a constraint, or the one whose constraint is the first that stays
pub zero_bits : bits all_booleans 0 ≡ no_booleans
unfolding bits no_booleans
zero_bits = refl

module _ (q : List ℕ) (r : ℕ) (c : Parts) (sound : SoundParts q r c) (more : c.more ≡ true) where
  pub from-bare : c.stay ≡ 0 → parts_from q r c ≡ line_of c.positive c.negative none ∷ []
  unfolding parts_from parts_if
  from-bare e = rw more (bare-part c.split (positive_of c) (negative_of c) _ (sound.stays more ∙ ap Count e))

  module _ (p : ConstraintsAt) (skipped : Skipped q c.second r c.at c.left p) where
    abbrev here : Constraint
    here = constraint_at q c.second r p.at

    abbrev behind : Option (List Constraint)
    behind = settled_all (constraints_at q c.second r (p.left - 1) (p.at + comparison_bytes r))

    first-kept : settled_of q r c
        ≡ elim behind [ none ↦ none | some ds ↦ some (reduced here ∷ ds) ]
    first-kept =
        sym skipped.same
        ∙ ap settled_all (values-next (constraint_at q c.second r) (comparison_bytes r) p.at p.left skipped.more)
        ∙ kept-first here (constraints_at q c.second r (p.left - 1) (p.at + comparison_bytes r)) skipped.stays

    count_kept : counted 0 (elim behind [ none ↦ none | some ds ↦ some (reduced here ∷ ds) ]) ≡ Count c.stay
    count_kept = sym (ap (counted 0) first-kept) ∙ sound.stays more

    pub behind-count : counted 0 behind ≡ Count (c.stay - 1)
    behind-count = next-count c.split (positive_of c) (negative_of c) (reduced here) c.stay behind count_kept

    pub from-kept : parts_from q r c
        ≡ record {
          positive = with_split (ltb 1 c.stay) c.split (positive_of c);
          negative =
              negative_of c;
          constraint = some (reduced here);
        } ∷ parts_behind q r c p
    unfolding parts_from parts_if parts_behind
    from-kept = rw (more, first-kept)
        (next-part c.split (positive_of c) (negative_of c) (reduced here) c.stay behind count_kept)
