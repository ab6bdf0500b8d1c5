-- Clauses by their numbers: the place of each, and its first split variable.
use Rattle.std.specs.Prelude.{◌≡◌, List, ℕ, suc, ◌+◌, ◌-◌, ◌≤◌, ◌<◌, length, get_or, set}
use Rattle.std.proofs.Common.{ap, ◌∙◌, ⊎_elim, eq-zero-or-pos, arith, lt-ltb, get_or-set_same, get_or-set_other}
use Rattle.std.proofs.Math.ListN.{get_elem?}
use Rattle.rules_types.specs.Limits as limit
use Rattle.rules_types.specs.Layout as layout
use Rattle.rules.specs.Split.{parts_of, splits_of}
use Rattle.rules.specs.Calls.{read}
use Rattle.problem_scan.specs.declared.cursor.Sizes.{Sizes}
use Rattle.problem_scan.specs.Values.{clause_at, clause_end}
use Rattle.problem_scan.specs.Sound.{SoundClause}
use Rattle.problem_clauses.specs.Walk.{clause-≤}
use Rattle.problem_read.specs.Clauses.{clauses_at, clauses-next}
use Rattle.problem_read.specs.Readable.{Readable, Ahead, ahead-start, ahead_within, ahead-sound, ahead-few, ahead-next}
use Rattle.problem_read.specs.Parsed.{all_clauses}
use Rattle.step_check.specs.Named.{part_named}

-- clause c stands there, and that is its first split variable
pub record Entry (q : List ℕ) (sizes : Sizes) (place variable c : ℕ) : Type 0 where
  pub sound : SoundClause q sizes.rationals place
  pub small : variable + splits_of (clause_at q sizes.rationals place) ≤ limit.all_booleans
  pub named : (k : ℕ) → part_named sizes.booleans (all_clauses q sizes) c k
      ≡ get_elem? (parts_of variable (clause_at q sizes.rationals place)) k

-- the first m clauses
abbrev pub Indexed : List ℕ → Sizes → List ℕ → List ℕ → ℕ → Type 0
Indexed q sizes places variables m = (c : ℕ) → c < m → Entry q sizes (get_or places c 0) (get_or variables c 0) c

-- a problem of these sizes that is read without fault, with its clauses indexed
pub record Known (q : List ℕ) (sizes : Sizes) (places variables : List ℕ) : Type 0 where
  pub readable : Readable q sizes
  pub places-length : length places ≡ limit.clauses
  pub variables-length : length variables ≡ limit.clauses
  pub entries : Indexed q sizes places variables sizes.clauses

-- m clauses are done; the next stands at `at`, and `variable` is its first split variable
pub record Indexing (q : List ℕ) (sizes : Sizes) (places variables : List ℕ) (at variable m : ℕ) : Type 0 where
  pub few : m ≤ sizes.clauses
  pub used : ℕ
  pub variable-is : variable ≡ sizes.booleans + used
  pub ahead : Ahead q sizes.rationals (sizes.clauses - m) at used
  pub done : Indexed q sizes places variables m
  pub rest : (d k : ℕ) → part_named sizes.booleans (all_clauses q sizes) (m + d) k
      ≡ part_named variable (clauses_at q sizes.rationals (sizes.clauses - m) at) d k

-- a problem that is read without fault has at most 32,768 bytes
pub readable-short : {q : List ℕ} {sizes : Sizes} → Readable q sizes → length q ≤ limit.problem_bytes
unfolding read
readable-short {q} h = ⊎_elim (λ z. omega arith) (λ z. absurd (long (omega arith))) (eq-zero-or-pos (length q - limit.problem_bytes))
  where
    long : limit.problem_bytes < length q → ⊥
    long l =
        let i = rw (lt-ltb limit.problem_bytes (length q) l, read) at h.is_read in
        let z : ◌≡◌ {A = ℕ} 0 1 = cc in
        omega arith

pub indexing-start : {q : List ℕ} {sizes : Sizes} (places variables : List ℕ) → Readable q sizes
    → Indexing q sizes places variables layout.first_clause sizes.booleans 0
indexing-start {q} {sizes} places variables h =
    let e : sizes.clauses - 0 ≡ sizes.clauses = omega arith in
    record {
      few = omega arith;
      used = 0;
      variable-is = omega arith;
      ahead = rw e (ahead-start h);
      done = λ c l. absurd (omega arith);
      rest = λ d k. let z : 0 + d ≡ d = omega arith in rw (e, z);
    }

-- one more in both lists
stored : (P : ℕ → ℕ → ℕ → Type 0) (xs ys : List ℕ) (x y m : ℕ) → m < length xs → m < length ys
    → ((c : ℕ) → c < m → P (get_or xs c 0) (get_or ys c 0) c) → P x y m
    → (c : ℕ) → c < m + 1 → P (get_or (set xs m x) c 0) (get_or (set ys m y) c 0) c
stored P xs ys x y m h i old new c l = ⊎_elim
    (λ z. let e : c ≡ m = omega arith in rw (e, get_or-set_same xs m x 0 h, get_or-set_same ys m y 0 i) new)
    (λ z. rw (get_or-set_other xs m c x 0 (λ e. omega arith), get_or-set_other ys m c y 0 (λ e. omega arith)) (old c (omega arith)))
    (eq-zero-or-pos (m - c))

module _ (q : List ℕ) (r variable m at : ℕ) (more : 0 < m) where
  named-first : (k : ℕ) → part_named variable (clauses_at q r m at) 0 k ≡ get_elem? (parts_of variable (clause_at q r at)) k
  unfolding part_named
  named-first k = rw (clauses-next q r m at more)

  named-later : (d k : ℕ) → part_named variable (clauses_at q r m at) (suc d) k
      ≡ part_named (variable + splits_of (clause_at q r at)) (clauses_at q r (m - 1) (clause_end q r at)) d k
  unfolding part_named
  named-later d k = rw (clauses-next q r m at more)

module _ {q : List ℕ} {sizes : Sizes} {places variables : List ℕ} {at variable m : ℕ}
    (run : Indexing q sizes places variables at variable m) (more : m < sizes.clauses) where
  left : 0 < sizes.clauses - m
  left = omega arith

  -- what the loop needs of the clause at hand
  pub indexing-within : clause_end q sizes.rationals at ≤ length q
  indexing-within = ahead_within run.ahead left

  pub indexing-place : at ≤ length q
  indexing-place = omega (arith, clause-≤ q sizes.rationals at, indexing-within)

  pub indexing-small : sizes.booleans ≤ limit.booleans → variable + splits_of (clause_at q sizes.rationals at) ≤ limit.all_booleans
  indexing-small h = omega (arith, run.variable-is, ahead-few run.ahead left)

  entry : sizes.booleans ≤ limit.booleans → Entry q sizes at variable m
  entry h =
      record {
        sound = ahead-sound run.ahead left;
        small = indexing-small h;
        named = λ k.
            let z : m ≡ m + 0 = omega arith in
            ap (λ (c : ℕ). part_named sizes.booleans (all_clauses q sizes) c k) z ∙ run.rest 0 k
            ∙ named-first q sizes.rationals variable (sizes.clauses - m) at left k;
      }

  pub indexing-next : sizes.booleans ≤ limit.booleans → m < length places → m < length variables
      → Indexing q sizes (set places m at) (set variables m variable) (clause_end q sizes.rationals at)
      (variable + splits_of (clause_at q sizes.rationals at)) (m + 1)
  indexing-next h i j =
      let e : sizes.clauses - (m + 1) ≡ sizes.clauses - m - 1 = omega arith in
      record {
        few = omega arith;
        used = run.used + splits_of (clause_at q sizes.rationals at);
        variable-is = omega (arith, run.variable-is);
        ahead = rw e (ahead-next run.ahead left);
        done = stored (Entry q sizes) places variables at variable m i j run.done (entry h);
        rest = λ d k.
            let z : m + 1 + d ≡ m + suc d = omega arith in
            ap (λ (c : ℕ). part_named sizes.booleans (all_clauses q sizes) c k) z ∙ run.rest (suc d) k
            ∙ named-later q sizes.rationals variable (sizes.clauses - m) at left d k ∙ rw e;
      }
