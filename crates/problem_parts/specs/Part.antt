-- A part by its number: what is left of the parts decides.
use Rattle.std.specs.Prelude.{◌≡◌, refl, Bool, true, false, cond, List, [], ◌∷◌, ℕ, suc, ◌+◌, ◌-◌, ◌≤◌, ◌<◌, max, length}
use Rattle.std.proofs.Common.{sym, ap, ◌∙◌, arith}
use Rattle.std.proofs.Math.Option.{Option, none, some}
use Rattle.std.proofs.Math.ListN.{get_elem?}
use Rattle.rules.specs.Lines as rules
use Rattle.rules.specs.Problem.{Constraint, Clause}
use Rattle.rules.specs.Readings.{reading, has_equality}
use Rattle.rules.specs.Split.{reading_parts, reading_splits, parts_of}
use Rattle.theory_lists.specs.Places.{element-left, element-right}
use Rattle.theory_splitting.specs.Count.{parts-number}
use Rattle.theory_splitting.specs.Twice.{parts-once, parts_twice}
use Rattle.problem_clauses.specs.declared.splits.Staying.TheVariants.{Count}
use Rattle.problem_clauses.specs.Remaining.{counted}
use Rattle.problem_scan.specs.Values.{clause_at}
use Rattle.lines.specs.Line.{meaning}
use Rattle.problem_parts.specs.declared.part.Found.{Found}
use Rattle.problem_parts.specs.declared.parts.Parts.{Parts}
use Rattle.problem_parts.specs.Parts.{positive_of, negative_of, settled_of, parts_by, parts_if, parts_from, SoundParts, parts_left, Begun}

unfoldable pub part_of : Found → Option rules.Line
part_of f = cond f.found (some (meaning f.line)) none

-- `more` says whether a part is left
pub from-none : (q : List ℕ) (r : ℕ) (c : Parts) → c.more ≡ false → parts_from q r c ≡ []
unfolding parts_from parts_if
from-none q r c e = rw e

-- part `left` from here on is the one that is looked for
pub record Looking (q : List ℕ) (r : ℕ) (wanted : Option rules.Line) (c : Parts) (left : ℕ) : Type 0 where
  pub sound : SoundParts q r c
  pub same : get_elem? (parts_from q r c) left ≡ wanted

-- part j of the clause at a place
abbrev pub LookingFor : List ℕ → ℕ → ℕ → ℕ → ℕ → Parts → ℕ → Type 0
LookingFor q r at split j = Looking q r (get_elem? (parts_of split (clause_at q r at)) j)

module _ (q : List ℕ) (r : ℕ) (wanted : Option rules.Line) (c : Parts) (left : ℕ) (run : Looking q r wanted c left) where
  pub looking-here : left ≤ 0 → get_elem? (parts_from q r c) 0 ≡ wanted
  looking-here h = let e : 0 ≡ left = omega arith in ap (get_elem? (parts_from q r c)) e ∙ run.same

  pub looking-none : c.more ≡ false → get_elem? (parts_from q r c) 0 ≡ wanted
  looking-none e = ap (λ (ls : List rules.Line). get_elem? ls 0) (from-none q r c e)
      ∙ sym (ap (λ (ls : List rules.Line). get_elem? ls left) (from-none q r c e)) ∙ run.same

  pub looking-next : 0 < left → (l : rules.Line) (d : Parts) → parts_from q r c ≡ l ∷ parts_from q r d → SoundParts q r d
      → Looking q r wanted d (left - 1)
  looking-next h l d e k =
      let s : left ≡ suc (left - 1) = omega arith in
      record {
        sound = k;
        same = sym (ap (λ (ls : List rules.Line). get_elem? ls left) e ∙ ap (get_elem? (l ∷ parts_from q r d)) s) ∙ run.same;
      }

-- ---- in which reading of a clause part j stands
count-is : (q : List ℕ) (r : ℕ) (c : Parts) → SoundParts q r c → length (parts_from q r c) ≡ parts_left c
unfolding parts_from parts_if parts_by parts_left counted
count-is q r c sound = by c.more (settled_of q r c) sound.stays
  where
    by : (m : Bool) (o : Option (List Constraint)) → (m ≡ true → counted 0 o ≡ Count c.stay)
        → length (parts_if m c.split (positive_of c) (negative_of c) o) ≡ cond m (max 1 c.stay) 0
    by false o h = refl
    by true none h = let e = h refl in let z : ◌≡◌ {A = ℕ} 0 1 = cc in absurd (omega arith)
    by true (some cs) h =
        let e = h refl in
        let n : 0 + length cs ≡ c.stay = cc in
        omega (arith, n, parts-number c.split (positive_of c) (negative_of c) cs)

pub begun-count : (q : List ℕ) (r at split : ℕ) (second : Bool) (c : Parts) → Begun q r at split second c
    → parts_left c ≡ length (reading_parts split (reading second (clause_at q r at)))
begun-count q r at split second c h = sym (count-is q r c h.sound) ∙ ap length h.parts

module _ (k : ℕ) (c : Clause) (j : ℕ) where
  abbrev first : List rules.Line
  first = reading_parts k (reading false c)

  pub part-once : has_equality c.comparisons ≡ false → get_elem? first j ≡ get_elem? (parts_of k c) j
  part-once e = sym (ap (λ (ls : List rules.Line). get_elem? ls j) (parts-once c e k))

  pub part-first : j < length first → get_elem? first j ≡ get_elem? (parts_of k c) j
  part-first h = by (has_equality c.comparisons) refl
    where
      by : (t : Bool) → has_equality c.comparisons ≡ t → get_elem? first j ≡ get_elem? (parts_of k c) j
      by true e = element-left first (reading_parts (k + reading_splits (reading false c)) (reading true c)) j h
          ∙ sym (ap (λ (ls : List rules.Line). get_elem? ls j) (parts_twice c e k))
      by false e = part-once e

  pub part-second : has_equality c.comparisons ≡ true → length first ≤ j
      → get_elem? (reading_parts (k + reading_splits (reading false c)) (reading true c)) (j - length first) ≡ get_elem? (parts_of k c) j
  part-second e h =
      element-right first (reading_parts (k + reading_splits (reading false c)) (reading true c)) j h
      ∙ sym (ap (λ (ls : List rules.Line). get_elem? ls j) (parts_twice c e k))
