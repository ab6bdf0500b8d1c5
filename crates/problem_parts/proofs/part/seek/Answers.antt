-- `part::seek` meets its contract: part j is one of the first reading's, or the clause has no other; or it stands in the second.
use mathlib.Core.Path.{◌≡◌, sym, ap, ◌∙◌}
use mathlib.Core.Bool.{true, false}
use mathlib.Core.List.{List}
use Prim.Native.Nat.{ℕ, ◌+◌, ◌-◌}
use native.Mathlib.Omega.{arith}
use lib.ListN.{length, get_elem?}
use Rattle.rules.specs.Problem.{Clause}
use Rattle.rules.specs.Readings.{reading, has_equality}
use Rattle.rules.specs.Lines as rules
use Rattle.rules.specs.Split.{reading_parts, reading_splits, parts_of}
use Rattle.theory_splitting.specs.Twice.{splits-twice}
use Rattle.problem_scan.specs.Values.{clause_at}
use Rattle.problem_parts.specs.Part.{Looking, begun-count, part-once, part-first, part-second}
use Rattle.problem_parts.proofs.part.seek.Goals as goal
use Rattle.problem_parts.proofs.part.seek.Goals.{After-count-n, After-splits, then-j-n-via-then-j-n}
use Rattle.problem_parts.proofs.part.seek.Goals.{then-j-n-via-else-j-n+then-not-read_twice}

pub begin-first-requires : goal.begin-first-requires
begin-first-requires c = record { sound_clause = c.requires.sound_clause; split_le_all_booleans = omega (arith, c.requires.at_bound) }

-- the clause, and its first reading's parts
module _ (c : After-count-n) where
  abbrev here : Clause
  here = clause_at c.args.input.now c.args.r c.args.at

  abbrev first : List rules.Line
  first = reading_parts c.args.split (reading false here)

  many : c.count-n.result ≡ length first
  many =
      let a = c.args in
      c.count-n.ensures ∙ begun-count a.input.now a.r a.at a.split false c.begin-first.result c.begin-first.ensures

  in-first : get_elem? first c.args.j ≡ get_elem? (parts_of c.args.split here) c.args.j
      → Looking c.args.input.now c.args.r (get_elem? (parts_of c.args.split here) c.args.j)
      c.begin-first.result c.args.j
  in-first e =
      let b = c.begin-first in
      record { sound = b.ensures.sound; same = ap (λ (ls : List rules.Line). get_elem? ls c.args.j) b.ensures.parts ∙ e }

pub returns-then-j-n : goal.returns-then-j-n
returns-then-j-n c =
    let a = c.args in
    let k = (goal.at.returns-then-j-n c).After-count-n in
    in-first k (elim c.then-j-n.branch [
      | then-j-n-via-then-j-n w ↦ part-first a.split (here k) a.j (omega (arith, many k, w.if-j-n.true))
      | then-j-n-via-else-j-n+then-not-read_twice w ↦
          part-once a.split (here k) a.j (sym w.read_twice.ensures ∙ w.if-not-read_twice.true)
    ])

-- the clause has two
twice : (c : After-splits) → has_equality (here (goal.at.After-splits c).After-count-n).comparisons ≡ true
twice c = sym c.read_twice.ensures ∙ c.if-not-read_twice.false

-- its second reading's split variables begin behind those of the first
behind : (c : After-splits) → c.splits.result ≡ reading_splits (reading false (here (goal.at.After-splits c).After-count-n))
behind c = let b = c.begin-first in c.splits.ensures ∙ b.ensures.splits

pub begin-requires : goal.begin-requires
begin-requires c = record {
  sound_clause = c.requires.sound_clause;
  split_le_all_booleans = omega (
    arith,
    c.requires.at_bound,
    behind c,
    splits-twice (here (goal.at.begin-requires c).After-count-n) (twice c),
  );
}

pub returns : goal.returns
returns c =
    let a = c.args in
    let n = c.count-n.result in
    let second = reading_parts (a.split + reading_splits (reading false (here (goal.at.returns c).After-count-n)))
    (reading true (here (goal.at.returns c).After-count-n)) in
    record {
      sound = c.begin.ensures.sound;
      same =
          ap (λ (ls : List rules.Line). get_elem? ls (a.j - n)) c.begin.ensures.parts
          ∙ ap (λ (m : ℕ). get_elem? (reading_parts (a.split + m) (reading true (here (goal.at.returns c).After-count-n))) (a.j - n))
          (behind (goal.at.returns c).After-splits)
          ∙ ap (λ (m : ℕ). get_elem? second (a.j - m)) (many (goal.at.returns c).After-count-n)
          ∙ part-second a.split (here (goal.at.returns c).After-count-n) a.j (twice (goal.at.returns c).After-splits)
          (omega (arith, many (goal.at.returns c).After-count-n, c.if-j-n.false));
    }
