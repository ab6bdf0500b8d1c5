-- `part::first` meets its contract. Assumes nothing.
use mathlib.Core.Path.{sym, ap}
use mathlib.Core.List.{List}
use lib.ListN.{get_elem?}
use Rattle.rules.specs.Lines as rules
use Rattle.problem_parts.specs.Part.{part_of, from-none}
use Rattle.problem_parts.proofs.part.first.Goals as goal

pub returns-then-parts : goal.returns-then-parts
unfolding part_of
returns-then-parts c = let n = c.next-p in record {
  result_value = sym
      (ap (λ (ls : List rules.Line). get_elem? ls 0) n.ensures.parts_value);
  ready = n.ensures.ready;
}

pub returns : goal.returns
unfolding part_of
returns c = record {
  result_value = sym (ap (λ (ls : List rules.Line). get_elem? ls 0)
      (from-none c.args.input.now c.args.r c.args.parts c.if-parts.false));
  ready = c.bare.ensures.ready;
}
