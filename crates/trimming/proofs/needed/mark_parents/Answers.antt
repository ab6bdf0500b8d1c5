-- `needed::mark_parents` meets its contract. Assumes nothing.
use mathlib.Core.Path.{◌≡◌, sym, ◌∙◌}
use mathlib.Core.Bool.{true, false}
use Rattle.trimming.specs.Parents.{origin-first, origin-second, origin-loaded, origin-resolved, parents-fit}
use Rattle.trimming.specs.Needed.{parents-unmarked, parents-loaded, parents-resolved}
use borrow.Author.Rules.{rules}
use Rattle.trimming.proofs.needed.mark_parents.Goals as goal

pub returns-then-not-marked : goal.returns-then-not-marked
returns-then-not-marked c =
    let t : c.marked.result ≡ false = search rules in
    parents-unmarked c.args.proof.now c.args.k c.args.marks.now (sym c.marked.ensures ∙ t)

pub returns-then-origin-eq0 : goal.returns-then-origin-eq0
returns-then-origin-eq0 c =
    parents-loaded c.args.proof.now c.args.k c.args.marks.now
    (origin-loaded c.requires.trimmable c.requires.k_bound c.origin_at-origin.ensures c.if-origin-eq0.true)

pub mark-requires : goal.mark-requires
mark-requires c =
    let f = parents-fit c.requires.trimmable c.requires.k_bound c.origin_at-origin.ensures c.if-origin-eq0.false in
    record { marks_len = c.requires.marks_len; i_lt_steps = f.0 }

pub mark-requires-2 : goal.mark-requires-2
mark-requires-2 c =
    let f = parents-fit c.requires.trimmable c.requires.k_bound c.origin_at-origin.ensures c.if-origin-eq0.false in
    record { marks_len = c.mark.ensures.size ∙ c.requires.marks_len; i_lt_steps = f.1 }

pub returns : goal.returns
returns c =
    let s = c.requires.trimmable in
    let k = c.requires.k_bound in
    let is = c.origin_at-origin.ensures in
    let yes : c.marked.result ≡ true = search rules in
    parents-resolved c.args.proof.now c.args.k c.args.marks.now (sym c.marked.ensures ∙ yes)
    (origin-resolved s k is c.if-origin-eq0.false) c.mark.new.marks c.mark-2.new.marks
    (rw (origin-first s k is) c.mark.ensures) (rw (origin-second s k is) c.mark-2.ensures)
