-- `state::line_stated` meets its contract. Assumes nothing.
use mathlib.Core.Path.{sym, ap, ◌∙◌}
use Rattle.rules.specs.Elimination.{loadable_of}
use Rattle.steps.specs.declared.origin.Origin.{Origin}
use Rattle.steps.specs.Lines.{lines_in}
use Rattle.step_check.specs.Resolvents.{states-same}
use Rattle.problem_read.specs.Parsed.{posed_at}
use Rattle.proof_check.specs.Loaded.{loaded-other, stated-loaded, stated-derived}
use Rattle.proof_check.proofs.state.line_stated.Goals as goal

pub returns-then-origin-eq0 : goal.returns-then-origin-eq0
returns-then-origin-eq0 c =
    let a = c.args in
    states-same (stated-loaded (loadable_of (posed_at a.edition a.input.now a.sizes)) (lines_in a.proof.now a.i) a.bytes
    (sym (ap (λ (o : Origin). o.how) c.origin_at-origin.ensures) ∙ c.if-origin-eq0.true)) c.loaded.ensures

pub returns : goal.returns
returns c =
    let a = c.args in
    let none-loaded = loaded-other a.edition c.requires.known.readable a.bytes
    (λ e. c.if-origin-eq0.false (ap (λ (o : Origin). o.how) c.origin_at-origin.ensures ∙ e)) in
    states-same (stated-derived (loadable_of (posed_at a.edition a.input.now a.sizes)) (lines_in a.proof.now a.i) a.bytes
    none-loaded) c.derived.ensures
