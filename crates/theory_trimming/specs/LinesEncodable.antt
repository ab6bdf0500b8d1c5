-- The lines of a proof that the check accepts come back from their bytes, if the parts do.
use Rattle.std.proofs.Common.{sym, ◌∙◌, subst, arith}
use Rattle.std.specs.Prelude.{List, [], ◌∷◌, ℕ, zero, suc, ◌≤◌, ◌<◌, get_or, take}
use Rattle.rules.specs.Problem.{Problem}
use Rattle.rules.specs.Lines.{Line}
use Rattle.rules.specs.Steps.{step_at}
use Rattle.rules.specs.Elimination.{loadable_of}
use Rattle.rules.specs.Trim.{step_count}
use Rattle.theory_lists.specs.All.{All, all_append}
use Rattle.theory_lists.specs.Places.{element-all}
use Rattle.theory_bytes.specs.Lines.{Encodable, AllEncodable}
use Rattle.theory_checks.specs.Following.{WrittenAs, stated-written, encodable-follows}
use Rattle.theory_trimming.specs.Elements.{element-take, take-element, element-get_or}
use Rattle.theory_trimming.specs.AcceptedLines.{AcceptedLines}

module _ (p : Problem) (known : AllEncodable (loadable_of p)) {proof : List ℕ} (x : AcceptedLines p proof) where
  abbrev lines : List Line
  lines = x.lines

  lines-encodable : (k : ℕ) → k ≤ step_count proof → All Encodable (take k lines)
  lines-encodable zero h = tt
  lines-encodable (suc k) h =
      let s = x.each k h in
      let r = lines-encodable k (omega arith) in
      rw (take-element lines k s.0 s.1) (all_append Encodable (take k lines) (s.0 ∷ []) r (
        encodable-follows (WrittenAs (step_at proof k)) (loadable_of p) known (take k lines) r s.0
            (stated-written (step_at proof k) s.0 (take k lines) (loadable_of p) s.2),
        tt,
      ))

  pub line-encodable : (j : ℕ) → j < step_count proof → (d : Line) → Encodable (get_or x.lines j d)
  line-encodable j h d =
      let s = x.each j h in
      subst Encodable (sym (element-get_or lines j s.0 d s.1))
      (element-all Encodable (take (suc j) lines) j s.0 (element-take (suc j) lines j (omega arith) ∙ s.1) (lines-encodable (suc j) h))
