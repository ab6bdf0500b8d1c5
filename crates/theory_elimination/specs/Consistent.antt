-- No line of an elimination has a Boolean variable in both signs, if no part has; so no line stands on both sides of its round.
use Rattle.std.specs.Prelude.{List, T}
use Rattle.rules.specs.Lines.{meet, Line, Variable, rational, boolean, coefficient, positively, negatively}
use Rattle.rules.specs.Steps.{Step}
use Rattle.rules.specs.Elimination.{Stops, eliminate}
use Rattle.rules.specs.Needs.{steps_of}
use Rattle.theory_lists.specs.Tests.{clash}
use Rattle.theory_lists.specs.All.{All}
use Rattle.theory_lists.specs.Dropped.{dropped-is}
use Rattle.theory_vectors.specs.Sign.{one-sign}
use Rattle.theory_resolution.specs.Members.{meet-member}
use Rattle.theory_resolution.specs.Holds.{Consistent}
use Rattle.theory_resolution.specs.Formed.{resolve-consistent}
use Rattle.theory_elimination.specs.Closed.{elimination-closed}

pub consistent-one-side : (v : Variable) (l : Line) → Consistent l → T (positively v l) → T (negatively v l) → ⊥
unfolding positively negatively
consistent-one-side (rational f) l h a b = one-sign (coefficient f l.constraint) a b
consistent-one-side (boolean i) l h a b = clash (meet l.positive l.negative) (meet-member l.positive l.negative i a b) h

pub elimination-consistent : (stops : Stops) (variables : List Variable) (parts : List Step) → All (λ s. Consistent s.line) parts
    → All (λ s. Consistent s.line) (steps_of (eliminate stops variables parts))
elimination-consistent stops variables parts c =
    elimination-closed Consistent stops variables parts (λ v u l m hu hl a b e. dropped-is Consistent e (resolve-consistent v u l)) c
