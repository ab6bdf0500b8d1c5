-- The laws of the elimination, of a problem's own.
use Rattle.std.specs.Prelude.{◌≡◌, [], ◌≤◌, length}
use Rattle.std.proofs.Common.{sym, ap, ◌∙◌}
use Rattle.rules_types.specs.declared.limits.Limits.{Limits}
use Rattle.rules.specs.Problem.{Problem}
use Rattle.rules.specs.Elimination.{Stops, State, limited, unlimited, order_of, loadable_of, elimination}
use Rattle.rules.specs.Needs.{steps_of}
use Rattle.theory_lists.specs.All.{All}
use Rattle.theory_splitting.specs.WellFormed.{WellFormed}
use Rattle.theory_elimination.specs.Events.{events}
use Rattle.theory_elimination.specs.Cut.{cut, eliminate-cut}
use Rattle.theory_elimination.specs.WithinLimits.{limited-held, Unstopped, unlimited-unstopped}
use Rattle.theory_elimination.specs.Chosen.{elimination-ordered}
use Rattle.theory_elimination.specs.Ends.{EndsRight, elimination-ends}
use Rattle.theory_elimination.specs.Sound.{Sound, elimination-sound}
use Rattle.theory_elimination.specs.Origins.{Each, Justified, Fresh, Distinct, elimination-origins, elimination-fresh, fresh-distinct}
use Rattle.theory_elimination.specs.Exactly.{Exactly}
use Rattle.theory_elimination.specs.OneLoop.{elimination-exactly}
use Rattle.theory_elimination.specs.Determined.{exactly-one}
use Rattle.theory_elimination.specs.Loaded.{AllLoaded, elimination-loads}

module _ (p : Problem) (stops : Stops) where
  pub elimination-lines : Each (Justified (order_of p) (loadable_of p)) [] (steps_of (elimination stops p))
  elimination-lines = rw (elimination-ordered stops p) (elimination-origins (order_of p) (loadable_of p) stops)

  pub elimination-undropped : Each Fresh [] (steps_of (elimination stops p))
  elimination-undropped = rw (elimination-ordered stops p) (elimination-fresh stops (order_of p) (loadable_of p))

  pub elimination-distinct : Each Distinct [] (steps_of (elimination stops p))
  elimination-distinct = fresh-distinct [] (steps_of (elimination stops p)) elimination-undropped

  pub elimination-is : Exactly stops (order_of p) (loadable_of p) (elimination stops p)
  elimination-is = rw (elimination-ordered stops p) (elimination-exactly stops (order_of p) (loadable_of p))

  pub elimination-only : (other : State) → Exactly stops (order_of p) (loadable_of p) other → other ≡ elimination stops p
  elimination-only other h = rw (elimination-ordered stops p) (exactly-one stops (order_of p) (loadable_of p) other h)

  pub elimination-normalized : WellFormed p → All (λ s. Sound s.line) (steps_of (elimination stops p))
  elimination-normalized w = rw (elimination-ordered stops p) (elimination-sound p w stops (order_of p))

  pub elimination-parts : AllLoaded stops (loadable_of p) (elimination stops p)
  elimination-parts = rw (elimination-ordered stops p) (elimination-loads stops (order_of p) (loadable_of p))

  pub elimination-last : EndsRight (elimination stops p)
  elimination-last = rw (elimination-ordered stops p) (elimination-ends stops (order_of p) (loadable_of p))

pub elimination-held : (limits : Limits) (p : Problem) → length (steps_of (elimination (limited limits) p)) ≤ limits.steps
elimination-held limits p = rw (elimination-ordered (limited limits) p) (limited-held limits (order_of p) (loadable_of p))

pub elimination-unstopped : (p : Problem) → Unstopped (elimination unlimited p)
elimination-unstopped p = rw (elimination-ordered unlimited p) (unlimited-unstopped (order_of p) (loadable_of p))

pub elimination-cut : (stops : Stops) (p : Problem)
    → elimination stops p ≡ cut stops (events (order_of p) (loadable_of p)) (elimination unlimited p)
elimination-cut stops p = elimination-ordered stops p ∙ eliminate-cut stops (order_of p) (loadable_of p)
    ∙ ap (cut stops (events (order_of p) (loadable_of p))) (sym (elimination-ordered unlimited p))
