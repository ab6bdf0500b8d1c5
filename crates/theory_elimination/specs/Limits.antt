-- Limits: the limited elimination is the elimination without limits exactly if that fits them; otherwise it ends by overflow or out of
-- steps.
use Rattle.std.specs.Prelude.{◌≡◌, refl, Bool, true, false, ◌&&◌, ◌⊎◌, List, [], ℕ, ◌≤◌, ◌<◌, leb}
use Rattle.std.proofs.Math.Path.{sym, subst, subst⁻¹}
use Rattle.std.proofs.Common.{◌∙◌, inl, inr, ⊎_elim, arith}
use Rattle.std.proofs.Math.Bool.{not}
use Rattle.std.proofs.Math.Option.{none}
use Rattle.std.proofs.Math.Dec.{T}
use Rattle.std.proofs.Math.Arith.{lt→nleb}
use Rattle.std.proofs.Math.ListN.{length}
use Rattle.rules_types.specs.declared.limits.Limits.{Limits}
use Rattle.rules.specs.Problem.{Problem}
use Rattle.rules.specs.Elimination.{Stops, limited, unlimited, State, covered, overflows}
use Rattle.rules.specs.Elimination.{order_of, loadable_of, eliminate, elimination}
use Rattle.rules.specs.Needs.{steps_of, needs, resolvents, Fits}
use Rattle.theory_lists.specs.Tests.{is_false}
use Rattle.theory_lists.specs.All.{All, all_map, all_both, all_yes, yes-all}
use Rattle.theory_elimination.specs.Events.{Event, events}
use Rattle.theory_elimination.specs.Cut.{stop_of, stop_at, eliminate-cut}
use Rattle.theory_elimination.specs.Stopped.{Passes, cut-passes, Stopped, stopped-clash, cut_or}
use Rattle.theory_elimination.specs.Chosen.{elimination-ordered}
use Rattle.theory_elimination.specs.WithinLimits.{limited-held, unlimited-unstopped}
use Rattle.theory_elimination.specs.Resolvents.{resolvents-are, resolvents-all, all-resolvents}
use Rattle.theory_elimination.specs.Longer.{Room, events-room}

-- ---- an event that fits passes, and one that passes fits
abbrev InRange : Event → Type 0
InRange e = T e.is_resolvent → T (not (overflows e.line))

fit-passes : (N : ℕ) (r w subsumed : Bool) (held : ℕ) → (T r → T (not w)) → (T (not subsumed) → held < N)
    → stop_of (r && w) subsumed (leb N held) ≡ none
unfolding stop_of
fit-passes N true true subsumed held f g = absurd (f tt)
fit-passes N true false true held f g = refl
fit-passes N true false false held f g = rw (is_false (leb N held) (lt→nleb N held (g tt)))
fit-passes N false w true held f g = refl
fit-passes N false w false held f g = rw (is_false (leb N held) (lt→nleb N held (g tt)))

pass-in-range : (r w subsumed many : Bool) → stop_of (r && w) subsumed many ≡ none → T r → T (not w)
unfolding stop_of
pass-in-range true true subsumed many e z = let k : ◌≡◌ {A = ℕ} 0 1 = cc in absurd (omega arith)
pass-in-range true false subsumed many e z = tt
pass-in-range false w subsumed many e z = absurd z

-- ---- the theorem, for every limit
module _ (limits : Limits) (p : Problem) where
  abbrev es : List Event
  es = events (order_of p) (loadable_of p)

  -- the elimination, as that in its order
  ordered : (stops : Stops) → elimination stops p ≡ eliminate stops (order_of p) (loadable_of p)
  ordered stops = elimination-ordered stops p

  all_pass : Fits limits p → All (Passes (limited limits)) es
  unfolding needs stop_at limited
  all_pass h =
      all_map (λ e. InRange e × Room limits.steps e) (Passes (limited limits)) es (λ e k. fit-passes limits.steps e.is_resolvent
      (overflows e.line) (covered e.line e.steps) (length e.steps) k.0 k.1)
      (all_both InRange (Room limits.steps) es
      (resolvents-all (λ l. T (not (overflows l))) es
      (rw (resolvents-are p) (all_yes (λ l. not (overflows l)) (resolvents p) h.amounts)))
      (events-room (order_of p) (loadable_of p) limits.steps
      (subst (λ (s : State). length (steps_of s) ≤ limits.steps) (ordered unlimited) h.steps)))

  pub fits-same : Fits limits p → elimination (limited limits) p ≡ elimination unlimited p
  fits-same h = ordered (limited limits) ∙ eliminate-cut (limited limits) (order_of p) (loadable_of p)
      ∙ cut-passes (limited limits) es (eliminate unlimited (order_of p) (loadable_of p)) (all_pass h) ∙ sym (ordered unlimited)

  pass_fits : All (Passes (limited limits)) es → Fits limits p
  unfolding needs stop_at limited
  pass_fits h =
      let same = eliminate-cut (limited limits) (order_of p) (loadable_of p)
      ∙ cut-passes (limited limits) es (eliminate unlimited (order_of p) (loadable_of p)) h ∙ sym (ordered unlimited) in
      record {
        steps = subst (λ (s : State). length (steps_of s) ≤ limits.steps) same (limited-held limits (order_of p) (loadable_of p));
        amounts =
            yes-all (λ l. not (overflows l)) (resolvents p) (subst (All (λ l. T (not (overflows l)))) (resolvents-are p)
            (all-resolvents (λ l. T (not (overflows l))) es (all_map (Passes (limited limits)) InRange es (λ e k. pass-in-range
            e.is_resolvent (overflows e.line) (covered e.line e.steps) (leb limits.steps (length e.steps)) k) h)));
      }

  pub fits-or-stopped : Fits limits p ⊎ Stopped (elimination (limited limits) p)
  fits-or-stopped =
      ⊎_elim (λ h. inl (pass_fits h))
      (λ k. inr (subst⁻¹ Stopped (ordered (limited limits) ∙ eliminate-cut (limited limits) (order_of p) (loadable_of p)) k))
      (cut_or (limited limits) es (eliminate unlimited (order_of p) (loadable_of p)))

  pub fits-unstopped : Fits limits p → Stopped (elimination (limited limits) p) → ⊥
  fits-unstopped h k =
      stopped-clash (eliminate unlimited (order_of p) (loadable_of p)) (unlimited-unstopped (order_of p) (loadable_of p))
      (subst Stopped (fits-same h ∙ ordered unlimited) k)
