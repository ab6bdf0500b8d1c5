-- The numbers of an elimination's steps fit their bytes: clauses and parts are few, and parents stand before their step.
use Rattle.std.specs.Prelude.{◌≡◌, List, [], ◌∷◌, ◌++◌, ℕ, zero, suc, ◌+◌, ◌≤◌, length, take}
use Rattle.std.proofs.Common.{subst, ⊎_elim, arith, length-append}
use Rattle.std.proofs.Math.Option.{some}
use Rattle.std.proofs.Math.ListN.{get_elem?}
use Rattle.rules_types.specs.declared.limits.Limits.{Limits}
use Rattle.rules_types.specs.Limits as limit
use Rattle.rules.specs.Problem.{Clause, Problem}
use Rattle.rules.specs.Split.{parts_of, splits_of}
use Rattle.rules.specs.Lines.{Variable}
use Rattle.rules.specs.Steps.{Step, header}
use Rattle.rules.specs.Elimination.{limited, order_of, loadable_of, eliminate, elimination}
use Rattle.rules.specs.Needs.{steps_of}
use Rattle.theory_lists.specs.All.{All, all_any, all_both, all_map}
use Rattle.theory_lists.specs.Places.{element-below, place-below}
use Rattle.theory_bytes.specs.Headers.{parents}
use Rattle.theory_bytes.specs.Lines.{Encodable, AllEncodable}
use Rattle.theory_layout.specs.Steps.{Writable}
use Rattle.theory_splitting.specs.WellFormed.{splits_in, WellFormed}
use Rattle.theory_splitting.specs.Count.{parts-length}
use Rattle.theory_splitting.specs.Named.{PartAmong, loadable-parts}
use Rattle.theory_elimination.specs.WithinLimits.{limited-held}
use Rattle.theory_elimination.specs.Chosen.{elimination-ordered}
use Rattle.theory_elimination.specs.Origins.{Each, Derived, Justified, elimination-origins}
use Rattle.theory_checks.specs.EliminationAccepted.{parts-encodable, elimination-encodable}

-- ---- the parts
splits-in : (clauses : List Clause) (n : ℕ) (c : Clause) → get_elem? clauses n ≡ some c → splits_of c ≤ splits_in clauses
splits-in [] n c e = absurd (let z : ◌≡◌ {A = ℕ} 0 1 = cc in omega arith)
splits-in (x ∷ xs) zero c e = let q : x ≡ c = cc in rw q (omega arith)
splits-in (x ∷ xs) (suc n) c e = omega (arith, splits-in xs n c e)

module _ (p : Problem) (w : WellFormed p) where
  part-writable : (s : Step) → PartAmong 0 p.booleans p.clauses s → Encodable s.line → Writable s
  unfolding header
  part-writable s h k =
      let few = w.few in
      let splits = w.splits in
      let a = element-below p.clauses h.number h.clause h.at in
      let base = p.booleans + splits_in (take h.number p.clauses) in
      let b = element-below (parts_of base h.clause) h.part.part s.line h.part.at in
      record {
        first = rw h.part.origin (omega arith);
        second = rw h.part.origin
            (omega (arith, parts-length base h.clause, splits-in p.clauses h.number h.clause h.at));
        line = k;
      }

  pub parts-writable : All Writable (loadable_of p)
  parts-writable =
      all_map (λ s. PartAmong 0 p.booleans p.clauses s × Encodable s.line) Writable (loadable_of p)
      (λ s h. part-writable s h.0 h.1)
      (all_both (PartAmong 0 p.booleans p.clauses) (λ s. Encodable s.line) (loadable_of p) (loadable-parts p) (parts-encodable p w))

  -- ---- an elimination's steps
  derived-writable : (variables : List Variable) (earlier : List Step) (s : Step) → length earlier ≤ limit.most_steps
      → Derived variables earlier s → Encodable s.line → Writable s
  derived-writable variables earlier s few d k =
      let n = parents d.variable d.first d.second in
      let a = place-below (λ x. x.line ≡ d.upper) earlier d.first d.at_first in
      let b = place-below (λ x. x.line ≡ d.lower) earlier d.second d.at_second in
      record { first = rw (d.names, n.0) (omega arith); second = rw (d.names, n.1) (omega arith); line = k }

  each-writable : (variables : List Variable) (earlier ss : List Step) → length earlier + length ss ≤ limit.most_steps → AllEncodable ss
      → Each (Justified variables (loadable_of p)) earlier ss → All Writable ss
  each-writable variables earlier [] few k j = tt
  each-writable variables earlier (s ∷ ss) few k j = (
    ⊎_elim (λ m. all_any Writable (λ x. x ≡ s) (loadable_of p) (λ x h e. subst Writable e h) parts-writable m)
        (λ d. derived-writable variables earlier s (omega arith) d k.0) j.0,
    each-writable variables (earlier ++ (s ∷ [])) ss (rw length-append (omega arith)) k.1 j.1,
  )

  pub elimination-writable : (limits : Limits) → limits.steps ≤ limit.most_steps → All Writable (steps_of (elimination (limited limits) p))
  elimination-writable limits few =
      rw (elimination-ordered (limited limits) p)
      (each-writable (order_of p) [] (steps_of (eliminate (limited limits) (order_of p) (loadable_of p)))
      (omega (arith, limited-held limits (order_of p) (loadable_of p)))
      (elimination-encodable p w limits (order_of p)) (elimination-origins (order_of p) (loadable_of p) (limited limits)))
