-- No line of a problem's elimination has a coefficient from rational variable r on.
use Rattle.std.specs.Prelude.{◌≡◌, ◌⊎◌, ℕ, suc, ◌≤◌, pos, T}
use Rattle.std.proofs.Math.Path.{refl}
use Rattle.std.proofs.Common.{◌∙◌, ⊎_elim}
use mathlib.Core.List.{List, [], ◌∷◌}
use Rattle.std.proofs.Math.Option.{Option, none, some}
use Rattle.rules.specs.Arithmetic.{gcd_all, is_zero}
use Rattle.rules.specs.Problem.{Constraint, Problem}
use Rattle.rules.specs.Readings.{Disjunction}
use Rattle.rules.specs.Lines.{Booleans, no_booleans, including, Line, Variable, rational, coefficient, positively, negatively, contains}
use Rattle.rules.specs.Normalize.{Settled, always, never, kept, settled, settled_all, reduced, Normal, normal_clause}
use Rattle.rules.specs.Split.{chain, parts, reading_parts}
use Rattle.rules.specs.Resolve.{resolve}
use Rattle.rules.specs.Needs.{steps_of}
use Rattle.rules.specs.Elimination.{Stops, order_of, loadable_of, elimination}
use Rattle.theory_integers.specs.Quotient.{quot-zero}
use Rattle.theory_lists.specs.Tests.{split}
use Rattle.theory_lists.specs.All.{All, all_map}
use Rattle.theory_lists.specs.Dropped.{DroppedOr, dropped-then, dropped-is}
use Rattle.theory_vectors.specs.Sign.{zero-yes}
use Rattle.theory_vectors.specs.Constraint.{get_or-quotients}
use Rattle.theory_resolution.specs.Settled.{settled-cases}
use Rattle.theory_resolution.specs.Variables.{contains-rational, resolve-variables}
use Rattle.theory_splitting.specs.WellFormed.{WellFormedConstraint, WellFormed}
use Rattle.theory_splitting.specs.NormalClause.{clause-ends}
use Rattle.theory_splitting.specs.SplitProblem.{loadable-each}
use Rattle.theory_elimination.specs.Closed.{elimination-closed}
use Rattle.theory_elimination.specs.Chosen.{elimination-ordered}

module _ (r : ℕ) where
  -- 0 from r on
  abbrev Few : Option Constraint → Type 0
  Few o = (f : ℕ) → r ≤ f → coefficient f o ≡ pos 0

  abbrev pub NarrowLine : Line → Type 0
  NarrowLine l = Few l.constraint

  abbrev Fews : List Constraint → Type 0
  Fews cs = All (λ c. Few (some c)) cs

  -- ---- of the parts
  none-few : Few none
  unfolding coefficient
  none-few f h = refl

  reduced-few : (c : Constraint) → Few (some c) → Few (some (reduced c))
  unfolding coefficient reduced
  reduced-few c k f h = let g = gcd_all (c.bound ∷ c.coefficients) in get_or-quotients g c.coefficients f ∙ rw (k f h) (quot-zero g)

  abbrev FewSettled : Settled → Type 0
  FewSettled always = Unit {0}
  FewSettled never = Unit {0}
  FewSettled (kept d) = Few (some d)

  one-few : (s : Settled) (o : Option (List Constraint)) → FewSettled s → DroppedOr Fews o
      → DroppedOr Fews (elim s [ always ↦ none | never ↦ o | kept d ↦ elim o [ none ↦ none | some ds ↦ some (d ∷ ds) ] ])
  one-few always o e h = tt
  one-few never o e h = h
  one-few (kept d) o e h = dropped-then Fews Fews (λ ds. some (d ∷ ds)) o h (λ ds k. (e, k))

  settled-few : (cs : List Constraint) → Fews cs → DroppedOr Fews (settled_all cs)
  unfolding settled_all
  settled-few [] h = tt
  settled-few (c ∷ cs) h = one-few (settled c) (settled_all cs)
      (settled-cases FewSettled c (λ z t. tt) (λ z t. tt) (λ z. reduced-few c h.0)) (settled-few cs h.1)

  chain-few : (k : ℕ) (p n : Booleans) (c : Constraint) (cs : List Constraint) → Few (some c) → Fews cs → All NarrowLine (chain k p n c cs)
  unfolding chain
  chain-few k p n c [] h hs = (h, tt)
  chain-few k p n c (d ∷ ds) h hs = (h, chain-few (suc k) no_booleans (including k no_booleans) d ds hs.0 hs.1)

  parts-few : (k : ℕ) (p n : Booleans) (cs : List Constraint) → Fews cs → All NarrowLine (parts k (record {
    positive = p;
    negative = n;
    constraints = cs;
  }))
  unfolding parts
  parts-few k p n [] h = (none-few, tt)
  parts-few k p n (c ∷ cs) h = chain-few k p n c cs h.0 h.1

  reading-few : (k : ℕ) (c : Disjunction) → Fews c.constraints → All NarrowLine (reading_parts k c)
  unfolding reading_parts
  reading-few k c h =
      by (normal_clause c)
      (clause-ends (DroppedOr (λ n. Fews n.constraints)) c (λ m. tt) (λ n. dropped-then Fews (λ n. Fews n.constraints) _
      (settled_all c.constraints) (settled-few c.constraints h) (λ cs k. k)))
    where
      by : (o : Option Normal) → DroppedOr (λ n. Fews n.constraints) o → All NarrowLine (elim o [ none ↦ [] | some n ↦ parts k n ])
      by none d = tt
      by (some n) d = parts-few k n.positive n.negative n.constraints d

  -- ---- and so of the resolvents
  absent : (l : Line) (f : ℕ) → coefficient f l.constraint ≡ pos 0 → T (contains (rational f) l) → ⊥
  unfolding is_zero
  absent l f e t = rw (contains-rational f l, e) at t

  resolve-few : (v : Variable) (u l m : Line) → NarrowLine u → NarrowLine l → T (positively v u) → T (negatively v l)
      → resolve v u l ≡ some m → NarrowLine m
  resolve-few v u l m hu hl a b e f h =
      ⊎_elim (λ z. zero-yes (coefficient f m.constraint) z)
      (λ t. absurd (⊎_elim (absent u f (hu f h)) (absent l f (hl f h)) (dropped-is (λ m. (w : Variable) → T (contains w m)
      → T (contains w u) ⊎ T (contains w l)) e (resolve-variables v u l) (rational f) (rw (contains-rational f m) t))))
      (split (is_zero (coefficient f m.constraint)))

pub elimination-narrow : (stops : Stops) (p : Problem) → WellFormed p
    → All (λ s. NarrowLine p.rationals s.line) (steps_of (elimination stops p))
unfolding coefficient
elimination-narrow stops p w =
    rw (elimination-ordered stops p)
    (elimination-closed (NarrowLine p.rationals) stops (order_of p) (loadable_of p) (resolve-few p.rationals)
    (loadable-each p w (NarrowLine p.rationals) (λ k d h. reading-few p.rationals k d
    (all_map (WellFormedConstraint p.rationals) (λ c. Few p.rationals (some c)) d.constraints constraint-few h.constraints))))
  where
    constraint-few : (c : Constraint) → WellFormedConstraint p.rationals c → Few p.rationals (some c)
    constraint-few c k f h = k.beyond f h
