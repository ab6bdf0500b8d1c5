-- The check accepts the proof of an elimination that ends with an empty line: its lines are sound, and their amounts in range, so the laws
-- of the elimination and of the bytes meet.
use Rattle.std.specs.Prelude.{◌≡◌, ℕ, ◌≤◌}
use Rattle.std.proofs.Common.{sym, ◌∙◌, arith}
use Rattle.std.proofs.Math.Path.{subst}
use mathlib.Core.List.{List, [], ◌∷◌, ◌++◌}
use Rattle.std.proofs.Math.ListN.{length}
use Rattle.rules_types.specs.declared.limits.Limits.{Limits}
use Rattle.rules_types.specs.declared.terms.Terms.{Terms}
use Rattle.rules_types.specs.declared.answers.Checked.TheVariants.{Accepted}
use Rattle.rules_types.specs.Limits as limit
use Rattle.rules.specs.Problem.{Problem, in_edition}
use Rattle.rules.specs.Lines.{Variable}
use Rattle.rules.specs.Steps.{Step, encode_proof}
use Rattle.rules.specs.Elimination.{State, ended, empty, limited, order_of, eliminate, loadable_of, elimination}
use Rattle.rules.specs.Needs.{steps_of}
use Rattle.rules.specs.Calls.{read, sound, proof_checked}
use Rattle.theory_lists.specs.All.{All, all_map, all_append}
use Rattle.theory_lists.specs.Dropped.{dropped-is}
use Rattle.theory_vectors.specs.Amounts.{overflows-no}
use Rattle.theory_resolution.specs.Formed.{Formed, resolve-formed}
use Rattle.theory_splitting.specs.WellFormed.{WellFormed}
use Rattle.theory_splitting.specs.WellRead.{posed-well-formed}
use Rattle.theory_splitting.specs.PartsForm.{LineForm}
use Rattle.theory_splitting.specs.SplitProblem.{loadable-formed}
use Rattle.theory_elimination.specs.Closed.{line-at, elimination-closed-unstopped}
use Rattle.theory_elimination.specs.Sound.{Sound, elimination-sound}
use Rattle.theory_saturation.specs.Order.{Ordered}
use Rattle.theory_saturation.specs.Taken.{problem-ordered}
use Rattle.theory_elimination.specs.Pairable.{pairable-late}
use Rattle.theory_elimination.specs.WithinLimits.{limited-held}
use Rattle.theory_elimination.specs.Chosen.{elimination-ordered}
use Rattle.theory_elimination.specs.Origins.{Each, Justified, elimination-origins}
use Rattle.theory_elimination.specs.Ends.{EndsRight, elimination-ends}
use Rattle.theory_bytes.specs.Lines.{Encodable, AllEncodable}
use Rattle.theory_checks.specs.ProofAccepted.{Pairable, Refutation, proof-accepted}

-- ---- the lines of a limited elimination come back from their bytes
module _ (p : Problem) (w : WellFormed p) where
  pub parts-encodable : AllEncodable (loadable_of p)
  parts-encodable = all_map (λ s. LineForm _ s.line) (λ s. Encodable s.line) (loadable_of p)
      (λ s h. record { formed = h.formed; small = h.small }) (loadable-formed p w)

  pub elimination-encodable : (limits : Limits) (variables : List Variable)
      → AllEncodable (steps_of (eliminate (limited limits) variables (loadable_of p)))
  unfolding limited
  elimination-encodable limits variables =
      elimination-closed-unstopped Encodable (limited limits) variables (loadable_of p)
      (λ v u l m hu hl a b e t. record {
        formed = dropped-is Formed e (resolve-formed v u l hu.formed hl.formed);
        small =
            (overflows-no m).0 t;
      }) parts-encodable

-- ---- an elimination's pairs are such as the check allows
each-pairable : {variables : List Variable} → Ordered variables → (earlier ss : List Step) → All (λ s. Sound s.line) earlier
    → All (λ s. Sound s.line) ss → Each (Pairable variables) earlier ss
each-pairable o earlier [] h k = tt
each-pairable o earlier (s ∷ ss) h k = (
  λ d. pairable-late o d.variable d.round d.upper d.lower
      (line-at Sound earlier d.first d.upper d.at_first h) (line-at Sound earlier d.second d.lower d.at_second h) d.place
      d.of_upper d.of_lower,
  each-pairable o (earlier ++ (s ∷ [])) ss (all_append (λ s. Sound s.line) earlier (s ∷ []) h (k.0, tt)) k.1,
)

-- ---- the proof of an elimination that ends so
module _ (limits : Limits) (p : Problem) (w : WellFormed p) (few : limits.steps ≤ limit.most_steps)
    (steps : List Step) (n : ℕ) (f : elimination (limited limits) p ≡ ended empty steps n) where
  ordered : eliminate (limited limits) (order_of p) (loadable_of p) ≡ ended empty steps n
  ordered = sym (elimination-ordered (limited limits) p) ∙ f

  held : length steps ≤ limits.steps
  unfolding steps_of
  held = subst (λ (state : State). length (steps_of state) ≤ limits.steps) ordered (limited-held limits (order_of p) (loadable_of p))

  pub elimination-refutation : Refutation p steps
  unfolding steps_of
  elimination-refutation =
      let parts = loadable_of p in
      record {
        parts = parts-encodable p w;
        lines = subst (λ (state : State). AllEncodable (steps_of state)) ordered (elimination-encodable p w limits (order_of p));
        origins = subst (λ (state : State). Each (Justified (order_of p) parts) [] (steps_of state)) ordered
            (elimination-origins (order_of p) parts (limited limits));
        pairs = each-pairable (problem-ordered p w.rationals) [] steps tt
            (subst (λ (state : State). All (λ s. Sound s.line) (steps_of state)) ordered
            (elimination-sound p w (limited limits) (order_of p)));
        few = omega (arith, held);
        last = subst EndsRight ordered (elimination-ends (limited limits) (order_of p) parts);
      }

pub elimination-accepted : (terms : Terms) → terms.limits.steps ≤ limit.most_steps → (q : List ℕ) (p : Problem) → read q ≡ sound p
    → (steps : List Step) (n : ℕ) → elimination (limited terms.limits) (in_edition terms.edition p) ≡ ended empty steps n
    → proof_checked terms q (encode_proof steps) ≡ Accepted
elimination-accepted terms few q p e steps n f =
    let posed = in_edition terms.edition p in
    let w = posed-well-formed terms.edition q p e in
    proof-accepted terms q p e steps (elimination-refutation terms.limits posed w few steps n f)
    (held terms.limits posed w few steps n f)
