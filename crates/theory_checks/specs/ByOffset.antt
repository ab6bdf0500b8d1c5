-- The check finds just the lines that follow, said by document 01's offsets.
use Rattle.std.specs.Prelude.{◌≡◌, List, [], ◌∷◌, ℕ, ◌≤◌, length}
use Rattle.std.proofs.Common.{subst, sym, ◌∙◌, inl, inr, ⊎_elim, arith, take_all}
use Rattle.std.proofs.Math.Option.{some}
use Rattle.rules_types.specs.Limits as limit
use Rattle.rules.specs.Lines.{Line}
use Rattle.rules.specs.Steps.{Step, resolved}
use Rattle.rules.specs.Checker.{stated_line}
use Rattle.theory_lists.specs.All.{All, Any, all_map}
use Rattle.theory_lists.specs.Places.{element-below}
use Rattle.theory_bytes.specs.Bytes.{AllBytes}
use Rattle.theory_bytes.specs.Headers.{parents}
use Rattle.theory_bytes.specs.Lines.{Encodable, AllEncodable}
use Rattle.theory_layout.specs.Offsets.{StepAt}
use Rattle.theory_layout.specs.Steps.{Writable, written_at, at-encoded}
use Rattle.theory_checks.specs.Following.{ResolventIn, FollowsBy, Follows, WrittenAs, stated-written, resolvent-encodable}
use Rattle.theory_checks.specs.Following.{encodable-follows, written-stated}

module _ (parts : List Step) (known : All Writable parts) (earlier : List Line) (few : length earlier ≤ limit.most_steps)
    (all : All Encodable earlier) (l : Line) where
  encodable : AllEncodable parts
  encodable = all_map Writable (λ s. Encodable s.line) parts (λ s h. h.line) known

  -- ---- every such step's numbers fit their bytes
  resolvent-writable : (stands : Step → Type 0) (r : ResolventIn stands earlier l)
      → Writable (record { origin = resolved r.variable r.first r.second; line = l })
  resolvent-writable stands r =
      let n = parents r.variable r.first r.second in
      let a = element-below earlier r.first r.upper r.at_first in
      let b = element-below earlier r.second r.lower r.at_second in
      record {
        first = rw n.0 (omega arith);
        second = rw n.1 (omega arith);
        line = resolvent-encodable stands parts encodable earlier all l r;
      }

  -- ---- so one way of standing there gives another
  module _ (S R : Step → Type 0) (f : (s : Step) → Writable s → S s → R s) where
    resolvent-stands : ResolventIn S earlier l → ResolventIn R earlier l
    resolvent-stands r =
        record {
          variable = r.variable;
          first = r.first;
          second = r.second;
          upper = r.upper;
          lower = r.lower;
          at_first = r.at_first;
          at_second = r.at_second;
          positive = r.positive;
          negative = r.negative;
          allowed = r.allowed;
          result = r.result;
          fits = r.fits;
          written = f (record { origin = resolved r.variable r.first r.second; line = l }) (resolvent-writable S r) r.written;
        }

    part-stands : (ss : List Step) → All Writable ss → Any (λ s. S s × (s.line ≡ l)) ss → Any (λ s. R s × (s.line ≡ l)) ss
    part-stands [] w k = absurd k
    part-stands (s ∷ ss) w (inl k) = inl (f s w.0 k.0, k.1)
    part-stands (s ∷ ss) w (inr k) = inr (part-stands ss w.1 k)

    follows_so : FollowsBy S parts earlier l → FollowsBy R parts earlier l
    follows_so = ⊎_elim (λ k. inl (part-stands parts known k)) (λ r. inr (resolvent-stands r))

  -- ---- the check
  module _ (bytes : List ℕ) where
    pub stated-follows : stated_line parts earlier bytes ≡ some l → Follows parts earlier bytes l
    stated-follows e = follows_so (WrittenAs bytes) (StepAt bytes 0) (λ s w h. subst (λ (bs : List ℕ). StepAt bs 0 s) h (written_at s w))
        (stated-written bytes l earlier parts e)

    pub follows-stated : AllBytes bytes → length bytes ≤ limit.step_bytes → Follows parts earlier bytes l
        → stated_line parts earlier bytes ≡ some l
    follows-stated b size h =
        written-stated parts encodable earlier few all bytes l
        (follows_so (StepAt bytes 0) (WrittenAs bytes)
        (λ s w k. sym (at-encoded bytes 0 s w b k) ∙ take_all limit.step_bytes bytes size) h)

    pub follows-encodable : Follows parts earlier bytes l → Encodable l
    follows-encodable = encodable-follows (StepAt bytes 0) parts encodable earlier all l
