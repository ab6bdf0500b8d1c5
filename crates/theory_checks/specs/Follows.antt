-- What the check takes for a line of a proof follows: a claim true of the loadable line with its bytes, and of every resolvent of lines
-- of which it is true, is true of every line that the check accepts.
use Rattle.std.specs.Prelude.{◌≡◌, Bool, true, false, cond, ◌&&◌, ℕ, zero, suc, T}
use Rattle.std.proofs.Math.Path.{refl}
use Rattle.std.proofs.Math.Logic.{⊎_elim}
use mathlib.Core.List.{List, [], ◌∷◌}
use Rattle.std.proofs.Math.Option.{Option, none, some}
use Rattle.std.proofs.Math.Dec.{eqb, eqb→eq}
use Rattle.std.proofs.Math.ListN.{get_elem?}
use Rattle.std.proofs.Math.Facts.{and_yes}
use Rattle.rules_types.specs.Layout as layout
use Rattle.theory_lists.specs.Tests.{split, is_true, is_false}
use Rattle.theory_lists.specs.All.{All}
use Rattle.theory_lists.specs.Equal.{same-yes}
use Rattle.rules.specs.Lists.{same}
use Rattle.rules.specs.Bytes.{field_at}
use Rattle.rules.specs.Lines.{Line, Variable, positively, negatively}
use Rattle.rules.specs.Resolve.{resolve}
use Rattle.rules.specs.Steps.{Step, encode_step}
use Rattle.rules.specs.Elimination.{overflows}
use Rattle.rules.specs.Checker.{pairable, derived, variable_named, resolvent_named, line_among, stated_line}
use Rattle.theory_lists.specs.Dropped.{DroppedOr, dropped-then}

-- the resolvents of two such lines that the check admits are such lines
abbrev pub Closed : (Line → Type 0) → Type 0
Closed P = (v : Variable) (u l : Line) → P u → P l → T (positively v u) → T (negatively v l) → T (pairable v u l)
    → DroppedOr P (resolve v u l)

module _ (P : Line → Type 0) where
  -- of a step's line
  abbrev StepSo : Step → Type 0
  StepSo s = P s.line

  -- where these are its bytes
  abbrev SoWritten : List ℕ → Step → Type 0
  SoWritten bytes s = encode_step s ≡ bytes → P s.line

  among : (ss : List Step) (bytes : List ℕ) → All (SoWritten bytes) ss → DroppedOr P (line_among ss bytes)
  unfolding line_among
  among [] bytes h = tt
  among (s ∷ ss) bytes h =
      let S = same eqb (encode_step s) bytes in
      ⊎_elim (λ t. rw (is_true S t, line_among) (h.0 (same-yes eqb eqb→eq (encode_step s) bytes t)))
      (λ t. rw (is_false S t, line_among) (among ss bytes h.1)) (split S)

  element : (ls : List Line) (i : ℕ) → All P ls → DroppedOr P (get_elem? ls i)
  element [] i h = tt
  element (l ∷ ls) zero h = h.0
  element (l ∷ ls) (suc i) h = element ls i h.1

  unless : (b : Bool) (m : Line) → P m → DroppedOr P (cond b none (some m))
  unless true m h = tt
  unless false m h = h

  module _ (closed : Closed P) where
    derived-so : (v : Variable) (a b : Option Line) → DroppedOr P a → DroppedOr P b → DroppedOr P (derived v a b)
    unfolding derived
    derived-so v none b h k = tt
    derived-so v (some u) none h k = tt
    derived-so v (some u) (some l) h k =
        let S = positively v u && negatively v l in
        let R = S && pairable v u l in
        ⊎_elim
        (λ t. let r = and_yes S (pairable v u l) t in
        let s = and_yes (positively v u) (negatively v l) r.0 in
        rw (is_true R t, derived)
        (dropped-then P P _ (resolve v u l) (closed v u l h k s.0 s.1 r.1) (λ m p. unless (overflows m) m p)))
        (λ t. rw (is_false R t, derived) tt) (split R)

    any-variable : (o : Option Variable) → DroppedOr (λ v. Unit {0}) o
    any-variable none = tt
    any-variable (some v) = tt

    resolvent-so : (earlier : List Line) (bytes : List ℕ) → All P earlier → DroppedOr StepSo (resolvent_named earlier bytes)
    unfolding resolvent_named
    resolvent-so earlier bytes h =
        let first = get_elem? earlier (field_at layout.step_first 2 bytes) in
        let second = get_elem? earlier (field_at layout.step_second 2 bytes) in
        let named = variable_named (field_at layout.step_how 1 bytes) (field_at layout.step_which 1 bytes) in
        dropped-then (λ v. Unit {0}) StepSo _ named (any-variable named)
        (λ v t. dropped-then P StepSo _ (derived v first second)
        (derived-so v first second (element earlier (field_at layout.step_first 2 bytes) h)
        (element earlier (field_at layout.step_second 2 bytes) h)) (λ l p. p))

    pub stated-so : (parts : List Step) (earlier : List Line) (bytes : List ℕ) → All (SoWritten bytes) parts → All P earlier
        → DroppedOr P (stated_line parts earlier bytes)
    unfolding stated_line
    stated-so parts earlier bytes h k = by (line_among parts bytes) refl (among parts bytes h)
      where
        by : (o : Option Line) → line_among parts bytes ≡ o → DroppedOr P o → DroppedOr P (stated_line parts earlier bytes)
        by none e r = rw (e, stated_line)
            (dropped-then StepSo P _ (resolvent_named earlier bytes) (resolvent-so earlier bytes k)
            (λ s p. among (s ∷ []) bytes (λ q. p, tt)))
        by (some l) e r = rw (e, stated_line) r
