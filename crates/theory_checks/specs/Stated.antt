-- The check finds in a step's bytes the step's line: among the parts, or as the resolvent of the two lines that they name.
use Rattle.std.specs.Prelude.{◌≡◌, Bool, ◌&&◌, ℕ, zero, suc, T}
use Rattle.std.proofs.Math.Path.{refl}
use Rattle.std.proofs.Common.{ap, inl, inr, eqb→eq}
use Rattle.std.proofs.Math.Logic.{⊎_elim}
use mathlib.Core.List.{List, [], ◌∷◌}
use Rattle.std.proofs.Math.Option.{Option, none, some}
use Rattle.std.proofs.Math.Dec.{eqb, eqb_refl}
use Rattle.std.proofs.Math.ListN.{get_elem?}
use Rattle.std.proofs.Math.Facts.{yes_and}
use Rattle.rules_types.specs.Layout as layout
use Rattle.rules.specs.Lists.{same}
use Rattle.rules.specs.Bytes.{field_at}
use Rattle.rules.specs.Lines.{Line, Variable, positively, negatively}
use Rattle.rules.specs.Resolve.{resolve}
use Rattle.rules.specs.Steps.{Step, resolved, encode_step}
use Rattle.rules.specs.Elimination.{overflows}
use Rattle.rules.specs.Checker.{pairable, derived, variable_named, resolvent_named, line_among, stated_line}
use Rattle.theory_lists.specs.Tests.{split, is_true, is_false}
use Rattle.theory_lists.specs.All.{Any}
use Rattle.theory_lists.specs.Equal.{same-yes, yes-same}
use Rattle.theory_lists.specs.Dropped.{DroppedOr}
use Rattle.theory_vectors.specs.Amounts.{overflows-no}
use Rattle.theory_elimination.specs.Pairs.{LineAt}
use Rattle.theory_elimination.specs.Saturated.{lines}
use Rattle.theory_bytes.specs.Lines.{Encodable, AllEncodable}
use Rattle.theory_bytes.specs.Steps.{step-injective}

-- ---- among the parts
module _ (s : Step) (h : Encodable s.line) where
  -- nothing, or this line
  abbrev Own : Option Line → Type 0
  Own = DroppedOr (λ m. m ≡ s.line)

  abbrev equal : Step → Bool
  equal x = same eqb (encode_step x) (encode_step s)

  -- a part with the step's bytes has its line
  own_line : (x : Step) → Encodable x.line → T (equal x) → x.line ≡ s.line
  own_line x k t = step-injective x s k h (same-yes eqb eqb→eq (encode_step x) (encode_step s) t)

  among-own : (ss : List Step) → AllEncodable ss → Own (line_among ss (encode_step s))
  unfolding line_among
  among-own [] k = tt
  among-own (x ∷ ss) k =
      ⊎_elim (λ t. rw (is_true (equal x) t, line_among) (own_line x k.0 t))
      (λ t. rw (is_false (equal x) t, line_among) (among-own ss k.1)) (split (equal x))

  among-parts : (ss : List Step) → AllEncodable ss → Any (λ x. x ≡ s) ss → line_among ss (encode_step s) ≡ some s.line
  unfolding line_among
  among-parts [] k m = absurd m
  among-parts (x ∷ ss) k (inl m) =
      rw (is_true (equal x) (yes-same eqb eqb_refl (encode_step x) (encode_step s) (ap encode_step m)), line_among)
      (ap (λ (y : Step). some y.line) m)
  among-parts (x ∷ ss) k (inr m) =
      ⊎_elim (λ t. rw (is_true (equal x) t, line_among) (ap some (own_line x k.0 t)))
      (λ t. rw (is_false (equal x) t, line_among) (among-parts ss k.1 m)) (split (equal x))

  pub stated-part : (parts : List Step) (earlier : List Line) → AllEncodable parts → Any (λ x. x ≡ s) parts
      → stated_line parts earlier (encode_step s) ≡ some s.line
  unfolding stated_line
  stated-part parts earlier k m = rw (among-parts parts k m, stated_line)

  pub stated-resolvent : (parts : List Step) (earlier : List Line) → AllEncodable parts → resolvent_named earlier (encode_step s) ≡ some s
      → stated_line parts earlier (encode_step s) ≡ some s.line
  unfolding stated_line
  stated-resolvent parts earlier k f = by (line_among parts (encode_step s)) refl (among-own parts k)
    where
      by : (o : Option Line) → line_among parts (encode_step s) ≡ o → Own o → stated_line parts earlier (encode_step s) ≡ some s.line
      by none e r = rw (e, stated_line, f) (among-parts (s ∷ []) (h, tt) (inl refl))
      by (some l) e r = rw (e, stated_line) (ap some r)

-- ---- a resolvent
pub at-element : (ss : List Step) (i : ℕ) (l : Line) → LineAt ss i l → get_elem? (lines ss) i ≡ some l
at-element [] i l h = absurd h
at-element (s ∷ ss) zero l h = ap some h
at-element (s ∷ ss) (suc i) l h = at-element ss i l h

module _ (v : Variable) (u l m : Line) where
  pub derived-line : T (positively v u) → T (negatively v l) → T (pairable v u l) → resolve v u l ≡ some m → Encodable m
      → derived v (some u) (some l) ≡ some m
  unfolding derived
  derived-line p n q r k =
      let t = is_true (positively v u && negatively v l && pairable v u l)
      (yes_and (positively v u && negatively v l) (pairable v u l) (yes_and (positively v u) (negatively v l) p n) q) in
      rw (t, derived, r, is_false (overflows m) ((overflows-no m).1 k.small))

  pub resolvent-named : (first second : ℕ) (earlier : List Line) (bytes : List ℕ)
      → variable_named (field_at layout.step_how 1 bytes) (field_at layout.step_which 1 bytes) ≡ some v
      → field_at layout.step_first 2 bytes ≡ first
      → field_at layout.step_second 2 bytes ≡ second → get_elem? earlier first ≡ some u → get_elem? earlier second ≡ some l
      → derived v (some u) (some l) ≡ some m
      → resolvent_named earlier bytes ≡ some (record { origin = resolved v first second; line = m })
  unfolding resolvent_named
  resolvent-named first second earlier bytes e f g at_first at_second d = rw (e, resolvent_named, f, g, at_first, at_second, d, f, g)
