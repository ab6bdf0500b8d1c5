-- When a line of a proof follows, said of its 64 bytes: they are a part's, or those of a resolvent of two earlier lines. The check finds
-- just these, of the bytes that are written for a step; ByOffset has it of the bytes that stand at document 01's offsets.
use Rattle.std.proofs.Math.Path.{◌≡◌, refl, ap}
use Rattle.std.proofs.Common.{sym, ◌∙◌, subst, arith}
use Rattle.std.specs.Prelude.{Bool, not, ◌&&◌, ◌⊎◌, ℕ, ◌≤◌, length}
use Rattle.std.proofs.Math.Bool.{cond}
use Rattle.std.proofs.Math.Logic.{inl, inr, ⊎_elim}
use mathlib.Core.List.{List, [], ◌∷◌}
use Rattle.std.proofs.Math.Option.{Option, none, some}
use Rattle.std.proofs.Math.Dec.{T, eqb, eqb→eq}
use Rattle.std.proofs.Math.ListN.{get_elem?}
use Rattle.std.proofs.Math.Facts.{and_yes}
use Rattle.rules_types.specs.Limits as limit
use Rattle.rules_types.specs.Layout as layout
use Rattle.rules.specs.Lists.{same}
use Rattle.rules.specs.Bytes.{field_at}
use Rattle.rules.specs.Problem.{Constraint}
use Rattle.rules.specs.Lines.{Line, Variable, rational, boolean, positively, negatively, no_constraint}
use Rattle.rules.specs.Resolve.{resolve}
use Rattle.rules.specs.Steps.{Step, resolved, encode_step}
use Rattle.rules.specs.Elimination.{overflows}
use Rattle.rules.specs.Checker.{pairable, derived, variable_named, resolvent_named, line_among, stated_line}
use Rattle.theory_lists.specs.Tests.{split, is_true, is_false, or_l, or_r, or_else}
use Rattle.theory_lists.specs.All.{All, Any, all_any}
use Rattle.theory_lists.specs.Places.{element-all, element-below}
use Rattle.theory_lists.specs.Equal.{same-yes}
use Rattle.theory_lists.specs.Dropped.{dropped-is}
use Rattle.theory_vectors.specs.Amounts.{overflows-no}
use Rattle.theory_resolution.specs.Formed.{Formed, resolve-formed}
use Rattle.theory_bytes.specs.Lines.{Encodable, AllEncodable}
use Rattle.theory_layout.specs.Offsets.{StepAt}
use Rattle.theory_bytes.specs.Headers.{named_back, parents-back}
use Rattle.theory_checks.specs.Stated.{stated-part, stated-resolvent, derived-line, resolvent-named}

-- "by a mark at most one parent has a condition"
abbrev pub Allowed : Variable → Line → Line → Type 0
Allowed (rational f) u l = Unit {0}
Allowed (boolean i) u l = (u.constraint ≡ none) ⊎ (l.constraint ≡ none)

none-yes : (k : Option Constraint) → T (no_constraint k) → k ≡ none
unfolding no_constraint
none-yes none t = refl
none-yes (some c) t = absurd t

yes-none : (k : Option Constraint) → k ≡ none → T (no_constraint k)
unfolding no_constraint
yes-none k e = subst (λ (x : Option Constraint). T (no_constraint x)) (sym e) tt

allowed-yes : (v : Variable) (u l : Line) → T (pairable v u l) → Allowed v u l
unfolding pairable
allowed-yes (rational f) u l t = tt
allowed-yes (boolean i) u l t =
    ⊎_elim (λ a. inl (none-yes u.constraint a))
    (λ n. inr (none-yes l.constraint (or_else (no_constraint u.constraint) (no_constraint l.constraint) n t)))
    (split (no_constraint u.constraint))

yes-allowed : (v : Variable) (u l : Line) → Allowed v u l → T (pairable v u l)
unfolding pairable
yes-allowed (rational f) u l h = tt
yes-allowed (boolean i) u l (inl h) = or_l (no_constraint u.constraint) (no_constraint l.constraint) (yes-none u.constraint h)
yes-allowed (boolean i) u l (inr h) = or_r (no_constraint u.constraint) (no_constraint l.constraint) (yes-none l.constraint h)

-- "the result of two earlier lines, neither wide nor dropped by tidying, first parent positive; by a mark at most one parent has a
-- condition"
pub record ResolventIn (stands : Step → Type 0) (earlier : List Line) (l : Line) : Type 0 where
  pub variable : Variable
  pub first : ℕ
  pub second : ℕ
  pub upper : Line
  pub lower : Line
  pub at_first : get_elem? earlier first ≡ some upper
  pub at_second : get_elem? earlier second ≡ some lower
  pub positive : T (positively variable upper)
  pub negative : T (negatively variable lower)
  pub allowed : Allowed variable upper lower
  pub result : resolve variable upper lower ≡ some l
  pub fits : T (not (overflows l))
  pub written : stands (record { origin = resolved variable first second; line = l })

-- the step that stands there is a part, or such a resolvent
abbrev pub FollowsBy : (Step → Type 0) → List Step → List Line → Line → Type 0
FollowsBy stands parts earlier l = Any (λ s. stands s × (s.line ≡ l)) parts ⊎ ResolventIn stands earlier l

-- "A book's line follows if all 64 bytes are a loaded piece, or" such a resolvent's
abbrev pub Follows : List Step → List Line → List ℕ → Line → Type 0
Follows parts earlier bytes l = FollowsBy (StepAt bytes 0) parts earlier l

-- the same of the bytes that are written for a step
abbrev pub WrittenAs : List ℕ → Step → Type 0
WrittenAs bytes s = encode_step s ≡ bytes

abbrev pub FollowsAs : List Step → List Line → List ℕ → Line → Type 0
FollowsAs parts earlier bytes l = FollowsBy (WrittenAs bytes) parts earlier l

never : {A : Type 0} {X : Type 0} {a : A} → ◌≡◌ {A = Option A} none (some a) → X
never e = absurd (let z : ◌≡◌ {A = ℕ} 0 1 = cc in omega arith)

inside : {A : Type 0} {a b : A} → ◌≡◌ {A = Option A} (some a) (some b) → a ≡ b
inside e = cc

module _ (bytes : List ℕ) (l : Line) where
  -- ---- among steps
  among-follows : (ss : List Step) → line_among ss bytes ≡ some l → Any (λ s. (encode_step s ≡ bytes) × (s.line ≡ l)) ss
  unfolding line_among
  among-follows [] h = never h
  among-follows (s ∷ ss) h =
      let equal = same eqb (encode_step s) bytes in
      ⊎_elim (λ t. inl (same-yes eqb eqb→eq (encode_step s) bytes t, inside (rw (is_true equal t, line_among) at h)))
      (λ t. inr (among-follows ss (rw (is_false equal t, line_among) at h))) (split equal)

  -- ---- the resolvent that the bytes name
  module _ (earlier : List Line) where
    abbrev first : ℕ
    first = field_at layout.step_first 2 bytes

    abbrev second : ℕ
    second = field_at layout.step_second 2 bytes

    module _ (v : Variable) (u m : Line) (at_first : get_elem? earlier first ≡ some u) (at_second : get_elem? earlier second ≡ some m)
        (written : encode_step (record { origin = resolved v first second; line = l }) ≡ bytes) where
      abbrev test : Bool
      test = positively v u && negatively v m && pairable v u m

      fitting-resolvent : T test → (r : Line) → resolve v u m ≡ some r → cond (overflows r) none (some r) ≡ some l
          → ResolventIn (WrittenAs bytes) earlier l
      fitting-resolvent t r e h =
          ⊎_elim (λ w. never (rw (is_true (overflows r) w) at h))
          (λ w. let q : r ≡ l = inside (rw (is_false (overflows r) w) at h) in
          let a = and_yes (positively v u && negatively v m) (pairable v u m) t in
          let b = and_yes (positively v u) (negatively v m) a.0 in
          record {
            variable = v;
            first = first;
            second = second;
            upper = u;
            lower = m;
            at_first = at_first;
            at_second = at_second;
            positive = b.0;
            negative = b.1;
            allowed = allowed-yes v u m a.1;
            result = e ∙ ap some q;
            fits = rw q at w;
            written = written;
          }) (split (overflows r))

      derived-resolvent : derived v (some u) (some m) ≡ some l → ResolventIn (WrittenAs bytes) earlier l
      unfolding derived
      derived-resolvent h = ⊎_elim (λ t. by t (resolve v u m) refl (rw (is_true test t, derived) at h))
          (λ t. never (rw (is_false test t, derived) at h)) (split test)
        where
          by : T test → (o : Option Line) → resolve v u m ≡ o → ◌≡◌ {A = Option Line}
              (elim o [ none ↦ none | some r ↦ cond (overflows r) none (some r) ]) (some l) → ResolventIn (WrittenAs bytes) earlier l
          by t none e h = never h
          by t (some r) e h = fitting-resolvent t r e h

    -- from the parents on
    parents-resolvent : (v : Variable) (s : Step) (a b : Option Line) → get_elem? earlier first ≡ a → get_elem? earlier second ≡ b
        → ◌≡◌ {A = Option Step}
        (elim (derived v a b) [ none ↦ none | some r ↦ some (record { origin = resolved v first second; line = r }) ]) (some s)
        → encode_step s ≡ bytes → s.line ≡ l → ResolventIn (WrittenAs bytes) earlier l
    unfolding derived
    parents-resolvent v s none b e f h w q = never h
    parents-resolvent v s (some u) none e f h w q = never h
    parents-resolvent v s (some u) (some m) e f h w q = by (derived v (some u) (some m)) refl h
      where
        by : (o : Option Line) → derived v (some u) (some m) ≡ o → ◌≡◌ {A = Option Step} (elim o
            [ none ↦ none | some r ↦ some (record { origin = resolved v first second; line = r }) ]) (some s)
            → ResolventIn (WrittenAs bytes) earlier l
        by none d h = never h
        by (some r) d h =
            let i : record { origin = resolved v first second; line = r } ≡ s = inside h in
            let j : r ≡ l = ap (λ (x : Step). x.line) i ∙ q in
            derived-resolvent v u m e f (subst (λ (x : Line). encode_step (record { origin = resolved v first second; line = x }) ≡ bytes) j
            (ap encode_step i ∙ w)) (d ∙ ap some j)

    named-resolvent : (s : Step) → resolvent_named earlier bytes ≡ some s → encode_step s ≡ bytes → s.line ≡ l
        → ResolventIn (WrittenAs bytes) earlier l
    unfolding resolvent_named
    named-resolvent s h w q = by (variable_named (field_at layout.step_how 1 bytes) (field_at layout.step_which 1 bytes)) h
      where
        by : (o : Option Variable)
            → ◌≡◌ {A = Option Step} (elim o [
              | none ↦ none
              | some v ↦ elim (derived v (get_elem? earlier first) (get_elem? earlier second))
                  [ none ↦ none | some r ↦ some (record { origin = resolved v first second; line = r }) ]
            ]) (some s)
            → ResolventIn (WrittenAs bytes) earlier l
        by none h = never h
        by (some v) h = parents-resolvent v s (get_elem? earlier first) (get_elem? earlier second) refl refl h w q

    pub stated-written : (parts : List Step) → stated_line parts earlier bytes ≡ some l → FollowsAs parts earlier bytes l
    unfolding stated_line
    stated-written parts h = by (line_among parts bytes) refl h
      where
        one : (s : Step) → resolvent_named earlier bytes ≡ some s → Any (λ s. (encode_step s ≡ bytes) × (s.line ≡ l)) (s ∷ [])
            → ResolventIn (WrittenAs bytes) earlier l
        one s r (inl k) = named-resolvent s r k.0 k.1
        one s r (inr k) = absurd k

        result : (o : Option Step) → resolvent_named earlier bytes ≡ o
            → ◌≡◌ {A = Option Line} (elim o [ none ↦ none | some s ↦ line_among (s ∷ []) bytes ]) (some l) → FollowsAs parts earlier bytes l
        result none r h = never h
        result (some s) r h = inr (one s r (among-follows (s ∷ []) h))

        by : (o : Option Line) → line_among parts bytes ≡ o → ◌≡◌ {A = Option Line} (elim o [
          | some m ↦ some m
          | none ↦ elim
              (resolvent_named earlier bytes) [ none ↦ none | some s ↦ line_among (s ∷ []) bytes ]
        ]) (some l) → FollowsAs parts earlier bytes l
        by none e h = result (resolvent_named earlier bytes) refl h
        by (some m) e h = inl (among-follows parts (e ∙ h))

-- ---- its line comes back from its bytes, where the earlier ones do
module _ (stands : Step → Type 0) (parts : List Step) (known : AllEncodable parts) (earlier : List Line) (all : All Encodable earlier)
    (l : Line) where
  pub resolvent-encodable : ResolventIn stands earlier l → Encodable l
  resolvent-encodable r =
      let u = element-all Encodable earlier r.first r.upper r.at_first all in
      let m = element-all Encodable earlier r.second r.lower r.at_second all in
      record {
        formed = dropped-is Formed r.result (resolve-formed r.variable r.upper r.lower u.formed m.formed);
        small = (overflows-no l).0 r.fits;
      }

  pub encodable-follows : FollowsBy stands parts earlier l → Encodable l
  encodable-follows = ⊎_elim (λ k. all_any (λ s. Encodable s.line) (λ s. stands s × (s.line ≡ l)) parts
      (λ s h k. subst Encodable k.1 h) known k) resolvent-encodable

-- ---- and back
module _ (parts : List Step) (known : AllEncodable parts) (earlier : List Line) (few : length earlier ≤ limit.most_steps)
    (all : All Encodable earlier)
    (bytes : List ℕ) (l : Line) where
  part-stated : (ss : List Step) → AllEncodable ss → ((s : Step) → Any (λ x. x ≡ s) ss → Any (λ x. x ≡ s) parts)
      → Any (λ s. (encode_step s ≡ bytes) × (s.line ≡ l)) ss → stated_line parts earlier bytes ≡ some l
  part-stated [] k f h = absurd h
  part-stated (s ∷ ss) k f (inl h) = subst (λ (bs : List ℕ). stated_line parts earlier bs ≡ some l) h.0
      (stated-part s k.0 parts earlier known (f s (inl refl)) ∙ ap some h.1)
  part-stated (s ∷ ss) k f (inr h) = part-stated ss k.1 (λ x m. f x (inr m)) h

  resolvent-stated : ResolventIn (WrittenAs bytes) earlier l → stated_line parts earlier bytes ≡ some l
  resolvent-stated r =
      let s : Step = record { origin = resolved r.variable r.first r.second; line = l } in
      let h = resolvent-encodable (WrittenAs bytes) parts known earlier all l r in
      let a = element-below earlier r.first r.upper r.at_first in
      let b = element-below earlier r.second r.lower r.at_second in
      let k = parents-back r.variable r.first r.second l (omega arith) (omega arith) in
      let d = derived-line r.variable r.upper r.lower l r.positive r.negative
      (yes-allowed r.variable r.upper r.lower r.allowed) r.result h in
      let n = resolvent-named r.variable r.upper r.lower l r.first r.second earlier (encode_step s)
      (named_back r.variable r.first r.second l) k.0 k.1 r.at_first r.at_second d in
      subst (λ (bs : List ℕ). stated_line parts earlier bs ≡ some l) r.written (stated-resolvent s h parts earlier known n)

  pub written-stated : FollowsAs parts earlier bytes l → stated_line parts earlier bytes ≡ some l
  written-stated = ⊎_elim (part-stated parts known (λ s m. m)) resolvent-stated
