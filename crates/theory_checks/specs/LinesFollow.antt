-- When the lines of a proof follow, said of its bytes: all of them do, or one is the first that does not. The check finds just that.
use Rattle.std.proofs.Math.Path.{◌≡◌, refl, sym, ap}
use Rattle.std.proofs.Common.{◌∙◌, subst, length-take}
use Rattle.std.specs.Prelude.{◌↔◌, length, take, drop}
use mathlib.Core.List.{List, [], ◌∷◌, ◌++◌, append_assoc, append-nil}
use Rattle.std.proofs.Math.Option.{Option, none, some}
use Prim.Native.Nat.{ℕ, zero, suc, ◌+◌, ◌≤◌}
use native.Mathlib.Omega.{arith}
use Rattle.std.proofs.Math.ListN.{length-append}
use Rattle.rules_types.specs.Limits as limit
use Rattle.rules.specs.Lines.{Line}
use Rattle.rules.specs.Steps.{Step}
use Rattle.rules.specs.Checker.{Followed, fails, follow, stated_line, followed}
use Rattle.theory_lists.specs.All.{All, all_append}
use Rattle.theory_bytes.specs.Bytes.{AllBytes}
use Rattle.theory_bytes.specs.Lines.{Encodable}
use Rattle.theory_layout.specs.Fields.{take-bytes, drop-bytes}
use Rattle.theory_layout.specs.Steps.{Writable}
use Rattle.theory_checks.specs.Following.{Follows}
use Rattle.theory_checks.specs.ByOffset.{stated-follows, follows-stated, follows-encodable}

-- these lines stand one after another, in 64 bytes each, and each follows from `earlier` and those before it
abbrev pub LinesFollow : List Step → List Line → List ℕ → List Line → Type 0
LinesFollow parts earlier bytes [] = Unit {0}
LinesFollow parts earlier bytes (l ∷ ls) = Follows parts earlier (take limit.step_bytes bytes) l
    × LinesFollow parts (earlier ++ (l ∷ [])) (drop limit.step_bytes bytes) ls

-- of k lines after `earlier`, line n is the first that does not follow
abbrev pub FirstFails : List Step → ℕ → List Line → List ℕ → ℕ → Type 0
FirstFails parts zero earlier bytes n = ⊥
FirstFails parts (suc k) earlier bytes zero = (l : Line) → Follows parts earlier (take limit.step_bytes bytes) l → ⊥
FirstFails parts (suc k) earlier bytes (suc n) = (l : Line) × Follows parts earlier (take limit.step_bytes bytes) l
    × FirstFails parts k (earlier ++ (l ∷ [])) (drop limit.step_bytes bytes) n

-- what an answer says of k lines after `earlier`
abbrev Says : List Step → ℕ → List Line → List ℕ → Followed → Type 0
Says parts k earlier bytes (follow all) =
    (ls : List Line) × (all ≡ earlier ++ ls) × (length ls ≡ k) × LinesFollow parts earlier bytes ls
Says parts k earlier bytes (fails m) = (n : ℕ) × (m ≡ length earlier + n) × FirstFails parts k earlier bytes n

-- one line more in front
says-more : (parts : List Step) (k : ℕ) (earlier : List Line) (bytes : List ℕ) (l : Line) → Follows parts earlier (take limit.step_bytes
    bytes) l → (a : Followed) → Says parts k (earlier ++ (l ∷ [])) (drop limit.step_bytes bytes) a → Says parts (suc k) earlier bytes a
says-more parts k earlier bytes l f (follow all) (ls, e, n, fs) = (l ∷ ls, e ∙ append_assoc earlier (l ∷ []) ls, ap suc n, (f, fs))
says-more parts k earlier bytes l f (fails m) (n, e, h) =
    (suc n, omega (arith, e, length-append earlier (l ∷ [])), (l, f, h))

module _ (parts : List Step) (known : All Writable parts) where
  -- bytes, after lines that come back from theirs, and not too many of them
  pub record Checkable (k : ℕ) (earlier : List Line) (bytes : List ℕ) : Type 0 where
    pub are : AllBytes bytes
    pub encodable : All Encodable earlier
    pub few : length earlier + k ≤ limit.most_steps

  module _ {k : ℕ} {earlier : List Line} {bytes : List ℕ} (c : Checkable (suc k) earlier bytes) (l : Line) where
    line-found : Follows parts earlier (take limit.step_bytes bytes) l → stated_line parts earlier (take limit.step_bytes bytes) ≡ some l
    line-found f =
        follows-stated parts known earlier (omega (arith, c.few)) c.encodable l (take limit.step_bytes bytes)
        (take-bytes limit.step_bytes bytes c.are) (omega (arith, length-take limit.step_bytes bytes)) f

    line-follows : stated_line parts earlier (take limit.step_bytes bytes) ≡ some l → Follows parts earlier (take limit.step_bytes bytes) l
    line-follows e = stated-follows parts known earlier (omega (arith, c.few)) c.encodable l (take limit.step_bytes bytes) e

    line-next : Follows parts earlier (take limit.step_bytes bytes) l → Checkable k (earlier ++ (l ∷ [])) (drop limit.step_bytes bytes)
    line-next f =
        record {
          are = drop-bytes limit.step_bytes bytes c.are;
          encodable = all_append Encodable earlier (l ∷ []) c.encodable
              (follows-encodable parts known earlier (omega (arith, c.few)) c.encodable l (take limit.step_bytes bytes) f, tt);
          few = omega (arith, c.few, length-append earlier (l ∷ []));
        }

  -- ---- the check's answer says so
  followed-says : (k : ℕ) (earlier : List Line) (bytes : List ℕ) → Checkable k earlier bytes
      → Says parts k earlier bytes (followed parts k earlier bytes)
  unfolding followed
  followed-says zero earlier bytes c = ([], sym (append-nil earlier), refl, tt)
  followed-says (suc k) earlier bytes c =
      by (stated_line parts earlier (take limit.step_bytes bytes)) refl
      (λ l f. followed-says k (earlier ++ (l ∷ [])) (drop limit.step_bytes bytes) (line-next c l f))
    where
      by : (o : Option Line) → stated_line parts earlier (take limit.step_bytes bytes) ≡ o
          → ((l : Line) → Follows parts earlier (take limit.step_bytes bytes) l → Says parts k (earlier ++ (l ∷ []))
          (drop limit.step_bytes bytes) (followed parts k (earlier ++ (l ∷ [])) (drop limit.step_bytes bytes)))
          → Says parts (suc k) earlier bytes (elim o [
            | none ↦ fails (length earlier)
            | some l ↦ followed parts k (earlier ++ (l ∷ [])) (drop limit.step_bytes bytes)
          ])
      by none e r = (
        0,
        omega arith,
        λ l f. (let y = sym e ∙ line-found c l f in let z : ◌≡◌ {A = ℕ} 0 1 = cc in omega arith),
      )
      by (some l) e r =
          let f = line-follows c l e in
          says-more parts k earlier bytes l f (followed parts k (earlier ++ (l ∷ [])) (drop limit.step_bytes bytes)) (r l f)

  -- ---- and nothing else does
  none_found : {k : ℕ} {earlier : List Line} {bytes : List ℕ} → Checkable (suc k) earlier bytes
      → ((l : Line) → Follows parts earlier (take limit.step_bytes bytes) l → ⊥)
      → stated_line parts earlier (take limit.step_bytes bytes) ≡ none
  none_found {k} {earlier} {bytes} c h = by (stated_line parts earlier (take limit.step_bytes bytes)) refl
    where
      by : (o : Option Line) → stated_line parts earlier (take limit.step_bytes bytes) ≡ o → o ≡ none
      by none e = refl
      by (some l) e = absurd (h l (line-follows c l e))

  lines-followed : (k : ℕ) (earlier : List Line) (bytes : List ℕ) → Checkable k earlier bytes → (ls : List Line) → length ls ≡ k
      → LinesFollow parts earlier bytes ls → followed parts k earlier bytes ≡ follow (earlier ++ ls)
  unfolding followed
  lines-followed zero earlier bytes c [] n h = ap follow (sym (append-nil earlier))
  lines-followed zero earlier bytes c (l ∷ ls) n h = absurd (omega arith)
  lines-followed (suc k) earlier bytes c [] n h = absurd (omega arith)
  lines-followed (suc k) earlier bytes c (l ∷ ls) n h =
      rw (line-found c l h.0, followed)
      (lines-followed k (earlier ++ (l ∷ [])) (drop limit.step_bytes bytes) (line-next c l h.0) ls (omega arith) h.1
      ∙ ap follow (append_assoc earlier (l ∷ []) ls))

  fails-followed : (k : ℕ) (earlier : List Line) (bytes : List ℕ) → Checkable k earlier bytes → (n : ℕ)
      → FirstFails parts k earlier bytes n → followed parts k earlier bytes ≡ fails (length earlier + n)
  unfolding followed
  fails-followed zero earlier bytes c n h = absurd h
  fails-followed (suc k) earlier bytes c zero h = rw (none_found c h, followed) (ap fails (omega arith))
  fails-followed (suc k) earlier bytes c (suc n) (l, f, h) =
      rw (line-found c l f, followed)
      (fails-followed k (earlier ++ (l ∷ [])) (drop limit.step_bytes bytes) (line-next c l f) n h
      ∙ ap fails (omega (arith, length-append earlier (l ∷ []))))

  -- ---- of all lines
  module _ (k : ℕ) (bytes : List ℕ) (are : AllBytes bytes) (few : k ≤ limit.most_steps) where
    all-checkable : Checkable k [] bytes
    all-checkable = record { are = are; encodable = tt; few = omega arith }

    pub follow-exactly : (ls : List Line) → followed parts k [] bytes ≡ follow ls ↔ ((length ls ≡ k) × LinesFollow parts [] bytes ls)
    follow-exactly ls = (
      λ e. let s = subst (Says parts k [] bytes) e (followed-says k [] bytes all-checkable) in
          subst (λ (all : List Line). (length all ≡ k) × LinesFollow parts [] bytes all) (sym s.1) (s.2, s.3),
      λ h. lines-followed k [] bytes all-checkable ls h.0 h.1,
    )

    pub fails-exactly : (n : ℕ) → followed parts k [] bytes ≡ fails n ↔ FirstFails parts k [] bytes n
    fails-exactly n = (
      λ e. let s = subst (Says parts k [] bytes) e (followed-says k [] bytes all-checkable) in
          let q : s.0 ≡ n = omega (arith, s.1) in
          subst (FirstFails parts k [] bytes) q s.2,
      λ h. fails-followed k [] bytes all-checkable n h ∙ ap fails (omega arith),
    )
