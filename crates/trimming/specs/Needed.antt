-- The needed steps marked, from the last one down: what is left to be looked at gives them all.
use Rattle.std.specs.Prelude.{◌≡◌, Bool, ◌||◌, length}
use Rattle.std.proofs.Math.Path.{refl, sym, ap}
use Rattle.std.proofs.Common.{◌∙◌}
use Rattle.std.proofs.Math.Bool.{true, false, cond}
use mathlib.Core.List.{List, [], ◌∷◌, ◌++◌}
use Prim.Native.Nat.{ℕ, suc, ◌-◌, ◌≤◌, ◌<◌}
use native.Mathlib.Omega.{arith}
use Rattle.std.proofs.Math.Dec.{eqb}
use Rattle.rules_types.specs.Layout as layout
use Rattle.rules.specs.Lists.{any}
use Rattle.rules.specs.Bytes.{field_at}
use Rattle.rules.specs.Steps.{step_at}
use Rattle.rules.specs.Trim.{is_loaded, parents, ancestors, step_count, needed}
use Rattle.theory_lists.specs.Scan.{any_append}
use Rattle.trimming.specs.Marks.{words, is_marked, Unmarked, Marks}

-- ---- the parents of a step that is marked
pub record MarksParents (proof : List ℕ) (k : ℕ) (old new : List ℕ) : Type 0 where
  pub size : length new ≡ length old
  pub same : (j : ℕ) → is_marked new j ≡ any (eqb j) (cond (is_marked old k) (parents (step_at proof k)) []) || is_marked old j

module _ (proof : List ℕ) (k : ℕ) (marks : List ℕ) where
  pub parents-unmarked : is_marked marks k ≡ false → MarksParents proof k marks marks
  unfolding any
  parents-unmarked e = record { size = refl; same = λ j. rw e }

  pub parents-loaded : is_loaded (step_at proof k) ≡ true → MarksParents proof k marks marks
  unfolding any parents
  parents-loaded e = record { size = refl; same = λ j. rw e (by j (is_marked marks k)) }
    where
      by : (j : ℕ) (a : Bool) → is_marked marks j ≡ any (eqb j) (cond a [] []) || is_marked marks j
      by j true = refl
      by j false = refl

  pub parents-resolved : is_marked marks k ≡ true → is_loaded (step_at proof k) ≡ false → (mid new : List ℕ)
      → Marks marks (field_at layout.step_first 2 (step_at proof k)) mid → Marks mid (field_at layout.step_second 2 (step_at proof k)) new
      → MarksParents proof k marks new
  unfolding any parents
  parents-resolved m e mid new f s = record {
    size = s.size ∙ f.size;
    same = λ j. rw (m, e) (s.same j ∙ ap (λ (b : Bool). eqb j second || b) (f.same j)
        ∙ turned (eqb j first) (eqb j second) (is_marked marks j));
  }
    where
      first : ℕ
      first = field_at layout.step_first 2 (step_at proof k)

      second : ℕ
      second = field_at layout.step_second 2 (step_at proof k)

      turned : (a b c : Bool) → (b || (a || c)) ≡ ((a || (b || false)) || c)
      turned true true c = refl
      turned true false c = refl
      turned false true c = refl
      turned false false c = refl

-- ---- the loop: steps from k on have been looked at
pub record Marking (proof : List ℕ) (k : ℕ) (marks : List ℕ) : Type 0 where
  pub size : length marks ≡ words
  pub few : k ≤ step_count proof
  pub wanted : List ℕ
  pub same : (j : ℕ) → is_marked marks j ≡ any (eqb j) wanted
  pub left : ancestors proof k wanted ≡ ancestors proof (step_count proof) ((step_count proof - 1) ∷ [])

pub record NeededMarks (proof marks : List ℕ) : Type 0 where
  pub size : length marks ≡ words
  pub same : is_marked marks ≡ needed proof

module _ (proof : List ℕ) where
  pub marking-start : (old new : List ℕ) → length old ≡ words → Unmarked old → Marks old (step_count proof - 1) new
      → Marking proof (step_count proof) new
  unfolding any
  marking-start old new l u m = record {
    size = m.size ∙ l;
    few = omega arith;
    wanted = (step_count proof - 1) ∷ [];
    same = λ j. m.same j ∙ ap (λ (b : Bool). eqb j (step_count proof - 1) || b) (u j);
    left = refl;
  }

  module _ {k : ℕ} {marks : List ℕ} (run : Marking proof k marks) where
    pub marking-done : k ≤ 0 → NeededMarks proof marks
    unfolding ancestors needed
    marking-done h =
        let z : k ≡ 0 = omega arith in
        let e : run.wanted ≡ ancestors proof (step_count proof) ((step_count proof - 1) ∷ []) = rw z at run.left in
        record { size = run.size; same = λ i j. (run.same j ∙ ap (any (eqb j)) e) i }

    pub marking-next : 0 < k → (new : List ℕ) → MarksParents proof (k - 1) marks new → Marking proof (k - 1) new
    unfolding ancestors any
    marking-next h new m =
        let z : k ≡ suc (k - 1) = omega arith in
        record {
          size = m.size ∙ run.size;
          few = omega (arith, run.few);
          wanted = cond (any (eqb (k - 1)) run.wanted) (parents (step_at proof (k - 1)) ++ run.wanted) run.wanted;
          same = λ j. m.same j ∙ (λ i. any (eqb j) (cond (run.same (k - 1) i) (parents (step_at proof (k - 1))) []) || run.same j i)
              ∙ by j (any (eqb (k - 1)) run.wanted) (parents (step_at proof (k - 1)));
          left = ap (λ (n : ℕ). ancestors proof n run.wanted) (sym z) ∙ run.left;
        }
      where
        by : (j : ℕ) (a : Bool) (ps : List ℕ)
            → (any (eqb j) (cond a ps []) || any (eqb j) run.wanted) ≡ any (eqb j) (cond a (ps ++ run.wanted) run.wanted)
        by j true ps = sym (any_append (eqb j) ps run.wanted)
        by j false ps = refl
