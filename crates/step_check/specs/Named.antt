-- A loaded part is found by the two numbers of its header: no other part has its bytes.
use Rattle.std.proofs.Math.Path.{◌≡◌, refl, ap}
use Rattle.std.proofs.Common.{sym, ◌∙◌}
use Rattle.std.proofs.Math.Logic.{⊎_elim}
use mathlib.Core.List.{List, [], ◌∷◌, ◌++◌}
use Rattle.std.proofs.Math.Option.{Option, none, some}
use Prim.Native.Nat.{ℕ, zero, suc, ◌+◌, ◌≤◌, ◌<◌}
use native.Mathlib.Omega.{arith}
use Rattle.std.specs.Prelude.{T, length}
use Rattle.std.proofs.Math.Dec.{eqb, eqb→eq}
use Rattle.std.proofs.Math.ListN.{get_elem?}
use Rattle.rules_types.specs.Limits.{most_steps}
use Rattle.rules_types.specs.Layout.{step_first, step_second}
use Rattle.rules.specs.Lists.{same}
use Rattle.rules.specs.Bytes.{field_at}
use Rattle.rules.specs.Problem.{Clause}
use Rattle.rules.specs.Lines.{Line}
use Rattle.rules.specs.Split.{parts_of, splits_of}
use Rattle.rules.specs.Steps.{Step, loaded, header, encode_step}
use Rattle.rules.specs.Elimination.{part_steps, loadable}
use Rattle.rules.specs.Checker.{line_among}
use Rattle.theory_lists.specs.Tests.{split, is_true, is_false}
use Rattle.theory_lists.specs.Equal.{same-yes}
use Rattle.theory_bytes.specs.Headers.{first_back, second_back}

-- part k of clause c, where these clauses come and their first splits by `base`
unfoldable pub part_named : ℕ → List Clause → ℕ → ℕ → Option Line
part_named base [] c k = none
part_named base (x ∷ xs) zero k = get_elem? (parts_of base x) k
part_named base (x ∷ xs) (suc c) k = part_named (base + splits_of x) xs c k

-- few parts in each clause
abbrev pub Few : List Clause → Type 0
Few [] = Unit {0}
Few (x ∷ xs) = ((base : ℕ) → length (parts_of base x) ≤ most_steps) × Few xs

module _ (bytes : List ℕ) where
  abbrev pub clause : ℕ
  clause = field_at step_first 2 bytes

  abbrev pub part : ℕ
  part = field_at step_second 2 bytes

  -- the step of a part, if there is one and these are its bytes
  unfoldable pub own_step : ℕ → ℕ → Option Line → Option Line
  own_step c k none = none
  own_step c k (some l) = line_among (record { origin = loaded c k; line = l } ∷ []) bytes

  abbrev step : ℕ → ℕ → Line → Step
  step c k l = record { origin = loaded c k; line = l }

  -- ---- one step
  numbers : (c k : ℕ) (l : Line) → c < most_steps → k < most_steps → T (same eqb (encode_step (step c k l)) bytes) → (clause ≡ c)
      × (part ≡ k)
  unfolding header
  numbers c k l h i t =
      let e = same-yes eqb eqb→eq (encode_step (step c k l)) bytes t in
      (ap (field_at step_first 2) (sym e) ∙ first_back (step c k l) h, ap (field_at step_second 2) (sym e) ∙ second_back (step c k l) i)

  other : (c k : ℕ) (l : Line) (ss : List Step) → c < most_steps → k < most_steps → ((clause ≡ c) × (part ≡ k) → ⊥)
      → line_among (step c k l ∷ ss) bytes ≡ line_among ss bytes
  unfolding line_among
  other c k l ss h i d = ⊎_elim
      (λ t. absurd (d (numbers c k l h i t)))
      (λ t. rw (is_false (same eqb (encode_step (step c k l)) bytes) t, line_among))
      (split (same eqb (encode_step (step c k l)) bytes))

  -- this step or none, where no later one has the bytes
  first-or : (s : Step) (ss : List Step) → line_among ss bytes ≡ none → line_among (s ∷ ss) bytes ≡ line_among (s ∷ []) bytes
  unfolding line_among
  first-or s ss e = ⊎_elim
      (λ t. rw (is_true (same eqb (encode_step s) bytes) t, line_among))
      (λ t. rw (is_false (same eqb (encode_step s) bytes) t, line_among) e)
      (split (same eqb (encode_step s) bytes))

  -- ---- the parts of a clause, from part p on
  parts-other : (c p : ℕ) (ls : List Line) → c < most_steps → p + length ls ≤ most_steps → (clause ≡ c → part < p)
      → line_among (part_steps c p ls) bytes ≡ none
  unfolding part_steps line_among
  parts-other c p [] h i d = refl
  parts-other c p (l ∷ ls) h i d =
      other c p l (part_steps c (suc p) ls) h (omega arith) (λ e. omega (arith, d e.0, e.1))
      ∙ parts-other c (suc p) ls h (omega arith) (λ e. omega (arith, d e))

  parts-own : (c p d : ℕ) (ls : List Line) → c < most_steps → p + length ls ≤ most_steps → clause ≡ c → part ≡ p + d
      → line_among (part_steps c p ls) bytes ≡ own_step c (p + d) (get_elem? ls d)
  unfolding part_steps line_among own_step
  parts-own c p d [] h i e f = refl
  parts-own c p zero (l ∷ ls) h i e f =
      let z : p + 0 ≡ p = omega arith in
      rw z (first-or (step c p l) (part_steps c (suc p) ls) (parts-other c (suc p) ls h (omega arith) (λ g. omega arith)))
  parts-own c p (suc d) (l ∷ ls) h i e f =
      let z : suc p + d ≡ p + suc d = omega arith in
      other c p l (part_steps c (suc p) ls) h (omega arith) (λ g. omega (arith, g.1))
      ∙ parts-own c (suc p) d ls h (omega arith) e (omega arith)
      ∙ ap (λ (k : ℕ). own_step c k (get_elem? ls d)) z

  -- ---- those of all clauses
  among_none : (ss ts : List Step) → line_among ss bytes ≡ none → line_among (ss ++ ts) bytes ≡ line_among ts bytes
  unfolding line_among
  among_none [] ts e = refl
  among_none (s ∷ ss) ts e = ⊎_elim
      (λ t. absurd (never (rw (is_true (same eqb (encode_step s) bytes) t, line_among) at e)))
      (λ t. rw (is_false (same eqb (encode_step s) bytes) t, line_among)
      (among_none ss ts (rw (is_false (same eqb (encode_step s) bytes) t, line_among) at e)))
      (split (same eqb (encode_step s) bytes))
    where
      never : {l : Line} → ◌≡◌ {A = Option Line} (some l) none → ⊥
      never e = let z : ◌≡◌ {A = ℕ} 0 1 = cc in omega arith

  among-front : (ss ts : List Step) → line_among ts bytes ≡ none → line_among (ss ++ ts) bytes ≡ line_among ss bytes
  unfolding line_among
  among-front [] ts e = e
  among-front (s ∷ ss) ts e = ⊎_elim
      (λ t. rw (is_true (same eqb (encode_step s) bytes) t, line_among))
      (λ t. rw (is_false (same eqb (encode_step s) bytes) t, line_among) (among-front ss ts e))
      (split (same eqb (encode_step s) bytes))

  loadable-other : (c base : ℕ) (xs : List Clause) → c + length xs ≤ most_steps → Few xs → clause < c
      → line_among (loadable c base xs) bytes ≡ none
  unfolding loadable line_among
  loadable-other c base [] h f d = refl
  loadable-other c base (x ∷ xs) h f d =
      among_none (part_steps c 0 (parts_of base x)) (loadable (suc c) (base + splits_of x) xs)
      (parts-other c 0 (parts_of base x) (omega arith) (omega (arith, f.0 base)) (λ e. omega arith))
      ∙ loadable-other (suc c) (base + splits_of x) xs (omega arith) f.1 (omega arith)

  pub among-named : (c d base : ℕ) (xs : List Clause) → c + length xs ≤ most_steps → Few xs → clause ≡ c + d
      → line_among (loadable c base xs) bytes ≡ own_step clause part (part_named base xs d part)
  unfolding loadable line_among part_named own_step
  among-named c d base [] h f e = refl
  among-named c zero base (x ∷ xs) h f e =
      let z : clause ≡ c = omega arith in
      let y : 0 + part ≡ part = omega arith in
      among-front (part_steps c 0 (parts_of base x)) (loadable (suc c) (base + splits_of x) xs)
      (loadable-other (suc c) (base + splits_of x) xs (omega arith) f.1 (omega arith))
      ∙ parts-own c 0 part (parts_of base x) (omega arith) (omega (arith, f.0 base)) z (omega arith)
      ∙ ap (λ (k : ℕ). own_step c k (get_elem? (parts_of base x) part)) y
      ∙ ap (λ (i : ℕ). own_step i part (get_elem? (parts_of base x) part)) (sym z)
  among-named c (suc d) base (x ∷ xs) h f e =
      among_none (part_steps c 0 (parts_of base x)) (loadable (suc c) (base + splits_of x) xs)
      (parts-other c 0 (parts_of base x) (omega arith) (omega (arith, f.0 base)) (λ g. omega arith))
      ∙ among-named (suc c) d (base + splits_of x) xs (omega arith) f.1 (omega arith)
