-- The part that a step's bytes name, found by the index of the clauses, or behind the written ones.
use Rattle.std.proofs.Math.Path.{◌≡◌, refl, ap}
use Rattle.std.proofs.Common.{sym, ◌∙◌, eq-zero-or-pos, eqb→eq}
use Rattle.std.specs.Prelude.{Bool, true, false, List, [], ◌∷◌, ◌++◌, length}
use Rattle.std.proofs.Math.Logic.{⊎_elim}
use Rattle.std.proofs.Math.Option.{Option, none, some}
use Prim.Native.Nat.{ℕ, zero, suc, ◌+◌, ◌-◌, ◌≤◌, ◌<◌}
use native.Mathlib.Omega.{arith}
use Rattle.std.proofs.Math.Dec.{eqb}
use Rattle.std.proofs.Math.ListN.{get_elem?, length-append}
use Rattle.rules_types.specs.declared.terms.Edition.{Edition}
use Rattle.rules_types.specs.Limits as limit
use Rattle.rules_types.specs.Layout as layout
use Rattle.rules.specs.Lists.{same}
use Rattle.rules.specs.Bytes.{field_at}
use Rattle.rules.specs.Problem.{Clause, added}
use Rattle.rules.specs.Lines.{Line}
use Rattle.rules.specs.Split.{parts_of}
use Rattle.rules.specs.Steps.{Step, loaded, header, encode_step}
use Rattle.rules.specs.Elimination.{loadable_of}
use Rattle.rules.specs.Checker.{line_among, variable_named, resolvent_named, stated_line}
use Rattle.theory_lists.specs.Tests.{of-true}
use Rattle.theory_lists.specs.Equal.{same-yes}
use Rattle.theory_bytes.specs.Headers.{how-back}
use Rattle.theory_splitting.specs.WellFormed.{splits_in}
use Rattle.theory_splitting.specs.Editions.{non_negative_line, length-added}
use Rattle.lines.specs.declared.line.Line as words
use Rattle.lines.specs.Line.{meaning}
use Rattle.problem_scan.specs.declared.cursor.Sizes.{Sizes}
use Rattle.problem_scan.specs.Values.{clause_at}
use Rattle.problem_read.specs.Clauses.{length-clauses_at}
use Rattle.problem_read.specs.Parsed.{all_clauses, posed_at}
use Rattle.steps.specs.Origin.{header_of, loaded_by}
use Rattle.steps.specs.Lines.{lines_in}
use Rattle.problem_read.specs.Readable.{Readable, ahead-start}
use Rattle.problem_parts.specs.declared.part.Found.{Found}
use Rattle.problem_parts.specs.Part.{part_of}
use Rattle.step_check.specs.Stated.{line_found, matched, among_one}
use Rattle.step_check.specs.Derived.{resolvent_stated}
use Rattle.step_check.specs.Named.{part_named, clause, part, own_step, among-named}
use Rattle.proof_check.specs.Few.{few-parts}
use Rattle.proof_check.specs.Index.{Entry}
use Rattle.proof_check.specs.Added.{few-append, named-front, named-behind, named-beyond, few-added, named-added, named-free}

-- ---- a part and its step
pub found_part : (f : Found) → line_found (record { found = f.found; line = f.line }) ≡ part_of f
unfolding line_found part_of
found_part f = by f.found
  where
    by : (b : Bool) → line_found (record { found = b; line = f.line }) ≡ part_of (record { found = b; line = f.line })
    by true = refl
    by false = refl

module _ (bytes : List ℕ) (c k : ℕ) where
  own-matched : (o : Option Line) → own_step bytes c k o ≡ matched (header_of (loaded_by c k)) bytes o
  unfolding own_step matched header
  own-matched none = refl
  own-matched (some l) = among_one (record { origin = loaded c k; line = l }) bytes

  -- bytes whose first is not 0 are no part's
  own-other : (field_at layout.step_how 1 bytes ≡ 0 → ⊥) → (o : Option Line) → own_step bytes c k o ≡ none
  unfolding own_step line_among header
  own-other h none = refl
  own-other h (some l) = by (same eqb (encode_step s) bytes) refl
    where
      s : Step
      s = record { origin = loaded c k; line = l }

      by : (t : Bool) → same eqb (encode_step s) bytes ≡ t → line_among (s ∷ []) bytes ≡ none
      by true e = absurd
          (h (ap (field_at layout.step_how 1)
          (sym (same-yes eqb eqb→eq (encode_step s) bytes (of-true (same eqb (encode_step s) bytes) e))) ∙ how-back s))
      by false e = rw (e, line_among)

-- ---- among the parts of all clauses, in an edition
abbrev named_in : Edition → List ℕ → Sizes → ℕ → ℕ → Option Line
named_in edition q sizes c k = part_named sizes.booleans (posed_at edition q sizes).clauses c k

-- the line that these bytes state, of a clause behind the written ones
abbrev pub added_stated : Edition → Sizes → List ℕ → Option Line
added_stated edition sizes bytes =
    own_step bytes (clause bytes) (part bytes) (part_named 0 (added edition sizes.rationals) (clause bytes - sizes.clauses) (part bytes))

module _ (edition : Edition) (sizes : Sizes) (bytes : List ℕ) (few : sizes.rationals ≤ limit.rationals) where
  abbrev f : ℕ
  f = clause bytes - sizes.clauses

  pub added-beyond : length (added edition sizes.rationals) ≤ f → added_stated edition sizes bytes ≡ none
  unfolding own_step
  added-beyond h = ap (own_step bytes (clause bytes) (part bytes)) (named-beyond 0 (added edition sizes.rationals) f (part bytes) h)

  -- it has one part
  pub added-second : (part bytes ≡ 0 → ⊥) → added_stated edition sizes bytes ≡ none
  unfolding own_step
  added-second h = ⊎_elim (λ z. added-beyond (omega arith))
      (λ z. ap (own_step bytes (clause bytes) (part bytes))
      (named-added edition sizes.rationals few 0 f (part bytes) (omega arith) ∙ past (part bytes) h))
      (eq-zero-or-pos (length (added edition sizes.rationals) - f))
    where
      past : (k : ℕ) → (k ≡ 0 → ⊥) → get_elem? (non_negative_line f ∷ []) k ≡ none
      past zero h = absurd (h refl)
      past (suc k) h = refl

  pub added-found : {c k : ℕ} (l : words.Line) → c ≡ clause bytes → k ≡ part bytes → k ≡ 0 → f < length (added edition sizes.rationals)
      → meaning l ≡ non_negative_line f
      → added_stated edition sizes bytes ≡ matched (header_of (loaded_by c k)) bytes (line_found (record { found = true; line = l }))
  unfolding line_found
  added-found {c} {k} l x y z h e =
      (λ t. own_step bytes (sym x t) (sym y t) (part_named 0 (added edition sizes.rationals) f (sym y t)))
      ∙ own-matched bytes c k (part_named 0 (added edition sizes.rationals) f k)
      ∙ ap (matched (header_of (loaded_by c k)) bytes)
      (named-added edition sizes.rationals few 0 f k h ∙ ap (get_elem? (non_negative_line f ∷ [])) z ∙ ap some (sym e))

module _ (edition : Edition) {q : List ℕ} {sizes : Sizes} (read : Readable q sizes) (bytes : List ℕ) where
  many : length (all_clauses q sizes) ≡ sizes.clauses
  many = length-clauses_at q sizes.rationals sizes.clauses layout.first_clause

  abbrev more : List Clause
  more = added edition sizes.rationals

  among-clauses : line_among (loadable_of (posed_at edition q sizes)) bytes
      ≡ own_step bytes (clause bytes) (part bytes) (named_in edition q sizes (clause bytes) (part bytes))
  unfolding loadable_of
  among-clauses =
      among-named bytes 0 (clause bytes) sizes.booleans (all_clauses q sizes ++ more)
      (omega (
        arith,
        many,
        length-append (all_clauses q sizes) more,
        length-added edition sizes.rationals,
        read.parsed.clauses,
        read.parsed.rationals,
      ))
      (few-append (all_clauses q sizes) more (few-parts q sizes.rationals sizes.clauses layout.first_clause 0 (ahead-start read))
      (few-added edition sizes.rationals read.parsed.rationals)) (omega arith)

  -- behind the written clauses
  pub loaded-behind : sizes.clauses ≤ clause bytes
      → line_among (loadable_of (posed_at edition q sizes)) bytes ≡ added_stated edition sizes bytes
  loaded-behind h =
      let base = sizes.booleans + splits_in (all_clauses q sizes) in
      among-clauses
      ∙ ap (own_step bytes (clause bytes) (part bytes))
      (named-behind sizes.booleans (all_clauses q sizes) more (clause bytes) (part bytes) (omega (arith, many))
      ∙ ap (λ (n : ℕ). part_named base more (clause bytes - n) (part bytes)) many
      ∙ named-free edition sizes.rationals read.parsed.rationals base (clause bytes - sizes.clauses) (part bytes))

  pub loaded-other : (field_at layout.step_how 1 bytes ≡ 0 → ⊥) → line_among (loadable_of (posed_at edition q sizes)) bytes ≡ none
  loaded-other h = among-clauses
      ∙ own-other bytes (clause bytes) (part bytes) h (named_in edition q sizes (clause bytes) (part bytes))

  pub loaded_found : {c k place variable : ℕ} (f : Found) → c ≡ clause bytes → k ≡ part bytes → c < sizes.clauses
      → Entry q sizes place variable c
      → part_of f ≡ get_elem? (parts_of variable (clause_at q sizes.rationals place)) k
      → line_among (loadable_of (posed_at edition q sizes)) bytes ≡ matched (header_of (loaded_by c k)) bytes (line_found (record {
        found = f.found;
        line = f.line;
      }))
  loaded_found {c} {k} f x y written entry e =
      among-clauses
      ∙ (λ t. own_step bytes (sym x t) (sym y t) (named_in edition q sizes (sym x t) (sym y t)))
      ∙ own-matched bytes c k (named_in edition q sizes c k)
      ∙ ap (matched (header_of (loaded_by c k)) bytes)
      (named-front sizes.booleans (all_clauses q sizes) more c k (omega (arith, many)) ∙ entry.named k ∙ sym e ∙ sym (found_part f))

-- the line that these bytes state as step i of a proof of the problem in the input
abbrev pub line_stated_at : Edition → List ℕ → Sizes → List ℕ → ℕ → List ℕ → Option Line
line_stated_at edition input sizes proof i bytes = stated_line (loadable_of (posed_at edition input sizes)) (lines_in proof i) bytes

-- ---- a part, or else a resolvent
module _ (parts : List Step) (earlier : List Line) (bytes : List ℕ) where
  pub stated-loaded : field_at layout.step_how 1 bytes ≡ 0 → stated_line parts earlier bytes ≡ line_among parts bytes
  unfolding stated_line resolvent_named variable_named
  stated-loaded e = by (line_among parts bytes)
    where
      by : (o : Option Line) → ◌≡◌ {A = Option Line}
          (elim o [ some l ↦ some l | none ↦ elim (resolvent_named earlier bytes) [ none ↦ none | some s ↦ line_among (s ∷ []) bytes ] ]) o
      by none = rw (e, resolvent_named)
      by (some l) = refl

  pub stated-derived : line_among parts bytes ≡ none → stated_line parts earlier bytes ≡ resolvent_stated earlier bytes
  unfolding stated_line resolvent_stated
  stated-derived e = rw (e, stated_line)
