-- The check of a proof and of a model, for a problem read without fault.
use Rattle.std.specs.Prelude.{Bool, true, false, cond, ◌&&◌, ◌||◌, List, [], ◌∷◌, ◌++◌, ℕ, zero, suc, ◌-◌, ◌/◌, eqb, length, take, drop}
use Rattle.std.proofs.Math.Option.{Option, none, some}
use Rattle.std.proofs.Math.ListN.{get_elem?}
use Rattle.rules_types.specs.declared.answers.Checked.{Checked}
use Rattle.rules_types.specs.declared.answers.Checked.TheVariants.{Accepted, Fails}
use Rattle.rules_types.specs.Limits as limit
use Rattle.rules_types.specs.Layout as layout
use Rattle.rules.specs.Lists.{same}
use Rattle.rules.specs.Bytes.{field_at}
use Rattle.rules.specs.Problem.{Clause, Problem}
use Rattle.rules.specs.Meaning.{Assignment, clause_holds}
use Rattle.rules.specs.Lines.{Line, Variable, rational, boolean, positively, negatively, no_constraint, is_empty}
use Rattle.rules.specs.Resolve.{resolve}
use Rattle.rules.specs.Steps.{Step, resolved, encode_step}
use Rattle.rules.specs.Elimination.{overflows, loadable_of}

-- ---- a proof
-- "by a mark at most one parent has a condition"
unfoldable pub pairable : Variable → Line → Line → Bool
pairable (rational f) u l = true
pairable (boolean i) u l = no_constraint u.constraint || no_constraint l.constraint

-- "the result of two earlier lines, neither wide nor dropped by tidying, first parent positive"
unfoldable pub derived : Variable → Option Line → Option Line → Option Line
derived v none l = none
derived v (some u) none = none
derived v (some u) (some l) =
    elim (positively v u && negatively v l && pairable v u l) [
      | true ↦ elim (resolve v u l) [ none ↦ none | some m ↦ cond (overflows m) none (some m) ]
      | false ↦ none
    ]

-- the variable that a line's first two bytes name
unfoldable pub variable_named : ℕ → ℕ → Option Variable
variable_named how which = cond (eqb how 1) (some (rational which)) (cond (eqb how 2) (some (boolean which)) none)

-- the resolvent that these bytes name, by their first six: its line is computed from its parents
unfoldable pub resolvent_named : List Line → List ℕ → Option Step
resolvent_named earlier bytes =
    let first = field_at layout.step_first 2 bytes in
    let second = field_at layout.step_second 2 bytes in
    elim (variable_named (field_at layout.step_how 1 bytes) (field_at layout.step_which 1 bytes)) [
      | none ↦ none
      | some v ↦ elim (derived v (get_elem? earlier first) (get_elem? earlier second)) [
        | none ↦ none
        | some l ↦ some (record { origin = resolved v first second; line = l })
      ]
    ]

-- the first of these steps whose 64 bytes they are
unfoldable pub line_among : List Step → List ℕ → Option Line
line_among [] bytes = none
line_among (s ∷ ss) bytes = elim (same eqb (encode_step s) bytes) [ true ↦ some s.line | false ↦ line_among ss bytes ]

-- "A book's line follows if all 64 bytes are a loaded piece, or the result of two earlier lines": the line that they then state
unfoldable pub stated_line : List Step → List Line → List ℕ → Option Line
stated_line parts earlier bytes =
    elim (line_among parts bytes) [
      | some l ↦ some l
      | none ↦ elim (resolvent_named earlier bytes) [ none ↦ none | some s ↦ line_among (s ∷ []) bytes ]
    ]

-- the number of the first line that does not follow, or the lines that all state
pub data Followed : Type 0 where
  fails : ℕ → Followed
  follow : List Line → Followed

-- k lines are left, and `earlier` follow
unfoldable pub followed : List Step → ℕ → List Line → List ℕ → Followed
followed parts zero earlier bytes = follow earlier
followed parts (suc k) earlier bytes =
    elim (stated_line parts earlier (take limit.step_bytes bytes)) [
      | none ↦ fails (length earlier)
      | some l ↦ followed parts k (earlier ++ (l ∷ [])) (drop limit.step_bytes bytes)
    ]

-- of a whole proof
unfoldable pub followed_lines : Problem → List ℕ → Followed
followed_lines p bytes = followed (loadable_of p) (length bytes / limit.step_bytes) [] bytes

-- "the last is empty"; without a line, none is
unfoldable pub ends_empty : List Line → Bool
ends_empty lines = elim (get_elem? lines (length lines - 1)) [ none ↦ false | some l ↦ is_empty l ]

-- "accepted, or the first failing line, the line count if only the empty end is missing"
unfoldable pub with_empty_end : Followed → Checked
with_empty_end (fails n) = Fails n
with_empty_end (follow lines) = cond (ends_empty lines) Accepted (Fails (length lines))

unfoldable pub check_proof : Problem → List ℕ → Checked
check_proof p bytes = with_empty_end (followed_lines p bytes)

-- ---- a model
-- "accepted, or the first clause that fails", from clause k on
unfoldable pub check_clauses : Assignment → ℕ → List Clause → Checked
check_clauses χ k [] = Accepted
check_clauses χ k (c ∷ cs) = elim (clause_holds χ c) [ true ↦ check_clauses χ (suc k) cs | false ↦ Fails k ]
