-- The resolvent that a step's bytes name, of lines that a proof's bytes hold.
use Rattle.std.specs.Prelude.{◌≡◌, refl, List, ℕ, ◌<◌, ◌≤◌}
use Rattle.std.proofs.Common.{sym, ap, ◌∙◌}
use Rattle.std.proofs.Math.Option.{Option, none, some}
use Rattle.std.proofs.Math.ListN.{get_elem?}
use Rattle.rules.specs.Lines as rules
use Rattle.rules.specs.Checker.{derived}
use Rattle.theory_lists.specs.Tabulated.{element-tabulate, element-beyond}
use Rattle.lines.specs.declared.line.Line.{Line}
use Rattle.lines.specs.Line.{meaning}
use Rattle.steps.specs.declared.origin.Origin.{Origin}
use Rattle.steps.specs.Origin.{header_of, origin_at}
use Rattle.steps.specs.Lines.{line_at, lines_in}
use Rattle.step_check.specs.declared.compare.Stated.{Stated}
use Rattle.step_check.specs.Stated.{line_found, Holds, States, matched}
use Rattle.step_check.specs.Derived.{derived_by, derived-absent, derived-alone, by-neither, resolvent_stated, resolvent-is}

pub states-same : {o p : Option rules.Line} {bytes : List ℕ} {s : Stated} → o ≡ p → States p bytes s → States o bytes s
states-same e h = record { line = h.line ∙ sym e; ready = h.ready; back = h.back }

module _ (proof bytes : List ℕ) (i : ℕ) where
  abbrev earlier : List rules.Line
  earlier = lines_in proof i

  element : (k : ℕ) → k < i → get_elem? earlier k ≡ some (meaning (line_at proof k))
  unfolding lines_in
  element k h = element-tabulate i (λ k. meaning (line_at proof k)) k h

  no-element : (k : ℕ) → i ≤ k → get_elem? earlier k ≡ none
  unfolding lines_in
  no-element k h = element-beyond i (λ k. meaning (line_at proof k)) k h

  abbrev origin : Origin
  origin = origin_at bytes 0

  -- no resolvent of these parents by any variable
  no-resolvent : (u l : Option rules.Line) → get_elem? earlier origin.first ≡ u → get_elem? earlier origin.second ≡ l
      → ((v : rules.Variable) → derived v u l ≡ none) → resolvent_stated earlier bytes ≡ none
  unfolding matched
  no-resolvent u l a b h = resolvent-is earlier bytes ∙ rw (a, b, by-neither origin u l h)

  pub first-beyond : i ≤ origin.first → resolvent_stated (lines_in proof i) bytes ≡ none
  first-beyond h = no-resolvent none (get_elem? earlier origin.second) (no-element origin.first h) refl
      (λ v. derived-absent v (get_elem? earlier origin.second))

  pub second-beyond : i ≤ origin.second → resolvent_stated (lines_in proof i) bytes ≡ none
  second-beyond h = no-resolvent (get_elem? earlier origin.first) none refl (no-element origin.second h)
      (λ v. derived-alone v (get_elem? earlier origin.first))

  pub resolvent-found : {o : Origin} {u l : Line} {s : Stated} → o ≡ origin → o.first < i → o.second < i
      → u ≡ line_at proof o.first → l ≡ line_at proof o.second
      → Holds (derived_by o (some (meaning u)) (some (meaning l))) s
      → resolvent_stated (lines_in proof i) bytes ≡ matched (header_of o) bytes (line_found s)
  resolvent-found {o} {u} {l} {s} e x y p q h =
      resolvent-is earlier bytes
      ∙ ap (λ (o : Origin). matched (header_of o) bytes (derived_by o (get_elem? earlier o.first) (get_elem? earlier o.second))) (sym e)
      ∙ (λ t. matched (header_of o) bytes (derived_by o (element o.first x t) (element o.second y t)))
      ∙ (λ t. matched (header_of o) bytes (derived_by o (some (meaning (sym p t))) (some (meaning (sym q t)))))
      ∙ ap (matched (header_of o) bytes) (sym h.line)
