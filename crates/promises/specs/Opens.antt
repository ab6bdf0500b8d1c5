-- 02, (iv): where a model has a 2, and that either value does there.
use Rattle.std.specs.Prelude.{◌≡◌, ◌↔◌, Bool, true, false, cond, List, ℕ, ◌+◌, ◌<◌, T}
use Rattle.std.proofs.Common.{sym, ◌∙◌, arith}
use Rattle.rules.specs.Bytes.{field_at}
use Rattle.rules.specs.Problem.{Problem}
use Rattle.rules.specs.Meaning.{Assignment, Satisfies}
use Rattle.rules.specs.Model.{is_open}
use Rattle.theory_layout.specs.Offsets.{StatesModel}
use Rattle.theory_splitting.specs.WellFormed.{WellFormed}
use Rattle.theory_splitting.specs.Occurs.{open-exactly, closed-stands, literals-closed}
use Rattle.theory_checks.specs.Agreement.{Agree, checks-agree}
use Rattle.theory_checks.specs.ModelChecked.{accepted-clauses}
use Rattle.promises.specs.Words.{InNoClause, DiffersAtOpen, OpenVariables}

module _ (p : Problem) (w : WellFormed p) (χ : Assignment) where
  agrees : (ξ : Assignment) → DiffersAtOpen p χ ξ → Agree p.booleans p.rationals (is_open p) χ ξ
  agrees ξ d = record {
    booleans = λ i h o. sym (d.booleans i (closed-stands p i o));
    numerators = λ f h. sym (d.numerators f h);
    denominator = sym d.denominator;
  }

  either-satisfies : Satisfies χ p → (ξ : Assignment) → DiffersAtOpen p χ ξ → Satisfies ξ p
  either-satisfies s ξ d =
      let same = checks-agree p.booleans p.rationals (is_open p) χ ξ (agrees ξ d) 0 p.clauses w.clauses (literals-closed p) in
      record {
        denominator = rw d.denominator s.denominator;
        clauses = (accepted-clauses ξ 0 p.clauses).0 (sym same ∙ (accepted-clauses χ 0 p.clauses).1 s.clauses);
      }

  module _ (bytes : List ℕ) (s : StatesModel bytes p.booleans p.rationals (is_open p) χ) where
    two-exactly : (i : ℕ) → i < p.booleans → (field_at (1 + i) 1 bytes ≡ 2) ↔ InNoClause p i
    two-exactly i h =
        let e = open-exactly p i in
        let k = by (is_open p i) (χ.booleans i) (s.boolean i h) in
        (λ f. e.0 (k.0 f), λ n. k.1 (e.1 n))
      where
        by : (o a : Bool) {n : ℕ} → n ≡ cond o 2 (cond a 1 0) → (n ≡ 2) ↔ T o
        by true a e = (λ f. tt, λ t. e)
        by false true e = (λ f. omega arith, λ t. absurd t)
        by false false e = (λ f. omega arith, λ t. absurd t)

    pub open-variables : Satisfies χ p → OpenVariables p bytes χ
    open-variables t = record { two = two-exactly; either = either-satisfies t }
