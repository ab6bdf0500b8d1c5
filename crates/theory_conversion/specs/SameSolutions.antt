-- The new problem has a solution in the second edition exactly if the old one has in the first.
use Rattle.std.specs.Prelude.{◌≡◌, refl, ◌↔◌, false, List, ℕ, ◌≤◌, pos, get_or}
use Rattle.std.proofs.Common.{◌∙◌}
use borrow.Author.Tests.{ltb-false}
use Rattle.rules_types.specs.declared.terms.Edition.TheVariants.{Second}
use Rattle.rules_types.specs.Limits as limit
use Rattle.rules.specs.Problem.{Problem, in_edition}
use Rattle.rules.specs.Meaning.{Assignment, Satisfies}
use Rattle.rules.specs.Written.{meaning}
use Rattle.rules.specs.Model.{is_open}
use Rattle.rules.specs.Convert.{kept, carried_over, over_rationals, carried_back}
use Rattle.rules.specs.Calls.{sound, read}
use Rattle.theory_bytes.specs.Bytes.{AllBytes}
use Rattle.theory_splitting.specs.Occurs.{literals-closed}
use Rattle.theory_splitting.specs.WellRead.{read-well-formed}
use Rattle.theory_checks.specs.Agreement.{Agree, checks-agree}
use Rattle.theory_checks.specs.ModelChecked.{accepted-clauses}
use Rattle.theory_conversion.specs.Solutions.{satisfies-carried}
use Rattle.theory_conversion.specs.Kept.{kept-bounds}
use Rattle.theory_conversion.specs.Second.{satisfies-second}
use Rattle.theory_conversion.specs.Halves.{halves_of, carried-halves, half-not-below}

-- an assignment of the old problem, carried over: "the first minus the second"
unfoldable pub carried_forth : Problem → Assignment → Assignment
carried_forth p χ = record {
  booleans = χ.booleans;
  numerators = λ i. get_or (halves_of (kept p) χ.numerators p.rationals) i (pos 0);
  denominator = χ.denominator;
}

module _ (input : List ℕ) (h : AllBytes input) (p : Problem) (e : read input ≡ sound p) (few : over_rationals p ≡ false) where
  abbrev new : Problem
  new = meaning (carried_over p)

  pub new-few : new.rationals ≤ limit.rationals
  unfolding over_rationals meaning
  new-few = ltb-false limit.rationals (carried_over p).rationals few

  -- there and back, it is the same on the problem's variables
  there_and_back : (χ : Assignment) → Agree p.booleans p.rationals (is_open p) (carried_back (kept p) (carried_forth p χ)) χ
  unfolding carried_back carried_forth
  there_and_back χ = record {
    booleans = λ i l o. refl;
    numerators = carried-halves (kept p) χ.numerators p.rationals;
    denominator = refl;
  }

  pub carried-forth : (χ : Assignment) → Satisfies χ p → Satisfies (carried_forth p χ) (in_edition Second new)
  unfolding carried_forth carried_back
  carried-forth χ s =
      let ξ = carried_forth p χ in
      let back = carried_back (kept p) ξ in
      let formed = read-well-formed input p e in
      let same = checks-agree p.booleans p.rationals (is_open p) back χ (there_and_back χ) 0 p.clauses formed.clauses
      (literals-closed p) in
      (satisfies-second new new-few ξ).1 (
        (satisfies-carried input h p e ξ).1 (record {
          denominator = s.denominator;
          clauses = (accepted-clauses back 0 p.clauses).0 (same ∙ (accepted-clauses χ 0 p.clauses).1 s.clauses);
        }),
        λ f l. half-not-below (kept p) χ.numerators p.rationals (λ g m k. (kept-bounds χ g p k s).le) f,
      )

  pub carried-back : (ξ : Assignment) → Satisfies ξ (in_edition Second new) → Satisfies (carried_back (kept p) ξ) p
  carried-back ξ s = (satisfies-carried input h p e ξ).0 ((satisfies-second new new-few ξ).0 s).0

  pub same-solutions : ((χ : Assignment) × Satisfies χ p) ↔ ((ξ : Assignment) × Satisfies ξ (in_edition Second new))
  same-solutions = (
    λ s. (carried_forth p s.0, carried-forth s.0 s.1),
    λ s. (carried_back (kept p) s.0, carried-back s.0 s.1),
  )
