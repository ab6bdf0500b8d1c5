-- Carrying back, of a model that it reads: 17, 22, or it is carried.
use Rattle.std.specs.Prelude.{◌≡◌, ◌↔◌, List, ℕ, ◌≤◌, ◌<◌, ℤ, nat_abs, ltb}
use Rattle.std.proofs.Common.{ap, subst, ◌∙◌, ⊎_elim, arith, ltb→lt, nltb→le}
use Rattle.rules_types.specs.declared.answers.Refusal.TheVariants as refusal
use Rattle.rules_types.specs.declared.answers.Carried.TheVariants.{Done, Refused}
use Rattle.rules_types.specs.Limits as limit
use Rattle.rules.specs.Problem.{Problem, Read, fault}
use Rattle.rules.specs.Meaning.{Assignment}
use Rattle.rules.specs.Model.{is_open}
use Rattle.rules.specs.Convert.{kept, carried_back, carry_back, Carrying}
use Rattle.rules.specs.Calls.{sound, read}
use Rattle.theory_lists.specs.Tests.{split as split-test}
use Rattle.theory_bytes.specs.Bytes.{AllBytes}
use Rattle.theory_layout.specs.Offsets.{FirstBadField}
use Rattle.theory_layout.specs.Models.{refused-exactly, Stated, states-got}
use Rattle.theory_splitting.specs.WellRead.{read-well-formed}
use Rattle.theory_conversion.specs.Carrying.{Beyond, done-carries}
use Rattle.theory_conversion.specs.CarriedModel.{stated-back, read-states}
use Rattle.promises.specs.CarriedOver.{new_rationals, FirstOutside, Tested, States}
use Rattle.promises.specs.Halves.{few-over, impossible}
use Rattle.promises.specs.CarriedBackAnswers as the
use Rattle.promises.specs.CarriedBackAnswers.{Answered, over, short, bad, outside, carries}

-- ---- 22
-- of numerators that agree, the first outside the range is the same
outside_of : (r : ℕ) (x y : ℕ → ℤ) → ((f : ℕ) → f < r → x f ≡ y f) → (f : ℕ) → Beyond 0 r x f → FirstOutside r y f
outside_of r x y same f b =
    let l = b.below in
    let k : f < r = omega arith in
    record {
      below = k;
      outside = rw (← same f k) b.outside;
      first = λ g m. rw (← same g (omega arith)) (b.first g (omega arith) m);
    }

one_outside : (r : ℕ) (x : ℕ → ℤ) (f g : ℕ) → FirstOutside r x f → FirstOutside r x g → f ≡ g
one_outside r x f g h k =
    ⊎_elim (λ t. absurd (omega (arith, k.first f (ltb→lt f g t), h.outside)))
    (λ t. ⊎_elim (λ u. absurd (omega (arith, h.first g (ltb→lt g f u), k.outside)))
    (λ u. let y = nltb→le f g t in let z = nltb→le g f u in omega arith) (split-test (ltb g f))) (split-test (ltb f g))

module _ (input bytes lent : List ℕ) (are : AllBytes input) where
  abbrev ours : Carrying
  ours = carry_back input bytes lent

  module _ (p : Problem) (e : read input ≡ sound p) where
    abbrev reading : Read Assignment
    reading = the.reading input bytes lent are p e

    abbrev back : Assignment → ℕ → ℤ
    back χ = (carried_back (kept p) χ).numerators

    abbrev Cases : Type 0
    Cases = Answered input bytes lent are p e

    abbrev cases : Cases
    cases = the.answered input bytes lent are p e

    abbrev small : p.booleans ≤ limit.booleans
    small = (read-well-formed input p e).booleans

    module _ (t : Tested p bytes lent) where
      refused-reading : (place : ℕ) → (reading ≡ fault refusal.BadModel place)
          ↔ FirstBadField bytes p.booleans (new_rationals p) (is_open p) place
      refused-reading = refused-exactly bytes p.booleans (new_rationals p) (is_open p) t.size small t.few

      was_read : (χ : Assignment) → States p bytes χ → Stated bytes p.booleans (new_rationals p) (is_open p) t.size small t.few
      was_read = states-got bytes p.booleans (new_rationals p) (is_open p) t.size small t.few

      pub field : (place : ℕ) → (ours.carried ≡ Refused refusal.BadModel place)
          ↔ FirstBadField bytes p.booleans (new_rationals p) (is_open p) place
      field place = by cases
        where
          by : Cases → (ours.carried ≡ Refused refusal.BadModel place)
              ↔ FirstBadField bytes p.booleans (new_rationals p) (is_open p) place
          by (over h q) = (λ a. impossible cc, λ l. absurd (omega arith))
          by (short h k q) = (λ a. impossible cc, λ l. absurd (the.not_short input bytes lent are p e t (h, k)))
          by (bad u at m q) = (
            λ a. let i : at ≡ place = cc in (refused-reading place).0 (m ∙ ap (fault refusal.BadModel) i),
            λ l. let n = (refused-reading place).1 l in let i : at ≡ place = cc in q.0 ∙ ap (Refused refusal.BadModel) i,
          )
          by (outside u χ s f b q) = (
            λ a. impossible cc,
            λ l. let n = (refused-reading place).1 l in let m = (was_read χ s).is in impossible cc,
          )
          by (carries u c m d) = (λ a. impossible cc, λ l. let n = (refused-reading place).1 l in impossible cc)

      pub range : (χ : Assignment) → States p bytes χ → (f : ℕ)
          → (ours.carried ≡ Refused refusal.CarriedRange f) ↔ FirstOutside p.rationals (back χ) f
      range χ s f = by cases
        where
          same : (ψ : Assignment) → States p bytes ψ → (g : ℕ) → g < p.rationals → back ψ g ≡ back χ g
          same ψ u = (stated-back (kept p) bytes p.booleans p.rationals (is_open p) ψ χ u s).numerators

          by : Cases → (ours.carried ≡ Refused refusal.CarriedRange f) ↔ FirstOutside p.rationals (back χ) f
          by (over h q) = (λ a. impossible cc, λ l. absurd (omega arith))
          by (short h k q) = (λ a. impossible cc, λ l. absurd (the.not_short input bytes lent are p e t (h, k)))
          by (bad u at m q) = (λ a. impossible cc, λ l. let n = (was_read χ s).is in impossible cc)
          by (outside u ψ v g b q) =
              let k = outside_of p.rationals (back ψ) (back χ) (same ψ v) g b in (
                λ a. let i : g ≡ f = cc in subst (FirstOutside p.rationals (back χ)) i k,
                λ l. q.0 ∙ ap (Refused refusal.CarriedRange) (one_outside p.rationals (back χ) g f k l),
              )
          by (carries u c m d) = (
            λ a. impossible cc,
            λ l. let z : nat_abs (back χ f) ≤ limit.amount =
                rw (← same c.assignment (read-states input are bytes lent p e c) f l.below) (c.range f l.below) in
                absurd (omega (arith, l.outside)),
          )

    abbrev InRange : Assignment → Type 0
    InRange χ = (f : ℕ) → f < p.rationals → nat_abs (back χ f) ≤ limit.amount

    pub done : (ours.carried ≡ Done) ↔ (Tested p bytes lent × ((χ : Assignment) × States p bytes χ × InRange χ))
    done = (
      λ a. let c = done-carries input bytes lent p e a in
          (the.tested input bytes lent are p e c, (c.assignment, read-states input are bytes lent p e c, c.range)),
      λ h. let w = was_read h.0 h.1.0 h.1.1 in the.carried input bytes lent are p e (record {
        few = few-over p h.0.few;
        size = h.0.size;
        room = h.0.room;
        assignment = w.assignment;
        rest = w.rest;
        place = w.place;
        reads = the.same-reading input bytes lent are p e ∙ w.is;
        range = λ f l.
            rw ((stated-back (kept p) bytes p.booleans p.rationals (is_open p) w.assignment h.1.0 w.states h.1.1
            ).numerators f l) (h.1.2 f l);
      }),
    )
