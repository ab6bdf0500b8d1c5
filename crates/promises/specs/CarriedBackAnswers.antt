-- What carrying back answers, of every problem that is read without fault: one of four refusals, or it carries.
use Rattle.std.specs.Prelude.{◌≡◌, ◌↔◌, ◌⊎◌, List, Bool, ℕ, ◌≤◌, ◌<◌, ℤ, length}
use Rattle.std.proofs.Math.Path.{refl, ap}
use Rattle.std.proofs.Common.{◌∙◌, ⊎_elim, inl, inr, arith}
use Rattle.std.proofs.Math.Bool.{true, false}
use Rattle.std.proofs.Math.Option.{Option, none, some}
use borrow.Author.Tests.{ltb-true, ltb-false, le-ltb}
use Rattle.std.proofs.Math.Dec.{ltb}
use Rattle.rules_types.specs.declared.answers.Refusal.{Refusal}
use Rattle.rules_types.specs.declared.answers.Refusal.TheVariants as refusal
use Rattle.rules_types.specs.declared.answers.Carried.TheVariants.{Done, Refused}
use Rattle.rules_types.specs.Limits as limit
use Rattle.rules.specs.Problem.{Problem, Read, fault, got}
use Rattle.rules.specs.Written.{meaning}
use Rattle.rules.specs.Meaning.{Assignment}
use Rattle.rules.specs.Model.{is_open, model}
use Rattle.rules.specs.Convert.{kept, carried_over, carried_back, carry_back, Carrying, split_problem, written_as, over_rationals}
use Rattle.rules.specs.Convert.{first_beyond}
use Rattle.rules.specs.Convert.{carried_into, read_carried}
use Rattle.rules.specs.Calls.{faulty, sound, read}
use Rattle.theory_bytes.specs.Bytes.{AllBytes}
use Rattle.theory_layout.specs.Models.{got-states, model-refusal}
use Rattle.theory_splitting.specs.WellRead.{read-well-formed}
use Rattle.theory_conversion.specs.Carrying.{Beyond, Carries, carries-done, beyond-first, range-within}
use Rattle.theory_conversion.specs.Opens.{carried-open}
use Rattle.promises.specs.CarriedOver.{new_rationals, Tested, States}
use Rattle.promises.specs.Halves.{few-over, impossible}

module _ (input bytes lent : List ℕ) (are : AllBytes input) where
  abbrev ours : Carrying
  ours = carry_back input bytes lent

  abbrev pub Refuses : Refusal → ℕ → Type 0
  Refuses f place = (ours.carried ≡ Refused f place) × (ours.model ≡ lent)

  refuses : (f : Refusal) (place : ℕ) → ours ≡ record { carried = Refused f place; model = lent } → Refuses f place
  refuses f place q = (ap (λ (c : Carrying). c.carried) q, ap (λ (c : Carrying). c.model) q)

  pub faulty-input : (f : Refusal) (place : ℕ) → read input ≡ faulty f place → Refuses f place
  unfolding carry_back
  faulty-input f place e = refuses f place (rw (e, carry_back))

  module _ (p : Problem) (e : read input ≡ sound p) where
    abbrev pub reading : Read Assignment
    reading = model p.booleans (new_rationals p) (is_open p) bytes 0

    abbrev pub back : Assignment → ℕ → ℤ
    back χ = (carried_back (kept p) χ).numerators

    -- 17 against the new problem, said of the old one's variables
    pub same-reading : (let new = meaning (carried_over p) in model new.booleans new.rationals (is_open new) bytes 0) ≡ reading
    unfolding carried_over split_problem written_as meaning
    same-reading = rw (carried-open input are p e)

    pub carried : (c : Carries input bytes lent p e) → ours.carried ≡ Done
    carried c = ap (λ (x : Carrying). x.carried) (carries-done input bytes lent p e c)

    -- ---- five answers
    pub data Answered : Type 0 where
      over : limit.rationals < new_rationals p → Refuses refusal.SplitRationals 0 → Answered
      short : new_rationals p ≤ limit.rationals → (length bytes < limit.model_bytes) ⊎ (length lent < limit.model_bytes)
          → Refuses refusal.ShortModel 0 → Answered
      bad : Tested p bytes lent → (place : ℕ) → reading ≡ fault refusal.BadModel place → Refuses refusal.BadModel place → Answered
      outside : Tested p bytes lent → (χ : Assignment) → States p bytes χ → (f : ℕ) → Beyond 0 p.rationals (back χ) f
          → Refuses refusal.CarriedRange f → Answered
      carries : Tested p bytes lent → (c : Carries input bytes lent p e) → reading ≡ got c.assignment c.rest c.place
          → ours.carried ≡ Done → Answered

    module _ (t : Tested p bytes lent) where
      abbrev few : over_rationals p ≡ false
      few = few-over p t.few

      abbrev small : p.booleans ≤ limit.booleans
      small = (read-well-formed input p e).booleans

      abbrev sized : ltb (length bytes) limit.model_bytes ≡ false
      sized = le-ltb (length bytes) limit.model_bytes t.size

      abbrev roomy : ltb (length lent) limit.model_bytes ≡ false
      roomy = le-ltb (length lent) limit.model_bytes t.room

      ranged : (χ : Assignment) (rest : List ℕ) (place : ℕ) → reading ≡ got χ rest place
          → (o : Option ℕ) → first_beyond 0 p.rationals (back χ) ≡ o → Answered
      unfolding carry_back read_carried carried_into
      ranged χ rest place m (some f) q =
          outside t χ (got-states bytes p.booleans (new_rationals p) (is_open p) t.size small t.few χ rest place m) f
          (beyond-first 0 p.rationals (back χ) f q)
          (refuses refusal.CarriedRange f (rw (e, carry_back, few, sized, roomy, same-reading, m, read_carried, q, carried_into)))
      ranged χ rest place m none q =
          let c : Carries input bytes lent p e = record {
            few = few;
            size = t.size;
            room = t.room;
            assignment = χ;
            rest = rest;
            place = place;
            reads = same-reading ∙ m;
            range = λ f l. range-within 0 p.rationals (back χ) q f (omega arith) (omega arith);
          } in
          carries t c m (carried c)

      stated : (m : Read Assignment) → reading ≡ m → Answered
      unfolding carry_back read_carried
      stated (fault f place) m =
          let is = model-refusal bytes p.booleans (new_rationals p) (is_open p) t.size small t.few f place m in
          let n : reading ≡ fault refusal.BadModel place = m ∙ ap (λ (g : Refusal). fault g place) is in
          bad t place n (refuses refusal.BadModel place (rw (e, carry_back, few, sized, roomy, same-reading, n, read_carried)))
      stated (got χ rest place) m = ranged χ rest place m (first_beyond 0 p.rationals (back χ)) refl

    pub answered : Answered
    unfolding carry_back over_rationals carried_over split_problem written_as
    answered = by (ltb limit.rationals (new_rationals p)) refl (ltb (length bytes) limit.model_bytes) refl
        (ltb (length lent) limit.model_bytes) refl
      where
        by : (s : Bool) → ltb limit.rationals (new_rationals p) ≡ s → (t : Bool) → ltb (length bytes) limit.model_bytes ≡ t
            → (u : Bool) → ltb (length lent) limit.model_bytes ≡ u → Answered
        by true f t g u h = over (ltb-true limit.rationals (new_rationals p) f) (refuses refusal.SplitRationals 0 (rw (e, carry_back, f)))
        by false f true g u h =
            short (ltb-false limit.rationals (new_rationals p) f) (inl (ltb-true (length bytes) limit.model_bytes g))
            (refuses refusal.ShortModel 0 (rw (e, carry_back, f, g)))
        by false f false g true h =
            short (ltb-false limit.rationals (new_rationals p) f) (inr (ltb-true (length lent) limit.model_bytes h))
            (refuses refusal.ShortModel 0 (rw (e, carry_back, f, g, h)))
        by false f false g false h = stated (record {
          few = ltb-false limit.rationals (new_rationals p) f;
          size = ltb-false (length bytes) limit.model_bytes g;
          room = ltb-false (length lent) limit.model_bytes h;
        }) reading refl

    pub tested : Carries input bytes lent p e → Tested p bytes lent
    unfolding over_rationals carried_over split_problem written_as
    tested c = record { few = ltb-false limit.rationals (new_rationals p) c.few; size = c.size; room = c.room }

    -- ---- 20
    pub split : (ours.carried ≡ Refused refusal.SplitRationals 0) ↔ (limit.rationals < new_rationals p)
    split = by answered
      where
        by : Answered → (ours.carried ≡ Refused refusal.SplitRationals 0) ↔ (limit.rationals < new_rationals p)
        by (over h q) = (λ a. h, λ k. q.0)
        by (short h k q) = (λ a. impossible cc, λ l. absurd (omega arith))
        by (bad t at m q) = (λ a. impossible cc, λ l. absurd (omega arith))
        by (outside t χ s f b q) = (λ a. impossible cc, λ l. absurd (omega arith))
        by (carries t c m d) = (λ a. impossible cc, λ l. absurd (omega arith))

    -- 2
    abbrev pub Short : Type 0
    Short = (new_rationals p ≤ limit.rationals) × ((length bytes < limit.model_bytes) ⊎ (length lent < limit.model_bytes))

    pub not_short : Tested p bytes lent → Short → ⊥
    not_short t l = ⊎_elim (λ k. omega arith) (λ k. omega arith) l.1

    pub too_short : (ours.carried ≡ Refused refusal.ShortModel 0) ↔ Short
    too_short = by answered
      where
        by : Answered → (ours.carried ≡ Refused refusal.ShortModel 0) ↔ Short
        by (over h q) = (λ a. impossible cc, λ l. absurd (omega (arith, l.0)))
        by (short h k q) = (λ a. (h, k), λ l. q.0)
        by (bad t at m q) = (λ a. impossible cc, λ l. absurd (not_short t l))
        by (outside t χ s f b q) = (λ a. impossible cc, λ l. absurd (not_short t l))
        by (carries t c m d) = (λ a. impossible cc, λ l. absurd (not_short t l))
