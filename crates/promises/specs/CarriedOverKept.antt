-- Converting keeps what it promises (CarriedOver.antt).
use Rattle.std.specs.Prelude.{◌≡◌, ◌↔◌, ◌⊎◌, Bool, List, ◌++◌, ℕ, ◌≤◌, ◌<◌, length, take}
use Rattle.std.proofs.Math.Path.{refl, ap}
use Rattle.std.proofs.Common.{◌∙◌, inl, inr, ⊎_elim, arith, length-append, length-drop, take_at, drop_at}
use Rattle.std.proofs.Math.Bool.{true, false}
use borrow.Author.Tests.{ltb-true, ltb-false}
use Rattle.std.proofs.Math.Dec.{ltb}
use Rattle.std.proofs.Math.ListN.{drop}
use Rattle.rules_types.specs.declared.answers.Refusal.{Refusal}
use Rattle.rules_types.specs.declared.answers.Refusal.TheVariants as refusal
use Rattle.rules_types.specs.declared.answers.Converted.TheVariants.{Length, Refused}
use Rattle.rules_types.specs.Limits as limit
use Rattle.rules.specs.Problem.{Problem}
use Rattle.rules.specs.Written.{meaning}
use Rattle.rules.specs.Convert.{split_problem, written_as, carried_over, carried_over_bytes, over_rationals, Converting, converted_into}
use Rattle.rules.specs.Convert.{convert}
use Rattle.rules.specs.Calls.{Reading, faulty, sound, read}
use Rattle.theory_bytes.specs.Bytes.{AllBytes}
use Rattle.theory_conversion.specs.Places.{carried-clauses}
use Rattle.theory_conversion.specs.Length.{length-carried_over}
use Rattle.theory_conversion.specs.ReadBack.{carried-read}
use Rattle.theory_conversion.specs.Opens.{carried-booleans, carried-rationals, carried-open}
use Rattle.theory_conversion.specs.SameSolutions.{same-solutions}
use Rattle.promises.specs.Halves.{halves, few-over, impossible}
use Rattle.promises.specs.CarriedOver.{new_rationals, new_length, NewProblem, Converts}

-- ---- converting
module _ (input lent : List ℕ) (are : AllBytes input) where
  abbrev ours : Converting
  ours = convert input lent

  abbrev Refuses : Refusal → ℕ → Type 0
  Refuses f place = (ours.converted ≡ Refused f place) × (ours.output ≡ lent)

  refuses : (f : Refusal) (place : ℕ) → ours ≡ record { converted = Refused f place; output = lent } → Refuses f place
  refuses f place q = (ap (λ (c : Converting). c.converted) q, ap (λ (c : Converting). c.output) q)

  abbrev Writes : List ℕ → ℕ → Type 0
  Writes bytes n = (ours.converted ≡ Length n) × (length bytes ≡ n) × (n ≤ length lent) × (ours.output ≡ bytes ++ drop n lent)

  faulty-input : (f : Refusal) (place : ℕ) → read input ≡ faulty f place → Refuses f place
  unfolding convert
  faulty-input f place e = refuses f place (rw (e, convert))

  -- of a problem read without fault
  module _ (p : Problem) (e : read input ≡ sound p) where
    abbrev n : ℕ
    n = new_length input p

    long : length (carried_over_bytes p) ≡ n
    long = length-carried_over input are p e

    data Answered : Type 0 where
      over : limit.rationals < new_rationals p → Refuses refusal.SplitRationals 0 → Answered
      wide : new_rationals p ≤ limit.rationals → (limit.problem_bytes < n) ⊎ (length lent < n) → Refuses refusal.OutputSpace 0 → Answered
      fits : new_rationals p ≤ limit.rationals → n ≤ limit.problem_bytes → Writes (carried_over_bytes p) n → Answered

    answered : Answered
    unfolding convert converted_into over_rationals carried_over split_problem written_as
    answered = by (ltb limit.rationals (new_rationals p)) refl (ltb limit.problem_bytes n) refl (ltb (length lent) n) refl
      where
        by : (s : Bool) → ltb limit.rationals (new_rationals p) ≡ s → (t : Bool) → ltb limit.problem_bytes n ≡ t
            → (u : Bool) → ltb (length lent) n ≡ u → Answered
        by true f t g u h = over (ltb-true limit.rationals (new_rationals p) f) (refuses refusal.SplitRationals 0 (rw (e, convert, f)))
        by false f true g u h =
            wide (ltb-false limit.rationals (new_rationals p) f) (inl (ltb-true limit.problem_bytes n g))
            (refuses refusal.OutputSpace 0 (rw (e, convert, f, long, g, converted_into)))
        by false f false g true h =
            wide (ltb-false limit.rationals (new_rationals p) f) (inr (ltb-true (length lent) n h))
            (refuses refusal.OutputSpace 0 (rw (e, convert, f, long, g, h, converted_into)))
        by false f false g false h =
            let q : ours ≡ record { converted = Length n; output = carried_over_bytes p ++ drop n lent } =
            rw (e, convert, f, long, g, h, converted_into, long) in
            fits (ltb-false limit.rationals (new_rationals p) f) (ltb-false limit.problem_bytes n g) (
              ap (λ (c : Converting). c.converted) q,
              long,
              ltb-false (length lent) n h,
              ap (λ (c : Converting). c.output) q,
            )

    split : (ours.converted ≡ Refused refusal.SplitRationals 0) ↔ (limit.rationals < new_rationals p)
    split = by answered
      where
        by : Answered → (ours.converted ≡ Refused refusal.SplitRationals 0) ↔ (limit.rationals < new_rationals p)
        by (over h q) = (λ a. h, λ k. q.0)
        by (wide h k q) = (λ a. impossible cc, λ l. absurd (omega arith))
        by (fits h k q) = (λ a. impossible cc, λ l. absurd (omega arith))

    abbrev Beyond : Type 0
    Beyond = (new_rationals p ≤ limit.rationals) × ((limit.problem_bytes < n) ⊎ (length lent < n))

    space : (ours.converted ≡ Refused refusal.OutputSpace 0) ↔ Beyond
    space = by answered
      where
        by : Answered → (ours.converted ≡ Refused refusal.OutputSpace 0) ↔ Beyond
        by (over h q) = (λ a. impossible cc, λ l. absurd (omega (arith, l.0)))
        by (wide h k q) = (λ a. (h, k), λ l. q.0)
        by (fits h k q) = (
          λ a. impossible cc,
          λ l. ⊎_elim (λ m. absurd (omega arith)) (λ m. absurd (omega (arith, q.2))) l.1,
        )

    abbrev Within : ℕ → Type 0
    Within m = (new_rationals p ≤ limit.rationals) × (m ≡ n) × (m ≤ limit.problem_bytes) × (m ≤ length lent)

    returns : (m : ℕ) → (ours.converted ≡ Length m) ↔ Within m
    returns m = by answered
      where
        by : Answered → (ours.converted ≡ Length m) ↔ Within m
        by (over h q) = (λ a. impossible cc, λ l. absurd (omega (arith, l.0)))
        by (wide h k q) = (
          λ a. impossible cc,
          λ l. ⊎_elim (λ x. absurd (omega (arith, l.1, l.2))) (λ x. absurd (omega (arith, l.1, l.3))) k,
        )
        by (fits h k q) = (
          λ a. let i : m ≡ n = cc in (h, i, omega arith, omega (arith, q.2)),
          λ l. q.0 ∙ ap Length (cc l.1),
        )

    -- the bytes that are written
    pub written : (m : ℕ) → ours.converted ≡ Length m → take m ours.output ≡ carried_over_bytes p
    written m a = by answered
      where
        by : Answered → take m ours.output ≡ carried_over_bytes p
        by (over h q) = impossible cc
        by (wide h k q) = impossible cc
        by (fits h k q) = let i : n ≡ m = cc in rw (q.3, ← i) (take_at (carried_over_bytes p) (drop n lent) n q.1)

    new : (m : ℕ) → ours.converted ≡ Length m → NewProblem p (take m ours.output)
    new m a =
        let h = (returns m).0 a in
        let few = few-over p h.0 in
        rw (written m a) (record {
          problem = meaning (carried_over p);
          reads = carried-read input are p e few (omega (arith, long, h.1, h.2));
          booleans = carried-booleans p;
          rationals = carried-rationals p;
          clauses = carried-clauses input are p e;
          opens = carried-open input are p e;
          solutions = same-solutions input are p e few;
        })

  -- ---- of every problem: what is left in the buffer
  data Left : Type 0 where
    refused : (f : Refusal) (place : ℕ) → Refuses f place → Left
    wrote : (bytes : List ℕ) (n : ℕ) → Writes bytes n → Left

  left : Left
  left = by (read input) refl
    where
      of : (p : Problem) (e : read input ≡ sound p) → Answered p e → Left
      of p e (over h q) = refused refusal.SplitRationals 0 q
      of p e (wide h k q) = refused refusal.OutputSpace 0 q
      of p e (fits h k q) = wrote (carried_over_bytes p) (new_length input p) q

      by : (r : Reading) → read input ≡ r → Left
      by (faulty f place) e = refused f place (faulty-input f place e)
      by (sound p) e = of p e (answered p e)

  beyond : (m : ℕ) → ours.converted ≡ Length m → drop m ours.output ≡ drop m lent
  beyond m a = by left
    where
      by : Left → drop m ours.output ≡ drop m lent
      by (refused f place q) = impossible cc
      by (wrote bytes n q) = let i : n ≡ m = cc in rw (q.3, ← i) (drop_at bytes (drop n lent) n q.1)

  untouched : (f : Refusal) (place : ℕ) → ours.converted ≡ Refused f place → ours.output ≡ lent
  untouched f place a = by left
    where
      by : Left → ours.output ≡ lent
      by (refused g at q) = q.1
      by (wrote bytes n q) = impossible cc

  size : length ours.output ≡ length lent
  size = by left
    where
      by : Left → length ours.output ≡ length lent
      by (refused f place q) = ap length q.1
      by (wrote bytes n q) = rw (q.3, length-append, length-drop) (omega (arith, q.1, q.2))

  pub converts : Converts input lent ours
  converts = record {
    faulty_input = λ f place e. (faulty-input f place e).0;
    halves = λ p e. halves p;
    split = split;
    space = space;
    returns = returns;
    new = new;
    beyond = beyond;
    untouched = untouched;
    size = size;
  }
