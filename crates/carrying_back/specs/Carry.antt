-- The call: what each of its tests comes to.
use Rattle.std.specs.Prelude.{◌≡◌, Bool, List, ◌++◌, ℕ, ◌≤◌, ◌<◌, ℤ, ltb, length, drop}
use Rattle.std.proofs.Common.{sym, ◌∙◌}
use Rattle.std.proofs.Math.Path.{ap}
use borrow.Author.Tests.{lt-ltb, le-ltb}
use Rattle.rules_types.specs.declared.answers.Refusal.{Refusal}
use Rattle.rules_types.specs.declared.answers.Refusal.TheVariants as refusal
use Rattle.rules_types.specs.declared.answers.Carried.{Carried}
use Rattle.rules_types.specs.declared.answers.Carried.TheVariants.{Done, Refused}
use Rattle.rules_types.specs.Limits as limit
use Rattle.rules.specs.Problem.{Problem}
use Rattle.rules.specs.Written.{meaning}
use Rattle.rules.specs.Meaning.{Assignment}
use Rattle.rules.specs.Model.{is_open, encode_model, model}
use Rattle.rules.specs.Convert.{kept, place_of, split_problem, written_as, carried_over, over_rationals, carried_numerator, carried_back}
use Rattle.rules.specs.Convert.{first_beyond, Carrying, carried_into, read_carried, carry_back}
use Rattle.rules.specs.Calls.{read}
use Rattle.theory_lists.specs.Tabulated.{tabulate-cong}
use Rattle.theory_bytes.specs.Bytes.{AllBytes}
use Rattle.theory_conversion.specs.Opens.{carried-booleans, carried-rationals, carried-open}
use Rattle.problem_scan.specs.declared.cursor.Sizes.{Sizes}
use Rattle.problem_scan.specs.declared.cursor.Scan.TheVariants.{Fault}
use Rattle.problem_read.specs.Parsed.{problem_at}
use Rattle.problem_read.specs.ScanOf.{scan_of, scan_of-faulty}
use Rattle.problem_read.specs.Readable.{Readable}
use Rattle.models.specs.declared.model.Model.{Model}
use Rattle.models.specs.Model.{assignment, value}
use Rattle.models.specs.Read.{ReadModel, RefusedModel}
use Rattle.carrying_back.specs.Numerators.{CarriedRow, Beyond}

-- ---- what a call answers, and what it leaves in the target
pub record Gives (carrying : Carrying) (carried : Carried) (target : List ℕ) : Type 0 where
  pub same : carrying ≡ record { carried = carried; model = target }

pub gives : {carrying : Carrying} {carried : Carried} {target : List ℕ} → Gives carrying carried target
    → (carried ≡ carrying.carried) × (target ≡ carrying.model)
gives g = (ap (λ (c : Carrying). c.carried) (sym g.same), ap (λ (c : Carrying). c.model) (sym g.same))

-- ---- the problem's faults
pub gives-fault : (q bytes target : List ℕ) (f : Refusal) (place : ℕ) → scan_of (read q) ≡ Fault f place
    → Gives (carry_back q bytes target) (Refused f place) target
unfolding carry_back
gives-fault q bytes target f place e = record { same = rw (scan_of-faulty (read q) f place e, carry_back) }

-- ---- a model is written by its first numerators
encode_same : (b r : ℕ) (opens booleans : ℕ → Bool) (denominator : ℕ) (x y : ℕ → ℤ) → ((f : ℕ) → f < r → x f ≡ y f)
    → encode_model b r opens (record { booleans = booleans; numerators = x; denominator = denominator })
    ≡ encode_model b r opens (record { booleans = booleans; numerators = y; denominator = denominator })
unfolding encode_model
encode_same b r opens booleans denominator x y e = rw (tabulate-cong r x y e)

-- ---- 20, by the number of the new problem's rational variables
pub record NewRationals (q : List ℕ) (sizes : Sizes) (keeps : ℕ → Bool) (n : ℕ) : Type 0 where
  pub given : Readable q sizes
  pub masked : keeps ≡ kept (problem_at q sizes)
  pub count : n ≡ place_of keeps sizes.rationals

module _ {q : List ℕ} {sizes : Sizes} {keeps : ℕ → Bool} {n : ℕ} (new : NewRationals q sizes keeps n) where
  abbrev p : Problem
  p = problem_at q sizes

  counted : n ≡ place_of (kept p) sizes.rationals
  counted = new.count ∙ ap (λ (k : ℕ → Bool). place_of k sizes.rationals) new.masked

  over : over_rationals p ≡ ltb limit.rationals n
  unfolding over_rationals carried_over split_problem written_as
  over = ap (ltb limit.rationals) (sym counted)

  module _ (bytes target : List ℕ) where
    pub gives-many : limit.rationals < n → Gives (carry_back q bytes target) (Refused refusal.SplitRationals 0) target
    unfolding carry_back
    gives-many h = record { same = rw (new.given.is_read, carry_back, over ∙ lt-ltb limit.rationals n h) }

    -- ---- 2
    module _ (few : n ≤ limit.rationals) where
      pub gives-short : length bytes < limit.model_bytes → Gives (carry_back q bytes target) (Refused refusal.ShortModel 0) target
      unfolding carry_back
      gives-short h = record {
        same = rw (new.given.is_read, carry_back, over ∙ le-ltb limit.rationals n few, lt-ltb (length bytes) limit.model_bytes h);
      }

      pub gives-no-room : limit.model_bytes ≤ length bytes → length target < limit.model_bytes
          → Gives (carry_back q bytes target) (Refused refusal.ShortModel 0) target
      unfolding carry_back
      gives-no-room l h = record {
        same = rw (
          new.given.is_read,
          carry_back,
          over ∙ le-ltb limit.rationals n few,
          le-ltb (length bytes) limit.model_bytes l,
          lt-ltb (length target) limit.model_bytes h,
        );
      }

-- ---- 17, of a model that is read with the old problem's Boolean variables and n rational ones
pub record NewModel (q bytes target : List ℕ) (sizes : Sizes) (keeps opens : ℕ → Bool) (n : ℕ) : Type 0 where
  pub rationals : NewRationals q sizes keeps n
  pub all : AllBytes q
  pub few : n ≤ limit.rationals
  pub size : limit.model_bytes ≤ length bytes
  pub room : limit.model_bytes ≤ length target
  pub opened : opens ≡ is_open (problem_at q sizes)

module _ {q bytes target : List ℕ} {sizes : Sizes} {keeps opens : ℕ → Bool} {n : ℕ} (new : NewModel q bytes target sizes keeps opens n)
  where
    abbrev old : Problem
    old = problem_at q sizes

    reads : carry_back q bytes target ≡ read_carried old bytes target
    unfolding carry_back
    reads = rw (
      new.rationals.given.is_read,
      carry_back,
      over new.rationals ∙ le-ltb limit.rationals n new.few,
      le-ltb (length bytes) limit.model_bytes new.size,
      le-ltb (length target) limit.model_bytes new.room,
    )

    same-model : let m = meaning (carried_over old) in
        model m.booleans m.rationals (is_open m) bytes 0 ≡ model sizes.booleans n opens bytes 0
    same-model = λ i. model (carried-booleans old i) ((carried-rationals old ∙ sym (counted new.rationals)) i)
        ((carried-open q new.all old new.rationals.given.is_read ∙ sym new.opened) i) bytes 0

    pub gives-bad : (place : ℕ) → RefusedModel bytes sizes.booleans n opens place
        → Gives (carry_back q bytes target) (Refused refusal.BadModel place) target
    unfolding read_carried
    gives-bad place k = record { same = reads ∙ rw (same-model ∙ k.same, read_carried) }

    -- ---- 22, and the model written
    module _ (m : Model) (read : ReadModel bytes sizes.booleans n opens m) where
      abbrev χ : Assignment
      χ = carried_back (kept old) (assignment m)

      goes : carry_back q bytes target ≡ carried_into old χ target
      unfolding read_carried
      goes = reads ∙ rw (same-model ∙ read.same, read_carried)

      beyond-is : first_beyond 0 sizes.rationals χ.numerators
          ≡ first_beyond 0 sizes.rationals (carried_numerator keeps (value m.numerators))
      unfolding carried_back assignment
      beyond-is = rw new.rationals.masked

      pub gives-beyond : (variable : ℕ) → Beyond keeps (value m.numerators) sizes.rationals variable
          → Gives (carry_back q bytes target) (Refused refusal.CarriedRange variable) target
      unfolding carried_into
      gives-beyond variable k = record { same = goes ∙ rw (beyond-is ∙ k.first, carried_into) }

      -- the model of the numerators carried back
      module _ (numerators : List ℤ) (carried : CarriedRow keeps (value m.numerators) sizes.rationals numerators) where
        abbrev result : Model
        result = record { booleans = m.booleans; numerators = numerators; denominator = m.denominator }

        pub gives-done : (written : List ℕ)
            → written ≡ encode_model sizes.booleans sizes.rationals opens (assignment result) ++ drop limit.model_bytes target
            → Gives (carry_back q bytes target) Done written
        unfolding carried_into carried_back assignment
        gives-done written w =
            let same : encode_model sizes.booleans sizes.rationals opens (assignment result)
            ≡ encode_model sizes.booleans sizes.rationals (is_open old) χ =
            rw (← new.opened, ← new.rationals.masked)
            (encode_same sizes.booleans sizes.rationals opens _ _ _ _ carried.same) in
            record {
              same = goes ∙ rw (beyond-is ∙ carried.within, carried_into, ← same, ← w);
            }
