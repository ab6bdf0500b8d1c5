-- What is written when a model is carried back, by offsets: the differences of its halves, its Boolean variables and its denominator.
use Rattle.std.specs.Prelude.{◌≡◌, refl, Bool, true, false, cond, List, ℤ, ◌-ℤ◌, drop}
use Rattle.std.proofs.Common.{sym, ◌∙◌}
use Rattle.std.proofs.Math.Path.{subst}
use Prim.Native.Nat.{ℕ, suc, ◌<◌}
use Rattle.rules_types.specs.declared.answers.Carried.TheVariants.{Done}
use Rattle.rules_types.specs.Limits as limit
use Rattle.rules.specs.Problem.{Problem}
use Rattle.rules.specs.Written.{meaning}
use Rattle.rules.specs.Meaning.{Assignment}
use Rattle.rules.specs.Model.{is_open}
use Rattle.rules.specs.Convert.{kept, place_of, split_problem, written_as, carried_over, carried_numerator, carried_back}
use Rattle.rules.specs.Convert.{carry_back}
use Rattle.rules.specs.Calls.{sound, read}
use Rattle.theory_lists.specs.Tabulated.{all-tabulate}
use Rattle.theory_vectors.specs.Amounts.{Small}
use Rattle.theory_bytes.specs.Bytes.{AllBytes}
use Rattle.theory_bytes.specs.Models.{Fitting}
use Rattle.theory_layout.specs.Offsets.{StatesModel, ModelAt}
use Rattle.theory_layout.specs.Models.{got-states}
use Rattle.theory_layout.specs.WrittenModels.{same-booleans, same-numerators, same-denominators, written-model}
use Rattle.theory_splitting.specs.WellRead.{read-well-formed}
use Rattle.theory_checks.specs.Agreement.{Agree}
use Rattle.theory_conversion.specs.Solutions.{carried-kept, carried-split}
use Rattle.theory_conversion.specs.SameSolutions.{new-few}
use Rattle.theory_conversion.specs.Opens.{carried-open}
use Rattle.theory_conversion.specs.Carrying.{Carries, carries-done, done-carries}
use Rattle.theory_conversion.specs.Range.{kept-below, split_below}

-- ---- assignments that agree on a problem's variables are stated by the same bytes
agreed-states : (bytes : List ℕ) (b r : ℕ) (opens : ℕ → Bool) (χ ξ : Assignment) → Agree b r opens χ ξ → StatesModel bytes b r opens χ
    → StatesModel bytes b r opens ξ
agreed-states bytes b r opens χ ξ a s = record {
  booleans = s.booleans;
  boolean = λ i h. s.boolean i h ∙ byte i h (opens i) refl;
  rationals = s.rationals;
  denominator = s.denominator ∙ a.denominator;
  numerator = λ f h. s.numerator f h ∙ a.numerators f h;
  least = rw (← a.denominator) s.least;
  most = rw (← a.denominator) s.most;
  range = λ f h. rw (← a.numerators f h) (s.range f h);
}
  where
    byte : (i : ℕ) → i < b → (t : Bool) → opens i ≡ t
        → ◌≡◌ {A = ℕ} (cond (opens i) 2 (cond (χ.booleans i) 1 0)) (cond (opens i) 2 (cond (ξ.booleans i) 1 0))
    byte i h true e = rw e
    byte i h false e = rw (a.booleans i h e)

-- carried back, they agree where they did
agreed-back : (keeps : ℕ → Bool) (b r : ℕ) (opens : ℕ → Bool) (χ ξ : Assignment) → Agree b (place_of keeps r) opens χ ξ
    → Agree b r opens (carried_back keeps χ) (carried_back keeps ξ)
unfolding carried_back
agreed-back keeps b r opens χ ξ a = record {
  booleans = a.booleans;
  numerators = λ f h. by f h (keeps f) refl;
  denominator = a.denominator;
}
  where
    x : ℕ → ℤ
    x = χ.numerators

    y : ℕ → ℤ
    y = ξ.numerators

    by : (f : ℕ) → f < r → (t : Bool) → keeps f ≡ t → carried_numerator keeps x f ≡ carried_numerator keeps y f
    by f h true e =
        carried-kept keeps x f e ∙ a.numerators (place_of keeps f) (kept-below keeps r f h) ∙ sym (carried-kept keeps y f e)
    by f h false e =
        carried-split keeps x f e
        ∙ (λ i. a.numerators (place_of keeps f) (kept-below keeps r f h) i
        -ℤ a.numerators (suc (place_of keeps f)) (split_below keeps r f h e) i)
        ∙ sym (carried-split keeps y f e)

-- so do two that the same bytes state
pub stated-back : (keeps : ℕ → Bool) (bytes : List ℕ) (b r : ℕ) (opens : ℕ → Bool) (χ ξ : Assignment)
    → StatesModel bytes b (place_of keeps r) opens χ → StatesModel bytes b (place_of keeps r) opens ξ
    → Agree b r opens (carried_back keeps χ) (carried_back keeps ξ)
stated-back keeps bytes b r opens χ ξ s t =
    let s' = place_of keeps r in
    agreed-back keeps b r opens χ ξ (record {
      booleans = same-booleans bytes b s' opens χ ξ s t;
      numerators = same-numerators bytes b s' opens χ ξ s t;
      denominator = same-denominators bytes b s' opens χ ξ s t;
    })

-- ---- what is written
module _ (input : List ℕ) (h : AllBytes input) (bytes target : List ℕ) (p : Problem) (e : read input ≡ sound p) where
  abbrev r' : ℕ
  r' = place_of (kept p) p.rationals

  module _ (c : Carries input bytes target p e) where
    -- what was read, said of the old problem's Boolean variables
    pub read-states : StatesModel bytes p.booleans r' (is_open p) c.assignment
    unfolding carried_over split_problem written_as meaning
    read-states =
        let new = meaning (carried_over p) in
        let w = read-well-formed input p e in
        subst (λ (opens : ℕ → Bool). StatesModel bytes p.booleans r' opens c.assignment) (carried-open input h p e)
        (got-states bytes new.booleans new.rationals (is_open new) c.size w.booleans (new-few input h p e c.few)
        c.assignment c.rest c.place c.reads)

    pub carried-fits : Fitting p.booleans p.rationals (carried_back (kept p) c.assignment)
    unfolding carried_back
    carried-fits =
        let w = read-well-formed input p e in
        record {
          booleans = w.booleans;
          rationals = w.rationals;
          positive = read-states.least;
          denominator = read-states.most;
          numerators = all-tabulate Small p.rationals (carried_back (kept p) c.assignment).numerators c.range;
        }

  pub carried-model : (carry_back input bytes target).carried ≡ Done → (χ : Assignment) → StatesModel bytes p.booleans r' (is_open p) χ
      → ModelAt (carry_back input bytes target).model p.booleans p.rationals (is_open p) (carried_back (kept p) χ)
  carried-model done χ s =
      let c = done-carries input bytes target p e done in
      let ψ = c.assignment in
      let b = p.booleans in
      let r = p.rationals in
      let back = carried_back (kept p) ψ in
      let new = written-model b r (is_open p) back (carried-fits c) (drop limit.model_bytes target) in
      let agree = stated-back (kept p) bytes b r (is_open p) ψ χ (read-states c) s in
      rw (carries-done input bytes target p e c) (record {
        room = new.room;
        states = agreed-states _ b r (is_open p) back (carried_back (kept p) χ) agree new.states;
        zeros = new.zeros;
      })
