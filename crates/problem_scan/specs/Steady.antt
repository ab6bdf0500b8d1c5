-- Every reader of a problem leaves the slice from its next place on.
use Rattle.std.specs.Prelude.{refl, List, ◌∷◌, drop}
use Prim.Native.Nat.{ℕ, zero, suc}
use Rattle.rules_types.specs.declared.answers.Refusal.{Refusal}
use Rattle.rules.specs.Problem.{Read, fault, got, Reader, after, return, ◌>>=◌, repeat, amount, literal, clause}
use Rattle.problem_scan.specs.Seen.{Aligned, Steady}
use Rattle.problem_scan.specs.Valued.{Valued, faulty, given, amount-valued, literal-valued, clause-valued}

-- ---- one after another, and repeated
module _ (q : List ℕ) {A B : Type 0} where
  aligned-after : (r : Read A) (next : A → Reader B) → Aligned q r → ((a : A) → Steady q (next a)) → Aligned q (after r next)
  unfolding after
  aligned-after (fault f place) next k s = tt
  aligned-after (got a bytes place) next k s = rw k.0 (s a place k.1)

  steady_then : (first : Reader A) (next : A → Reader B) → Steady q first → ((a : A) → Steady q (next a)) → Steady q (◌>>=◌ first next)
  steady_then first next s t at h = aligned-after (first (drop at q) at) next (s at h) t

module _ (q : List ℕ) where
  steady-return : {A : Type 0} (a : A) → Steady q (return a)
  steady-return a at h = (refl, h)

  pub steady-repeat : {A : Type 0} (one : Reader A) → Steady q one → (k : ℕ) → Steady q (repeat k one)
  unfolding repeat
  steady-repeat one s zero = λ at h. (refl, h)
  steady-repeat one s (suc k) =
      steady_then q one _ s (λ x. steady_then q (repeat k one) _ (steady-repeat one s k) (λ xs. steady-return (x ∷ xs)))

  -- ---- the fields of a problem
  aligned-valued : {A : Type 0} {v : A} {S : Type 0} {n : ℕ} {r : Read A} → Valued q v S n r → Aligned q r
  aligned-valued (faulty f place e) = rw e tt
  aligned-valued (given e l s) = rw e (refl, l)

  pub steady-amount : (f : Refusal) → Steady q (amount f)
  steady-amount f at h = aligned-valued (amount-valued q f at h)

  pub steady-literal : (b : ℕ) → Steady q (literal b)
  steady-literal b at h = aligned-valued (literal-valued q b at h)

  pub steady-clause : (b r : ℕ) → Steady q (clause b r)
  steady-clause b r at h = aligned-valued (clause-valued q b r at h)
