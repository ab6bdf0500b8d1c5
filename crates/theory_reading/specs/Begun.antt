-- Once the field that is outside its limits has been read, no problem as written that begins with those bytes is without that fault.
use Rattle.std.specs.Prelude.{◌≡◌, List, ◌++◌, ℕ, ◌+◌, length, take}
use Rattle.std.proofs.Common.{sym, subst, ◌∙◌, append_assoc, arith, length-append}
use Rattle.std.proofs.Math.Seq.{take-append_seam}
use Rattle.rules_types.specs.declared.answers.Refusal.{Refusal}
use Rattle.rules.specs.Problem.{Problem, fault, got, end, problem}
use Rattle.rules.specs.Written.{Field, field_bytes, bytes_of, WrittenProblem, fields_of}
use Rattle.theory_bytes.specs.Bytes.{length-to_bytes}
use Rattle.theory_reading.specs.Statements.{Writable, HasFault, Outside}
use Rattle.theory_reading.specs.Follows.{failed, stop-outside, stops-back, Own, own-done, own-failed, own}
use Rattle.theory_reading.specs.Readers.{problem-judged}

got-not-fault : {X : Type 0} (p : Problem) (bytes : List ℕ) (next : ℕ) (f : Refusal) (place : ℕ) → got p bytes next ≡ fault f place → X
got-not-fault p bytes next f place e = absurd (let z : ◌≡◌ {A = ℕ} 0 1 = cc in omega arith)

begun : (before : List Field) (it : Field) (rest : List ℕ)
    → take (length (bytes_of before) + it.size) (bytes_of before ++ (field_bytes it ++ rest)) ≡ bytes_of before ++ field_bytes it
begun before it rest =
    let all = bytes_of before ++ field_bytes it in
    let n : length (bytes_of before) + it.size ≡ length all =
    omega (arith, length-append (bytes_of before) (field_bytes it), length-to_bytes it.size it.number) in
    rw (n, ← append_assoc (bytes_of before) (field_bytes it) rest) (take-append_seam all rest)

module _ (input : List ℕ) (f : Refusal) (place : ℕ) (h : Outside input f place) (w : WrittenProblem) (v : Writable w) where
  has-fault : (rest : List ℕ) → bytes_of (fields_of w) ≡ bytes_of h.before ++ (field_bytes h.it ++ rest) → HasFault f (fields_of w)
  unfolding end
  has-fault rest e = by (own (fields_of w) 0)
    where
      fails : problem (bytes_of (fields_of w)) 0 ≡ fault f place
      fails =
          let r = h.reaches in
          problem-judged.back r.written r.writable.coefficients r.writable.numbers (bytes_of (fields_of w)) 0 (failed f place)
          (stops-back (fields_of r.written) (bytes_of (fields_of w)) 0 f place
          (stop-outside h.before h.it (record { after = r.after; fields = r.fields; within = r.within }) h.outside rest e
          h.fault-is (omega (arith, h.place_is))))

      by : Own (fields_of w) 0 → HasFault f (fields_of w)
      by (own-done next k) =
          got-not-fault _ _ _ f place
          (sym (problem-judged.back w v.coefficients v.numbers (bytes_of (fields_of w)) 0 _ k) ∙ fails)
      by (own-failed g p k a) =
          let q = sym (problem-judged.back w v.coefficients v.numbers (bytes_of (fields_of w)) 0 _ k) ∙ fails in
          let s : g ≡ f = cc in
          subst (λ (g : Refusal). HasFault g (fields_of w)) s a

  pub begun-fault : (rest : List ℕ) → bytes_of (fields_of w) ≡ take (place + h.it.size) input ++ rest → HasFault f (fields_of w)
  begun-fault rest e =
      has-fault rest
      (e ∙ rw (h.input-is, h.place_is, begun h.before h.it h.rest, append_assoc (bytes_of h.before) (field_bytes h.it) rest))
