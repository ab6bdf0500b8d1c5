-- What is so of the bytes is what reading says.
use Rattle.std.specs.Prelude.{◌≡◌, ℕ, ◌≤◌, ◌<◌}
use Rattle.std.proofs.Math.Path.{sym}
use Rattle.std.proofs.Common.{◌∙◌, ap, arith, lt-ltb, le-ltb}
use mathlib.Core.List.{List, [], ◌∷◌, ◌++◌, append-nil}
use Rattle.std.proofs.Math.Option.{Option, none, some}
use Rattle.std.proofs.Math.ListN.{length}
use Rattle.rules_types.specs.declared.answers.Refusal.{Refusal}
use Rattle.rules_types.specs.declared.answers.Refusal.TheVariants as refusal
use Rattle.rules_types.specs.Limits as limit
use Rattle.rules.specs.Problem.{Problem, end}
use Rattle.rules.specs.Split.{over_split}
use Rattle.rules.specs.Calls.{Reading, faulty, sound, within_splits, read}
use Rattle.rules.specs.Written.{bytes_of, WrittenProblem, fields_of, meaning}
use Rattle.theory_reading.specs.Statements.{Writable, AllWithin, Writes, IsProblem, Says}
use Rattle.theory_reading.specs.Statements.{FirstFault, long, cut, outside, trailing, over-splits}
use Rattle.theory_reading.specs.Follows.{Outcome, done, failed, Follows, through-back, Stop, stop-outside, stop-cut, stops-back}
use Rattle.theory_reading.specs.Judged.{finish}
use Rattle.theory_reading.specs.Readers.{problem-judged}
use Rattle.theory_reading.specs.Splits.{passes-not, passes-back}

module _ (input : List ℕ) (few : length input ≤ limit.problem_bytes) (w : WrittenProblem) (v : Writable w) where
  follows-read : (o : Outcome) → Follows (fields_of w) input 0 o → read input ≡ within_splits (finish (end (meaning w)) o)
  unfolding read meaning
  follows-read o f =
      rw (le-ltb limit.problem_bytes (length input) few, read, problem-judged.back w v.coefficients v.numbers input 0 o f)

  stopped-read : (f : Refusal) (p : ℕ) → Stop (fields_of w) input 0 f p → read input ≡ faulty f p
  unfolding within_splits
  stopped-read f p s = follows-read (failed f p) (stops-back (fields_of w) input 0 f p s)

  following-read : AllWithin (fields_of w) → (rest : List ℕ) → 0 < length rest → input ≡ bytes_of (fields_of w) ++ rest
      → read input ≡ faulty refusal.Trailing (length (bytes_of (fields_of w)))
  unfolding within_splits end
  following-read k [] m i = absurd (omega arith)
  following-read k (x ∷ rest) m i =
      let n = length (bytes_of (fields_of w)) in
      follows-read (done (x ∷ rest) n)
      (through-back (fields_of w) input 0 (x ∷ rest) n (record { input-is = i; next-is = omega arith; within = k }))

module _ (input : List ℕ) (few : length input ≤ limit.problem_bytes) (w : WrittenProblem) (h : Writes input w) where
  writes-read : (o : Option ℕ) → over_split 0 (meaning w).clauses ≡ o
      → read input ≡ elim o [ none ↦ sound (meaning w) | some start ↦ faulty refusal.Splits start ]
  unfolding within_splits end
  writes-read o e =
      let n = length (bytes_of (fields_of w)) in
      follows-read input few w h.writable (done [] n) (through-back (fields_of w) input 0 [] n (record {
        input-is = h.are ∙ sym (append-nil (bytes_of (fields_of w)));
        next-is = omega arith;
        within = h.within;
      }))
      ∙ rw (e, within_splits)

problem-read : (input : List ℕ) (p : Problem) → IsProblem input p → read input ≡ sound p
problem-read input p h =
    writes-read input h.short h.written h.writes none
    (passes-not 0 (meaning h.written).clauses (rw h.means (omega (arith, h.splits))))
    ∙ ap sound h.means

fault-read : (input : List ℕ) (f : Refusal) (place : ℕ) → FirstFault input f place → read input ≡ faulty f place
unfolding read
fault-read input f place (long l c q) = rw (c, q, lt-ltb limit.problem_bytes (length input) l, read)
fault-read input f place (cut few h) =
    let r = h.reaches in
    stopped-read input few r.written r.writable f place
    (stop-cut h.before h.it (record { after = r.after; fields = r.fields; within = r.within }) h.part h.missing h.field
    h.incomplete h.input-is h.fault-is (omega (arith, h.place_is)))
fault-read input f place (outside few h) =
    let r = h.reaches in
    stopped-read input few r.written r.writable f place
    (stop-outside h.before h.it (record { after = r.after; fields = r.fields; within = r.within }) h.outside h.rest
    h.input-is h.fault-is (omega (arith, h.place_is)))
fault-read input f place (trailing few h) =
    let w = h.writes in
    rw (h.fault-is, h.place_is, w.are)
    (following-read input few h.written w.writable w.within h.rest h.more (rw (← w.are) h.input-is))
fault-read input f place (over-splits few h) =
    rw (h.fault-is, h.place_is)
    (writes-read input few h.written h.writes (some h.it.start)
    (rw h.clauses (passes-back 0 h.before h.it h.after (omega (arith, h.not_yet)) (omega (arith, h.passing)))))

pub answered : (input : List ℕ) (answer : Reading) → Says input answer → read input ≡ answer
answered input (faulty f place) h = fault-read input f place h
answered input (sound p) h = problem-read input p h
