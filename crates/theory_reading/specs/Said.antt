-- What reading says of the bytes is so.
use Rattle.std.specs.Prelude.{◌≡◌, ℕ, ◌≤◌, ltb, length}
use Rattle.std.proofs.Math.Path.{refl}
use Rattle.std.proofs.Common.{◌∙◌, ⊎_elim, arith, ltb→lt, nltb→le}
use mathlib.Core.List.{List, [], ◌∷◌, append-nil}
use Rattle.std.proofs.Math.Option.{Option, none, some}
use Rattle.rules_types.specs.declared.answers.Refusal.{Refusal}
use Rattle.rules_types.specs.Limits as limit
use Rattle.rules.specs.Problem.{got, end, problem}
use Rattle.rules.specs.Split.{over_split}
use Rattle.rules.specs.Calls.{within_splits, read}
use Rattle.rules.specs.Written.{Field, bytes_of, WrittenProblem, fields_of, meaning}
use Rattle.theory_lists.specs.Tests.{split, is_true, is_false}
use Rattle.theory_bytes.specs.Bytes.{AllBytes}
use Rattle.theory_splitting.specs.WellRead.{within-splits}
use Rattle.theory_reading.specs.Statements.{Writable, Writes, Reaches, FirstFault, long, cut, outside, trailing, over-splits, Says}
use Rattle.theory_reading.specs.Follows.{Outcome, done, failed, Follows, through, Leads, Stop, stop-outside, stop-cut, stops}
use Rattle.theory_reading.specs.Judged.{finish}
use Rattle.theory_reading.specs.Readers.{problem-judged}
use Rattle.theory_reading.specs.Splits.{passes}

reaches : (w : WrittenProblem) (before : List Field) (it : Field) → Writable w → Leads (fields_of w) before it → Reaches before it
reaches w before it v l = record { written = w; writable = v; after = l.after; fields = l.fields; within = l.within }

module _ (input : List ℕ) (few : length input ≤ limit.problem_bytes) (w : WrittenProblem) (v : Writable w) where
  stopped-says : (f : Refusal) (p : ℕ) → Stop (fields_of w) input 0 f p → FirstFault input f p
  stopped-says f p (stop-outside before it l o rest i c q) = outside few (record {
    before = before;
    it = it;
    reaches = reaches w before it v l;
    outside = o;
    rest = rest;
    input-is = i;
    fault-is = c;
    place_is = omega arith;
  })
  stopped-says f p (stop-cut before it l part missing g m i c q) = cut few (record {
    before = before;
    it = it;
    reaches = reaches w before it v l;
    part = part;
    missing = missing;
    field = g;
    incomplete = m;
    input-is = i;
    fault-is = c;
    place_is = omega arith;
  })

  done-says : (rest : List ℕ) (next : ℕ) → Follows (fields_of w) input 0 (done rest next)
      → Says input (within_splits (end (meaning w) rest next))
  unfolding end within_splits
  done-says [] next f = by (over_split 0 (meaning w).clauses) refl
    where
      writes : Writes input w
      writes =
          let t = through (fields_of w) input 0 [] next f in
          record { writable = v; within = t.within; are = t.input-is ∙ append-nil (bytes_of (fields_of w)) }

      by : (o : Option ℕ) → over_split 0 (meaning w).clauses ≡ o → Says input (within_splits (got (meaning w) [] next))
      by none e = rw (e, within_splits) (record {
        written = w;
        writes = writes;
        means = refl;
        short = few;
        splits = omega (arith, within-splits 0 (meaning w).clauses (omega arith) e);
      })
      by (some start) e =
          let p = passes 0 (meaning w).clauses start (omega arith) e in
          rw (e, within_splits) (over-splits few (record {
            written = w;
            writes = writes;
            before = p.before;
            it = p.it;
            after = p.after;
            clauses = p.clauses;
            not_yet = omega (arith, p.not_yet);
            passing = omega (arith, p.passing);
            fault-is = refl;
            place_is = p.start_is;
          }))
  done-says (x ∷ rest) next f =
      let t = through (fields_of w) input 0 (x ∷ rest) next f in
      trailing few (record {
        bytes = bytes_of (fields_of w);
        written = w;
        writes = record { writable = v; within = t.within; are = refl };
        rest = x ∷ rest;
        more = omega arith;
        input-is = t.input-is;
        fault-is = refl;
        place_is = omega (arith, t.next-is);
      })

pub says : (input : List ℕ) → AllBytes input → Says input (read input)
unfolding read meaning within_splits
says input h =
    let L = ltb limit.problem_bytes (length input) in
    ⊎_elim (λ t. rw (is_true L t, read) (long (ltb→lt limit.problem_bytes (length input) t) refl refl))
    (λ t. rw (is_false L t, read) (short (nltb→le limit.problem_bytes (length input) t)))
    (split L)
  where
    by : length input ≤ limit.problem_bytes → (w : WrittenProblem) → Writable w → (o : Outcome) → Follows (fields_of w) input 0 o
        → Says input (within_splits (finish (end (meaning w)) o))
    by few w v (done rest next) f = done-says input few w v rest next f
    by few w v (failed f p) s = stopped-says input few w v f p (stops (fields_of w) input 0 f p s)

    short : length input ≤ limit.problem_bytes → Says input (within_splits (problem input 0))
    short few =
        let r = problem-judged.reads input h 0 in
        rw r.is (by few r.written (record { numbers = r.fits; coefficients = r.made }) r.outcome r.follows)
