-- The promise says which bytes the new problem has: bytes that hold it are the same bytes.
use Rattle.std.specs.Prelude.{◌≡◌, Bool, ℕ, ℤ, pos, ltb, length, get_or, take}
use Rattle.std.proofs.Math.Path.{refl, sym}
use Rattle.std.proofs.Common.{ap, ◌∙◌, ⊎_elim, ltb→lt, nltb→le, ext_get_or}
use mathlib.Core.List.{List, [], ◌∷◌, map}
use Rattle.rules_types.specs.Limits as limit
use Rattle.rules_types.specs.declared.answers.Converted.TheVariants.{Length}
use Rattle.rules.specs.Problem.{Comparison, Clause, Problem}
use Rattle.rules.specs.Written.{WrittenProblem, bytes_of, fields_of}
use Rattle.rules.specs.Convert.{kept, place_of, literal_code, written_comparison, written_clause, written_as, Converting, convert}
use Rattle.rules.specs.Calls.{Reading, faulty, sound, read}
use Rattle.theory_lists.specs.Tests.{split}
use Rattle.theory_lists.specs.All.{All, all_map}
use Rattle.theory_bytes.specs.Bytes.{AllBytes}
use Rattle.theory_splitting.specs.WellFormed.{WellFormedClause}
use Rattle.theory_splitting.specs.WellRead.{read-well-formed}
use Rattle.theory_conversion.specs.Places.{HalfOf, SplitRow, SplitComparison, SplitClause, Paired, every-half}
use Rattle.theory_conversion.specs.WrittenBack.{bytes_back}
use Rattle.theory_conversion.specs.ReadBack.{carried-bytes}
use Rattle.promises.specs.CarriedOver.{NewProblem, Converts}
use Rattle.promises.specs.Halves.{impossible}
use Rattle.promises.specs.CarriedOverKept.{written, converts}

-- ---- of one row, one comparison and one clause there is one with the variables split
module _ (keeps : ℕ → Bool) (r : ℕ) where
  same_at : (old a b : List ℤ) → SplitRow keeps r old a → SplitRow keeps r old b → (i : ℕ) → get_or a i (pos 0) ≡ get_or b i (pos 0)
  same_at old a b s t i = ⊎_elim (λ l. half (every-half keeps r i (ltb→lt i (place_of keeps r) l)))
      (λ l. let h = nltb→le i (place_of keeps r) l in s.beyond i h ∙ sym (t.beyond i h)) (split (ltb i (place_of keeps r)))
    where
      half : HalfOf keeps r i → get_or a i (pos 0) ≡ get_or b i (pos 0)
      half h = let f = h.variable in
          ⊎_elim (λ e. rw e (s.first f h.below ∙ sym (t.first f h.below)))
          (λ e. rw e.1 (s.second f h.below e.0 ∙ sym (t.second f h.below e.0))) h.is

  -- with 8 coefficients each, as read
  abbrev Wide : Comparison → Type 0
  Wide c = length c.coefficients ≡ limit.rationals

  same-comparisons : (olds xs ys : List Comparison) → Paired (SplitComparison keeps r) olds xs → Paired (SplitComparison keeps r) olds ys
      → All Wide xs → All Wide ys → xs ≡ ys
  same-comparisons [] [] [] s t v w = refl
  same-comparisons [] [] (y ∷ ys) s t v w = absurd t
  same-comparisons [] (x ∷ xs) ys s t v w = absurd s
  same-comparisons (old ∷ olds) [] ys s t v w = absurd s
  same-comparisons (old ∷ olds) (x ∷ xs) [] s t v w = absurd t
  same-comparisons (old ∷ olds) (x ∷ xs) (y ∷ ys) s t v w =
      let row : x.coefficients ≡ y.coefficients =
      ext_get_or (pos 0) x.coefficients y.coefficients (v.0 ∙ sym w.0)
      (λ i l. same_at old.coefficients x.coefficients y.coefficients s.0.coefficients t.0.coefficients i) in
      λ k. record {
        relation = (s.0.relation ∙ sym t.0.relation) k;
        coefficients = row k;
        bound = (s.0.bound ∙ sym t.0.bound) k;
      } ∷ same-comparisons olds xs ys s.1 t.1 v.1 w.1 k

  same-clauses : (b m : ℕ) (olds xs ys : List Clause) → Paired (SplitClause keeps r) olds xs → Paired (SplitClause keeps r) olds ys
      → All (WellFormedClause b m) xs → All (WellFormedClause b m) ys → map (written_clause m) xs ≡ map (written_clause m) ys
  unfolding written_clause
  same-clauses b m [] [] [] s t v w = refl
  same-clauses b m [] [] (y ∷ ys) s t v w = absurd t
  same-clauses b m [] (x ∷ xs) ys s t v w = absurd s
  same-clauses b m (old ∷ olds) [] ys s t v w = absurd s
  same-clauses b m (old ∷ olds) (x ∷ xs) [] s t v w = absurd t
  same-clauses b m (old ∷ olds) (x ∷ xs) (y ∷ ys) s t v w =
      let literals = s.0.literals ∙ sym t.0.literals in
      let wide : (c : Clause) → WellFormedClause b m c → All Wide c.comparisons =
      λ c k. all_map _ Wide c.comparisons (λ d l. l.coefficients) k.comparisons in
      let comparisons = same-comparisons old.comparisons x.comparisons y.comparisons s.0.comparisons t.0.comparisons
      (wide x v.0) (wide y w.0) in
      λ k. record {
        literals = map literal_code (literals k);
        comparisons = map (written_comparison m) (comparisons k);
      } ∷ same-clauses b m olds xs ys s.1 t.1 v.1 w.1 k

-- ---- so the new problem of a problem is written in one way
pub one-new : (p : Problem) (xs ys : List ℕ) → AllBytes xs → AllBytes ys → NewProblem p xs → NewProblem p ys → xs ≡ ys
unfolding written_as
one-new p xs ys u v h k =
    bytes_back xs u h.problem h.reads
    ∙ ap (λ (w : WrittenProblem). bytes_of (fields_of w)) same
    ∙ sym (bytes_back ys v k.problem k.reads)
  where
    booleans : h.problem.booleans ≡ k.problem.booleans
    booleans = h.booleans ∙ sym k.booleans

    rationals : h.problem.rationals ≡ k.problem.rationals
    rationals = h.rationals ∙ sym k.rationals

    formed : All (WellFormedClause k.problem.booleans k.problem.rationals) h.problem.clauses
    formed = rw (← booleans, ← rationals) (read-well-formed xs h.problem h.reads).clauses

    clauses : map (written_clause k.problem.rationals) h.problem.clauses
        ≡ map (written_clause k.problem.rationals) k.problem.clauses
    clauses = same-clauses (kept p) p.rationals k.problem.booleans k.problem.rationals p.clauses h.problem.clauses
        k.problem.clauses h.clauses k.clauses formed (read-well-formed ys k.problem k.reads).clauses

    same : written_as h.problem ≡ written_as k.problem
    same = rw (booleans, rationals) (λ i. record {
      booleans = k.problem.booleans;
      rationals = k.problem.rationals;
      clauses = clauses i;
    })

-- ---- and whoever keeps the promise of converting says and writes what the definition does
pub record SameNew (input lent : List ℕ) (n : ℕ) (new : List ℕ) : Type 0 where
  pub problem : Problem
  pub reads : read input ≡ sound problem
  pub is_new : NewProblem problem new
  pub says : (convert input lent).converted ≡ Length n
  pub writes : take n (convert input lent).output ≡ new

pub same_new : (input lent : List ℕ) → AllBytes input → (ours : Converting) → Converts input lent ours → (n : ℕ)
    → ours.converted ≡ Length n → AllBytes (take n ours.output) → SameNew input lent n (take n ours.output)
same_new input lent are ours keeps n says left = by (read input) refl
  where
    by : (r : Reading) → read input ≡ r → SameNew input lent n (take n ours.output)
    by (faulty f place) e = let b = keeps.faulty_input f place e in impossible cc
    by (sound p) e =
        let theirs = converts input lent are in
        let same = (theirs.returns p e n).1 ((keeps.returns p e n).0 says) in
        record {
          problem = p;
          reads = e;
          is_new = keeps.new p e n says;
          says = same;
          writes = one-new p (take n (convert input lent).output) (take n ours.output)
              (rw (written input lent are p e n same) (carried-bytes p)) left (theirs.new p e n same) (keeps.new p e n says);
        }
