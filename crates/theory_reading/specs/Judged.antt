-- A reader judged by the fields of what it reads: all bytes follow the fields of something written, and are read as it says; and bytes
-- that follow the fields of something written are read as it says.
use Rattle.std.specs.Prelude.{◌≡◌, refl, ℕ, ◌+◌, ◌^◌, ◌<◌}
use Rattle.std.proofs.Common.{sym, ◌∙◌, ap}
use mathlib.Core.List.{List, [], ◌++◌}
use Rattle.std.proofs.Math.ListN.{length}
use Rattle.rules.specs.Problem.{Read, fault, Reader, after, ◌>>=◌, return}
use Rattle.rules.specs.Written.{Field, bytes_of}
use Rattle.theory_lists.specs.All.{All, all_append, append-all}
use Rattle.theory_bytes.specs.Bytes.{AllBytes}
use Rattle.theory_reading.specs.Follows.{Outcome, done, failed, Follows, join, stop, Apart, both, stopped, apart, through}

abbrev pub Fits : Field → Type 0
Fits x = x.number < 256 ^ x.size

-- what is read at the end of an outcome: `last` reads on, or the fault
abbrev pub finish : {A : Type 0} → Reader A → Outcome → Read A
finish last (done rest next) = last rest next
finish last (failed f place) = fault f place

module _ {A W : Type 0} where
  -- the bytes follow the fields of something written, which is made so, and r is what is read
  pub record Followed (fields : W → List Field) (P : W → Type 0) (last : W → Reader A) (input : List ℕ) (place : ℕ) (r : Read A)
      : Type 0 where
    pub written : W
    pub made : P written
    pub fits : All Fits (fields written)
    pub outcome : Outcome
    pub follows : Follows (fields written) input place outcome
    pub is : r ≡ finish (last written) outcome

  pub record Judged (reader : Reader A) (fields : W → List Field) (P : W → Type 0) (last : ℕ → W → Reader A) : Type 0 where
    pub reads : (input : List ℕ) → AllBytes input → (place : ℕ) → Followed fields P (last place) input place (reader input place)
    pub back : (w : W) → P w → All Fits (fields w) → (input : List ℕ) (place : ℕ) (o : Outcome) → Follows (fields w) input place o
        → reader input place ≡ finish (last place w) o

-- ---- no field
pub rest-judged : {A : Type 0} (reader : Reader A) → Judged reader (λ (u : Unit {0}). []) (λ u. Unit {0}) (λ place u. reader)
rest-judged reader = record {
  reads = λ input h place. record { written = tt; made = tt; fits = tt; outcome = done input place; follows = refl; is = refl };
  back = λ w p h input place o e. rw e;
}

-- ---- one reader after another, which may look at the place where the first starts
module _ {A B W X : Type 0} (first : Reader A) (next : ℕ → A → Reader B) (xs : W → List Field) (P : W → Type 0) (m : ℕ → W → A)
    (ys : W → X → List Field) (Q : W → X → Type 0) (last : ℕ → W → ℕ → X → Reader B)
    (one : Judged first xs P (λ place w. return (m place w)))
    (two : (place : ℕ) (w : W) → P w → Judged (next place (m place w)) (ys w) (Q w) (last place w)) where
  reads : (input : List ℕ) → AllBytes input → (place : ℕ)
      → Followed (λ (w : W × X). xs w.0 ++ ys w.0 w.1) (λ w. P w.0 × Q w.0 w.1)
      (λ w. last place w.0 (place + length (bytes_of (xs w.0))) w.1) input place (after (first input place) (next place))
  unfolding after
  reads input h place = let a = one.reads input h place in by a.written a.made a.fits a.outcome a.follows a.is
    where
      by : (w : W) → P w → All Fits (xs w) → (o : Outcome) → Follows (xs w) input place o
          → first input place ≡ finish (return (m place w)) o
          → Followed (λ (w : W × X). xs w.0 ++ ys w.0 w.1) (λ w. P w.0 × Q w.0 w.1)
          (λ w. last place w.0 (place + length (bytes_of (xs w.0))) w.1) input place (after (first input place) (next place))
      by w p k (done rest n) f e =
          let t = through (xs w) input place rest n f in
          let b = (two place w p).reads rest (append-all (λ x. x < 256) (bytes_of (xs w)) rest (rw t.input-is at h)).1 n in
          record {
            written = (w, b.written);
            made = (p, b.made);
            fits = all_append Fits (xs w) (ys w b.written) k b.fits;
            outcome = b.outcome;
            follows = join (xs w) (ys w b.written) input place rest n b.outcome f b.follows;
            is = rw (e, ← t.next-is) b.is;
          }
      by w p k (failed g at) f e =
          let b = (two place w p).reads [] tt place in
          record {
            written = (w, b.written);
            made = (p, b.made);
            fits = all_append Fits (xs w) (ys w b.written) k b.fits;
            outcome = failed g at;
            follows = stop (xs w) (ys w b.written) input place g at f;
            is = rw e;
          }

  back : (w : W × X) → P w.0 × Q w.0 w.1 → All Fits (xs w.0 ++ ys w.0 w.1) → (input : List ℕ) (place : ℕ) (o : Outcome)
      → Follows (xs w.0 ++ ys w.0 w.1) input place o
      → after (first input place) (next place) ≡ finish (last place w.0 (place + length (bytes_of (xs w.0))) w.1) o
  unfolding after
  back w p k input place o f =
      let fits = append-all Fits (xs w.0) (ys w.0 w.1) k in
      by fits.0 fits.1 (apart (xs w.0) (ys w.0 w.1) input place o f)
    where
      by : All Fits (xs w.0) → All Fits (ys w.0 w.1) → Apart (xs w.0) (ys w.0 w.1) input place o
          → after (first input place) (next place) ≡ finish (last place w.0 (place + length (bytes_of (xs w.0))) w.1) o
      by a b (both rest n h g) =
          let t = through (xs w.0) input place rest n h in
          rw (one.back w.0 p.0 a input place (done rest n) h, ← t.next-is)
          ((two place w.0 p.0).back w.1 p.1 b rest n o g)
      by a b (stopped g at e h) = rw (one.back w.0 p.0 a input place (failed g at) h, e)

  sequence : Judged (λ bytes place. after (first bytes place) (next place)) (λ (w : W × X). xs w.0 ++ ys w.0 w.1)
      (λ w. P w.0 × Q w.0 w.1)
      (λ place w. last place w.0 (place + length (bytes_of (xs w.0))) w.1)
  sequence = record { reads = reads; back = back }

pub then-judged : {A B W X : Type 0} {first : Reader A} (next : ℕ → A → Reader B) {xs : W → List Field} {P : W → Type 0} {m : ℕ → W → A}
    {ys : W → X → List Field} {Q : W → X → Type 0} {last : ℕ → W → ℕ → X → Reader B}
    → Judged first xs P (λ place w. return (m place w))
    → ((place : ℕ) (w : W) → P w → Judged (next place (m place w)) (ys w) (Q w) (last place w))
    → Judged (λ bytes place. after (first bytes place) (next place)) (λ (w : W × X). xs w.0 ++ ys w.0 w.1)
    (λ w. P w.0 × Q w.0 w.1)
    (λ place w. last place w.0 (place + length (bytes_of (xs w.0))) w.1)
then-judged next one two = sequence _ next _ _ _ _ _ _ one two

-- ---- what is read, put into something else
module _ {A B : Type 0} (g : A → B) where
  finish-mapped : (r : Read A) (a : A) (o : Outcome) → r ≡ finish (return a) o → after r (λ x. return (g x)) ≡ finish (return (g a)) o
  unfolding after
  finish-mapped r a (done rest next) e = rw e
  finish-mapped r a (failed f place) e = rw e

  pub last-judged : {W : Type 0} {first : Reader A} {xs : W → List Field} {P : W → Type 0} {m : ℕ → W → A}
      → Judged first xs P (λ place w. return (m place w))
      → Judged (◌>>=◌ first (λ x. return (g x))) xs P (λ place w. return (g (m place w)))
  last-judged {first = first} {m = m} j = record {
    reads = λ input h place. let a = j.reads input h place in record {
      written = a.written;
      made = a.made;
      fits = a.fits;
      outcome = a.outcome;
      follows = a.follows;
      is = finish-mapped (first input place) (m place a.written) a.outcome a.is;
    };
    back = λ w p h input place o f. finish-mapped (first input place) (m place w) o (j.back w p h input place o f);
  }

-- ---- another reader that reads the same
pub same-judged : {A W : Type 0} {reader other : Reader A} {xs : W → List Field} {P : W → Type 0} {last : ℕ → W → Reader A}
    → ((input : List ℕ) (place : ℕ) → other input place ≡ reader input place)
    → Judged reader xs P last
    → Judged other xs P last
same-judged e j = record {
  reads = λ input h place. rw (e input place) (j.reads input h place);
  back = λ w p h input place o f. e input place ∙ j.back w p h input place o f;
}

-- ---- the same fields, of another type
module _ {A W X : Type 0} where
  pub record Renamed (xs : W → List Field) (last : ℕ → W → Reader A) (ys : X → List Field) (Q : X → Type 0)
      (final : ℕ → X → Reader A) (w : W) : Type 0 where
    pub name : X
    pub made : Q name
    pub fields : ys name ≡ xs w
    pub lasts : (place : ℕ) → final place name ≡ last place w

pub renamed-judged : {A W X : Type 0} {reader : Reader A} {xs : W → List Field} {P : W → Type 0} {last : ℕ → W → Reader A}
    → Judged reader xs P last
    → (ys : X → List Field) (Q : X → Type 0) (final : ℕ → X → Reader A)
    → ((w : W) → P w → Renamed xs last ys Q final w)
    → ((x : X) → Q x → Renamed ys final xs P last x)
    → Judged reader ys Q final
renamed-judged {A} j ys Q final there here = record {
  reads = λ input h place.
      let a = j.reads input h place in
      let n = there a.written a.made in
      record {
        written = n.name;
        made = n.made;
        fits = rw n.fields a.fits;
        outcome = a.outcome;
        follows = rw n.fields a.follows;
        is = a.is ∙ ap (λ (l : Reader A). finish l a.outcome) (sym (n.lasts place));
      };
  back = λ x q h input place o f.
      let n = here x q in
      j.back n.name n.made (rw n.fields h) input place o (rw n.fields f)
      ∙ ap (λ (l : Reader A). finish l o) (n.lasts place);
}
