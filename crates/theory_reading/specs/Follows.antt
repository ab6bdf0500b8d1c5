-- Bytes that follow a list of fields: through all of them, to the first that is outside its limits, or to one that is cut off.
use Rattle.std.specs.Prelude.{◌≡◌, refl, Bool, true, false, List, [], ◌∷◌, ◌++◌, ℕ, ◌+◌, ◌<◌, length}
use Rattle.std.proofs.Common.{sym, ap, subst₂, inl, inr, append_assoc, arith, length-append}
use Rattle.rules_types.specs.declared.answers.Refusal.{Refusal}
use Rattle.rules_types.specs.declared.answers.Refusal.TheVariants as refusal
use Rattle.rules.specs.Lists.{concat}
use Rattle.rules.specs.Written.{Field, field_bytes, bytes_of}
use Rattle.theory_bytes.specs.Bytes.{length-to_bytes}
use Rattle.theory_reading.specs.Statements.{AllWithin, HasFault}

-- the bytes left and their place; or a fault and its place
pub data Outcome : Type 0 where
  done : List ℕ → ℕ → Outcome
  failed : Refusal → ℕ → Outcome

pub data OnField (x : Field) (Next : List ℕ → ℕ → Outcome → Type 0) (input : List ℕ) (place : ℕ) (o : Outcome) : Type 0 where
  passes : (rest : List ℕ) → input ≡ field_bytes x ++ rest → x.within ≡ true → Next rest (place + x.size) o → OnField x Next input place o
  fails : (rest : List ℕ) → input ≡ field_bytes x ++ rest → x.within ≡ false → o ≡ failed x.fault place → OnField x Next input place o
  ends : (missing : List ℕ) → field_bytes x ≡ input ++ missing → 0 < length missing → o ≡ failed refusal.Truncated (place + length input)
      → OnField x Next input place o

abbrev pub Follows : List Field → List ℕ → ℕ → Outcome → Type 0
Follows [] input place o = o ≡ done input place
Follows (x ∷ xs) input place o = OnField x (Follows xs) input place o

pub done-not-failed : {X : Type 0} (rest : List ℕ) (next : ℕ) (f : Refusal) (place : ℕ) → done rest next ≡ failed f place → X
done-not-failed rest next f place e = absurd (let z : ◌≡◌ {A = ℕ} 0 1 = cc in omega arith)

-- ---- one list of fields after another
pub join : (xs ys : List Field) (input : List ℕ) (place : ℕ) (rest : List ℕ) (next : ℕ) (o : Outcome)
    → Follows xs input place (done rest next)
    → Follows ys rest next o
    → Follows (xs ++ ys) input place o
join [] ys input place rest next o e h =
    let a : rest ≡ input = cc in
    let b : next ≡ place = cc in
    subst₂ (λ i p. Follows ys i p o) a b h
join (x ∷ xs) ys input place rest next o (passes r e w n) h = passes r e w (join xs ys r (place + x.size) rest next o n h)
join (x ∷ xs) ys input place rest next o (fails r e w c) h = done-not-failed rest next _ _ c
join (x ∷ xs) ys input place rest next o (ends r e w c) h = done-not-failed rest next _ _ c

pub stop : (xs ys : List Field) (input : List ℕ) (place : ℕ) (f : Refusal) (p : ℕ) → Follows xs input place (failed f p)
    → Follows (xs ++ ys) input place (failed f p)
stop [] ys input place f p e = done-not-failed input place f p (sym e)
stop (x ∷ xs) ys input place f p (passes r e w n) = passes r e w (stop xs ys r (place + x.size) f p n)
stop (x ∷ xs) ys input place f p (fails r e w c) = fails r e w c
stop (x ∷ xs) ys input place f p (ends r e w c) = ends r e w c

pub data Apart (xs ys : List Field) (input : List ℕ) (place : ℕ) (o : Outcome) : Type 0 where
  both : (rest : List ℕ) (next : ℕ) → Follows xs input place (done rest next) → Follows ys rest next o → Apart xs ys input place o
  stopped : (f : Refusal) (p : ℕ) → o ≡ failed f p → Follows xs input place (failed f p) → Apart xs ys input place o

pub apart : (xs ys : List Field) (input : List ℕ) (place : ℕ) (o : Outcome) → Follows (xs ++ ys) input place o → Apart xs ys input place o
apart [] ys input place o h = both input place refl h
apart (x ∷ xs) ys input place o (passes r e w n) = by (apart xs ys r (place + x.size) o n)
  where
    by : Apart xs ys r (place + x.size) o → Apart (x ∷ xs) ys input place o
    by (both rest next h k) = both rest next (passes r e w h) k
    by (stopped f p c h) = stopped f p c (passes r e w h)
apart (x ∷ xs) ys input place o (fails r e w c) = stopped _ _ c (fails r e w refl)
apart (x ∷ xs) ys input place o (ends r e w c) = stopped _ _ c (ends r e w refl)

-- ---- through all of them
pub record Through (xs : List Field) (input : List ℕ) (place : ℕ) (rest : List ℕ) (next : ℕ) : Type 0 where
  pub input-is : input ≡ bytes_of xs ++ rest
  pub next-is : next ≡ place + length (bytes_of xs)
  pub within : AllWithin xs

pub through : (xs : List Field) (input : List ℕ) (place : ℕ) (rest : List ℕ) (next : ℕ) → Follows xs input place (done rest next)
    → Through xs input place rest next
unfolding bytes_of concat
through [] input place rest next e = record {
  input-is = cc;
  next-is = let h : next ≡ place = cc in omega arith;
  within = tt;
}
through (x ∷ xs) input place rest next (passes r e w n) =
    let t = through xs r (place + x.size) rest next n in
    record {
      input-is = rw (append_assoc (field_bytes x) (bytes_of xs) rest, ← t.input-is) e;
      next-is = omega (arith, t.next-is, length-append (field_bytes x) (bytes_of xs), length-to_bytes x.size x.number);
      within = (w, t.within);
    }
through (x ∷ xs) input place rest next (fails r e w c) = done-not-failed rest next _ _ c
through (x ∷ xs) input place rest next (ends r e w c) = done-not-failed rest next _ _ c

pub through-back : (xs : List Field) (input : List ℕ) (place : ℕ) (rest : List ℕ) (next : ℕ) → Through xs input place rest next
    → Follows xs input place (done rest next)
unfolding bytes_of concat
through-back [] input place rest next t =
    let e = t.input-is in
    let n : next ≡ place = omega (arith, t.next-is) in
    cc
through-back (x ∷ xs) input place rest next t =
    passes (bytes_of xs ++ rest) (rw (← append_assoc (field_bytes x) (bytes_of xs) rest) t.input-is) t.within.0
    (through-back xs (bytes_of xs ++ rest) (place + x.size) rest next (record {
      input-is = refl;
      next-is = omega (arith, t.next-is, length-append (field_bytes x) (bytes_of xs), length-to_bytes x.size x.number);
      within = t.within.1;
    }))

-- ---- to a field that is outside its limits, or cut off
pub record Leads (xs before : List Field) (it : Field) : Type 0 where
  pub after : List Field
  pub fields : xs ≡ before ++ (it ∷ after)
  pub within : AllWithin before

pub data Stop (xs : List Field) (input : List ℕ) (place : ℕ) (f : Refusal) (p : ℕ) : Type 0 where
  stop-outside : (before : List Field) (it : Field) → Leads xs before it → it.within ≡ false → (rest : List ℕ)
      → input ≡ bytes_of before ++ (field_bytes it ++ rest)
      → f ≡ it.fault
      → p ≡ place + length (bytes_of before)
      → Stop xs input place f p
  stop-cut : (before : List Field) (it : Field) → Leads xs before it → (part missing : List ℕ) → field_bytes it ≡ part ++ missing
      → 0 < length missing
      → input ≡ bytes_of before ++ part
      → f ≡ refusal.Truncated
      → p ≡ place + length input
      → Stop xs input place f p

further : (x : Field) (xs before : List Field) (it : Field) → x.within ≡ true → Leads xs before it → Leads (x ∷ xs) (x ∷ before) it
further x xs before it w l =
    record { after = l.after; fields = ap (λ (s : List Field). x ∷ s) l.fields; within = (w, l.within) }

pub stops : (xs : List Field) (input : List ℕ) (place : ℕ) (f : Refusal) (p : ℕ) → Follows xs input place (failed f p)
    → Stop xs input place f p
unfolding bytes_of concat
stops [] input place f p e = done-not-failed input place f p (sym e)
stops (x ∷ xs) input place f p (passes r e w n) = by (stops xs r (place + x.size) f p n)
  where
    by : Stop xs r (place + x.size) f p → Stop (x ∷ xs) input place f p
    by (stop-outside before it l o rest i c q) =
        stop-outside (x ∷ before) it (further x xs before it w l) o rest
        (rw (append_assoc (field_bytes x) (bytes_of before) (field_bytes it ++ rest), ← i) e) c
        (omega (arith, length-append (field_bytes x) (bytes_of before), length-to_bytes x.size x.number))
    by (stop-cut before it l part missing g m i c q) =
        stop-cut (x ∷ before) it (further x xs before it w l) part missing g m
        (rw (append_assoc (field_bytes x) (bytes_of before) part, ← i) e) c
        (rw e (omega (arith, length-append (field_bytes x) r, length-to_bytes x.size x.number)))
stops (x ∷ xs) input place f p (fails rest e w c) =
    let a : f ≡ x.fault = cc in
    let b : p ≡ place = cc in
    stop-outside [] x (record { after = xs; fields = refl; within = tt }) w rest e a (omega arith)
stops (x ∷ xs) input place f p (ends missing e m c) =
    let a : f ≡ refusal.Truncated = cc in
    let b : p ≡ place + length input = cc in
    stop-cut [] x (record { after = xs; fields = refl; within = tt }) input missing e m refl a b

pub stops-back : (xs : List Field) (input : List ℕ) (place : ℕ) (f : Refusal) (p : ℕ) → Stop xs input place f p
    → Follows xs input place (failed f p)
stops-back xs input place f p (stop-outside before it l o rest i c q) =
    rw l.fields
    (join before (it ∷ l.after) input place (field_bytes it ++ rest) p (failed f p)
    (through-back before input place (field_bytes it ++ rest) p (record { input-is = i; next-is = q; within = l.within }))
    (fails rest refl o (rw c)))
stops-back xs input place f p (stop-cut before it l part missing g m i c q) =
    let n = place + length (bytes_of before) in
    let e : p ≡ n + length part = omega (arith, ap length i, length-append (bytes_of before) part) in
    rw l.fields
    (join before (it ∷ l.after) input place part n (failed f p)
    (through-back before input place part n (record { input-is = i; next-is = refl; within = l.within }))
    (ends missing g m (rw (c, e))))

-- ---- bytes of their own
pub data Own (xs : List Field) (place : ℕ) : Type 0 where
  own-done : (next : ℕ) → Follows xs (bytes_of xs) place (done [] next) → Own xs place
  own-failed : (f : Refusal) (p : ℕ) → Follows xs (bytes_of xs) place (failed f p) → HasFault f xs → Own xs place

pub own : (xs : List Field) (place : ℕ) → Own xs place
unfolding bytes_of concat
own [] place = own-done place refl
own (x ∷ xs) place = by x.within refl (own xs (place + x.size))
  where
    by : (b : Bool) → x.within ≡ b → Own xs (place + x.size) → Own (x ∷ xs) place
    by false e r = own-failed x.fault place (fails (bytes_of xs) refl e refl) (inl (refl, e))
    by true e (own-done next h) = own-done next (passes (bytes_of xs) refl e h)
    by true e (own-failed f p h a) = own-failed f p (passes (bytes_of xs) refl e h) (inr a)
