-- The 64 bytes that are written for a step are the ones that stand at document 01's offsets.
use Rattle.std.specs.Prelude.{◌≡◌, ◌↔◌, List, [], ◌∷◌, ◌++◌, ℕ, zero, suc, ◌+◌, ◌*◌, ◌-◌, ◌^◌, ◌≤◌, ◌<◌, ℤ, pos, length, get_or, take, drop}
use Rattle.std.specs.Prelude.{replicate}
use Rattle.std.proofs.Math.Path.{refl}
use Rattle.std.proofs.Common.{sym, ap, ◌∙◌, length-drop, drop_at, take_all, length-take-le}
use Rattle.std.proofs.Math.Option.{Option, none, some}
use native.Mathlib.Omega.{arith}
use Rattle.std.proofs.Math.ListN.{get_or-append}
use Rattle.std.proofs.lemmas.List.{get_or_at}
use Rattle.rules_types.specs.Limits as limit
use Rattle.rules.specs.Bytes.{to_bytes, from_bytes, from_unsigned, to_unsigned, amount_bytes, field_at, padded}
use Rattle.rules.specs.Problem.{Constraint}
use Rattle.rules.specs.Lines.{Booleans, rational, boolean, coefficient}
use Rattle.rules.specs.Steps.{Origin, loaded, resolved, Step, header, header_bytes, relation_byte, mask, row, line_bytes, encode_step}
use Rattle.theory_lists.specs.All.{All, get_or-replicate-same}
use Rattle.theory_vectors.specs.Amounts.{Small, row_small}
use Rattle.theory_resolution.specs.Formed.{Eight}
use Rattle.theory_bytes.specs.Bytes.{AllBytes}
use Rattle.theory_bytes.specs.Amounts.{amount-bytes, small-mag, length-amount_bytes, to_unsigned-from_unsigned}
use Rattle.theory_bytes.specs.Fields.{field_at-<}
use Rattle.theory_bytes.specs.Headers.{how-back, which-back, first_back, second_back}
use Rattle.theory_bytes.specs.Lines.{Encodable, mask-back, length-row}
use Rattle.theory_bytes.specs.Steps.{step-length, step-bytes}
use Rattle.theory_layout.specs.Offsets.{HeadAt, OriginAt, relation_of, bound_of, BooleansAt, StepAt}
use Rattle.theory_layout.specs.Fields.{field-part, field-drop, field-zeros, take-bytes, drop-bytes, grow, mask-bit, bits-determine}

-- what a step must be to be told from its bytes: its two numbers have two bytes each, and its line comes back
pub record Writable (s : Step) : Type 0 where
  pub first : (header s.origin).first < limit.most_steps
  pub second : (header s.origin).second < limit.most_steps
  pub line : Encodable s.line

-- ---- the fields of what is written
field-amounts : (zs : List ℤ) (rest : List ℕ) (f : ℕ) → f < length zs → All Small zs
    → from_unsigned (field_at (4 * f) 4 (amount_bytes zs ++ rest)) ≡ get_or zs f (pos 0)
unfolding amount_bytes to_bytes field_at
field-amounts [] rest f h k = absurd (omega arith)
field-amounts (z ∷ zs) rest zero h k = amount-bytes z (small-mag z k.0)
field-amounts (z ∷ zs) rest (suc f) h k =
    let e : 4 * suc f ≡ 4 + 4 * f = omega arith in
    rw (e, ← field-drop (amount_bytes (z ∷ zs) ++ rest) 4 (4 * f) 4) (field-amounts zs rest f (omega arith) k.1)

row-coefficient : (k : Option Constraint) → Eight k → (f : ℕ) → f < 8 → get_or (row k) f (pos 0) ≡ coefficient f k
unfolding row coefficient
row-coefficient none e f h = get_or-replicate-same 9 f (pos 0)
row-coefficient (some c) e f h = get_or-append c.coefficients (c.bound ∷ []) (pos 0) f (omega arith)

row-bound : (k : Option Constraint) → Eight k → get_or (row k) 8 (pos 0) ≡ bound_of k
unfolding row
row-bound none e = refl
row-bound (some c) e = get_or_at c.coefficients c.bound [] (pos 0) 8 e

relation-is : (k : Option Constraint) → relation_byte k ≡ relation_of k
unfolding relation_byte
relation-is none = refl
relation-is (some c) = refl

origin-at : (bytes : List ℕ) (at : ℕ) (o : Origin) → HeadAt bytes at (header o).how (header o).which (header o).first (header o).second
    → OriginAt bytes at o
unfolding header
origin-at bytes at (loaded c p) h = h
origin-at bytes at (resolved (rational f) a b) h = h
origin-at bytes at (resolved (boolean i) a b) h = h

module _ (s : Step) (w : Writable s) where
  abbrev spare : ℕ
  spare = limit.step_bytes - length (header_bytes (header s.origin) ++ line_bytes s.line)

  abbrev unused : List ℕ
  unused = replicate spare 0

  amounts-written : drop 16 (encode_step s) ≡ amount_bytes (row s.line.constraint) ++ unused
  unfolding encode_step padded header_bytes line_bytes to_bytes
  amounts-written = refl

  amount-field : (f : ℕ) → f < 9 → from_unsigned (field_at (16 + 4 * f) 4 (encode_step s)) ≡ get_or (row s.line.constraint) f (pos 0)
  amount-field f h =
      let k = s.line.constraint in
      rw (← field-drop (encode_step s) 16 (4 * f) 4, amounts-written)
      (field-amounts (row k) unused f (omega (arith, length-row k w.line.formed.constraint)) ((row_small k).0 w.line.small))

  zero_field : (j : ℕ) → field_at (16 + (36 + j)) 1 (encode_step s) ≡ 0
  zero_field j =
      let k = s.line.constraint in
      let n : length (amount_bytes (row k)) ≡ 36 = omega (arith, length-amount_bytes (row k), length-row k w.line.formed.constraint) in
      rw (
        ← field-drop (encode_step s) 16 (36 + j) 1,
        amounts-written,
        ← field-drop (amount_bytes (row k) ++ unused) 36 j 1,
        drop_at (amount_bytes (row k)) unused 36 n,
      ) (field-zeros spare j)

  positive-field : field_at 8 4 (encode_step s) ≡ mask s.line.positive
  unfolding encode_step padded header_bytes line_bytes to_bytes field_at
  positive-field = mask-back s.line.positive w.line.formed.positive

  negative-field : field_at 12 4 (encode_step s) ≡ mask s.line.negative
  unfolding encode_step padded header_bytes line_bytes to_bytes field_at
  negative-field = mask-back s.line.negative w.line.formed.negative

  relation-field : field_at 6 1 (encode_step s) ≡ relation_byte s.line.constraint
  unfolding encode_step padded header_bytes line_bytes to_bytes field_at from_bytes
  relation-field = omega arith

  seventh-field : field_at 7 1 (encode_step s) ≡ 0
  unfolding encode_step padded header_bytes line_bytes to_bytes field_at from_bytes
  seventh-field = refl

  pub written_at : StepAt (encode_step s) 0 s
  written_at =
      let k = s.line.constraint in
      let eight = w.line.formed.constraint in
      record {
        room = omega (arith, step-length s w.line.formed);
        origin = origin-at (encode_step s) 0 s.origin
            (record { how = how-back s; which = which-back s; first = first_back s w.first; second = second_back s w.second });
        relation = relation-field ∙ relation-is k;
        zero = seventh-field;
        positive = λ i h. rw positive-field (mask-bit s.line.positive i);
        negative = λ i h. rw negative-field (mask-bit s.line.negative i);
        coefficients = λ f h. let e : 0 + (16 + 4 * f) ≡ 16 + 4 * f = omega arith in
            rw e (amount-field f (omega arith) ∙ row-coefficient k eight f h);
        bound = amount-field 8 (omega arith) ∙ row-bound k eight;
        zeros = λ place lo hi. let e : place ≡ 16 + (36 + (place - 52)) = omega arith in rw e (zero_field (place - 52));
      }

-- ---- a step's fields determine its 64 bytes
signed-determines : (m n : ℕ) → m < 2 ^ 32 → n < 2 ^ 32 → from_unsigned m ≡ from_unsigned n → m ≡ n
signed-determines m n h g e = sym (to_unsigned-from_unsigned m h) ∙ ap to_unsigned e ∙ to_unsigned-from_unsigned n g

byte_at : (zs : List ℕ) → AllBytes zs → (i : ℕ) → get_or zs i 0 < 256
byte_at [] b i = omega arith
byte_at (z ∷ zs) b zero = b.0
byte_at (z ∷ zs) b (suc i) = byte_at zs b.1 i

module _ (xs ys : List ℕ) (bx : AllBytes xs) (by : AllBytes ys) where
  below : (zs : List ℕ) → AllBytes zs → (place : ℕ) → field_at place 4 zs < 2 ^ 32
  below zs b place = field_at-< place 4 zs (byte_at zs b)

  booleans-same : (place : ℕ) (m : Booleans) → BooleansAt xs place m → BooleansAt ys place m → field_at place 4 xs ≡ field_at place 4 ys
  booleans-same place m h g = bits-determine 32 (field_at place 4 xs) (field_at place 4 ys) (below xs bx place) (below ys by place)
      (λ i l. h i l ∙ sym (g i l))

  pub amount-same : (place : ℕ) (z : ℤ) → from_unsigned (field_at place 4 xs) ≡ z → from_unsigned (field_at place 4 ys) ≡ z
      → field_at place 4 xs ≡ field_at place 4 ys
  amount-same place z h g =
      signed-determines (field_at place 4 xs) (field_at place 4 ys) (below xs bx place) (below ys by place) (h ∙ sym g)

  module _ (s : Step) (p : StepAt xs 0 s) (q : StepAt ys 0 s) where
    more : (at k : ℕ) → at + k ≤ 64 → field_at at k xs ≡ field_at at k ys → take at xs ≡ take at ys → take (at + k) xs ≡ take (at + k) ys
    more at k h = grow xs ys bx by at k (omega (arith, p.room)) (omega (arith, q.room))

    heads : (h w a b : ℕ) → HeadAt xs 0 h w a b → HeadAt ys 0 h w a b → take 6 xs ≡ take 6 ys
    heads h w a b m n =
        more 4 2 (omega arith) (m.second ∙ sym n.second) (more 2 2 (omega arith) (m.first ∙ sym n.first)
        (more 1 1 (omega arith) (m.which ∙ sym n.which) (more 0 1 (omega arith) (m.how ∙ sym n.how) refl)))

    origins : (o : Origin) → OriginAt xs 0 o → OriginAt ys 0 o → take 6 xs ≡ take 6 ys
    origins (loaded c a) = heads 0 0 c a
    origins (resolved (rational f) a b) = heads 1 f a b
    origins (resolved (boolean i) a b) = heads 2 i a b

    fronts : take 16 xs ≡ take 16 ys
    fronts =
        more 12 4 (omega arith) (booleans-same 12 s.line.negative p.negative q.negative)
        (more 8 4 (omega arith) (booleans-same 8 s.line.positive p.positive q.positive)
        (more 7 1 (omega arith) (p.zero ∙ sym q.zero) (more 6 1 (omega arith) (p.relation ∙ sym q.relation)
        (origins s.origin p.origin q.origin))))

    coefficients-same : (f : ℕ) → f ≤ 8 → take (16 + 4 * f) xs ≡ take (16 + 4 * f) ys
    coefficients-same zero h = fronts
    coefficients-same (suc f) h =
        let e : 16 + 4 * suc f ≡ 16 + 4 * f + 4 = omega arith in
        let z : 0 + (16 + 4 * f) ≡ 16 + 4 * f = omega arith in
        let c = coefficient f s.line.constraint in
        rw e (more (16 + 4 * f) 4 (omega arith) (amount-same (16 + 4 * f) c (rw z at (p.coefficients f (omega arith)))
        (rw z at (q.coefficients f (omega arith)))) (coefficients-same f (omega arith)))

    zeros-same : (j : ℕ) → j ≤ 12 → take (52 + j) xs ≡ take (52 + j) ys
    zeros-same zero h =
        more 48 4 (omega arith) (amount-same 48 (bound_of s.line.constraint) p.bound q.bound) (coefficients-same 8 (omega arith))
    zeros-same (suc j) h =
        let e : 52 + suc j ≡ 52 + j + 1 = omega arith in
        rw e (more (52 + j) 1 (omega arith) (p.zeros (52 + j) (omega arith) (omega arith) ∙ sym (q.zeros (52 + j) (omega arith)
        (omega arith))) (zeros-same j (omega arith)))

    pub step-determined : take 64 xs ≡ take 64 ys
    step-determined = zeros-same 12 (omega arith)

-- ---- wherever the 64 bytes stand
module _ (xs ys : List ℕ) (a c : ℕ) (same : (k size : ℕ) → k + size ≤ 64 → field_at (a + k) size xs ≡ field_at (c + k) size ys) where
  head-carried : (h w m n : ℕ) → HeadAt xs a h w m n → HeadAt ys c h w m n
  head-carried h w m n d =
      let e : a + 0 ≡ a = omega arith in
      let f : c + 0 ≡ c = omega arith in
      let first : field_at a 1 xs ≡ field_at c 1 ys = rw (e, f) at (same 0 1 (omega arith)) in
      record {
        how = sym first ∙ d.how;
        which = sym (same 1 1 (omega arith)) ∙ d.which;
        first = sym (same 2 2 (omega arith)) ∙ d.first;
        second = sym (same 4 2 (omega arith)) ∙ d.second;
      }

  origin-carried : (o : Origin) → OriginAt xs a o → OriginAt ys c o
  origin-carried (loaded k p) = head-carried 0 0 k p
  origin-carried (resolved (rational f) m n) = head-carried 1 f m n
  origin-carried (resolved (boolean i) m n) = head-carried 2 i m n

  pub step-carried : (s : Step) → c + 64 ≤ length ys → StepAt xs a s → StepAt ys c s
  step-carried s room p =
      record {
        room = room;
        origin = origin-carried s.origin p.origin;
        relation = sym (same 6 1 (omega arith)) ∙ p.relation;
        zero = sym (same 7 1 (omega arith)) ∙ p.zero;
        positive = λ i h. rw (← same 8 4 (omega arith)) (p.positive i h);
        negative = λ i h. rw (← same 12 4 (omega arith)) (p.negative i h);
        coefficients = λ f h. rw (← same (16 + 4 * f) 4 (omega arith)) (p.coefficients f h);
        bound = rw (← same 48 4 (omega arith)) p.bound;
        zeros = λ place lo hi.
            let e : place ≡ c + (place - c) = omega arith in
            rw e (sym (same (place - c) 1 (omega arith)) ∙ p.zeros (a + (place - c)) (omega arith) (omega arith));
      }

module _ (bytes : List ℕ) (at : ℕ) (room : at + 64 ≤ length bytes) (s : Step) where
  abbrev part : List ℕ
  part = take 64 (drop at bytes)

  pub part_length : length part ≡ 64
  part_length = length-take-le 64 (drop at bytes) (omega (arith, length-drop at bytes))

  part-fields : (k size : ℕ) → k + size ≤ 64 → field_at (0 + k) size part ≡ field_at (at + k) size bytes
  part-fields k size h = let e : 0 + k ≡ k = omega arith in rw e (field-part bytes at 64 k size h)

  pub part_at : StepAt part 0 s → StepAt bytes at s
  part_at = step-carried part bytes 0 at part-fields s room

  pub at_part : StepAt bytes at s → StepAt part 0 s
  at_part = step-carried bytes part at 0 (λ k size h. sym (part-fields k size h)) s (omega (arith, part_length))

-- ---- so the bytes of a step are those that are written for it
at-origin : (bytes : List ℕ) (at : ℕ) (o : Origin) → OriginAt bytes at o
    → HeadAt bytes at (header o).how (header o).which (header o).first (header o).second
unfolding header
at-origin bytes at (loaded c p) h = h
at-origin bytes at (resolved (rational f) a b) h = h
at-origin bytes at (resolved (boolean i) a b) h = h

module _ (bytes : List ℕ) (at : ℕ) (s : Step) (w : Writable s) where
  pub encoded-at : at + 64 ≤ length bytes → take 64 (drop at bytes) ≡ encode_step s → StepAt bytes at s
  encoded-at room e = part_at bytes at room s (rw e (written_at s w))

  pub at-encoded : AllBytes bytes → StepAt bytes at s → take 64 (drop at bytes) ≡ encode_step s
  at-encoded b p =
      let xs = take 64 (drop at bytes) in
      let bx = take-bytes 64 (drop at bytes) (drop-bytes at bytes b) in
      let h = at-origin bytes at s.origin p.origin in
      let how = rw h.how at (field_at-< at 1 bytes (byte_at bytes b)) in
      let which = rw h.which at (field_at-< (at + 1) 1 bytes (byte_at bytes b)) in
      let d = step-determined xs (encode_step s) bx (step-bytes s how which) s (at_part bytes at p.room s p) (written_at s w) in
      sym (take_all 64 xs (omega (arith, part_length bytes at p.room s))) ∙ d
      ∙ take_all 64 (encode_step s) (omega (arith, step-length s w.line.formed))

  -- THE THEOREM, for bytes below 256
  pub step-at : AllBytes bytes → at + 64 ≤ length bytes → (take 64 (drop at bytes) ≡ encode_step s) ↔ StepAt bytes at s
  step-at b room = (encoded-at room, at-encoded b)
