-- A line is told from every other by its bytes: the relation, both sets of Boolean variables, and the amounts.
use Rattle.std.specs.Prelude.{◌≡◌, refl, Bool, true, false, cond, List, [], ◌∷◌, ◌++◌, ℕ, ◌^◌, ◌<◌, length, get_or, drop}
use Rattle.std.proofs.Common.{sym, ap, ◌∙◌, arith, length-append}
use Rattle.std.proofs.Math.Option.{Option, none, some}
use Rattle.std.proofs.Math.Nat.{pow-succ'}
use Rattle.rules_types.specs.Limits as limit
use Rattle.rules.specs.Bytes.{to_bytes, from_bytes, field_at}
use Rattle.rules.specs.Problem.{Constraint}
use Rattle.rules.specs.Lines.{Booleans, Line}
use Rattle.rules.specs.Steps.{Step, relation_byte, mask, row, line_bytes}
use Rattle.theory_lists.specs.All.{All}
use Rattle.theory_lists.specs.Equal.{append-injective}
use Rattle.theory_vectors.specs.Amounts.{SmallAmounts, row_small}
use Rattle.theory_bytes.specs.Bytes.{from_bytes-to_bytes}
use Rattle.theory_bytes.specs.Amounts.{amount_bytes-injective}
use Rattle.theory_resolution.specs.Formed.{Formed, Eight}

-- what a line must be to come back from its bytes: 32 places for each sign, eight coefficients, and every amount in its range
pub record Encodable (l : Line) : Type 0 where
  pub formed : Formed l
  pub small : SmallAmounts l.constraint

abbrev pub AllEncodable : List Step → Type 0
AllEncodable ss = All (λ s. Encodable s.line) ss

-- ---- Boolean variables
mask_below : (s : Booleans) → mask s < 2 ^ length s
unfolding mask
mask_below [] = omega arith
mask_below (true ∷ s) = omega (arith, mask_below s, pow-succ' 2 (length s))
mask_below (false ∷ s) = omega (arith, mask_below s, pow-succ' 2 (length s))

pub mask-back : (s : Booleans) → length s ≡ limit.all_booleans → from_bytes (to_bytes 4 (mask s)) ≡ mask s
mask-back s l = let b : mask s < 2 ^ 32 = rw l at (mask_below s) in from_bytes-to_bytes 4 (mask s) b

mask-injective : (s t : Booleans) → length s ≡ length t → mask s ≡ mask t → s ≡ t
unfolding mask
mask-injective [] [] l e = refl
mask-injective [] (b ∷ t) l e = absurd (omega arith)
mask-injective (a ∷ s) [] l e = absurd (omega arith)
mask-injective (true ∷ s) (true ∷ t) l e = ap (λ (r : Booleans). true ∷ r) (mask-injective s t (omega arith) (omega arith))
mask-injective (true ∷ s) (false ∷ t) l e = absurd (omega arith)
mask-injective (false ∷ s) (true ∷ t) l e = absurd (omega arith)
mask-injective (false ∷ s) (false ∷ t) l e = ap (λ (r : Booleans). false ∷ r) (mask-injective s t (omega arith) (omega arith))

-- ---- relation and amounts
strict-injective : (a b : Bool) → ◌≡◌ {A = ℕ} (cond a 2 1) (cond b 2 1) → a ≡ b
strict-injective true true e = refl
strict-injective true false e = absurd (omega arith)
strict-injective false true e = absurd (omega arith)
strict-injective false false e = refl

some-not-none : (a : Bool) → ◌≡◌ {A = ℕ} (cond a 2 1) 0 → ⊥
some-not-none true e = omega arith
some-not-none false e = omega arith

constraint-injective : (k h : Option Constraint) → Eight k → Eight h → relation_byte k ≡ relation_byte h → row k ≡ row h → k ≡ h
unfolding relation_byte row
constraint-injective none none f g e r = refl
constraint-injective none (some d) f g e r = absurd (some-not-none d.strict (omega arith))
constraint-injective (some c) none f g e r = absurd (some-not-none c.strict e)
constraint-injective (some c) (some d) f g e r =
    let p = append-injective c.coefficients d.coefficients (c.bound ∷ []) (d.bound ∷ []) (omega arith) r in
    let b : c.bound ≡ d.bound = cc p.1 in
    let s = strict-injective c.strict d.strict e in
    λ i. some (record { strict = s i; coefficients = p.0 i; bound = b i })

pub length-row : (k : Option Constraint) → Eight k → length (row k) ≡ 9
unfolding row
length-row none f = refl
length-row (some c) f = rw (length-append c.coefficients (c.bound ∷ [])) (omega arith)

-- ---- the line, whatever follows
pub line-injective : (l m : Line) (x y : List ℕ) → Encodable l → Encodable m → line_bytes l ++ x ≡ line_bytes m ++ y → l ≡ m
unfolding line_bytes to_bytes field_at from_bytes
line-injective l m x y h k e =
    let f = h.formed in
    let g = k.formed in
    let p : from_bytes (to_bytes 4 (mask l.positive)) ≡ from_bytes (to_bytes 4 (mask m.positive)) = ap (field_at 2 4) e in
    let n : from_bytes (to_bytes 4 (mask l.negative)) ≡ from_bytes (to_bytes 4 (mask m.negative)) = ap (field_at 6 4) e in
    let positive = mask-injective l.positive m.positive (omega (arith, f.positive, g.positive))
    (sym (mask-back l.positive f.positive) ∙ p ∙ mask-back m.positive g.positive) in
    let negative = mask-injective l.negative m.negative (omega (arith, f.negative, g.negative))
    (sym (mask-back l.negative f.negative) ∙ n ∙ mask-back m.negative g.negative) in
    let lengths : length (row l.constraint) ≡ length (row m.constraint) =
    omega (arith, length-row l.constraint f.constraint, length-row m.constraint g.constraint) in
    let r = amount_bytes-injective (row l.constraint) (row m.constraint) x y lengths ((row_small l.constraint).0 h.small)
    ((row_small m.constraint).0 k.small) (ap (drop 10) e) in
    let constraint = constraint-injective l.constraint m.constraint f.constraint g.constraint (ap (λ bs. get_or bs 0 0) e) r in
    λ i. record { positive = positive i; negative = negative i; constraint = constraint i }
