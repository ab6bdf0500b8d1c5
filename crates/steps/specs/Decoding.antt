-- What a step's bytes say of its line, and that the bytes of a line say that line.
use Rattle.std.specs.Prelude.{◌≡◌, refl, List, [], ◌∷◌, ◌++◌, ℕ, zero, suc, ◌+◌, ◌*◌, ◌-◌, ◌^◌, ◌<◌, ℤ, pos, length, get_or, replicate}
use Rattle.std.proofs.Common.{sym, ap, ◌∙◌, append_assoc, append-nil, arith, length-append, take_at, drop_at}
use Rattle.std.proofs.lemmas.List.{get_or_at}
use Rattle.rules_types.specs.Limits.{rationals, step_bytes}
use Rattle.rules_types.specs.Layout.{step_positive, step_negative, step_relation, step_coefficients, step_bound}
use Rattle.rules.specs.Bytes.{to_bytes, amount_bytes, padded, from_unsigned, to_unsigned, field_at}
use Rattle.rules.specs.Steps.{Header, header_bytes, line_bytes}
use Rattle.theory_vectors.specs.Amounts.{Small}
use Rattle.theory_bytes.specs.Fields.{field_at-1}
use Rattle.theory_bytes.specs.Bytes.{length-to_bytes, from_bytes-to_bytes}
use Rattle.theory_bytes.specs.Amounts.{to_unsigned-<, from_unsigned-to_unsigned, small-mag, length-amount_bytes}
use Rattle.fields.specs.Filled.{amount_bytes-++}
use Rattle.lines.specs.declared.line.Line.{Line}
use Rattle.lines.specs.Line.{meaning, Shaped, Ready}
use Rattle.steps.specs.Encoding.{encoded, literal_bytes, line_bytes-is, length-header_bytes}

-- so many amounts from a place on
unfoldable pub amounts_at : ℕ → ℕ → List ℕ → List ℤ
amounts_at zero at b = []
amounts_at (suc n) at b = from_unsigned (field_at at 4 b) ∷ amounts_at n (at + 4) b

unfoldable pub decoded : List ℕ → Line
decoded b = record {
  positive = field_at step_positive 4 b;
  negative = field_at step_negative 4 b;
  relation = field_at step_relation 1 b;
  coefficients = amounts_at rationals step_coefficients b;
  bound = from_unsigned (field_at step_bound 4 b);
}

pub length-amounts_at : (n at : ℕ) (b : List ℕ) → length (amounts_at n at b) ≡ n
unfolding amounts_at
length-amounts_at zero at b = refl
length-amounts_at (suc n) at b = ap suc (length-amounts_at n (at + 4) b)

pub get_or-amounts_at : (n at i : ℕ) (b : List ℕ) → i < n → get_or (amounts_at n at b) i (pos 0) ≡ from_unsigned (field_at (at + 4 * i) 4 b)
unfolding amounts_at
get_or-amounts_at zero at i b h = absurd (omega arith)
get_or-amounts_at (suc n) at zero b h = let e : at + 4 * 0 ≡ at = omega arith in rw e
get_or-amounts_at (suc n) at (suc i) b h = let e : at + 4 * suc i ≡ at + 4 + 4 * i = omega arith in
    rw e (get_or-amounts_at n (at + 4) i b (omega arith))

-- ---- back
pub field_at-back : (k n at : ℕ) (xs ys : List ℕ) → length xs ≡ at → n < 256 ^ k → field_at at k (xs ++ (to_bytes k n ++ ys)) ≡ n
unfolding field_at
field_at-back k n at xs ys e h =
    rw (drop_at xs (to_bytes k n ++ ys) at e, take_at (to_bytes k n) ys k (length-to_bytes k n)) (from_bytes-to_bytes k n h)

pub amount_at-back : (z : ℤ) (at : ℕ) (xs ys : List ℕ) → length xs ≡ at → Small z
    → from_unsigned (field_at at 4 (xs ++ (to_bytes 4 (to_unsigned z) ++ ys))) ≡ z
amount_at-back z at xs ys e h = ap from_unsigned (field_at-back 4 (to_unsigned z) at xs ys e (to_unsigned-< z (small-mag z h)))
    ∙ from_unsigned-to_unsigned z (small-mag z h)

pub amounts_at-back : (zs : List ℤ) (n at : ℕ) (xs ys : List ℕ) → length xs ≡ at → length zs ≡ n → ((i : ℕ) → Small (get_or zs i (pos 0)))
    → amounts_at n at (xs ++ (amount_bytes zs ++ ys)) ≡ zs
unfolding amounts_at amount_bytes
amounts_at-back [] zero at xs ys e l h = refl
amounts_at-back [] (suc n) at xs ys e l h = absurd (omega arith)
amounts_at-back (z ∷ zs) zero at xs ys e l h = absurd (omega arith)
amounts_at-back (z ∷ zs) (suc n) at xs ys e l h =
    let x = to_bytes 4 (to_unsigned z) in
    let f : xs ++ ((x ++ amount_bytes zs) ++ ys) ≡ xs ++ (x ++ (amount_bytes zs ++ ys)) =
    ap (λ (t : List ℕ). xs ++ t) (append_assoc x (amount_bytes zs) ys) in
    let k : length (xs ++ x) ≡ at + 4 = length-append xs x ∙ omega (arith, length-to_bytes 4 (to_unsigned z)) in
    let head : from_unsigned (field_at at 4 (xs ++ (x ++ (amount_bytes zs ++ ys)))) ≡ z =
    amount_at-back z at xs (amount_bytes zs ++ ys) e (h 0) in
    let tail : amounts_at n (at + 4) (xs ++ (x ++ (amount_bytes zs ++ ys))) ≡ zs = ap (amounts_at n (at + 4))
    (sym (append_assoc xs x (amount_bytes zs ++ ys))) ∙ amounts_at-back zs n (at + 4) (xs ++ x) ys k (omega arith) (λ i. h (suc i)) in
    rw (f, head, tail)

-- ---- a step's bytes in one row, and each field with what stands before it
abbrev joined : List ℕ → ℕ → ℕ → ℕ → List ℤ → ℤ → List ℕ → List ℕ
joined a r p n cs b rest = a ++ (r ∷ 0 ∷ (to_bytes 4 p ++ (to_bytes 4 n ++ (amount_bytes cs ++ (to_bytes 4 (to_unsigned b) ++ rest)))))

joined_back : (a : List ℕ) (r p n : ℕ) (cs : List ℤ) (b : ℤ) (rest : List ℕ) → length a ≡ step_relation → length cs ≡ rationals
    → p < 4294967296 → n < 4294967296
    → ((i : ℕ) → Small (get_or cs i (pos 0))) → Small b
    → decoded (joined a r p n cs b rest) ≡ record { positive = p; negative = n; relation = r; coefficients = cs; bound = b }
unfolding decoded
joined_back a r p n cs b rest la lc hp hn hc hb =
    let whole = joined a r p n cs b rest in
    let P = to_bytes 4 p in
    let N = to_bytes 4 n in
    let C = amount_bytes cs in
    let B = to_bytes 4 (to_unsigned b) in
    let x₁ = a ++ (r ∷ 0 ∷ []) in
    let x₂ = x₁ ++ P in
    let x₃ = x₂ ++ N in
    let x₄ = x₃ ++ C in
    let l₁ : length x₁ ≡ step_positive = length-append a (r ∷ 0 ∷ []) ∙ omega arith in
    let l₂ : length x₂ ≡ step_negative = length-append x₁ P ∙ omega (arith, length-to_bytes 4 p) in
    let l₃ : length x₃ ≡ step_coefficients = length-append x₂ N ∙ omega (arith, length-to_bytes 4 n) in
    let l₄ : length x₄ ≡ step_bound = length-append x₃ C ∙ omega (arith, length-amount_bytes cs) in
    let e₁ : whole ≡ x₁ ++ (P ++ (N ++ (C ++ (B ++ rest)))) = sym (append_assoc a (r ∷ 0 ∷ []) (P ++ (N ++ (C ++ (B ++ rest))))) in
    let e₂ : whole ≡ x₂ ++ (N ++ (C ++ (B ++ rest))) = e₁ ∙ sym (append_assoc x₁ P (N ++ (C ++ (B ++ rest)))) in
    let e₃ : whole ≡ x₃ ++ (C ++ (B ++ rest)) = e₂ ∙ sym (append_assoc x₂ N (C ++ (B ++ rest))) in
    let e₄ : whole ≡ x₄ ++ (B ++ rest) = e₃ ∙ sym (append_assoc x₃ C (B ++ rest)) in
    let positive : field_at step_positive 4 whole ≡ p = ap (field_at step_positive 4) e₁
    ∙ field_at-back 4 p step_positive x₁ (N ++ (C ++ (B ++ rest))) l₁ hp in
    let negative : field_at step_negative 4 whole ≡ n = ap (field_at step_negative 4) e₂
    ∙ field_at-back 4 n step_negative x₂ (C ++ (B ++ rest)) l₂ hn in
    let coefficients : amounts_at rationals step_coefficients whole ≡ cs = ap (amounts_at rationals step_coefficients) e₃
    ∙ amounts_at-back cs rationals step_coefficients x₃ (B ++ rest) l₃ lc hc in
    let bound : from_unsigned (field_at step_bound 4 whole) ≡ b = ap (λ (t : List ℕ). from_unsigned (field_at step_bound 4 t)) e₄
    ∙ amount_at-back b step_bound x₄ rest l₄ hb in
    let relation : field_at step_relation 1 whole ≡ r =
    field_at-1 step_relation whole (rw (length-append a (r ∷ 0 ∷ (P ++ (N ++ (C ++ (B ++ rest)))))) (omega arith))
    ∙ get_or_at a r (0 ∷ (P ++ (N ++ (C ++ (B ++ rest))))) 0 step_relation la in
    (λ i. record { positive = positive i; negative = negative i; relation = relation i; coefficients = coefficients i; bound = bound i })

regroup : (x y z b r : List ℕ) → ((x ++ y) ++ (z ++ b)) ++ r ≡ x ++ (y ++ (z ++ (b ++ r)))
regroup x y z b r = simp append_assoc

joined_is : (h : Header) (l : Line) → Shaped l → l.positive < 4294967296 → l.negative < 4294967296
    → encoded h (meaning l) ≡ joined (header_bytes h) l.relation l.positive l.negative l.coefficients l.bound
    (replicate (step_bytes - length (header_bytes h ++ line_bytes (meaning l))) 0)
unfolding encoded padded amount_bytes
joined_is h l k p q =
    let a = header_bytes h in
    let rest : List ℕ = replicate (step_bytes - length (a ++ line_bytes (meaning l))) 0 in
    append_assoc a (line_bytes (meaning l)) rest
    ∙ ap (λ (y : List ℕ). a ++ (y ++ rest)) (line_bytes-is l k p q)
    ∙ ap (λ (y : List ℕ). a ++ ((literal_bytes l.relation l.positive l.negative ++ y) ++ rest)) (amount_bytes-++ l.coefficients
    (l.bound ∷ []) ∙ ap (λ (y : List ℕ). amount_bytes l.coefficients ++ y) (append-nil (to_bytes 4 (to_unsigned l.bound))))
    ∙ ap (λ (y : List ℕ). a ++ (l.relation ∷ 0 ∷ y)) (regroup (to_bytes 4 l.positive) (to_bytes 4 l.negative)
    (amount_bytes l.coefficients) (to_bytes 4 (to_unsigned l.bound)) rest)

-- the bytes of a line say that line
pub decoded-encoded : (h : Header) (l : Line) → Ready l → length l.coefficients ≡ rationals → l.positive < 4294967296
    → l.negative < 4294967296
    → decoded (encoded h (meaning l)) ≡ l
decoded-encoded h l k e p q =
    ap decoded (joined_is h l k.shaped p q)
    ∙ joined_back (header_bytes h) l.relation l.positive l.negative l.coefficients l.bound (replicate
    (step_bytes - length (header_bytes h ++ line_bytes (meaning l))) 0) (length-header_bytes h) e p q k.coefficients.small k.bound
