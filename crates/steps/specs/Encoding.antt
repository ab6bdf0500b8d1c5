-- A step's bytes by its parts: header, literals, row.
use Rattle.std.specs.Prelude.{◌≡◌, refl, List, [], ◌∷◌, ◌++◌, ℕ, suc, ◌+◌, ◌*◌, ◌-◌, ◌≤◌, ◌<◌, ℤ, length, set, drop, replicate}
use Rattle.std.proofs.Common.{sym, ap, ◌∙◌, append_assoc, append-nil, arith, add-one, length-append}
use Rattle.std.proofs.lemmas.List.Edits.{sets-eq}
use Rattle.rules_types.specs.Limits.{step_bytes, all_booleans, rationals}
use Rattle.rules_types.specs.Layout.{step_relation, step_coefficients, step_bound, step_how, step_zeros}
use Rattle.rules.specs.Bytes.{to_bytes, amount_bytes, padded, to_unsigned}
use Rattle.rules.specs.Lines as rules
use Rattle.rules.specs.Steps.{Header, Step, header, header_bytes, line_bytes, encode_step, relation_byte}
use Rattle.fields.specs.Field.{stored, stored-++}
use Rattle.fields.specs.Filled.{amount_bytes-++}
use Rattle.theory_bytes.specs.Bytes.{length-to_bytes}
use Rattle.theory_bytes.specs.Amounts.{length-amount_bytes}
use Rattle.lines.specs.declared.line.Line.{Line}
use Rattle.masks.specs.Mask.{mask-bits}
use Rattle.lines.specs.Line.{constraint_of, meaning, Shaped}
use Rattle.lines.specs.Forms.{row_is, relations}

-- the bytes of a header and a line, as `encode_step` has them of a step
unfoldable pub encoded : Header → rules.Line → List ℕ
encoded h l = padded step_bytes (header_bytes h ++ line_bytes l)

pub encode_step-is : (s : Step) → encode_step s ≡ encoded (header s.origin) s.line
unfolding encode_step encoded
encode_step-is s = refl

abbrev pub literal_bytes : ℕ → ℕ → ℕ → List ℕ
literal_bytes relation positive negative = relation ∷ 0 ∷ to_bytes 4 positive ++ to_bytes 4 negative

-- ---- a line's bytes, by its words
relation-at : (r : ℕ) (cs : List ℤ) (b : ℤ) → r ≤ 2 → relation_byte (constraint_of r cs b) ≡ r
unfolding relation_byte constraint_of
relation-at r cs b h = relations (λ r. relation_byte (constraint_of r cs b) ≡ r) r h refl refl refl

pub line_bytes-is : (l : Line) → Shaped l → l.positive < 4294967296 → l.negative < 4294967296
    → line_bytes (meaning l) ≡ literal_bytes l.relation l.positive l.negative ++ amount_bytes (l.coefficients ++ (l.bound ∷ []))
unfolding line_bytes meaning
line_bytes-is l h p n =
    rw (
      relation-at l.relation l.coefficients l.bound h.related,
      mask-bits all_booleans l.positive p,
      mask-bits all_booleans l.negative n,
      row_is l h,
    )
    (rw (append_assoc (to_bytes 4 l.positive) (to_bytes 4 l.negative) (amount_bytes (l.coefficients ++ (l.bound ∷ [])))))

pub length-header_bytes : (h : Header) → length (header_bytes h) ≡ step_relation
unfolding header_bytes
length-header_bytes h = rw length-append (omega (arith, length-to_bytes 2 h.first, length-to_bytes 2 h.second))

pub length-literal_bytes : (r p n : ℕ) → length (literal_bytes r p n) ≡ step_coefficients - step_relation
length-literal_bytes r p n = rw length-append (omega (arith, length-to_bytes 4 p, length-to_bytes 4 n))

-- ---- two bytes and two fields, stored one after the other
pub fields-stored : (at k a b : ℕ) (x y s : List ℕ) → length x ≡ k → at + 2 ≤ length s
    → stored (at + 2 + k) y (stored (at + 2) x (set (set s at a) (at + 1) b)) ≡ stored at (a ∷ b ∷ x ++ y) s
fields-stored at k a b x y s n h =
    let two : set (set s at a) (at + 1) b ≡ stored at (a ∷ b ∷ []) s = rw (add-one at) (sets-eq (a ∷ b ∷ []) s at h) in
    let i : at + 2 + k ≡ at + suc (suc (length x)) = omega arith in
    rw (two, stored-++ at (a ∷ b ∷ []) x s (omega arith), i) (stored-++ at (a ∷ b ∷ x) y s (omega arith))

pub row-stored : (zs : List ℤ) (b : ℤ) (s : List ℕ) → length zs ≡ rationals → step_coefficients ≤ length s
    → stored step_bound (to_bytes 4 (to_unsigned b)) (stored step_coefficients (amount_bytes zs) s)
    ≡ stored step_coefficients (amount_bytes (zs ++ (b ∷ []))) s
unfolding amount_bytes
row-stored zs b s n h =
    let x = to_bytes 4 (to_unsigned b) in
    let k : ◌≡◌ {A = ℕ} step_bound (step_coefficients + length (amount_bytes zs)) = omega (arith, length-amount_bytes zs) in
    ap (λ (i : ℕ). stored i x (stored step_coefficients (amount_bytes zs) s)) k
    ∙ stored-++ step_coefficients (amount_bytes zs) x s h
    ∙ ap (λ (y : List ℕ). stored step_coefficients y s)
    (sym (amount_bytes-++ zs (b ∷ []) ∙ ap (λ (y : List ℕ). amount_bytes zs ++ y) (append-nil x)))

-- the three parts, stored over zeros
pub encoded-is : (h : Header) (l : Line) → Shaped l → length l.coefficients ≡ rationals → l.positive < 4294967296
    → l.negative < 4294967296
    → stored step_coefficients (amount_bytes (l.coefficients ++ (l.bound ∷ [])))
    (stored step_relation (literal_bytes l.relation l.positive l.negative) (stored step_how (header_bytes h) (replicate step_bytes 0)))
    ≡ encoded h (meaning l)
unfolding encoded padded
encoded-is h l k n p q =
    let a = header_bytes h in
    let b = literal_bytes l.relation l.positive l.negative in
    let c = amount_bytes (l.coefficients ++ (l.bound ∷ [])) in
    let z : List ℕ = replicate step_bytes 0 in
    let x = a ++ b ++ c in
    let la : length a ≡ step_relation = length-header_bytes h in
    let lb : length b ≡ step_coefficients - step_relation = length-literal_bytes l.relation l.positive l.negative in
    let lr : length (l.coefficients ++ (l.bound ∷ [])) ≡ rationals + 1 = rw length-append (omega arith) in
    let lc : length c ≡ step_zeros - step_coefficients = length-amount_bytes (l.coefficients ++ (l.bound ∷ []))
    ∙ ap (λ (k : ℕ). 4 * k) lr in
    let lab : length (a ++ b) ≡ step_coefficients = rw length-append (omega arith) in
    let lx : length x ≡ step_zeros = length-append (a ++ b) c ∙ omega arith in
    let i : ◌≡◌ {A = ℕ} step_relation (step_how + length a) = omega arith in
    let j : ◌≡◌ {A = ℕ} step_coefficients (step_how + length (a ++ b)) = omega arith in
    let first : stored step_relation b (stored step_how a z) ≡ stored step_how (a ++ b) z =
    ap (λ (k : ℕ). stored k b (stored step_how a z)) i
    ∙ stored-++ step_how a b z (omega arith) in
    let second : stored step_coefficients c (stored step_how (a ++ b) z) ≡ stored step_how x z =
    ap (λ (k : ℕ). stored k c (stored step_how (a ++ b) z)) j
    ∙ stored-++ step_how (a ++ b) c z (omega arith) in
    let third : stored step_how x z ≡ x ++ replicate {A = ℕ} (step_bytes - step_zeros) 0 = ap (λ (k : ℕ). x ++ drop (step_how + k) z) lx in
    let last : x ++ replicate {A = ℕ} (step_bytes - step_zeros) 0 ≡ x ++ replicate {A = ℕ} (step_bytes - length x) 0 =
    ap (λ (k : ℕ). x ++ replicate {A = ℕ} (step_bytes - k) 0) (sym lx) in
    ap (stored step_coefficients c) first ∙ second ∙ third ∙ last
    ∙ ap (λ (y : List ℕ). y ++ replicate {A = ℕ} (step_bytes - length y) 0)
    (append_assoc a b c ∙ ap (λ (y : List ℕ). a ++ y) (sym (line_bytes-is l k p q)))
