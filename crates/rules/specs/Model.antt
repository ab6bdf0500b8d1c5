-- The model ("the sheet"): its 64 bytes, "unwritten", and a model read back.
use Rattle.std.specs.Prelude.{Bool, true, false, cond, not, ◌&&◌, ◌||◌, List, ◌∷◌, ◌++◌, ℕ, pos, nat_abs, eqb, leb, ltb, get_or}
use Rattle.std.proofs.Math.Option.{Option, none, some}
use Rattle.rules_types.specs.declared.answers.Refusal.TheVariants as refusal
use Rattle.rules_types.specs.Limits as limit
use Rattle.rules.specs.Lists.{any, tabulate}
use Rattle.rules.specs.Bytes.{to_bytes, amount_bytes, padded}
use Rattle.rules.specs.Problem.{Clause, Problem, Reader, ◌>>=◌, return, repeat, each, field, amount}
use Rattle.rules.specs.Meaning.{Assignment}
use Rattle.rules.specs.Values.{Walked}

-- ---- 02, (iv): open Boolean variables
-- a variable stands in a clause, in either sign: in the literals as written, whatever normalizing drops
unfoldable pub occurs : ℕ → List Clause → Bool
occurs i cs = any (λ c. any (λ l. eqb l.boolean i) c.literals) cs

-- "a mark that stands in no clause as read was decided by nothing"
unfoldable pub is_open : Problem → ℕ → Bool
is_open p i = not (occurs i p.clauses)

-- "bytes of 0 or 1"; of an open one: "Its sheet byte becomes 2"
unfoldable pub boolean_byte : Bool → Bool → ℕ
boolean_byte opens is_yes = cond opens 2 (cond is_yes 1 0)

-- "The check allows 2 exactly there; 17 names it elsewhere, and a 0 or 1 there."
unfoldable pub is_boolean_byte : Bool → ℕ → Bool
is_boolean_byte opens n = cond opens (eqb n 2) (leb n 1)

-- ---- a model, of b Boolean variables, of which some are open, and r rational ones
-- "b; b bytes of 0 or 1; r; four bytes denominator; r numerators of four bytes; zeros"
unfoldable pub encode_model : ℕ → ℕ → (ℕ → Bool) → Assignment → List ℕ
encode_model b r opens χ =
    padded limit.model_bytes
    (b ∷ tabulate b (λ i. boolean_byte (opens i) (χ.booleans i)) ++ (r ∷ to_bytes 4 χ.denominator)
    ++ amount_bytes (tabulate r χ.numerators))

-- "or the common denominator (the least) or a numerator over it does"
unfoldable pub too_large : ℕ → Assignment → Bool
too_large r χ = ltb limit.amount χ.denominator || any (λ z. ltb limit.amount (nat_abs z)) (tabulate r χ.numerators)

-- the model of a walk, or none: "unwritten"
unfoldable pub written : ℕ → ℕ → (ℕ → Bool) → Walked → Option (List ℕ)
written b r opens w =
    elim (w.exceeded || too_large r w.assignment) [ true ↦ none | false ↦ some (encode_model b r opens w.assignment) ]

-- ---- a model to check
-- 17: "count differs, mark not 0 or 1, denominator outside 1 to 1,000,000,000, numerator outside the amounts' range; first byte of the
-- first such field". What an open variable is taken for makes no difference: no clause has it
unfoldable pub model : ℕ → ℕ → (ℕ → Bool) → Reader Assignment
model b r opens = do
  b' ← field 1 (eqb b) refusal.BadModel
  booleans ← each 0 b (λ i. field 1 (is_boolean_byte (opens i)) refusal.BadModel)
  r' ← field 1 (eqb r) refusal.BadModel
  denominator ← field 4 (λ n. leb 1 n && leb n limit.amount) refusal.BadModel
  numerators ← repeat r (amount refusal.BadModel)
  return (record { booleans = λ i. eqb (get_or booleans i 0) 1; numerators = λ f. get_or numerators f (pos 0); denominator = denominator })
