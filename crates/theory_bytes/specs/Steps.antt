-- A step's 64 bytes, and the proof's: so many, each a byte, a step after another; and the line comes back.
use Rattle.std.specs.Prelude.{◌≡◌, refl, List, [], ◌∷◌, ◌++◌, Bool, true, false, cond, ℕ, ◌*◌, ◌-◌, ◌<◌, length, take, drop, replicate}
use Rattle.std.proofs.Common.{ap, arith, length-append}
use Rattle.std.proofs.Math.Option.{Option, none, some}
use Rattle.std.proofs.Math.Seq.{take_at, drop_at}
use Rattle.rules_types.specs.Limits as limit
use Rattle.rules_types.specs.Layout as layout
use Rattle.rules.specs.Bytes.{to_bytes, amount_bytes, padded}
use Rattle.rules.specs.Problem.{Constraint}
use Rattle.rules.specs.Lines.{Line}
use Rattle.rules.specs.Steps.{Step, Header, header, header_bytes, relation_byte, mask, row, line_bytes, encode_step, encode_proof}
use Rattle.theory_lists.specs.All.{All, all_append}
use Rattle.theory_bytes.specs.Bytes.{AllBytes, bytes-to_bytes, length-padded, bytes-padded}
use Rattle.theory_bytes.specs.Amounts.{length-amount_bytes, bytes-amount_bytes}
use Rattle.theory_resolution.specs.Formed.{Formed, Eight}
use Rattle.theory_bytes.specs.Lines.{Encodable, length-row, line-injective}

-- ---- 64 bytes
line-length : (l : Line) → Eight l.constraint → length (line_bytes l) ≡ layout.step_zeros - layout.step_relation
unfolding line_bytes to_bytes
line-length l f = omega (arith, length-amount_bytes (row l.constraint), length-row l.constraint f)

content-length : (s : Step) → Formed s.line → length (header_bytes (header s.origin) ++ line_bytes s.line) ≡ layout.step_zeros
unfolding header_bytes to_bytes
content-length s f = omega (arith, line-length s.line f.constraint)

pub step-length : (s : Step) → Formed s.line → length (encode_step s) ≡ limit.step_bytes
unfolding encode_step
step-length s f = length-padded limit.step_bytes (header_bytes (header s.origin) ++ line_bytes s.line)
    (omega (arith, content-length s f))

pub proof-length : (ss : List Step) → All (λ s. Formed s.line) ss → length (encode_proof ss) ≡ limit.step_bytes * length ss
unfolding encode_proof
proof-length [] f = refl
proof-length (s ∷ ss) f = rw length-append (omega (arith, step-length s f.0, proof-length ss f.1))

-- ---- step after step
module _ (s : Step) (ss : List Step) (f : Formed s.line) where
  pub take_step : take limit.step_bytes (encode_proof (s ∷ ss)) ≡ encode_step s
  unfolding encode_proof
  take_step = take_at (encode_step s) (encode_proof ss) limit.step_bytes (step-length s f)

  pub drop-step : drop limit.step_bytes (encode_proof (s ∷ ss)) ≡ encode_proof ss
  unfolding encode_proof
  drop-step = drop_at (encode_step s) (encode_proof ss) limit.step_bytes (step-length s f)

-- the used part of a buffer that goes on
pub take-proof : (ss : List Step) (rest : List ℕ) → All (λ s. Formed s.line) ss
    → take (limit.step_bytes * length ss) (encode_proof ss ++ rest) ≡ encode_proof ss
take-proof ss rest f = take_at (encode_proof ss) rest (limit.step_bytes * length ss) (proof-length ss f)

-- ---- bytes
relation-byte : (k : Option Constraint) → relation_byte k < 256
unfolding relation_byte
relation-byte none = omega arith
relation-byte (some c) = by c.strict
  where
    by : (b : Bool) → cond b 2 1 < 256
    by true = omega arith
    by false = omega arith

line-bytes : (l : Line) → AllBytes (line_bytes l)
unfolding line_bytes
line-bytes l =
    let P : ℕ → Type 0 = λ n. n < 256 in
    let signs = all_append P (to_bytes 4 (mask l.positive)) (to_bytes 4 (mask l.negative)) (bytes-to_bytes 4 (mask l.positive))
    (bytes-to_bytes 4 (mask l.negative)) in (
      relation-byte l.constraint,
      (
        omega arith,
        all_append P (to_bytes 4 (mask l.positive) ++ to_bytes 4 (mask l.negative))
            (amount_bytes (row l.constraint)) signs (bytes-amount_bytes (row l.constraint)),
      ),
    )

header-bytes : (h : Header) → h.how < 256 → h.which < 256 → AllBytes (header_bytes h)
unfolding header_bytes
header-bytes h a b = all_append (λ n. n < 256) (h.how ∷ h.which ∷ to_bytes 2 h.first) (to_bytes 2 h.second)
    (a, (b, bytes-to_bytes 2 h.first)) (bytes-to_bytes 2 h.second)

pub step-bytes : (s : Step) → (header s.origin).how < 256 → (header s.origin).which < 256 → AllBytes (encode_step s)
unfolding encode_step
step-bytes s h w =
    let head = header_bytes (header s.origin) in
    bytes-padded limit.step_bytes (head ++ line_bytes s.line)
    (all_append (λ n. n < 256) head (line_bytes s.line) (header-bytes (header s.origin) h w) (line-bytes s.line))

-- ---- the line comes back
pub step-injective : (s t : Step) → Encodable s.line → Encodable t.line → encode_step s ≡ encode_step t → s.line ≡ t.line
unfolding encode_step padded header_bytes to_bytes
step-injective s t h k e = line-injective s.line t.line (after s) (after t) h k (ap (drop layout.step_relation) e)
  where
    after : Step → List ℕ
    after s = replicate (limit.step_bytes - length (header_bytes (header s.origin) ++ line_bytes s.line)) 0
