-- What is to be read in the bytes of a problem, said without the reader of rules/Problem: which problem they are, or which fault is the
-- first. rules/Written has the fields of a problem as written.
use Rattle.std.specs.Prelude.{◌≡◌, true, false, List, ◌∷◌, ◌++◌, ℕ, ◌+◌, ◌^◌, ◌≤◌, ◌<◌, length}
use Rattle.rules_types.specs.declared.answers.Refusal.{Refusal}
use Rattle.rules_types.specs.declared.answers.Refusal.TheVariants as refusal
use Rattle.rules_types.specs.Limits as limit
use Rattle.rules.specs.Problem.{Clause, Problem}
use Rattle.rules.specs.Split.{splits_of}
use Rattle.rules.specs.Calls.{Reading, faulty, sound}
use Rattle.rules.specs.Written.{Field, field_bytes, bytes_of, WrittenProblem, fields_of, meaning}
use Rattle.theory_lists.specs.All.{All, Any}
use Rattle.theory_splitting.specs.WellFormed.{splits_in}

-- it can be written at all: each number fits its bytes, and each comparison has r coefficients
pub record Writable (w : WrittenProblem) : Type 0 where
  pub numbers : All (λ x. x.number < 256 ^ x.size) (fields_of w)
  pub coefficients : All (λ c. All (λ k. length k.coefficients ≡ w.rationals) c.comparisons) w.clauses

abbrev pub AllWithin : List Field → Type 0
AllWithin xs = All (λ x. x.within ≡ true) xs

abbrev pub HasFault : Refusal → List Field → Type 0
HasFault f xs = Any (λ x. (x.fault ≡ f) × (x.within ≡ false)) xs

-- ---- which problem the bytes are
-- the bytes are those of w, whose fields are within their limits: any length, and any number of split variables
pub record Writes (bytes : List ℕ) (w : WrittenProblem) : Type 0 where
  pub writable : Writable w
  pub within : AllWithin (fields_of w)
  pub are : bytes ≡ bytes_of (fields_of w)

-- "A question has at most 32,768 bytes."; "At most 16 links in all."
pub record IsProblem (input : List ℕ) (p : Problem) : Type 0 where
  pub written : WrittenProblem
  pub writes : Writes input written
  pub means : meaning written ≡ p
  pub short : length input ≤ limit.problem_bytes
  pub splits : splits_in p.clauses ≤ limit.splits

-- ---- which fault is the first
-- `before` and then `it` are the first fields of some problem as written, and those before are within their limits
pub record Reaches (before : List Field) (it : Field) : Type 0 where
  pub written : WrittenProblem
  pub writable : Writable written
  pub after : List Field
  pub fields : fields_of written ≡ before ++ (it ∷ after)
  pub within : AllWithin before

-- 4: "question ends before a field is complete; its length"
pub record Cut (input : List ℕ) (f : Refusal) (place : ℕ) : Type 0 where
  pub before : List Field
  pub it : Field
  pub reaches : Reaches before it
  pub part : List ℕ
  pub missing : List ℕ
  pub field : field_bytes it ≡ part ++ missing
  pub incomplete : 0 < length missing
  pub input-is : input ≡ bytes_of before ++ part
  pub fault-is : f ≡ refusal.Truncated
  pub place_is : place ≡ length input

-- 5 to 11, "as fields are read", and 18, "right after 10": the first field outside its limits, with its fault; its first byte
pub record Outside (input : List ℕ) (f : Refusal) (place : ℕ) : Type 0 where
  pub before : List Field
  pub it : Field
  pub reaches : Reaches before it
  pub outside : it.within ≡ false
  pub rest : List ℕ
  pub input-is : input ≡ bytes_of before ++ (field_bytes it ++ rest)
  pub fault-is : f ≡ it.fault
  pub place_is : place ≡ length (bytes_of before)

-- 12: "bytes follow the last clause; the first"
pub record Trailing (input : List ℕ) (f : Refusal) (place : ℕ) : Type 0 where
  pub bytes : List ℕ
  pub written : WrittenProblem
  pub writes : Writes bytes written
  pub rest : List ℕ
  pub more : 0 < length rest
  pub input-is : input ≡ bytes ++ rest
  pub fault-is : f ≡ refusal.Trailing
  pub place_is : place ≡ length bytes

-- 13: "over 16; first byte of the clause passing it"
pub record OverSplits (input : List ℕ) (f : Refusal) (place : ℕ) : Type 0 where
  pub written : WrittenProblem
  pub writes : Writes input written
  pub before : List Clause
  pub it : Clause
  pub after : List Clause
  pub clauses : (meaning written).clauses ≡ before ++ (it ∷ after)
  pub not_yet : splits_in before ≤ limit.splits
  pub passing : limit.splits < splits_in before + splits_of it
  pub fault-is : f ≡ refusal.Splits
  pub place_is : place ≡ it.start

-- "1 to 3 are tested in order, 4 to 11 as fields are read, then 12, 13." 3: "question over 32,768 bytes; 32,768"
pub data FirstFault (input : List ℕ) (f : Refusal) (place : ℕ) : Type 0 where
  long : limit.problem_bytes < length input → f ≡ refusal.LongProblem → place ≡ limit.problem_bytes → FirstFault input f place
  cut : length input ≤ limit.problem_bytes → Cut input f place → FirstFault input f place
  outside : length input ≤ limit.problem_bytes → Outside input f place → FirstFault input f place
  trailing : length input ≤ limit.problem_bytes → Trailing input f place → FirstFault input f place
  over-splits : length input ≤ limit.problem_bytes → OverSplits input f place → FirstFault input f place

-- ---- what an answer of reading says
abbrev pub Says : List ℕ → Reading → Type 0
Says input (faulty f place) = FirstFault input f place
Says input (sound p) = IsProblem input p
