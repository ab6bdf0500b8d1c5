-- 02, (xi): which steps a step descends from, and what a short proof is beside the whole one, said of their bytes with document 01's
-- offsets. These name no function that trims.
use Rattle.std.specs.Prelude.{◌≡◌, ◌↔◌, ◌⊎◌, List, ℕ, zero, suc, ◌+◌, ◌*◌, ◌-◌, ◌≤◌, ◌<◌, length}
use Rattle.rules.specs.Bytes.{field_at}

-- ---- "the lines from which it descends"
-- "Byte 0: how (0 loaded, 1 by a figure, 2 by a mark)", of step i; "Two bytes: first parent line (loaded: clause). Two: second parent
-- (loaded: piece)."
abbrev pub how : List ℕ → ℕ → ℕ
how proof i = field_at (64 * i) 1 proof

abbrev pub first_of : List ℕ → ℕ → ℕ
first_of proof i = field_at (64 * i + 2) 2 proof

abbrev pub second_of : List ℕ → ℕ → ℕ
second_of proof i = field_at (64 * i + 4) 2 proof

-- step i is a resolvent, and step j one of its parents
abbrev pub Parent : List ℕ → ℕ → ℕ → Type 0
Parent proof i j = (1 ≤ how proof i) × ((first_of proof i ≡ j) ⊎ (second_of proof i ≡ j))

-- step j is step n, or a parent's parent ... of it, d generations back
abbrev pub Generations : List ℕ → ℕ → ℕ → ℕ → Type 0
Generations proof n zero j = n ≡ j
Generations proof n (suc d) j = (i : ℕ) × Generations proof n d i × Parent proof i j

abbrev pub Descends : List ℕ → ℕ → ℕ → Type 0
Descends proof n j = (d : ℕ) × Generations proof n d j

-- ---- a short proof, whose step i is step `old i` of the whole one
-- "Parents of results are renumbered; loaded lines keep their clause and piece"; every other byte is as it was
pub record SameStep (proof short : List ℕ) (old : ℕ → ℕ) (i : ℕ) : Type 0 where
  pub others : (place : ℕ) → place < 64 → (place < 2) ⊎ (6 ≤ place)
      → field_at (64 * i + place) 1 short ≡ field_at (64 * old i + place) 1 proof
  pub loaded : how proof (old i) ≡ 0
      → (first_of short i ≡ first_of proof (old i)) × (second_of short i ≡ second_of proof (old i))
  pub resolved : 1 ≤ how proof (old i)
      → (first_of short i < i) × (old (first_of short i) ≡ first_of proof (old i))
      × (second_of short i < i) × (old (second_of short i) ≡ second_of proof (old i))

-- n steps of a proof of k steps
pub record ShortProof (proof : List ℕ) (k : ℕ) (short : List ℕ) (n : ℕ) : Type 0 where
  pub size : length short ≡ 64 * n
  pub old : ℕ → ℕ
  -- "in order"
  pub rising : (i j : ℕ) → i < j → j < n → old i < old j
  -- "the last, empty line and only the lines from which it descends"
  pub last : old (n - 1) ≡ k - 1
  pub exactly : (j : ℕ) → Descends proof (k - 1) j ↔ ((i : ℕ) × (i < n) × (old i ≡ j))
  pub steps : (i : ℕ) → i < n → SameStep proof short old i
