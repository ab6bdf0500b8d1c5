-- An elimination, determined: its lines are exactly the parts and resolvents in document 01's order, without those that normalizing
-- drops and those that an earlier one drops, up to the one that ended it; and its pairs are the resolvents counted. The statement
-- names neither `add` nor `load`, `try_all` or `rounds`, and no state but theirs meets it (Determined).
use Rattle.std.specs.Prelude.{◌≡◌, true, false, not, List, [], ◌∷◌, ◌++◌, map, ℕ, suc, ◌+◌, T, length}
use Rattle.std.proofs.Math.Option.{Option, none, some}
use Rattle.rules.specs.Lines.{Line, Variable, is_empty}
use Rattle.rules.specs.Resolve.{resolve}
use Rattle.rules.specs.Steps.{Step}
use Rattle.rules.specs.Elimination.{Stops, End, empty, overflow, out_of_steps, State, running, ended, covered, Pair, round_pairs}
use Rattle.rules.specs.Needs.{steps_of}
use Rattle.theory_elimination.specs.Induction.{resolvent_of}

-- ---- what is taken up, in order: every part, then the resolvent of every pair of each round, among the lines of the finished proof
pub data Candidate : Type 0 where
  part : Step → Candidate
  made : Step → Candidate
  dropped : Candidate

abbrev pub resolvent_or : Variable → Pair → Option Line → Candidate
resolvent_or v p none = dropped
resolvent_or v p (some l) = made (resolvent_of v p l)

abbrev pub resolvent_at : Variable → Pair → Candidate
resolvent_at v p = resolvent_or v p (resolve v p.upper.line p.lower.line)

unfoldable pub resolvents_from : List Variable → ℕ → List Variable → List Step → List Candidate
resolvents_from variables t [] steps = []
resolvents_from variables t (v ∷ vs) steps =
    map (resolvent_at v) (round_pairs variables v t steps) ++ resolvents_from variables (suc t) vs steps

abbrev pub candidates : List Variable → List Step → List Step → List Candidate
candidates variables parts steps = map part parts ++ resolvents_from variables 0 variables steps

-- ---- what is kept of it
unfoldable pub keep_one : List Step → Step → List Step
keep_one held s = elim (covered s.line held) [ true ↦ held | false ↦ held ++ (s ∷ []) ]

unfoldable pub keep : List Step → List Candidate → List Step
keep held [] = held
keep held (part s ∷ xs) = keep (keep_one held s) xs
keep held (made s ∷ xs) = keep (keep_one held s) xs
keep held (dropped ∷ xs) = keep held xs

-- its pairs: the resolvents, also those that are dropped
unfoldable pub pairs : List Candidate → ℕ
pairs [] = 0
pairs (part s ∷ xs) = pairs xs
pairs (made s ∷ xs) = suc (pairs xs)
pairs (dropped ∷ xs) = suc (pairs xs)

module _ (stops : Stops) where
  -- where no held line drops it, there is room for it, and it is not empty
  abbrev pub Goes : List Step → Step → Type 0
  Goes held s = T (not (covered s.line held)) → T (not (stops.at_steps (length held))) × T (not (is_empty s.line))

  -- none of it ends the elimination
  abbrev pub Passed : List Step → List Candidate → Type 0
  Passed held [] = Unit {0}
  Passed held (part s ∷ xs) = Goes held s × Passed (keep_one held s) xs
  Passed held (made s ∷ xs) = T (not (stops.at_line s.line)) × Goes held s × Passed (keep_one held s) xs
  Passed held (dropped ∷ xs) = Passed held xs

  -- why a line that no held one drops ends it: there is no room, or it is empty
  abbrev pub New : End → List Step → Step → Type 0
  New overflow held s = ⊥
  New out_of_steps held s = T (not (covered s.line held)) × T (stops.at_steps (length held))
  New empty held s = T (not (covered s.line held)) × T (not (stops.at_steps (length held))) × T (is_empty s.line)

  -- why a candidate does: of a resolvent, that it overflows comes first
  abbrev pub Stopped : End → List Step → Candidate → Type 0
  Stopped e held dropped = ⊥
  Stopped e held (part s) = New e held s
  Stopped overflow held (made s) = T (stops.at_line s.line)
  Stopped out_of_steps held (made s) = T (not (stops.at_line s.line)) × New out_of_steps held s
  Stopped empty held (made s) = T (not (stops.at_line s.line)) × New empty held s

  -- the empty line is held, one that overflows or is too many is not
  abbrev pub proof_at : End → List Step → Candidate → List Step
  proof_at empty held x = keep held (x ∷ [])
  proof_at overflow held x = held
  proof_at out_of_steps held x = held

  -- from the lines held and the pairs counted before, to `steps` and m: one of the candidates ends it, after all before it passed
  pub record EndsAt (e : End) (xs : List Candidate) (held : List Step) (n : ℕ) (steps : List Step) (m : ℕ) : Type 0 where
    pub done : List Candidate
    pub last : Candidate
    pub rest : List Candidate
    pub split : xs ≡ done ++ (last ∷ rest)
    pub passed : Passed held done
    pub because : Stopped e (keep held done) last
    pub proof : steps ≡ proof_at e (keep held done) last
    pub count : m ≡ n + pairs (done ++ (last ∷ []))

  -- or none does
  pub record Runs (xs : List Candidate) (held : List Step) (n : ℕ) (steps : List Step) (m : ℕ) : Type 0 where
    pub passed : Passed held xs
    pub proof : steps ≡ keep held xs
    pub count : m ≡ n + pairs xs

  abbrev pub Takes : List Candidate → List Step → ℕ → State → Type 0
  Takes xs held n (running steps m) = Runs xs held n steps m
  Takes xs held n (ended e steps m) = EndsAt e xs held n steps m

-- an elimination took up its candidates from nothing
abbrev pub Exactly : Stops → List Variable → List Step → State → Type 0
Exactly stops variables parts state = Takes stops (candidates variables parts (steps_of state)) [] 0 state
