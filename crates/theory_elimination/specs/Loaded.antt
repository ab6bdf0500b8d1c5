-- Every part before the one that ended an elimination is loaded or dropped by a loaded one, and all are if none did.
use Rattle.std.specs.Prelude.{◌≡◌, Bool, ◌⊎◌, ℕ, ◌+◌}
use Rattle.std.proofs.Math.Path.{refl, subst}
use Rattle.std.proofs.Common.{sym, ap, ◌∙◌, ⊎_elim, arith}
use Rattle.std.proofs.Math.Bool.{true, false}
use Rattle.std.proofs.Math.Logic.{inl, inr}
use mathlib.Core.List.{List, [], ◌∷◌, ◌++◌, map, append-nil}
use Rattle.rules.specs.Lines.{Variable}
use Rattle.rules.specs.Steps.{Step}
use Rattle.rules.specs.Elimination.{Stops, End, State, running, ended, covered, eliminate}
use Rattle.rules.specs.Needs.{steps_of}
use Rattle.theory_lists.specs.All.{All, Any, all_map, all_append, append-all, any-right}
use Rattle.theory_saturation.specs.Drops.{Drops, drops-self, covered-exactly}
use Rattle.theory_elimination.specs.Induction.{members}
use Rattle.theory_elimination.specs.Exactly.{Candidate, part, resolvents_from, candidates, keep_one, keep, pairs, New}
use Rattle.theory_elimination.specs.Exactly.{EndsAt, Exactly, Stopped, proof_at}
use Rattle.theory_elimination.specs.OneLoop.{elimination-exactly}
use Rattle.theory_elimination.specs.Kept.{stays, stays_at, keep_append}

-- a step of the proof is a part, and drops the line of s, as the part s itself does
abbrev pub Loaded : List Step → List Step → Step → Type 0
Loaded parts steps s = Any (λ x. Any (λ y. y ≡ x) parts × Drops x.line s.line) steps

-- ended by the part after `before`, with no pair tried; or with all parts loaded
pub record LoadedBefore (stops : Stops) (e : End) (parts steps : List Step) (n : ℕ) : Type 0 where
  pub before : List Step
  pub after : List Step
  pub split : parts ≡ before ++ after
  pub loaded : All (Loaded parts steps) before
  pub last : (after ≡ []) ⊎ ((s : Step) × (rest : List Step) × (after ≡ s ∷ rest) × New stops e (keep [] (map part before)) s × (n ≡ 0))

abbrev pub AllLoaded : Stops → List Step → State → Type 0
AllLoaded stops parts (running steps n) = All (Loaded parts steps) parts
AllLoaded stops parts (ended e steps n) = LoadedBefore stops e parts steps n

-- ---- what is kept of some parts
module _ (parts : List Step) where
  abbrev Among : Step → Type 0
  Among x = Any (λ y. y ≡ x) parts

  one-among : (held : List Step) (s : Step) → All Among held → Among s → All Among (keep_one held s)
  unfolding keep_one
  one-among held s h a = by (covered s.line held)
    where
      by : (subsumed : Bool) → All Among (elim subsumed [ true ↦ held | false ↦ held ++ (s ∷ []) ])
      by true = h
      by false = all_append Among held (s ∷ []) h (a, tt)

  one-loaded : (held : List Step) (s : Step) → All Among held → Among s → Loaded parts (keep_one held s) s
  unfolding keep_one
  one-loaded held s h a = by (covered s.line held) refl
    where
      both : (xs : List Step) → All Among xs → Any (λ x. Drops x.line s.line) xs → Loaded parts xs s
      both [] k g = absurd g
      both (x ∷ xs) k (inl g) = inl (k.0, g)
      both (x ∷ xs) k (inr g) = inr (both xs k.1 g)

      by : (subsumed : Bool) → covered s.line held ≡ subsumed → Loaded parts (elim subsumed [ true ↦ held | false ↦ held ++ (s ∷ []) ]) s
      by true e = both held h ((covered-exactly s.line held).0 (rw e tt))
      by false e = any-right (λ x. Among x × Drops x.line s.line) held (s ∷ []) (inl (a, drops-self s.line))

  parts-loaded : (ss held : List Step) → All Among held → All Among ss → All (Loaded parts (keep held (map part ss))) ss
  unfolding keep
  parts-loaded [] held h a = tt
  parts-loaded (s ∷ ss) held h a = (
    stays (λ x. Among x × Drops x.line s.line) (map part ss) (keep_one held s) (one-loaded held s h a.0),
    parts-loaded ss (keep_one held s) (one-among held s h a.0) a.1,
  )

  -- and of more after them
  still : (xs : List Candidate) (held ss : List Step) → All (Loaded parts held) ss → All (Loaded parts (keep held xs)) ss
  still xs held ss h =
      all_map (Loaded parts held) (Loaded parts (keep held xs)) ss (λ s k. stays (λ x. Among x × Drops x.line s.line) xs held k) h

  still-at : (stops : Stops) (e : End) (x : Candidate) (held ss : List Step) → All (Loaded parts held) ss
      → All (Loaded parts (proof_at stops e held x)) ss
  still-at stops e x held ss h =
      all_map (Loaded parts held) (Loaded parts (proof_at stops e held x)) ss
      (λ s k. stays_at (λ x. Among x × Drops x.line s.line) stops e held x k) h

-- ---- where the candidates end: at a part, or behind them all
pub record AtPart (parts : List Step) (done : List Candidate) (last : Candidate) : Type 0 where
  pub before : List Step
  pub at : Step
  pub after : List Step
  pub split : parts ≡ before ++ (at ∷ after)
  pub done-is : done ≡ map part before
  pub last-is : last ≡ part at

pub record BehindParts (parts : List Step) (done : List Candidate) : Type 0 where
  pub more : List Candidate
  pub done-is : done ≡ map part parts ++ more

abbrev head_of : Candidate → List Candidate → Candidate
head_of x [] = x
head_of x (y ∷ ys) = y

abbrev tail_of : List Candidate → List Candidate
tail_of [] = []
tail_of (y ∷ ys) = ys

where-ended : (parts : List Step) (rs done : List Candidate) (last : Candidate) (rest : List Candidate)
    → map part parts ++ rs ≡ done ++ (last ∷ rest) → AtPart parts done last ⊎ BehindParts parts done
where-ended [] rs done last rest e = inr (record { more = done; done-is = refl })
where-ended (s ∷ ss) rs [] last rest e =
    inl (record { before = []; at = s; after = ss; split = refl; done-is = refl; last-is = sym (ap (head_of last) e) })
where-ended (s ∷ ss) rs (d ∷ done) last rest e =
    let h : part s ≡ d = ap (head_of last) e in
    ⊎_elim
    (λ a. inl (record {
      before = s ∷ a.before;
      at = a.at;
      after = a.after;
      split = ap (λ (xs : List Step). s ∷ xs) a.split;
      done-is = λ i. sym h i ∷ a.done-is i;
      last-is = a.last-is;
    }))
    (λ b. inr (record { more = b.more; done-is = λ i. sym h i ∷ b.done-is i }))
    (where-ended ss rs done last rest (ap tail_of e))

module _ (stops : Stops) (variables : List Variable) (parts : List Step) where
  abbrev resolvents : List Step → List Candidate
  resolvents steps = resolvents_from variables 0 variables steps

  part-pairs : (ss : List Step) (s : Step) → pairs (map part ss ++ (part s ∷ [])) ≡ 0
  unfolding pairs
  part-pairs [] s = refl
  part-pairs (x ∷ ss) s = part-pairs ss s

  no_pairs : (done : List Candidate) (last : Candidate) → AtPart parts done last → pairs (done ++ (last ∷ [])) ≡ 0
  no_pairs done last a = (λ i. pairs (a.done-is i ++ (a.last-is i ∷ []))) ∙ part-pairs a.before a.at

  part-stopped : (e : End) (held : List Step) (s : Step) (x : Candidate) → x ≡ part s → Stopped stops e held x → New stops e held s
  part-stopped e held s x i h = subst (Stopped stops e held) i h

  ended-loaded : (e : End) (steps : List Step) (n : ℕ) → EndsAt stops e (candidates variables parts steps) [] 0 steps n
      → LoadedBefore stops e parts steps n
  ended-loaded e steps n h = ⊎_elim at_part behind (where-ended parts (resolvents steps) h.done h.last h.rest h.split)
    where
      at_part : AtPart parts h.done h.last → LoadedBefore stops e parts steps n
      at_part a =
          let held = keep [] (map part a.before) in
          let m = append-all (λ s. Any (λ y. y ≡ s) parts) a.before (a.at ∷ a.after)
          (subst (λ (xs : List Step). All (λ s. Any (λ y. y ≡ s) parts) xs) a.split (members parts)) in
          let q : steps ≡ proof_at stops e held h.last = h.proof
          ∙ ap (λ (xs : List Candidate). proof_at stops e (keep [] xs) h.last) a.done-is in
          record {
            before = a.before;
            after = a.at ∷ a.after;
            split = a.split;
            loaded = subst (λ (now : List Step). All (Loaded parts now) a.before) (sym q)
                (still-at parts stops e h.last held a.before (parts-loaded parts a.before [] tt m.0));
            last = inr (
              a.at,
              a.after,
              refl,
              part-stopped e held a.at h.last a.last-is
                  (subst (λ (xs : List Candidate). Stopped stops e (keep [] xs) h.last) a.done-is h.because),
              omega (arith, h.count, no_pairs h.done h.last a),
            );
          }

      behind : BehindParts parts h.done → LoadedBefore stops e parts steps n
      behind b =
          let held = keep [] (map part parts) in
          let q : steps ≡ proof_at stops e (keep held b.more) h.last = h.proof
          ∙ ap (λ (xs : List Step). proof_at stops e xs h.last) (ap (keep []) b.done-is ∙ keep_append (map part parts) b.more []) in
          record {
            before = parts;
            after = [];
            split = sym (append-nil parts);
            loaded = subst (λ (now : List Step). All (Loaded parts now) parts) (sym q)
                (still-at parts stops e h.last (keep held b.more) parts
                (still parts b.more held parts (parts-loaded parts parts [] tt (members parts))));
            last = inl refl;
          }

  all-loaded : (state : State) → Exactly stops variables parts state → AllLoaded stops parts state
  unfolding steps_of
  all-loaded (running steps n) h =
      subst (λ (now : List Step). All (Loaded parts now) parts)
      (sym (h.proof ∙ keep_append (map part parts) (resolvents steps) []))
      (still parts (resolvents steps) (keep [] (map part parts)) parts (parts-loaded parts parts [] tt (members parts)))
  all-loaded (ended e steps n) h = ended-loaded e steps n h

  pub elimination-loads : AllLoaded stops parts (eliminate stops variables parts)
  elimination-loads = all-loaded (eliminate stops variables parts) (elimination-exactly stops variables parts)
