-- The parts of a clause put behind one another: what is left of them, and how many there are.
use Rattle.std.specs.Prelude.{◌≡◌, refl, Bool, true, false, ℕ, suc, ◌+◌, ◌≤◌, length}
use Rattle.std.proofs.Common.{sym, ◌∙◌, add-one, arith, length-append}
use Rattle.std.proofs.Math.Path.{ap}
use mathlib.Core.List.{List, [], ◌∷◌, ◌++◌}
use Rattle.rules_types.specs.declared.limits.Limits.{Limits}
use Rattle.rules.specs.Problem.{Clause}
use Rattle.rules.specs.Readings.{reading, has_equality}
use Rattle.rules.specs.Lines as rules
use Rattle.rules.specs.Split.{reading_parts, reading_splits, parts_of, splits_of}
use Rattle.rules.specs.Steps.{Step, loaded}
use Rattle.rules.specs.Checker.{variable_named}
use Rattle.rules.specs.Elimination.{Stops, State, running, ended, limited, part_steps, add, load}
use Rattle.theory_splitting.specs.Count.{parts-length}
use Rattle.theory_splitting.specs.Twice.{parts-once, parts_twice}
use Rattle.problem_scan.specs.Values.{clause_at}
use Rattle.theory_elimination.specs.States.{load-ended}
use Rattle.lines.specs.declared.line.Line.{Line}
use Rattle.lines.specs.Line.{meaning}
use Rattle.problem_parts.specs.declared.parts.Parts.{Parts}
use Rattle.problem_parts.specs.Parts.{parts_from, SoundParts}
use Rattle.problem_parts.specs.Part.{from-none}
use Rattle.placing.specs.declared.point.Progress.TheVariants.{Running}
use Rattle.placing.specs.declared.point.Point.{Point}
use Rattle.steps.specs.declared.origin.Step as words
use Rattle.steps.specs.Origin.{loaded_by, origin_of}
use Rattle.steps.specs.Held.{steps_in}
use Rattle.placing.specs.Point.{state_of, state_at, Standing, Leads, leads-none, leads-trans, is_running, running-yes, ended-stays, Reaches}
use Rattle.placing.specs.Point.{added}

-- part j of a clause as a step
abbrev pub part_step : ℕ → ℕ → Line → words.Step
part_step clause j l = record { origin = loaded_by clause j; line = l }

-- these parts of clause `clause`, the first of which is part `number`, are put behind one another, from a point on
abbrev pub LoadsParts : Limits → ℕ → ℕ → List rules.Line → List ℕ → Point → List ℕ → Point → Type 0
LoadsParts limits clause number parts before from after p =
    Reaches limits before from after p (load (limited limits) (part_steps clause number parts) (state_at before from))

-- those that are left of a reading
abbrev pub LoadsFrom : Limits → List ℕ → ℕ → ℕ → ℕ → Parts → List ℕ → Point → List ℕ → Point → Type 0
LoadsFrom limits q r clause number first = LoadsParts limits clause number (parts_from q r first)

-- all of the clause at a place
abbrev pub LoadsClause : Limits → List ℕ → ℕ → ℕ → ℕ → ℕ → List ℕ → Point → List ℕ → Point → Type 0
LoadsClause limits q r at split clause = LoadsParts limits clause 0 (parts_of split (clause_at q r at))

-- ---- an end stays
pub load-stays : (limits : Limits) (ss : List Step) (proof : List ℕ) (p : Point) → is_running p.progress ≡ false
    → state_at proof p ≡ load (limited limits) ss (state_at proof p)
load-stays limits ss = ended-stays (load (limited limits) ss) (λ e steps n. load-ended (limited limits) e steps n ss)

-- ---- at the loop's test
-- the parts that are left come to what all of them come to
pub record AtPart (limits : Limits) (q : List ℕ) (r clause number : ℕ) (first : Parts) (start : List ℕ) (from : Point) (proof : List ℕ)
    (p : Point) (rest : Parts) (j : ℕ) : Type 0 where
  pub going : p.progress ≡ Running
  pub sound : SoundParts q r rest
  pub leads : Leads limits start from.steps proof p.steps
  pub few : j + length (parts_from q r rest) ≤ number + length (parts_from q r first)
  pub same : load (limited limits) (part_steps clause j (parts_from q r rest)) (state_at proof p)
      ≡ load (limited limits) (part_steps clause number (parts_from q r first)) (state_at start from)

module _ {limits : Limits} {q : List ℕ} {r clause number : ℕ} {first : Parts} {start : List ℕ} {from : Point} where
  pub parts-start : from.progress ≡ Running → Standing limits start from.steps → SoundParts q r first
      → AtPart limits q r clause number first start from start from first number
  parts-start g s c = record { going = g; sound = c; leads = leads-none s; few = omega arith; same = refl }

  module _ {proof : List ℕ} {p : Point} {rest : Parts} {j : ℕ} (at : AtPart limits q r clause number first start from proof p rest j) where
    pub parts-done : rest.more ≡ false → LoadsFrom limits q r clause number first start from proof p
    unfolding part_steps load
    parts-done e =
        record {
          is = ap (λ (ls : List rules.Line). load (limited limits) (part_steps clause j ls) (state_at proof p))
              (sym (from-none q r rest e)) ∙ at.same;
          leads = at.leads;
        }

    module _ (l : Line) (next : Parts) (more : parts_from q r rest ≡ meaning l ∷ parts_from q r next)
        {after : List ℕ} {x : Point} (reaches : Reaches limits proof p after x (added limits proof p (part_step clause j l))) where
      one_less : j + 1 + length (parts_from q r next) ≤ number + length (parts_from q r first)
      one_less = omega (arith, at.few, ap length more)

      tried : load (limited limits) (part_steps clause (j + 1) (parts_from q r next)) (state_at after x)
          ≡ load (limited limits) (part_steps clause number (parts_from q r first)) (state_at start from)
      unfolding state_at state_of part_steps load origin_of variable_named
      tried =
          ap (load (limited limits) (part_steps clause (j + 1) (parts_from q r next))) reaches.is
          ∙ ap (λ (k : ℕ). load (limited limits) (part_steps clause k (parts_from q r next))
          (added limits proof p (part_step clause j l))) (add-one j)
          ∙ (λ i. load (limited limits) (part_steps clause j (sym more i))
          (state_of (sym at.going i) (steps_in proof p.steps) p.pairs))
          ∙ at.same

      pub parts_next : is_running x.progress ≡ true → SoundParts q r next
          → AtPart limits q r clause number first start from after x next (j + 1)
      parts_next g c = record {
        going = running-yes x.progress g;
        sound = c;
        leads = leads-trans at.leads reaches.leads;
        few = one_less;
        same = tried;
      }

      pub parts-ended : is_running x.progress ≡ false → LoadsFrom limits q r clause number first start from after x
      parts-ended g = record {
        is = load-stays limits (part_steps clause (j + 1) (parts_from q r next)) after x g ∙ tried;
        leads = leads-trans at.leads reaches.leads;
      }

-- ---- one reading after another
pub load-append : (stops : Stops) (xs ys : List Step) (state : State) → load stops (xs ++ ys) state ≡ load stops ys (load stops xs state)
unfolding load
load-append stops [] ys state = refl
load-append stops (x ∷ xs) [] (ended e steps n) = refl
load-append stops (x ∷ xs) (y ∷ ys) (ended e steps n) = refl
load-append stops (x ∷ xs) ys (running steps n) = load-append stops xs ys (add stops false x steps n)

part_steps-append : (c j : ℕ) (ls ms : List rules.Line) → part_steps c j (ls ++ ms) ≡ part_steps c j ls ++ part_steps c (j + length ls) ms
unfolding part_steps
part_steps-append c j [] ms = let e : j ≡ j + 0 = omega arith in ap (λ (i : ℕ). part_steps c i ms) e
part_steps-append c j (l ∷ ls) ms =
    let e : suc j + length ls ≡ j + suc (length ls) = omega arith in
    ap (λ (ss : List Step). record { origin = loaded c j; line = l } ∷ ss)
    (part_steps-append c (suc j) ls ms ∙ ap (λ (i : ℕ). part_steps c (suc j) ls ++ part_steps c i ms) e)

module _ (q : List ℕ) (r at split clause : ℕ) where
  abbrev here : Clause
  here = clause_at q r at

  abbrev first : List rules.Line
  first = reading_parts split (reading false here)

  abbrev second : List rules.Line
  second = reading_parts (split + reading_splits (reading false here)) (reading true here)

  -- few parts in either
  pub first-few : length first ≤ 2 + splits_of here
  first-few = by (has_equality here.comparisons) refl
    where
      by : (t : Bool) → has_equality here.comparisons ≡ t → length first ≤ 2 + splits_of here
      by true e = omega (arith, parts-length split here, ap length (parts_twice here e split), length-append first second)
      by false e = omega (arith, parts-length split here, ap length (parts-once here e split))

  pub both-few : has_equality here.comparisons ≡ true → length first + length second ≤ 2 + splits_of here
  both-few e = omega (arith, parts-length split here, ap length (parts_twice here e split), length-append first second)

  module _ {limits : Limits} {before middle : List ℕ} {from x : Point}
      (reaches : LoadsParts limits clause 0 first before from middle x) where
    -- it is read once
    pub clause-once : has_equality here.comparisons ≡ false → LoadsClause limits q r at split clause before from middle x
    clause-once e = record {
      is = reaches.is ∙ ap (λ (ls : List rules.Line). load (limited limits) (part_steps clause 0 ls) (state_at before from))
          (sym (parts-once here e split));
      leads = reaches.leads;
    }

    two : (e : has_equality here.comparisons ≡ true) → load (limited limits) (part_steps clause (length first) second) (state_at middle x)
        ≡ load (limited limits) (part_steps clause 0 (parts_of split here)) (state_at before from)
    two e =
        let z : length first ≡ 0 + length first = omega arith in
        ap (load (limited limits) (part_steps clause (length first) second)) reaches.is
        ∙ sym (load-append (limited limits) (part_steps clause 0 first) (part_steps clause (length first) second) (state_at before from))
        ∙ ap (λ (n : ℕ). load (limited limits) (part_steps clause 0 first ++ part_steps clause n second) (state_at before from)) z
        ∙ ap (λ (ss : List Step). load (limited limits) ss (state_at before from)) (sym (part_steps-append clause 0 first second))
        ∙ ap (λ (ls : List rules.Line). load (limited limits) (part_steps clause 0 ls) (state_at before from))
        (sym (parts_twice here e split))

    -- an end in the first reading is that of the clause
    pub clause-stays : is_running x.progress ≡ false → LoadsClause limits q r at split clause before from middle x
    clause-stays g = by (has_equality here.comparisons) refl
      where
        by : (t : Bool) → has_equality here.comparisons ≡ t → LoadsClause limits q r at split clause before from middle x
        by true e = record {
          is = load-stays limits (part_steps clause (length first) second) middle x g ∙ two e;
          leads = reaches.leads;
        }
        by false e = clause-once e

    -- it is read twice
    pub clause-twice : has_equality here.comparisons ≡ true → {after : List ℕ} {y : Point} (number : ℕ) (ls : List rules.Line)
        → number ≡ length first → ls ≡ second → LoadsParts limits clause number ls middle x after y
        → LoadsClause limits q r at split clause before from after y
    clause-twice e number ls n h then = record {
      is = then.is ∙ (λ i. load (limited limits) (part_steps clause (n i) (h i)) (state_at middle x)) ∙ two e;
      leads = leads-trans reaches.leads then.leads;
    }
