-- Demand 2, sentence by sentence, about the definitions of the elimination and of the checks.
use Rattle.std.specs.Prelude.{◌≡◌, ◌↔◌, List, [], ℕ, ◌+◌, ◌≤◌, ◌<◌, ℤ, T, length, take}
use Rattle.std.proofs.Math.Option.{some}
use Rattle.std.proofs.Common.{arith}
use Rattle.std.proofs.Math.ListN.{get_elem?}
use Rattle.rules_types.specs.declared.answers.Checked.TheVariants.{Accepted}
use Rattle.rules_types.specs.declared.limits.Limits.{Limits}
use Rattle.rules_types.specs.declared.terms.Edition.{Edition}
use Rattle.rules_types.specs.declared.terms.Terms.{Terms}
use Rattle.rules_types.specs.Limits as limit
use Rattle.rules_types.specs.Answers.{answer_number, answer_value}
use Rattle.rules.specs.Lists.{all}
use Rattle.rules.specs.Problem.{Relation, le, lt, eq, ge, Clause, Problem, in_edition, relation_of}
use Rattle.rules.specs.Readings.{readings}
use Rattle.rules.specs.Meaning.{Assignment, compared, clause_holds, Satisfies}
use Rattle.rules.specs.Lines.{Line, Variable}
use Rattle.rules.specs.Split.{parts_of, splits_of}
use Rattle.rules.specs.Resolve.{resolve}
use Rattle.rules.specs.Steps.{Step}
use Rattle.rules.specs.Elimination.{Stops, State, running, order_after, order_of, drops, covered, round_pairs, loadable_of}
use Rattle.rules.specs.Elimination.{chosen_run, elimination}
use Rattle.rules.specs.Needs.{steps_of}
use Rattle.rules.specs.Model.{is_open}
use Rattle.rules.specs.Calls.{sound, read, solve, proof_checked, model_checked, evidence}
use Rattle.theory_lists.specs.All.{All, Any}
use Rattle.theory_lists.specs.Places.{element-all}
use Rattle.theory_saturation.specs.Order.{Ordered}
use Rattle.theory_saturation.specs.Taken.{problem-ordered}
use Rattle.theory_saturation.specs.Drops.{Subsumes, drops-exactly, covered-exactly}
use Rattle.theory_bytes.specs.Bytes.{AllBytes}
use Rattle.theory_bytes.specs.Relations.{relation-bytes}
use Rattle.theory_layout.specs.Offsets.{StatesModel}
use Rattle.theory_splitting.specs.EveryPart.{EveryPart, every-part}
use Rattle.theory_resolution.specs.Result.{IsResolvent, resolve-is}
use Rattle.theory_splitting.specs.WellFormed.{WellFormedClause, splits_in}
use Rattle.theory_splitting.specs.NormalClause.{reading_holds}
use Rattle.theory_splitting.specs.Readings.{Relates, compared-exactly, clause-readings}
use Rattle.theory_splitting.specs.PartsChosen.{Chosen}
use Rattle.theory_splitting.specs.SplitProblem.{StepsHold, splitting-keeps}
use Rattle.theory_splitting.specs.SplitsInto.{SplitsInto, splits-into, clause-splits}
use Rattle.theory_splitting.specs.Few.{splits-few}
use Rattle.theory_splitting.specs.Occurs.{open-exactly}
use Rattle.theory_splitting.specs.WellRead.{posed-well-formed}
use Rattle.theory_elimination.specs.Sound.{Sound}
use Rattle.theory_elimination.specs.Origins.{Each, Justified, Fresh, Distinct}
use Rattle.theory_elimination.specs.Chosen.{IsRunning, order-kept}
use Rattle.theory_elimination.specs.Cheapest.{Cheapest, before_round, problem-cheapest}
use Rattle.theory_elimination.specs.Costs.{Costs, costs}
use Rattle.theory_elimination.specs.InOrder.{InOrder, round-in-order}
use Rattle.theory_elimination.specs.Exactly.{Exactly}
use Rattle.theory_elimination.specs.Loaded.{AllLoaded}
use Rattle.promises.specs.Words.{WholeLines, Refutes, InNoClause, OpenVariables, WritesAssignment}
use Rattle.theory_elimination.specs.OfProblem.{elimination-lines, elimination-undropped, elimination-distinct, elimination-is}
use Rattle.theory_elimination.specs.OfProblem.{elimination-only, elimination-parts, elimination-normalized}
use Rattle.promises.specs.Checked.{model-exactly, accepted-opens}
use Rattle.promises.specs.Whole.{accepted-lines}
use Rattle.promises.specs.Handing.{hands}
use Rattle.promises.specs.HandedBack.{HandedBack, handed-after}
use Rattle.promises.specs.Demand1.{demand1}
use Rattle.promises.specs.Demand3.{demand3}

-- for Q, the problem that was read, in its edition: `p`
pub record Demand2 (edition : Edition) (input : List ℕ) (p : Problem) : Type 0 where
  -- "Our book is the course of the published Davis-Putnam and Fourier-Motzkin rules as 01 sets it out: each line is the clause or
  -- resolvent it names,": a part, the one that it names, or the resolvent of two earlier lines of its round; no earlier line
  -- drops one, no two are equal, and all are normalized: no Boolean variable in both signs, no constant constraint, no common divisor
  pub lines : (stops : Stops) → Each (Justified (order_of p) (loadable_of p)) [] (steps_of (elimination stops p))
  pub parts : EveryPart p (loadable_of p)
  pub splits : (c : Clause) → All (λ l. l.boolean < limit.all_booleans) c.literals → length c.comparisons ≤ limit.comparisons
      → (k : ℕ) → k ≤ limit.booleans → SplitsInto k c (parts_of k c) (splits_of c)
  pub pieces : (n : ℕ) (c : Clause) → get_elem? p.clauses n ≡ some c
      → let k = p.booleans + splits_in (take n p.clauses) in SplitsInto k c (parts_of k c) (splits_of c)
  -- (i): "Relation 3 shall mean =, 4 ≥"; "satisfaction is meant with the new relations"; a clause, as it is written, holds exactly if each
  -- of its readings does; and an assignment satisfies the problem exactly if some values of the split variables make every part hold
  pub bytes : (relation_of 1 ≡ le) × (relation_of 2 ≡ lt) × (relation_of 3 ≡ eq) × (relation_of 4 ≡ ge)
  pub relations : (ρ : Relation) (a b : ℤ) → T (compared ρ a b) ↔ Relates ρ a b
  pub readings : (χ : Assignment) (n : ℕ) (c : Clause) → get_elem? p.clauses n ≡ some c
      → clause_holds χ c ≡ all (reading_holds χ) (readings c)
  pub splitting : (χ : Assignment) → 1 ≤ χ.denominator → Satisfies χ p
      ↔ Chosen χ p.booleans (p.booleans + splits_in p.clauses) (λ ψ. StepsHold ψ (loadable_of p))
  pub resolvents : (v : Variable) (u l : Line) → IsResolvent v u l (resolve v u l)
  pub undropped : (stops : Stops) → Each Fresh [] (steps_of (elimination stops p))
  pub distinct : (stops : Stops) → Each Distinct [] (steps_of (elimination stops p))
  pub normalized : (stops : Stops) → All (λ s. Sound s.line) (steps_of (elimination stops p))
  -- "and none is left out.": the lines are exactly the parts and resolvents in 01's order, without those that normalizing or an
  -- earlier one drops, up to the one that ended it; the pairs are the resolvents counted; and no other proof is that
  pub exactly : (stops : Stops) → Exactly stops (order_of p) (loadable_of p) (elimination stops p)
  pub only : (stops : Stops) (other : State) → Exactly stops (order_of p) (loadable_of p) other → other ≡ elimination stops p
  -- the words of that: a round for each variable, "turns 0 to 7 belong to the figures and 8 to 39 to the marks"; the order of a round's
  -- pairs; which lines an earlier one drops, those that (viii) names and no others; every part before the end is loaded
  pub rounds : Ordered (order_of p)
  -- (vii): "At each figure turn take the remaining figure with the least U × L - U - L", of the lines held where the elimination comes to
  -- the turn, with or without limits; which lines U and L count; and "the order taken is kept with the run", for the walk where it ends
  -- without an empty line
  pub cheapest : (stops : Stops) (t : ℕ) → t < p.rationals → (steps : List Step) (n : ℕ)
      → before_round stops p t ≡ running steps n → Cheapest p.rationals (order_of p) t steps
  pub costs : (taken : List ℕ) (steps : List Step) (f : ℕ) → Costs taken steps f
  pub kept : (stops : Stops) → IsRunning (elimination stops p) → order_after (chosen_run stops p).taken ≡ order_of p
  pub in_order : (v : Variable) (t : ℕ) (steps : List Step) → InOrder (order_of p) v t steps (round_pairs (order_of p) v t steps)
  pub dropping : (earlier l : Line) → T (drops earlier l) ↔ Subsumes earlier l
  pub covering : (l : Line) (steps : List Step) → T (covered l steps) ↔ Any (λ s. T (drops s.line l)) steps
  pub loaded : (stops : Stops) → AllLoaded stops (loadable_of p) (elimination stops p)
  -- (iv): which Boolean variables are open
  pub opens : (i : ℕ) → T (is_open p i) ↔ InNoClause p i
  -- "The check accepts a book exactly if its lines follow and the last is empty, a sheet exactly if every clause holds,"
  pub proof : (limits : Limits) → limits.steps ≤ limit.most_steps → (bytes : List ℕ) → AllBytes bytes
      → proof_checked (record { limits = limits; edition = edition }) input bytes ≡ Accepted
      ↔ ((k : ℕ) × WholeLines limits (length bytes) k × Refutes (loadable_of p) k bytes)
  pub model : (limits : Limits) (bytes : List ℕ) → model_checked (record { limits = limits; edition = edition }) input bytes ≡ Accepted
      ↔ WritesAssignment p bytes
  -- (iv): "An accepted sheet with a 2 satisfies the question with either value."
  pub either : (limits : Limits) (bytes : List ℕ) → model_checked (record { limits = limits; edition = edition }) input bytes ≡ Accepted
      → (χ : Assignment) → StatesModel bytes p.booleans p.rationals (is_open p) χ → OpenVariables p bytes χ

pub demand2 : (edition : Edition) (input : List ℕ) (q : Problem) → read input ≡ sound q → Demand2 edition input (in_edition edition q)
demand2 edition input q e = let p = in_edition edition q in record {
  lines = elimination-lines p;
  parts = every-part p;
  splits = λ c w few k h. splits-into c w k (omega (arith, splits-few c limit.comparisons few));
  pieces = clause-splits p (posed-well-formed edition input q e);
  bytes = relation-bytes;
  relations = compared-exactly;
  readings = λ χ n c h.
      let w = (posed-well-formed edition input q e).clauses in
      clause-readings χ c (element-all (WellFormedClause p.booleans p.rationals) p.clauses n c h w).single;
  splitting = splitting-keeps p (posed-well-formed edition input q e);
  resolvents = resolve-is;
  undropped = elimination-undropped p;
  distinct = elimination-distinct p;
  normalized = λ stops. elimination-normalized p stops (posed-well-formed edition input q e);
  exactly = elimination-is p;
  only = elimination-only p;
  rounds = problem-ordered p (posed-well-formed edition input q e).rationals;
  cheapest = λ stops. problem-cheapest stops p;
  costs = costs;
  kept = λ stops. order-kept stops p;
  in_order = round-in-order (order_of p);
  dropping = drops-exactly;
  covering = covered-exactly;
  loaded = elimination-parts p;
  opens = open-exactly p;
  proof = λ limits few bytes b. accepted-lines (record { limits = limits; edition = edition }) input q e bytes b few;
  model = λ limits. model-exactly (record { limits = limits; edition = edition }) input q e;
  either = λ limits. accepted-opens (record { limits = limits; edition = edition }) input q e;
}

-- "so every non-empty part our solver hands back.": with its own answer, and what it left in the buffers
pub handed-back : (terms : Terms) → terms.limits.steps ≤ limit.most_steps → (input proof model : List ℕ)
    → let ours = solve terms input proof model in
    HandedBack terms input ours
    (evidence terms.limits (answer_number ours.solved.answer) (answer_value ours.solved.answer) ours.proof ours.model)
handed-back terms few input proof model =
    let ours = solve terms input proof model in
    handed-after terms input proof model ours (demand1 terms input proof model)
    (λ p e full. demand3 terms few input p e proof model full) _
    (hands terms.limits (answer_number ours.solved.answer) (answer_value ours.solved.answer) ours.proof ours.model)
