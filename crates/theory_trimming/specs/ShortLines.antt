-- The lines of a trimmed proof are the lines of the whole one at the needed steps, and each still follows: a part has the same bytes, and a
-- resolvent the same parents, which stand at their new numbers.
use Rattle.std.specs.Prelude.{◌≡◌, List, ℕ, ◌-◌, ◌≤◌, ◌<◌, T, length, get_or, take}
use Rattle.std.proofs.Common.{sym, ap, ◌∙◌, subst, inl, inr, ⊎_elim, arith, length-take}
use Rattle.std.proofs.Math.Option.{some}
use Rattle.std.proofs.Math.ListN.{get_elem?}
use Rattle.rules_types.specs.declared.limits.Limits.{Limits}
use Rattle.rules_types.specs.Limits as limit
use Rattle.rules.specs.Lists.{tabulate}
use Rattle.rules.specs.Problem.{Problem}
use Rattle.rules.specs.Lines.{Line}
use Rattle.rules.specs.Steps.{Step, step_at}
use Rattle.rules.specs.Elimination.{loadable_of}
use Rattle.rules.specs.Trim.{is_loaded, step_count, needed, trimmed}
use Rattle.theory_lists.specs.All.{All, Any, all_any}
use Rattle.theory_lists.specs.Tabulated.{length-tabulate, element-tabulate, all-tabulate}
use Rattle.theory_bytes.specs.Lines.{Encodable, AllEncodable}
use Rattle.theory_splitting.specs.Named.{PartAmong, loadable-parts}
use Rattle.theory_checks.specs.EndsEmpty.{EndsEmpty}
use Rattle.theory_checks.specs.Following.{ResolventIn, WrittenAs, FollowsAs, stated-written, written-stated}
use Rattle.theory_trimming.specs.Statements.{Parent}
use Rattle.theory_trimming.specs.Elements.{element-take, element-get_or, front-all}
use Rattle.theory_trimming.specs.AcceptedLines.{StatedAt, AcceptedLines}
use Rattle.theory_trimming.specs.LinesEncodable.{line-encodable}
use Rattle.theory_trimming.specs.Ordered.{part-loaded, Trimmable}
use Rattle.theory_trimming.specs.Count.{old-at}
use Rattle.theory_trimming.specs.StepFields.{loaded-how}
use Rattle.theory_trimming.specs.ResolventStep.{resolvent-first, resolvent-second, resolvent-how}
use Rattle.theory_trimming.specs.WithParents.{with_parents, with-written}
use Rattle.theory_trimming.specs.Needed.{needed-last, needed-below, needed-parent}
use Rattle.theory_trimming.specs.Trimmed.{number_of, short_count, trimmed-count, last-number, number-below, trimmed-few, loaded-same}
use Rattle.theory_trimming.specs.Trimmed.{parents-below, resolved-with}
use Rattle.theory_trimming.specs.Short.{old_of, old-of}

module _ (p : Problem) (known : AllEncodable (loadable_of p)) {limits : Limits} {proof : List ℕ} (c : Trimmable limits proof)
    (most : limits.steps ≤ limit.most_steps) (x : AcceptedLines p proof) where
  abbrev parts : List Step
  parts = loadable_of p

  abbrev lines : List Line
  lines = x.lines

  abbrev line_at : ℕ → Line
  line_at j = get_or lines j x.ends.0

  abbrev short_lines : List Line
  short_lines = tabulate (short_count proof) (λ i. line_at (old_of proof i))

  -- ---- each comes back from its bytes
  short-encodable : All Encodable short_lines
  short-encodable = all-tabulate Encodable (short_count proof) (λ i. line_at (old_of proof i))
      (λ i h. line-encodable p known x (old_of proof i) (old-at (needed proof) (step_count proof) i h).below x.ends.0)

  -- ---- each at its new number
  short-at : (j : ℕ) → T (needed proof j) → (l : Line) → get_elem? lines j ≡ some l → get_elem? short_lines (number_of proof j) ≡ some l
  short-at j t l e =
      element-tabulate (short_count proof) (λ i. line_at (old_of proof i)) (number_of proof j) (number-below c j t)
      ∙ ap (λ (i : ℕ). some (line_at i)) (old-of c most j t) ∙ ap some (element-get_or lines j l x.ends.0 e)

  module _ (j : ℕ) (t : T (needed proof j)) (l : Line) where
    abbrev i : ℕ
    i = number_of proof j

    -- a line before it, too
    short-before : (a : ℕ) (u : Line) → T (needed proof a) → a < j → number_of proof a < i → get_elem? (take j lines) a ≡ some u
        → get_elem? (take i short_lines) (number_of proof a) ≡ some u
    short-before a u s b n e =
        element-take i short_lines (number_of proof a) n ∙ short-at a s u (sym (element-take j lines a b) ∙ e)

    part-follows : Any (λ s. WrittenAs (step_at proof j) s × (s.line ≡ l)) parts → step_at (trimmed proof) i ≡ step_at proof j
    part-follows m = loaded-same c j t (loaded-how proof j (all_any (PartAmong 0 p.booleans p.clauses)
        (λ s. WrittenAs (step_at proof j) s × (s.line ≡ l)) parts (λ s q e. sym (ap is_loaded e.0) ∙ part-loaded p s q)
        (loadable-parts p) m))

    resolvent-follows : ResolventIn (WrittenAs (step_at proof j)) (take j lines) l
        → ResolventIn (WrittenAs (step_at (trimmed proof) i)) (take i short_lines) l
    resolvent-follows r =
        let m = length-take j lines in
        let b = needed-below c j t in
        let few : length (take j lines) ≤ limit.most_steps = omega (arith, c.few) in
        let how = resolvent-how proof j (take j lines) few l r in
        let first = resolvent-first proof j (take j lines) few l r in
        let second = resolvent-second proof j (take j lines) few l r in
        let one : Parent proof j r.first = (how, inl first) in
        let two : Parent proof j r.second = (how, inr second) in
        let one-needed = needed-parent c j r.first t one in
        let two-needed = needed-parent c j r.second t two in
        let one-before = parents-below c j t how r.first one in
        let two-before = parents-below c j t how r.second two in
        record {
          variable = r.variable;
          first = number_of proof r.first;
          second = number_of proof r.second;
          upper = r.upper;
          lower = r.lower;
          at_first = short-before r.first r.upper one-needed one-before.0 one-before.1 r.at_first;
          at_second = short-before r.second r.lower two-needed two-before.0 two-before.1 r.at_second;
          positive = r.positive;
          negative = r.negative;
          allowed = r.allowed;
          result = r.result;
          fits = r.fits;
          written =
              sym (with-written (number_of proof r.first) (number_of proof r.second) r.variable r.first r.second l)
              ∙ (λ k. with_parents (number_of proof (sym first k)) (number_of proof (sym second k)) (r.written k))
              ∙ sym (resolved-with c j t how);
        }

    step-stated : get_elem? lines j ≡ some l → FollowsAs parts (take j lines) (step_at proof j) l
        → StatedAt parts (trimmed proof) short_lines i
    step-stated e f = (
      l,
      short-at j t l e,
      written-stated parts known (take i short_lines) (omega (arith, number-below c j t, trimmed-few c, c.few, length-take i short_lines))
          (front-all Encodable i short_lines short-encodable) (step_at (trimmed proof) i) l
          (⊎_elim (λ m. inl (rw (part-follows m) m)) (λ r. inr (resolvent-follows r)) f),
    )

  -- ---- so the check accepts them
  short-ends : EndsEmpty short_lines
  short-ends =
      let n = length-tabulate (short_count proof) (λ i. line_at (old_of proof i)) in
      let e : length short_lines - 1 ≡ number_of proof (step_count proof - 1) = omega (arith, n, last-number c) in
      let q : length lines - 1 ≡ step_count proof - 1 = omega (arith, x.size) in (
        x.ends.0,
        ap (get_elem? short_lines) e ∙ short-at (step_count proof - 1) (needed-last c) x.ends.0 (sym (ap (get_elem? lines) q) ∙ x.ends.1),
        x.ends.2,
      )

  pub short-lines : AcceptedLines p (trimmed proof)
  short-lines =
      record {
        lines = short_lines;
        size = length-tabulate (short_count proof) (λ i. line_at (old_of proof i)) ∙ sym (trimmed-count c);
        each = λ k h.
            let r = old-at (needed proof) (step_count proof) k (omega (arith, trimmed-count c)) in
            let j = old_of proof k in
            let s = x.each j r.below in
            subst (StatedAt parts (trimmed proof) short_lines) r.number
            (step-stated j r.kept s.0 s.1 (stated-written (step_at proof j) s.0 (take j lines) parts s.2));
        ends = short-ends;
      }
