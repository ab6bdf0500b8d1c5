-- In a proof that the check accepts the parents of a step stand before it; and there is a step, and the bytes are whole steps.
use Rattle.std.specs.Prelude.{◌≡◌, true, false, ◌&&◌, List, ℕ, ◌*◌, ◌%◌, ◌-◌, ◌≤◌, ◌<◌, T, eqb, leb, length, take}
use Rattle.std.proofs.Common.{sym, ap, ◌∙◌, ⊎_elim, leb→le, eqb→eq, length-take}
use native.Mathlib.Omega.{arith}
use Rattle.std.proofs.Math.Facts.{and_yes}
use Rattle.rules_types.specs.declared.answers.Refusal.TheVariants as refusal
use Rattle.rules_types.specs.declared.answers.Checked.TheVariants.{Accepted}
use Rattle.rules_types.specs.declared.limits.Limits.{Limits}
use Rattle.rules_types.specs.declared.terms.Terms.{Terms}
use Rattle.rules_types.specs.Limits as limit
use Rattle.rules_types.specs.Layout as layout
use Rattle.rules.specs.Bytes.{to_bytes, from_bytes, field_at, padded}
use Rattle.rules.specs.Problem.{Problem, in_edition}
use Rattle.rules.specs.Lines.{Line}
use Rattle.rules.specs.Steps.{Step, resolved, header, header_bytes, encode_step, step_at}
use Rattle.rules.specs.Elimination.{loadable_of}
use Rattle.rules.specs.Calls.{whole_steps, proof_checked}
use Rattle.rules.specs.Checker.{check_proof}
use Rattle.rules.specs.Trim.{is_loaded, step_count}
use Rattle.theory_lists.specs.Tests.{split, is_false}
use Rattle.theory_lists.specs.All.{all_any}
use Rattle.theory_lists.specs.Places.{element-below}
use Rattle.theory_bytes.specs.Headers.{how-back, parents}
use Rattle.theory_splitting.specs.Named.{PartAmong, loadable-parts}
use Rattle.theory_checks.specs.Following.{ResolventIn, WrittenAs, stated-written}
use Rattle.theory_checks.specs.ProofChecked.{refused-not, checked-proof}
use Rattle.theory_trimming.specs.AcceptedLines.{accepted-lines}

pub record Ordered (proof : List ℕ) : Type 0 where
  pub parents : (k : ℕ) → k < step_count proof → is_loaded (step_at proof k) ≡ false
      → (field_at layout.step_first 2 (step_at proof k) < k) × (field_at layout.step_second 2 (step_at proof k) < k)

-- ---- the bytes of a part are loaded
pub part-loaded : (p : Problem) (s : Step) → PartAmong 0 p.booleans p.clauses s → is_loaded (encode_step s) ≡ true
unfolding is_loaded header
part-loaded p s h = rw (how-back s, h.part.origin)

-- ---- two bytes hold no more than the number that was written
module _ (s : Step) where
  first-most : field_at layout.step_first 2 (encode_step s) ≤ (header s.origin).first
  unfolding field_at from_bytes to_bytes encode_step padded header_bytes
  first-most = omega arith

  second-most : field_at layout.step_second 2 (encode_step s) ≤ (header s.origin).second
  unfolding field_at from_bytes to_bytes encode_step padded header_bytes
  second-most = omega arith

-- the parents of a resolvent are earlier lines
resolvent-ordered : (bytes : List ℕ) (earlier : List Line) (l : Line) → ResolventIn (WrittenAs bytes) earlier l
    → (field_at layout.step_first 2 bytes < length earlier) × (field_at layout.step_second 2 bytes < length earlier)
resolvent-ordered bytes earlier l r =
    let s : Step = record { origin = resolved r.variable r.first r.second; line = l } in
    let n = parents r.variable r.first r.second in
    let a = element-below earlier r.first r.upper r.at_first in
    let b = element-below earlier r.second r.lower r.at_second in
    rw (← r.written) (omega (arith, first-most s, second-most s))

pub accepted-ordered : (p : Problem) (proof : List ℕ) → check_proof p proof ≡ Accepted → Ordered proof
accepted-ordered p proof a = record { parents = before }
  where
    before : (k : ℕ) → k < step_count proof → is_loaded (step_at proof k) ≡ false
        → (field_at layout.step_first 2 (step_at proof k) < k) × (field_at layout.step_second 2 (step_at proof k) < k)
    before k h n =
        let x = accepted-lines p proof a in
        let l = x.each k h in
        let bytes = step_at proof k in
        let earlier = take k x.lines in
        ⊎_elim (λ m. all_any (PartAmong 0 p.booleans p.clauses) (λ s. WrittenAs bytes s × (s.line ≡ l.0)) (loadable_of p)
        (λ s q e. absurd (let d = sym (part-loaded p s q) ∙ ap is_loaded e.0 ∙ n in let z : ◌≡◌ {A = ℕ} 0 1 = cc in omega arith))
        (loadable-parts p) m)
        (λ r. let o = resolvent-ordered bytes earlier l.0 r in omega (arith, length-take k x.lines))
        (stated-written bytes l.0 earlier (loadable_of p) l.2)

pub accepted-some : (p : Problem) (proof : List ℕ) → check_proof p proof ≡ Accepted → 1 ≤ step_count proof
accepted-some p proof a =
    let x = accepted-lines p proof a in
    let e = x.ends in
    omega (arith, element-below x.lines (length x.lines - 1) e.0 e.1, x.size)

-- ---- of the call
pub record Trimmable (limits : Limits) (proof : List ℕ) : Type 0 where
  pub whole : length proof ≡ limit.step_bytes * step_count proof
  pub some : 1 ≤ step_count proof
  pub few : step_count proof ≤ limits.steps
  pub ordered : Ordered proof

accepted-whole : (terms : Terms) (input proof : List ℕ) → proof_checked terms input proof ≡ Accepted
    → T (whole_steps terms.limits (length proof))
unfolding proof_checked
accepted-whole terms input proof a =
    let c = checked-proof terms input proof a in
    let whole = whole_steps terms.limits (length proof) in
    ⊎_elim (λ t. t)
    (λ t. absurd (refused-not refusal.ProofLength (length proof) (rw (c.reads, proof_checked, is_false whole t) at a))) (split whole)

pub accepted-trimmable : (terms : Terms) (input proof : List ℕ) → proof_checked terms input proof ≡ Accepted
    → Trimmable terms.limits proof
unfolding whole_steps step_count
accepted-trimmable terms input proof a =
    let c = checked-proof terms input proof a in
    let p = in_edition terms.edition c.problem in
    let n = length proof in
    let most = limit.proof_bytes terms.limits in
    let t = and_yes (leb limit.step_bytes n && leb n most) (eqb (n % limit.step_bytes) 0) (accepted-whole terms input proof a) in
    let u = and_yes (leb limit.step_bytes n) (leb n most) t.0 in
    let least = leb→le limit.step_bytes n u.0 in
    let greatest = leb→le n most u.1 in
    let whole = eqb→eq (n % limit.step_bytes) 0 t.1 in
    record { whole = omega arith; some = omega arith; few = omega arith; ordered = accepted-ordered p proof c.accepted }
