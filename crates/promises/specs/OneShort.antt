-- The promise says which bytes the short proof has: whoever keeps it says as many steps, and writes the same bytes.
use Rattle.std.specs.Prelude.{◌≡◌, refl, List, ◌++◌, ℕ, ◌+◌, ◌*◌, ◌-◌, ◌≤◌, ◌<◌, length, take, drop}
use Rattle.std.proofs.Common.{sym, ap, ◌∙◌, ⊎_elim, arith, take-append-drop, take-take}
use Rattle.rules_types.specs.declared.answers.Refusal.{Refusal}
use Rattle.rules_types.specs.declared.answers.Refusal.TheVariants as refusal
use Rattle.rules_types.specs.declared.answers.Checked.{Checked}
use Rattle.rules_types.specs.declared.answers.Checked.TheVariants as checked
use Rattle.rules_types.specs.declared.answers.Trimmed.TheVariants.{Steps, Refused}
use Rattle.rules_types.specs.declared.terms.Terms.{Terms}
use Rattle.rules_types.specs.Limits as limit
use Rattle.rules.specs.Bytes.{padded}
use Rattle.rules.specs.Calls.{proof_checked}
use Rattle.rules.specs.Trim.{trimmed, Trimming, trim}
use Rattle.theory_lists.specs.All.{all_append}
use Rattle.theory_bytes.specs.Bytes.{AllBytes, bytes-padded}
use Rattle.theory_layout.specs.Fields.{take-bytes, drop-bytes}
use Rattle.theory_checks.specs.ProofChecked.{checked-proof}
use Rattle.theory_trimming.specs.Statements.{ShortProof}
use Rattle.theory_trimming.specs.OneShort.{below_or, run, one-count, one-short}
use Rattle.theory_trimming.specs.TrimmedBytes.{trimmed-bytes}
use Rattle.promises.specs.Words.{WholeLines}
use Rattle.promises.specs.Whole.{accepted-lines}
use Rattle.promises.specs.Checks.{one_answer}
use Rattle.promises.specs.Trimming.{Trims, Shortens}
use Rattle.promises.specs.TrimmingKept.{written, shortens}

module _ {terms : Terms} {input proof : List ℕ} {n m : ℕ} {a b : List ℕ} (x : Trims terms input proof n a) (y : Trims terms input proof m b)
    (ba : AllBytes a) (bb : AllBytes b) (k : ℕ) (w : WholeLines terms.limits (length proof) k) where
  -- what the two leave as short proofs
  abbrev s : ShortProof proof k (take (limit.step_bytes * n) a) n
  s = x.short k w

  abbrev t : ShortProof proof k (take (limit.step_bytes * m) b) m
  t = y.short k w

  pub same_count : n ≡ m
  same_count = one-count s t (take-bytes (64 * n) a ba) (take-bytes (64 * m) b bb)

  -- and the zeros behind them
  pub same_bytes : limit.proof_bytes terms.limits ≤ length a → limit.proof_bytes terms.limits ≤ length b
      → take (limit.proof_bytes terms.limits) a ≡ take (limit.proof_bytes terms.limits) b
  same_bytes ha hb = ⊎_elim zeros (λ h. sym (take-take room (64 * n) a h) ∙ ap (take room) front ∙ take-take room (64 * n) b h)
      (below_or (64 * n) room)
    where
      room : ℕ
      room = limit.proof_bytes terms.limits

      front : take (64 * n) a ≡ take (64 * n) b
      front = one-short s t (take-bytes (64 * n) a ba) (take-bytes (64 * m) b bb) ∙ ap (λ (i : ℕ). take (64 * i) b) (sym same_count)

      zeros : 64 * n < room → take room a ≡ take room b
      zeros h =
          let i : 64 * n + (room - 64 * n) ≡ room = omega arith in
          let e = same_count in
          rw i at (run a b ba bb (64 * n) (room - 64 * n) (omega arith) (omega arith)
          (λ j l. x.unused (64 * n + j) (omega arith) (omega arith) ∙ sym (y.unused (64 * n + j) (omega arith) (omega arith))) front)

-- ---- and whoever keeps the promise of trimming says and writes what the definition does
module _ (terms : Terms) (few : terms.limits.steps ≤ limit.most_steps) (input proof lent : List ℕ) (are_input : AllBytes input)
    (are : AllBytes proof) (ours : Trimming) (left : AllBytes ours.target) (keeps : Shortens terms input proof lent ours) where
  abbrev theirs : Trimming
  theirs = trim terms input proof lent

  abbrev room : ℕ
  room = limit.proof_bytes terms.limits

  known : Shortens terms input proof lent theirs
  known = shortens terms few input proof lent are_input are

  abbrev answer : Checked
  answer = proof_checked terms input proof

  ours-says : keeps.says ≡ answer
  ours-says = one_answer terms few input proof are keeps.checks

  theirs-says : known.says ≡ answer
  theirs-says = one_answer terms few input proof are known.checks

  both : ours.trimmed ≡ theirs.trimmed → ours.target ≡ theirs.target → ours ≡ theirs
  both t o = λ i. record { trimmed = t i; target = o i }

  both-refused : (f : Refusal) (place : ℕ) → ours.trimmed ≡ Refused f place → theirs.trimmed ≡ Refused f place
      → ours ≡ theirs
  both-refused f place x y = both (x ∙ sym y) (keeps.untouched f place x ∙ sym (known.untouched f place y))

  both-trimmed : room ≤ length lent → answer ≡ checked.Accepted → ours ≡ theirs
  both-trimmed h a =
      let c = checked-proof terms input proof a in
      let w = (accepted-lines terms input c.problem c.reads proof are few).0 a in
      let i = (keeps.accepted h).1 (ours-says ∙ a) in
      let j = (known.accepted h).1 (theirs-says ∙ a) in
      let x = keeps.trims i.0 i.1 in
      let y = known.trims j.0 j.1 in
      let beyond = keeps.beyond ∙ sym known.beyond in
      let bytes : AllBytes theirs.target =
      rw (written terms few input proof lent are_input are h a, ← keeps.beyond)
      (all_append (λ n. n < 256) (padded room (trimmed proof)) (drop room ours.target)
      (bytes-padded room (trimmed proof) (trimmed-bytes proof are)) (drop-bytes room ours.target left)) in
      let front = same_bytes x y left bytes w.0 w.1 (omega (arith, keeps.size)) (omega (arith, known.size)) in
      both (i.1 ∙ ap Steps (same_count x y left bytes w.0 w.1) ∙ sym j.1)
      (sym (take-append-drop room ours.target) ∙ (λ k. front k ++ beyond k) ∙ take-append-drop room theirs.target)

  pub same-shortening : ours ≡ theirs
  same-shortening = ⊎_elim
      (λ h. both-refused refusal.ShortProof 0 (keeps.space.1 h) (known.space.1 h))
      (λ h. by h answer refl) (below_or (length lent) room)
    where
      by : room ≤ length lent → (c : Checked) → answer ≡ c → ours ≡ theirs
      by h checked.Accepted a = both-trimmed h a
      by h (checked.Fails n) a =
          let x = (keeps.fails h n).1 (ours-says ∙ a) in
          let y = (known.fails h n).1 (theirs-says ∙ a) in
          both (x ∙ sym y) (keeps.fails_untouched n x ∙ sym (known.fails_untouched n y))
      by h (checked.Refused f place) a =
          both-refused f place ((keeps.refused h f place).1 (ours-says ∙ a)) ((known.refused h f place).1 (theirs-says ∙ a))
