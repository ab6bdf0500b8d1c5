-- Several of one kind, one after another, judged by the fields of all.
use Rattle.std.specs.Prelude.{◌≡◌, List, [], ◌∷◌, ◌++◌, map, length}
use Rattle.std.proofs.Math.Path.{refl}
use Rattle.std.proofs.Common.{sym, ap, arith}
use Prim.Native.Nat.{ℕ, zero, suc, ◌+◌}
use Rattle.rules.specs.Lists.{concat}
use Rattle.rules.specs.Problem.{Reader, after, return, repeat}
use Rattle.rules.specs.Written.{Field, bytes_of}
use Rattle.theory_lists.specs.All.{All}
use Rattle.theory_reading.specs.Follows.{Outcome, done, Follows}
use Rattle.theory_reading.specs.Judged.{Judged, finish, then-judged, last-judged, renamed-judged}

-- so many, each made so
abbrev pub Made : {W : Type 0} → (W → Type 0) → ℕ → List W → Type 0
Made P k ws = (length ws ≡ k) × All P ws

module _ {A W : Type 0} where
  -- each where the one before it ends
  abbrev pub means : (ℕ → W → A) → (W → List Field) → ℕ → List W → List A
  means m xs place [] = []
  means m xs place (w ∷ ws) = m place w ∷ means m xs (place + length (bytes_of (xs w))) ws

  -- ---- none
  pub none-judged : (P : W → Type 0) (all : List W → List Field) (mean : ℕ → List W → List A)
      → all [] ≡ []
      → ((place : ℕ) → mean place [] ≡ [])
      → Judged (return []) all (Made P 0) (λ place ws. return (mean place ws))
  none-judged P all mean f m = record {
    reads = λ input h place. record {
      written = [];
      made = (refl, tt);
      fits = rw f tt;
      outcome = done input place;
      follows = rw f refl;
      is = rw (m place);
    };
    back = λ ws p h input place o k. none ws p.0 input place o k;
  }
    where
      none : (ws : List W) → length ws ≡ 0 → (input : List ℕ) (place : ℕ) (o : Outcome) → Follows (all ws) input place o
          → return [] input place ≡ finish (return (mean place ws)) o
      none [] e input place o k = let d : o ≡ done input place = rw f at k in rw (d, m place)
      none (w ∷ ws) e input place o k = absurd (omega arith)

  -- ---- one, then the others, which may depend on it
  pub more-judged : {one : Reader A} {xs : W → List Field} {P : W → Type 0} {m : ℕ → W → A} (others : A → Reader (List A))
      {ys : W → List W → List Field} {tail : W → ℕ → List W → List A} {k : ℕ}
      → Judged one xs P (λ place w. return (m place w))
      → ((place : ℕ) (w : W) → P w → Judged (others (m place w)) (ys w) (Made P k) (λ place ws. return (tail w place ws)))
      → (all : List W → List Field) (mean : ℕ → List W → List A)
      → ((w : W) (ws : List W) → all (w ∷ ws) ≡ xs w ++ ys w ws)
      → ((place : ℕ) (w : W) (ws : List W) → mean place (w ∷ ws) ≡ m place w ∷ tail w (place + length (bytes_of (xs w))) ws)
      → Judged (λ bytes place. after (one bytes place) (λ x bytes place. after (others x bytes place) (λ xs. return (x ∷ xs))))
      all (Made P (suc k)) (λ place ws. return (mean place ws))
  more-judged {m = m} others j rest all mean fields lasts =
      renamed-judged
      (then-judged _ j (λ place w p. last-judged (λ l. m place w ∷ l) (rest place w p)))
      _ _ _
      (λ w p. record {
        name = w.0 ∷ w.1;
        made = (ap suc p.1.0, (p.0, p.1.1));
        fields = fields w.0 w.1;
        lasts = λ place. rw (lasts place w.0 w.1);
      })
      (elim [
        | [] ↦ λ p. absurd (omega arith)
        | w ∷ ws ↦ λ p. record {
          name = (w, ws);
          made = (p.1.0, (omega arith, p.1.1));
          fields = sym (fields w ws);
          lasts = λ place. rw (lasts place w ws);
        }
      ])

  pub repeat-judged : {one : Reader A} {xs : W → List Field} {P : W → Type 0} {m : ℕ → W → A}
      → Judged one xs P (λ place w. return (m place w))
      → (k : ℕ)
      → Judged (repeat k one) (λ ws. concat (map xs ws)) (Made P k) (λ place ws. return (means m xs place ws))
  unfolding repeat concat
  repeat-judged {P = P} j zero = none-judged P _ _ refl (λ place. refl)
  repeat-judged j (suc k) =
      more-judged _ j (λ place w p. repeat-judged j k) _ _ (λ w ws. refl) (λ place w ws. refl)

  -- where the place does not matter
  pub list-judged : {one : Reader A} {xs : W → List Field} {P : W → Type 0} {m : W → A} → Judged one xs P (λ place w. return (m w))
      → (k : ℕ)
      → Judged (repeat k one) (λ ws. concat (map xs ws)) (Made P k) (λ place ws. return (map m ws))
  unfolding repeat concat
  list-judged {P = P} j zero = none-judged P _ _ refl (λ place. refl)
  list-judged {m = m} j (suc k) =
      more-judged {m = λ place. m} _ j (λ place w p. list-judged j k) _ _ (λ w ws. refl) (λ place w ws. refl)
