-- What a step's bytes state: the line of a step that was computed, if all its bytes are that step's.
use Rattle.std.specs.Prelude.{◌≡◌, refl, true, false, List, [], ◌∷◌, ℕ, ◌<◌, pos, length, replicate}
use Rattle.std.proofs.Common.{sym, ◌∙◌, arith}
use Rattle.std.proofs.Math.Path.{ap}
use Rattle.std.proofs.Math.Option.{Option, none, some}
use Rattle.std.proofs.Math.Dec.{eqb, eqb→eq}
use Rattle.rules_types.specs.Limits as limit
use Rattle.rules.specs.Lists.{same}
use Rattle.rules.specs.Lines as rules
use Rattle.rules.specs.Steps.{Header, Step, header}
use Rattle.rules.specs.Checker.{line_among}
use Rattle.theory_lists.specs.Tests.{of-true}
use Rattle.theory_lists.specs.Equal.{same-yes}
use Rattle.theory_vectors.specs.Amounts.{zeros-amounts}
use Rattle.lines.specs.Line.{meaning, Ready}
use Rattle.steps.specs.Encoding.{encoded, encode_step-is}
use Rattle.steps.specs.Decoding.{decoded, decoded-encoded}
use Rattle.step_check.specs.declared.compare.Stated.{Stated}

unfoldable pub line_found : Stated → Option rules.Line
line_found s = elim s.found [ true ↦ some (meaning s.line) | false ↦ none ]

pub record Holds (o : Option rules.Line) (s : Stated) : Type 0 where
  pub line : line_found s ≡ o
  pub ready : Ready s.line

-- where it is found, the bytes say that line
pub record States (o : Option rules.Line) (bytes : List ℕ) (s : Stated) : Type 0 where
  pub line : line_found s ≡ o
  pub ready : Ready s.line
  pub back : s.found ≡ true → decoded bytes ≡ s.line

-- the line, if these are the bytes of its step with this header
unfoldable pub matched : Header → List ℕ → Option rules.Line → Option rules.Line
matched h bytes none = none
matched h bytes (some l) = elim (same eqb (encoded h l) bytes) [ true ↦ some l | false ↦ none ]

-- as the check asks it of one step
pub among_one : (s : Step) (bytes : List ℕ) → line_among (s ∷ []) bytes ≡ matched (header s.origin) bytes (some s.line)
unfolding line_among matched
among_one s bytes = rw (encode_step-is s, line_among)

pub found-is : (s : Stated) → s.found ≡ true → line_found s ≡ some (meaning s.line)
unfolding line_found
found-is s e = rw (e, line_found)

pub unfound-is : (s : Stated) → s.found ≡ false → line_found s ≡ none
unfolding line_found
unfound-is s e = rw (e, line_found)

pub states-none : {o : Option rules.Line} (bytes : List ℕ) (s : Stated) → Holds none s → o ≡ none → States o bytes s
states-none bytes s h e =
    record {
      line = h.line ∙ sym e;
      ready = h.ready;
      back = λ t.
          let f = found-is s t in
          let g = h.line in
          let z : ◌≡◌ {A = ℕ} 0 1 = cc in
          absurd (omega arith);
    }

-- ---- compared
module _ (h : Header) (bytes : List ℕ) (s : Stated) where
  pub matched-unfound : s.found ≡ false → matched h bytes (line_found s) ≡ none
  unfolding matched
  matched-unfound e = rw (unfound-is s e)

  module _ (e : s.found ≡ true) where
    pub matched-other : same eqb (encoded h (meaning s.line)) bytes ≡ false → matched h bytes (line_found s) ≡ none
    unfolding matched
    matched-other n = rw (found-is s e, n, matched)

    pub matched-same : Ready s.line → length s.line.coefficients ≡ limit.rationals → s.line.positive < 4294967296
        → s.line.negative < 4294967296
        → same eqb (encoded h (meaning s.line)) bytes ≡ true → States (matched h bytes (line_found s)) bytes s
    unfolding matched
    matched-same r n p q y =
        record {
          line = rw (found-is s e, y, matched);
          ready = r;
          back = λ t. ap decoded
              (sym (same-yes eqb eqb→eq (encoded h (meaning s.line)) bytes (of-true (same eqb (encoded h (meaning s.line)) bytes) y)))
              ∙ decoded-encoded h s.line r n p q;
        }

-- the line without literal and constraint
pub empty-ready : Ready (record {
  positive = 0;
  negative = 0;
  relation = 0;
  coefficients = replicate limit.rationals (pos 0);
  bound = pos 0;
})
empty-ready =
    record {
      shaped = record { related = omega arith; coefficients = λ e. refl; bound = λ e. refl };
      coefficients = zeros-amounts limit.rationals;
      bound = omega arith;
    }
