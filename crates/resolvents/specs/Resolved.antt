-- What normalizing leaves of a resolvent, in machine words.
use Rattle.std.proofs.Math.Path.{◌≡◌, sym, ap}
use Rattle.std.proofs.Common.{◌∙◌, arith}
use Rattle.std.specs.Prelude.{true, false, cond, ℕ}
use Rattle.std.proofs.Math.Option.{Option, none, some}
use Rattle.rules.specs.Lines as rules
use Rattle.rules.specs.Elimination.{overflows}
use Rattle.lines.specs.declared.line.Line.{Line}
use Rattle.lines.specs.Line.{meaning, Shaped, Ready}
use Rattle.lines.specs.Ready.{narrow-ready}
use Rattle.resolvents.specs.declared.resolve.Status.{Status}
use Rattle.resolvents.specs.declared.resolve.Status.TheVariants.{Dropped, Overflows, Made}
use Rattle.resolvents.specs.declared.resolve.Resolved.{Resolved}

-- "wide if an amount exceeds 1,000,000,000 in size"
unfoldable pub status_of : Option rules.Line → Status
status_of none = Dropped
status_of (some l) = cond (overflows l) Overflows Made

-- the line that is left
unfoldable pub line_of : Status → Line → Option rules.Line
line_of Dropped l = none
line_of Overflows l = some (meaning l)
line_of Made l = some (meaning l)

pub record Gives (o : Option rules.Line) (r : Resolved) : Type 0 where
  pub status : r.status ≡ status_of o
  pub line : line_of r.status r.line ≡ o
  pub shaped : Shaped r.line
  pub ready : r.status ≡ Made → Ready r.line

module _ {o : Option rules.Line} (l : Line) (h : Shaped l) where
  pub gives-dropped : none ≡ o → Gives o (record { status = Dropped; line = l })
  unfolding status_of line_of
  gives-dropped e = record {
    status = ap status_of e;
    line = e;
    shaped = h;
    ready = λ k. let z : ◌≡◌ {A = ℕ} 0 1 = cc in absurd (omega arith);
  }

  module _ (e : some (meaning l) ≡ o) where
    status-is : status_of o ≡ cond (overflows (meaning l)) Overflows Made
    unfolding status_of
    status-is = sym (ap status_of e)

    pub gives-overflow : overflows (meaning l) ≡ true → Gives o (record { status = Overflows; line = l })
    unfolding line_of
    gives-overflow w = record {
      status = sym (status-is ∙ rw w);
      line = e;
      shaped = h;
      ready = λ k. let z : ◌≡◌ {A = ℕ} 0 1 = cc in absurd (omega arith);
    }

    pub gives_made : overflows (meaning l) ≡ false → Gives o (record { status = Made; line = l })
    unfolding line_of
    gives_made w = record { status = sym (status-is ∙ rw w); line = e; shaped = h; ready = λ k. narrow-ready l h w }
