-- Normalizing a line, by tests on its words.
use Rattle.std.specs.Prelude.{◌≡◌, refl, Bool, true, false, not, cond, ◌&&◌, List, [], ◌∷◌, ℕ, zero, suc, ◌<◌, ℤ, pos, eqb, length, get_or}
use Rattle.std.proofs.Common.{sym, ap, ◌∙◌, arith}
use Rattle.std.proofs.Math.Option.{Option, none, some}
use Rattle.std.proofs.Math.Dec.{eqb-zero-suc, eqb-suc-suc}
use Rattle.rules_types.specs.Limits as limit
use Rattle.rules.specs.Lists.{all, tabulate}
use Rattle.rules.specs.Arithmetic.{is_zero, related}
use Rattle.rules.specs.Lines as rules
use Rattle.rules.specs.Lines.{meet}
use Rattle.rules.specs.Normalize.{settled, settled_line, normal_line}
use Rattle.theory_lists.specs.Tabulated.{length-tabulate}
use Rattle.theory_resolution.specs.NormalLine.{having}
use Rattle.theory_saturation.specs.Order.{rising}
use Rattle.lines.specs.declared.line.Line.{Line}
use Rattle.lines.specs.Line.{constraint_of, constraint_in, meaning}
use Rattle.lines.specs.Forms.{here, leading, constraint-is}
use Rattle.normalization.specs.declared.normalize.Normalized.{Normalized}
use Rattle.normalization.specs.Reduced.{reduced_line, reduced-line}

-- the line that is left, or none where it is dropped
unfoldable pub normalized : Normalized → Option rules.Line
normalized n = cond n.dropped none (some (meaning n.line))

pub normalized-dropped : (n : Normalized) → n.dropped ≡ true → normalized n ≡ none
unfolding normalized
normalized-dropped n e = rw e

pub normalized-left : (n : Normalized) → n.dropped ≡ false → normalized n ≡ some (meaning n.line)
unfolding normalized
normalized-left n e = rw e

-- ---- a row of zeros: no round is the first with another number
leading-last : (fs : List ℕ) (cs : List ℤ) → eqb (leading fs cs 0) (length fs) ≡ all (λ f. is_zero (get_or cs f (pos 0))) fs
unfolding leading all
leading-last [] cs = refl
leading-last (f ∷ fs) cs = by (is_zero (get_or cs f (pos 0))) (leading-last fs cs)
  where
    by : (z : Bool) → eqb (leading fs cs 0) (length fs) ≡ all (λ f. is_zero (get_or cs f (pos 0))) fs
        → eqb (here (not z) (leading fs cs 0)) (suc (length fs)) ≡ z && all (λ f. is_zero (get_or cs f (pos 0))) fs
    by true r = eqb-suc-suc (leading fs cs 0) (length fs) ∙ r
    by false r = eqb-zero-suc (length fs)

each-element : (p : ℕ → Bool) (n : ℕ) (f : ℕ → ℕ) (cs : List ℤ) → length cs ≡ n → ((i : ℕ) → p (f i) ≡ is_zero (get_or cs i (pos 0)))
    → all p (tabulate n f) ≡ all is_zero cs
unfolding all tabulate
each-element p zero f [] h e = refl
each-element p zero f (c ∷ cs) h e = absurd (omega arith)
each-element p (suc n) f [] h e = absurd (omega arith)
each-element p (suc n) f (c ∷ cs) h e = rw (e 0, each-element p n (λ i. f (suc i)) cs (omega arith) (λ i. e (suc i)))

pub zeros-leading : (cs : List ℤ) → length cs ≡ limit.rationals → eqb (leading rising cs 0) limit.rationals ≡ all is_zero cs
zeros-leading cs n =
    ap (λ (k : ℕ). eqb (leading rising cs 0) k) (sym (length-tabulate limit.rationals (λ f. f)))
    ∙ leading-last rising cs
    ∙ each-element (λ f. is_zero (get_or cs f (pos 0))) limit.rationals (λ f. f) cs n (λ i. refl)

-- ---- the ends of a line
module _ (l : Line) where
  pub normal-clash : meet (meaning l).positive (meaning l).negative ≡ true → normal_line (meaning l) ≡ none
  unfolding normal_line
  normal-clash m = rw (m, normal_line)

  module _ (m : meet (meaning l).positive (meaning l).negative ≡ false) where
    pub normal-plain : l.relation ≡ 0 → normal_line (meaning l) ≡ some (meaning l)
    unfolding meaning constraint_of normal_line
    normal-plain r =
        let e : (meaning l).constraint ≡ none = λ i. constraint_of (r i) l.coefficients l.bound in
        rw (m, normal_line, e) (λ i. some (having (meaning l) (e i)))

    module _ (r : 0 < l.relation) where
      normal-settled : normal_line (meaning l) ≡ settled_line (meaning l) (settled (constraint_in l))
      unfolding normal_line
      normal-settled = rw (m, normal_line, constraint-is l r)
          (λ i. settled_line (having (meaning l) (constraint-is l r i)) (settled (constraint_in l)))

      pub normal-reduced : all is_zero l.coefficients ≡ false → normal_line (meaning l) ≡ some (reduced_line (meaning l))
      unfolding settled settled_line
      normal-reduced z = normal-settled ∙ rw (z, settled) (ap some (sym (reduced-line (meaning l) (constraint_in l) (constraint-is l r))))

      module _ (z : all is_zero l.coefficients ≡ true) where
        pub normal-trivial : related (eqb l.relation 2) (pos 0) l.bound ≡ true → normal_line (meaning l) ≡ none
        unfolding settled settled_line
        normal-trivial t = normal-settled ∙ rw (z, t, settled)

        pub normal-struck : related (eqb l.relation 2) (pos 0) l.bound ≡ false
            → normal_line (meaning l) ≡ some (having (meaning l) none)
        unfolding settled settled_line
        normal-struck t = normal-settled ∙ rw (z, t, settled)
