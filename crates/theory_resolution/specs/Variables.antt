-- A resolvent loses its variable and gains none.
use Rattle.std.specs.Prelude.{◌≡◌, refl, Bool, not, ◌||◌, ◌⊎◌, ◌∷◌, ℕ, zero, suc, ℤ, pos, negsuc, nat_abs, T, get_or}
use Rattle.std.proofs.Math.Logic.{inl, inr, ⊎_elim}
use Rattle.std.proofs.Math.Option.{Option, none, some}
use Rattle.std.specs.Int.Signed.{quot_z}
use Rattle.std.proofs.Math.Dec.{not_T}
use Rattle.std.proofs.Math.Facts.{or_yes}
use Rattle.theory_integers.specs.Quotient.{quot-zero}
use Rattle.theory_lists.specs.Tests.{split, clash, or_l, or_r}
use Rattle.rules.specs.Arithmetic.{gcd_all, is_positive, is_negative, is_zero}
use Rattle.rules.specs.Problem.{Constraint}
use Rattle.rules.specs.Lines.{Line, Variable, rational, boolean, union, coefficient, positively, negatively, contains}
use Rattle.rules.specs.Normalize.{settled, settled_line, reduced, normal_line}
use Rattle.rules.specs.Resolve.{combination, combination_of, one_of, resolvent, resolve}
use Rattle.theory_vectors.specs.Sign.{zero-yes, yes-zero}
use Rattle.theory_vectors.specs.Dot.{combine-zero}
use Rattle.theory_vectors.specs.Constraint.{get_or-quotients}
use Rattle.theory_vectors.specs.Combination.{combination-without}
use Rattle.theory_resolution.specs.Members.{has, union-has, excluded, excluding-has}
use Rattle.theory_lists.specs.Dropped.{DroppedOr, dropped-map}
use Rattle.theory_resolution.specs.Settled.{settled-cases}
use Rattle.theory_resolution.specs.NormalLine.{having, line-ends}

-- ---- a rational variable occurs where its coefficient is not 0
abbrev pub nonzero : ℤ → Bool
nonzero z = not (is_zero z)

signed : (z : ℤ) → is_positive z || is_negative z ≡ nonzero z
unfolding is_positive is_negative is_zero
signed (pos zero) = refl
signed (pos (suc n)) = refl
signed (negsuc n) = refl

pub contains-rational : (f : ℕ) (l : Line) → contains (rational f) l ≡ nonzero (coefficient f l.constraint)
unfolding contains positively negatively
contains-rational f l = signed (coefficient f l.constraint)

-- ---- a Boolean one, where it is a member
pub contains-boolean : (i : ℕ) (l : Line) → contains (boolean i) l ≡ has l.positive i || has l.negative i
unfolding contains positively negatively
contains-boolean i l = refl

-- ---- normalizing brings in none
abbrev pub Fewer : Line → Line → Type 0
Fewer l m = (w : Variable) → T (contains w m) → T (contains w l)

having-fewer : (l : Line) (o : Option Constraint)
    → ((f : ℕ) → T (nonzero (coefficient f o)) → T (nonzero (coefficient f l.constraint))) → Fewer l (having l o)
having-fewer l o g (rational f) h = rw (contains-rational f l) (g f (rw (contains-rational f (having l o)) at h))
having-fewer l o g (boolean i) h = rw (contains-boolean i l) (rw (contains-boolean i (having l o)) at h)

none-nonzero : (f : ℕ) {X : Type 0} → T (nonzero (coefficient f none)) → X
unfolding coefficient is_zero
none-nonzero f h = absurd h

-- a quotient of 0 is 0
reduced-nonzero : (c : Constraint) (f : ℕ) → T (nonzero (coefficient f (some (reduced c)))) → T (nonzero (coefficient f (some c)))
unfolding coefficient reduced
reduced-nonzero c f h =
    let g = gcd_all (c.bound ∷ c.coefficients) in
    let a = get_or c.coefficients f (pos 0) in
    not_T (is_zero a) (λ z. clash (is_zero (quot_z a (pos g))) (yes-zero (rw (zero-yes a z) (quot-zero g)))
    (rw (get_or-quotients g c.coefficients f) at h))

settled-fewer : (l : Line) (c : Constraint) → l.constraint ≡ some c → DroppedOr (Fewer l) (settled_line l (settled c))
unfolding settled_line
settled-fewer l c e =
    settled-cases (λ s. DroppedOr (Fewer l) (settled_line l s)) c (λ z r. tt) (λ z r. having-fewer l none (λ f h. none-nonzero f h))
    (λ z. having-fewer l (some (reduced c)) (λ f h. rw e (reduced-nonzero c f h)))

pub normal-line-variables : (l : Line) → DroppedOr (Fewer l) (normal_line l)
normal-line-variables l = line-ends (DroppedOr (Fewer l)) l (λ h. tt) (λ n e w h. h) (λ n c e. settled-fewer l c e)

-- ---- a resolvent has its parents' variables, but its own
combination-nonzero : (f g : ℕ) (u l : Option Constraint) → T (nonzero (coefficient g (combination_of f u l)))
    → T (nonzero (coefficient g u)) ⊎ T (nonzero (coefficient g l))
unfolding combination_of combination coefficient
combination-nonzero f g none l h = none-nonzero g h
combination-nonzero f g (some u) none h = none-nonzero g h
combination-nonzero f g (some u) (some l) h =
    let a = get_or u.coefficients g (pos 0) in
    let b = get_or l.coefficients g (pos 0) in
    let e = combine-zero (pos (nat_abs (get_or l.coefficients f (pos 0)))) u.coefficients
    (get_or u.coefficients f (pos 0)) l.coefficients g in
    ⊎_elim (λ p. ⊎_elim (λ q. clash (is_zero (coefficient g (some (combination f u l)))) (yes-zero (e (zero-yes a p) (zero-yes b q))) h)
    (λ q. inr q) (split (is_zero b))) (λ p. inl p) (split (is_zero a))

one-nonzero : (g : ℕ) (u l : Option Constraint) → T (nonzero (coefficient g (one_of u l))) → T (nonzero (coefficient g u))
    ⊎ T (nonzero (coefficient g l))
unfolding one_of
one-nonzero g none l h = inr h
one-nonzero g (some u) l h = inl h

-- of one sign, or of both
module _ (u l m : Line) (i : ℕ) where
  parents-boolean : (T (has m.positive i) → T (has u.positive i) ⊎ T (has l.positive i))
      → (T (has m.negative i) → T (has u.negative i) ⊎ T (has l.negative i))
      → T (contains (boolean i) m) → T (contains (boolean i) u) ⊎ T (contains (boolean i) l)
  unfolding contains positively negatively
  parents-boolean p n h =
      ⊎_elim (λ k. ⊎_elim (λ t. inl (or_l (has u.positive i) (has u.negative i) t))
      (λ t. inr (or_l (has l.positive i) (has l.negative i) t)) (p k))
      (λ k. ⊎_elim (λ t. inl (or_r (has u.positive i) (has u.negative i) t))
      (λ t. inr (or_r (has l.positive i) (has l.negative i) t)) (n k))
      (or_yes (has m.positive i) (has m.negative i) h)

  parents-rational : (T (nonzero (coefficient i m.constraint)) → T (nonzero (coefficient i u.constraint))
      ⊎ T (nonzero (coefficient i l.constraint)))
      → T (contains (rational i) m) → T (contains (rational i) u) ⊎ T (contains (rational i) l)
  parents-rational c h = rw (contains-rational i u, contains-rational i l) (c (rw (contains-rational i m) at h))

pub resolvent-variables : (v : Variable) (u l : Line) (w : Variable) → T (contains w (resolvent v u l))
    → T (contains w u) ⊎ T (contains w l)
unfolding resolvent
resolvent-variables (rational f) u l (rational g) =
    parents-rational u l (resolvent (rational f) u l) g (combination-nonzero f g u.constraint l.constraint)
resolvent-variables (boolean i) u l (rational g) =
    parents-rational u l (resolvent (boolean i) u l) g (one-nonzero g u.constraint l.constraint)
resolvent-variables (rational f) u l (boolean j) =
    parents-boolean u l (resolvent (rational f) u l) j (union-has u.positive l.positive j) (union-has u.negative l.negative j)
resolvent-variables (boolean i) u l (boolean j) =
    parents-boolean u l (resolvent (boolean i) u l) j
    (λ h. union-has u.positive l.positive j (excluding-has i (union u.positive l.positive) j h))
    (λ h. union-has u.negative l.negative j (excluding-has i (union u.negative l.negative) j h))

combination-zero : (f : ℕ) (u l : Option Constraint) → T (is_negative (coefficient f l)) → coefficient f (combination_of f u l) ≡ pos 0
unfolding combination_of combination coefficient
combination-zero f none l n = refl
combination-zero f (some u) none n = refl
combination-zero f (some u) (some l) n = combination-without f u.coefficients l.coefficients n

pub resolvent-without : (v : Variable) (u l : Line) → T (negatively v l) → T (not (contains v (resolvent v u l)))
unfolding resolvent negatively is_zero
resolvent-without (rational f) u l n =
    rw (contains-rational f (resolvent (rational f) u l), combination-zero f u.constraint l.constraint n) tt
resolvent-without (boolean i) u l n = rw (
  contains-boolean i (resolvent (boolean i) u l),
  excluded i (union u.positive l.positive),
  excluded i (union u.negative l.negative),
) tt

-- ---- so after it is normalized
pub resolve-variables : (v : Variable) (u l : Line)
    → DroppedOr (λ m. (w : Variable) → T (contains w m) → T (contains w u) ⊎ T (contains w l)) (resolve v u l)
unfolding resolve
resolve-variables v u l =
    dropped-map (Fewer (resolvent v u l)) (λ m. (w : Variable) → T (contains w m) → T (contains w u) ⊎ T (contains w l))
    (normal_line (resolvent v u l))
    (λ m f w h. resolvent-variables v u l w (f w h)) (normal-line-variables (resolvent v u l))

pub resolve-without : (v : Variable) (u l : Line) → T (negatively v l) → DroppedOr (λ m. T (not (contains v m))) (resolve v u l)
unfolding resolve
resolve-without v u l n =
    dropped-map (Fewer (resolvent v u l)) (λ m. T (not (contains v m))) (normal_line (resolvent v u l))
    (λ m f. not_T (contains v m) (λ h. clash (contains v (resolvent v u l)) (f v h) (resolvent-without v u l n)))
    (normal-line-variables (resolvent v u l))
