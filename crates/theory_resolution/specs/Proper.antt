-- Normalizing leaves no constant constraint and no common divisor: a constraint that a normal line has contains a rational variable, and
-- its coefficients and bound have no common divisor but 1.
use Rattle.std.specs.Prelude.{◌≡◌, refl, not, List, [], ◌∷◌, ℕ, zero, suc, ◌<◌, ℤ, pos, nat_abs, T, get_or}
use Rattle.std.proofs.Math.Option.{Option, none, some}
use Rattle.std.specs.Int.{◌∣◌}
use Rattle.std.proofs.Math.Nat.{dvd_antisymm, one-dvd}
use Rattle.std.specs.Int.Signed.{quot_z}
use Rattle.rules.specs.Lists.{all}
use Rattle.rules.specs.Arithmetic.{gcd_all, is_zero}
use Rattle.rules.specs.Problem.{Constraint}
use Rattle.rules.specs.Lines.{Line, Variable}
use Rattle.rules.specs.Normalize.{settled, settled_line, reduced, normal_line}
use Rattle.rules.specs.Resolve.{resolvent, resolve}
use Rattle.theory_vectors.specs.Sign.{is_zero-quot}
use Rattle.theory_vectors.specs.Gcd.{gcd_all-dvd, gcd_all-greatest, gcd_all-proper}
use Rattle.theory_vectors.specs.Constraint.{quotients, content-one}
use Rattle.theory_lists.specs.Dropped.{DroppedOr}
use Rattle.theory_resolution.specs.Settled.{settled-cases}
use Rattle.theory_resolution.specs.NormalLine.{line-ends}

-- a constraint, where there is one, has a coefficient that is not 0
abbrev pub Proper : Option Constraint → Type 0
Proper none = Unit {0}
Proper (some c) = T (not (all is_zero c.coefficients))

quotients-zero : (g : ℕ) (cs : List ℤ) → 0 < g → ((i : ℕ) → g ∣ nat_abs (get_or cs i (pos 0)))
    → all is_zero (quotients g cs) ≡ all is_zero cs
unfolding all
quotients-zero g [] z d = refl
quotients-zero g (c ∷ cs) z d = rw (is_zero-quot g c z (d 0), quotients-zero g cs z (λ i. d (suc i)))

pub reduced-proper : (c : Constraint) → Proper (some c) → Proper (some (reduced c))
unfolding reduced
reduced-proper c n =
    let cs = c.bound ∷ c.coefficients in
    rw (quotients-zero (gcd_all cs) c.coefficients (gcd_all-proper c.bound c.coefficients n) (λ i. gcd_all-dvd cs (suc i))) n

-- "divided by the greatest common divisor of coefficients and bound"
abbrev pub Divided : Option Constraint → Type 0
Divided none = Unit {0}
Divided (some c) = (d : ℕ) → d ∣ nat_abs c.bound → ((i : ℕ) → d ∣ nat_abs (get_or c.coefficients i (pos 0))) → d ≡ 1

common-one : (d : ℕ) (z : ℤ) (zs : List ℤ) → gcd_all (z ∷ zs) ≡ 1 → d ∣ nat_abs z → ((i : ℕ) → d ∣ nat_abs (get_or zs i (pos 0))) → d ≡ 1
common-one d z zs e h k = dvd_antisymm (rw e at (gcd_all-greatest d (z ∷ zs) each)) (one-dvd d)
  where
    each : (i : ℕ) → d ∣ nat_abs (get_or (z ∷ zs) i (pos 0))
    each zero = h
    each (suc i) = k i

pub reduced-divided : (c : Constraint) → Proper (some c) → Divided (some (reduced c))
unfolding reduced
reduced-divided c n d h k =
    let cs = c.bound ∷ c.coefficients in
    let g = gcd_all cs in
    common-one d (quot_z c.bound (pos g)) (quotients g c.coefficients)
    (content-one cs (gcd_all-proper c.bound c.coefficients n)) h k

abbrev DividedLine : Line → Type 0
DividedLine l = Divided l.constraint

settled-divided : (l : Line) (c : Constraint) → DroppedOr DividedLine (settled_line l (settled c))
unfolding settled_line
settled-divided l c = settled-cases (λ s. DroppedOr DividedLine (settled_line l s)) c (λ z r. tt) (λ z r. tt) (reduced-divided c)

pub resolve-divided : (v : Variable) (u l : Line) → DroppedOr DividedLine (resolve v u l)
unfolding resolve
resolve-divided v u l =
    line-ends (DroppedOr DividedLine) (resolvent v u l) (λ h. tt) (λ n e. rw e tt) (λ n c e. settled-divided (resolvent v u l) c)

abbrev pub ProperLine : Line → Type 0
ProperLine l = Proper l.constraint

settled-proper : (l : Line) (c : Constraint) → DroppedOr ProperLine (settled_line l (settled c))
unfolding settled_line
settled-proper l c = settled-cases (λ s. DroppedOr ProperLine (settled_line l s)) c (λ z r. tt) (λ z r. tt) (reduced-proper c)

pub normal-line-proper : (l : Line) → DroppedOr ProperLine (normal_line l)
normal-line-proper l = line-ends (DroppedOr ProperLine) l (λ h. tt) (λ n e. rw e tt) (λ n c e. settled-proper l c)

pub resolve-proper : (v : Variable) (u l : Line) → DroppedOr ProperLine (resolve v u l)
unfolding resolve
resolve-proper v u l = normal-line-proper (resolvent v u l)
