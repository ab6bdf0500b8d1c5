-- A line's tests by its words: coefficients, masks, relation.
use Rattle.std.specs.Prelude.{◌≡◌, refl, Bool, true, false, not, ◌&&◌, ◌||◌, List, [], ◌∷◌, ◌++◌, map, ℕ, zero, suc, ◌+◌, ◌/◌, ◌%◌, ◌^◌}
use Rattle.std.specs.Prelude.{◌≤◌, ◌<◌, ℤ, pos, eqb, length, get_or, replicate}
use Rattle.std.proofs.Common.{sym, ap, ◌∙◌, mod-lt, div-one, arith, SFits, of_z, to_z, to_z-of_z}
use Rattle.std.proofs.Math.Bool.{or_assoc, or-false}
use Rattle.std.proofs.Math.Option.{some}
use Rattle.std.proofs.Math.Dec.{eqb-suc-zero, eqb-suc-suc}
use Rattle.std.specs.Int.Bits.{bit_or}
use Rattle.std.specs.Int.Count.{count_trailing_zeros, under}
use Rattle.std.specs.Int.{w64}
use Rattle.rules_types.specs.Limits as limit
use Rattle.rules.specs.Lists.{any, tabulate}
use Rattle.rules.specs.Arithmetic.{is_zero}
use Rattle.rules.specs.Problem.{in_range}
use Rattle.rules.specs.Lines as rules
use Rattle.rules.specs.Lines.{Variable, rational, boolean, contains, coefficient, is_empty, no_constraint}
use Rattle.rules.specs.Steps.{row}
use Rattle.rules.specs.Elimination.{order_by, round_of, overflows}
use Rattle.theory_resolution.specs.Members.{has-union}
use Rattle.theory_resolution.specs.Variables.{contains-rational, contains-boolean}
use Rattle.theory_lists.specs.All.{get_or-replicate-same}
use Rattle.lines.specs.declared.order.Order.{Order}
use Rattle.lines.specs.declared.line.Line.{Line}
use Rattle.masks.specs.Mask.{bits, has-bits, union-bits, shifted, none-bits}
use Rattle.lines.specs.Order.{variables_of}
use Rattle.lines.specs.Line.{constraint_of, constraint_in, meaning, Shaped}

-- a relation, by its three numbers
pub relations : (P : ℕ → Type 0) (r : ℕ) → r ≤ 2 → P 0 → P 1 → P 2 → P r
relations P zero h a b c = a
relations P (suc zero) h a b c = b
relations P (suc (suc zero)) h a b c = c
relations P (suc (suc (suc r))) h a b c = absurd (omega arith)

-- ---- its constraint
pub constraint-at : (r : ℕ) (cs : List ℤ) (b : ℤ) → 0 < r → constraint_of r cs b ≡ some (record {
  strict = eqb r 2;
  coefficients = cs;
  bound = b;
})
unfolding constraint_of
constraint-at zero cs b h = absurd (omega arith)
constraint-at (suc r) cs b h = λ i. some (record { strict = sym (eqb-suc-suc r 1) i; coefficients = cs; bound = b })

pub constraint-is : (l : Line) → 0 < l.relation → (meaning l).constraint ≡ some (constraint_in l)
unfolding meaning
constraint-is l h = constraint-at l.relation l.coefficients l.bound h

coefficient-at : (r : ℕ) (cs : List ℤ) (b : ℤ) (f : ℕ) → (r ≡ 0 → cs ≡ replicate limit.rationals (pos 0))
    → coefficient f (constraint_of r cs b) ≡ get_or cs f (pos 0)
unfolding coefficient constraint_of
coefficient-at zero cs b f h = sym (get_or-replicate-same limit.rationals f (pos 0))
    ∙ ap (λ (s : List ℤ). get_or s f (pos 0)) (sym (h refl))
coefficient-at (suc r) cs b f h = refl

pub coefficient-is : (l : Line) → Shaped l → (f : ℕ) → coefficient f (meaning l).constraint ≡ get_or l.coefficients f (pos 0)
unfolding meaning
coefficient-is l h f = coefficient-at l.relation l.coefficients l.bound f h.coefficients

-- a test of a coefficient's machine word
pub coefficient-test : (t : ℤ → Bool) (l : Line) (f : ℕ) {r : Bool} → Shaped l → SFits w64 (get_or l.coefficients f (pos 0))
    → r ≡ t (to_z w64 (of_z w64 (get_or l.coefficients f (pos 0)))) → r ≡ t (coefficient f (meaning l).constraint)
coefficient-test t l f h w e = e ∙ ap t (to_z-of_z w ∙ sym (coefficient-is l h f))

none-at : (r : ℕ) (cs : List ℤ) (b : ℤ) → no_constraint (constraint_of r cs b) ≡ eqb r 0
unfolding no_constraint constraint_of
none-at zero cs b = refl
none-at (suc r) cs b = sym (eqb-suc-zero r)

pub empty-is : (l : Line) → l.positive < 2 ^ 32 → l.negative < 2 ^ 32 → is_empty (meaning l) ≡ eqb l.positive 0
    && eqb l.negative 0 && eqb l.relation 0
unfolding meaning is_empty
empty-is l h k =
    rw (
      none-bits limit.all_booleans l.positive h,
      none-bits limit.all_booleans l.negative k,
      none-at l.relation l.coefficients l.bound,
    )

-- ---- amounts
row_at : (r : ℕ) (cs : List ℤ) (b : ℤ) → (r ≡ 0 → cs ≡ replicate limit.rationals (pos 0)) → (r ≡ 0 → b ≡ pos 0)
    → row (constraint_of r cs b) ≡ cs ++ (b ∷ [])
unfolding row constraint_of
row_at zero cs b h k = rw (h refl, k refl)
row_at (suc r) cs b h k = refl

pub row_is : (l : Line) → Shaped l → row (meaning l).constraint ≡ l.coefficients ++ (l.bound ∷ [])
unfolding meaning
row_is l h = row_at l.relation l.coefficients l.bound h.coefficients h.bound

any_last : (t : ℤ → Bool) (zs : List ℤ) (z : ℤ) → any t (zs ++ (z ∷ [])) ≡ any t zs || t z
unfolding any
any_last t [] z = or-false (t z)
any_last t (y ∷ zs) z = rw (any_last t zs z) (sym (or_assoc (t y) (any t zs) (t z)))

pub overflows-is : (l : Line) → Shaped l → overflows (meaning l) ≡ any (λ z. not (in_range z)) l.coefficients || not (in_range l.bound)
unfolding overflows
overflows-is l h = rw (row_is l h) (any_last (λ z. not (in_range z)) l.coefficients l.bound)

-- ---- rounds
-- here, or one place on from where it is in the rest
abbrev pub here : Bool → ℕ → ℕ
here true rest = 0
here false rest = suc rest

-- the first round whose rational variable has a coefficient other than 0; without one, so many more
unfoldable pub leading : List ℕ → List ℤ → ℕ → ℕ
leading [] cs rest = rest
leading (f ∷ fs) cs rest = here (not (is_zero (get_or cs f (pos 0)))) (leading fs cs rest)

round-step : (v : Variable) (vs : List Variable) (l : rules.Line) → round_of (v ∷ vs) l ≡ here (contains v l) (round_of vs l)
unfolding round_of
round-step v vs l = by (contains v l)
  where
    by : (b : Bool) → ◌≡◌ {A = ℕ} (elim b [ true ↦ 0 | false ↦ suc (round_of vs l) ]) (here b (round_of vs l))
    by true = refl
    by false = refl

rounds-rational : (fs : List ℕ) (cs : List ℤ) (vs : List Variable) (l : rules.Line)
    → ((f : ℕ) → contains (rational f) l ≡ not (is_zero (get_or cs f (pos 0))))
    → round_of (map rational fs ++ vs) l ≡ leading fs cs (round_of vs l)
unfolding leading
rounds-rational [] cs vs l e = refl
rounds-rational (f ∷ fs) cs vs l e = round-step (rational f) (map rational fs ++ vs) l ∙ rw (e f, rounds-rational fs cs vs l e)

contains-bits : (l : Line) (i : ℕ) → i < limit.all_booleans
    → contains (boolean i) (meaning l) ≡ eqb (bit_or l.positive l.negative / 2 ^ i % 2) 1
unfolding meaning
contains-bits l i h =
    contains-boolean i (meaning l)
    ∙ sym (has-union (bits limit.all_booleans l.positive) (bits limit.all_booleans l.negative) i)
    ∙ ap (λ (s : rules.Booleans). get_or s i false) (union-bits limit.all_booleans l.positive l.negative)
    ∙ has-bits limit.all_booleans (bit_or l.positive l.negative) i h

rounds-boolean : (k : ℕ) (f : ℕ → Variable) (m : ℕ) (l : rules.Line) → ((i : ℕ) → i < k → contains (f i) l ≡ eqb (m / 2 ^ i % 2) 1)
    → round_of (tabulate k f) l ≡ count_trailing_zeros k m
unfolding tabulate round_of count_trailing_zeros
rounds-boolean zero f m l e = refl
rounds-boolean (suc k) f m l e =
    round-step (f 0) (tabulate k (λ i. f (suc i))) l
    ∙ rw (
      e 0 (omega arith),
      div-one m,
      rounds-boolean k (λ i. f (suc i)) (m / 2) l (λ i h. e (suc i) (omega arith) ∙ ap (λ (x : ℕ). eqb (x % 2) 1) (shifted m i)),
    )
    (by (m % 2) (mod-lt m (omega arith)))
  where
    by : (d : ℕ) → d < 2 → here (eqb d 1) (count_trailing_zeros k (m / 2)) ≡ under d (count_trailing_zeros k (m / 2))
    by zero h = refl
    by (suc zero) h = refl
    by (suc (suc d)) h = absurd (omega arith)

pub round_is : (o : Order) (l : Line) → Shaped l → round_of (variables_of o) (meaning l)
    ≡ leading o.rationals l.coefficients (count_trailing_zeros limit.all_booleans (bit_or l.positive l.negative))
unfolding variables_of order_by
round_is o l h =
    rounds-rational o.rationals l.coefficients (tabulate limit.all_booleans boolean) (meaning l)
    (λ f. contains-rational f (meaning l) ∙ ap (λ (z : ℤ). not (is_zero z)) (coefficient-is l h f))
    ∙ ap (λ (r : ℕ). leading o.rationals l.coefficients r)
    (rounds-boolean limit.all_booleans boolean (bit_or l.positive l.negative) (meaning l) (λ i k. contains-bits l i k))

-- where a scan has found it, and after all
pub leading_at : (fs : List ℕ) (cs : List ℤ) (t rest : ℕ) → ((k : ℕ) → k < t → not (is_zero (get_or cs (get_or fs k 0) (pos 0))) ≡ false)
    → t < length fs → not (is_zero (get_or cs (get_or fs t 0) (pos 0))) ≡ true → leading fs cs rest ≡ t
unfolding leading
leading_at [] cs t rest e h f = absurd (omega arith)
leading_at (g ∷ fs) cs zero rest e h f = rw f
leading_at (g ∷ fs) cs (suc t) rest e h f =
    rw (e 0 (omega arith)) (ap suc (leading_at fs cs t rest (λ k l. e (suc k) (omega arith)) (omega arith) f))

pub leading-none : (fs : List ℕ) (cs : List ℤ) (rest : ℕ)
    → ((k : ℕ) → k < length fs → not (is_zero (get_or cs (get_or fs k 0) (pos 0))) ≡ false) → leading fs cs rest ≡ length fs + rest
unfolding leading
leading-none [] cs rest e = omega arith
leading-none (g ∷ fs) cs rest e = let r = leading-none fs cs rest (λ k l. e (suc k) (omega arith)) in rw (e 0 (omega arith)) (omega arith)
