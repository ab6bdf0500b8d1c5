-- Uppers and lowers, counted line by line.
use Rattle.std.specs.Prelude.{◌≡◌, Bool, not, ◌&&◌, ◌||◌, ℤ, pos, ◌-ℤ◌, ◌*ℤ◌, eqb, leb, get_or, set, take}
use Rattle.std.proofs.Math.Path.{refl, sym, ap, subst⁻¹}
use Rattle.std.proofs.Common.{◌∙◌, subst, ⊎_elim, le-leb, length-set, get_or-set_same, get_or-set_other, SFits}
use Rattle.std.proofs.Math.Bool.{true, false}
use mathlib.Core.List.{List, [], ◌∷◌, ◌++◌, map}
use Prim.Native.Nat.{ℕ, zero, suc, ◌+◌, ◌^◌, ◌≤◌, ◌<◌}
use native.Mathlib.Omega.{arith}
use Rattle.std.proofs.lemmas.Bool.{lt-leb}
use Rattle.std.proofs.Math.Dec.{leb-zero, leb-suc-zero, leb-suc-suc}
use Rattle.std.proofs.Math.ListN.{length, length-append}
use Rattle.std.specs.Int.{w64}
use Rattle.std.proofs.Math.Facts.{eqb_yes, eqb_no}
use Rattle.rules_types.specs.Limits as limit
use Rattle.rules.specs.Lists.{any, filter, tabulate}
use Rattle.rules.specs.Arithmetic.{is_positive, is_negative}
use Rattle.rules.specs.Lines as rules
use Rattle.rules.specs.Lines.{Variable, rational, boolean, positively, negatively, contains}
use Rattle.rules.specs.Steps.{Step}
use Rattle.rules.specs.Elimination.{order_by, round_of, without, count, cost_of, cost}
use Rattle.theory_lists.specs.Tests.{split}
use Rattle.theory_lists.specs.All.{filter-append}
use Rattle.theory_lists.specs.Tabulated.{tabulate-snoc}
use Rattle.theory_integers.specs.Size.{abs-minus-≤, abs-*-≤}
use Rattle.machine.specs.Signed.{fits-size}
use Rattle.lines.specs.declared.line.Line.{Line}
use Rattle.lines.specs.Line.{meaning, Shaped}
use Rattle.lines.specs.Forms.{coefficient-is}
use Rattle.steps.specs.Places.{step_at}
use Rattle.steps.specs.Lines.{line_at}
use Rattle.steps.specs.Held.{step_from, steps_in, length-steps_in}
use Rattle.choosing.specs.declared.counts.Counts.{Counts}

unfoldable pub one : Bool → ℕ
one true = 1
one false = 0

-- a count and one more are a word
pub one_more : (n m r : ℕ) (b : Bool) → r ≡ one b → n ≡ m → m ≤ limit.most_steps → n + r < 2 ^ 32
unfolding one
one_more n m r true e h k = omega arith
one_more n m r false e h k = omega arith

unfoldable pub cost_at : Counts → ℕ → ℤ
cost_at c f = cost_of (get_or c.uppers f 0) (get_or c.lowers f 0)

-- no count is above n
abbrev pub Within : ℕ → Counts → Type 0
Within n c = (f : ℕ) → f < limit.rationals → (get_or c.uppers f 0 ≤ n) × (get_or c.lowers f 0 ≤ n)

-- with a line more, for each rational variable
abbrev pub CountedOne : rules.Line → Counts → Counts → Type 0
CountedOne l c d = (f : ℕ) → f < limit.rationals
    → (get_or d.uppers f 0 ≡ get_or c.uppers f 0 + one (positively (rational f) l))
    × (get_or d.lowers f 0 ≡ get_or c.lowers f 0 + one (negatively (rational f) l))

-- those of these steps
abbrev pub Counted : List ℕ → List Step → Counts → Type 0
Counted taken steps c = (f : ℕ) → f < limit.rationals
    → (get_or c.uppers f 0 ≡ count positively taken steps f) × (get_or c.lowers f 0 ≡ count negatively taken steps f)

pub counted-cost : (taken : List ℕ) (steps : List Step) (c : Counts) → Counted taken steps c → (f : ℕ) → f < limit.rationals
    → cost_at c f ≡ cost taken steps f
unfolding cost_at cost
counted-cost taken steps c h f k = λ i. cost_of ((h f k).0 i) ((h f k).1 i)

-- ---- one step more
module _ (side : Variable → rules.Line → Bool) (taken : List ℕ) where
  abbrev counts : ℕ → Step → Bool
  counts f s = without taken s.line && side (rational f) s.line

  count_next : (steps : List Step) (s : Step) (f : ℕ) → count side taken (steps ++ (s ∷ [])) f ≡ count side taken steps f + one (counts f s)
  unfolding count filter one
  count_next steps s f =
      ap length (filter-append (counts f) steps (s ∷ []))
      ∙ length-append (filter (counts f) steps) (filter (counts f) (s ∷ []))
      ∙ ap (λ (n : ℕ). length (filter (counts f) steps) + n) (by (counts f s))
    where
      by : (b : Bool) → length {A = Step} (elim b [ true ↦ s ∷ [] | false ↦ [] ]) ≡ one b
      by true = refl
      by false = refl

  count_none : (f : ℕ) → count side taken [] f ≡ 0
  unfolding count filter
  count_none f = refl

  count-within : (steps : List Step) (f : ℕ) → count side taken steps f ≤ length steps
  unfolding count filter
  count-within [] f = omega arith
  count-within (s ∷ steps) f = by (counts f s) (count-within steps f)
    where
      by : (b : Bool) → length (filter (counts f) steps) ≤ length steps
          → length {A = Step} (elim b [ true ↦ s ∷ filter (counts f) steps | false ↦ filter (counts f) steps ]) ≤ suc (length steps)
      by true h = omega (arith, h)
      by false h = omega (arith, h)

-- ---- the lines without a rational variable already taken are those of no round before
round-taken : (fs : List ℕ) (vs : List Variable) (t : ℕ) (l : rules.Line) → t ≤ length fs
    → leb t (round_of (map rational fs ++ vs) l) ≡ not (any (λ f. contains (rational f) l) (take t fs))
unfolding round_of any
round-taken fs vs zero l h = leb-zero (round_of (map rational fs ++ vs) l)
round-taken [] vs (suc t) l h = absurd (omega arith)
round-taken (f ∷ fs) vs (suc t) l h = by (contains (rational f) l) (round-taken fs vs t l (omega arith))
  where
    by : (b : Bool) → leb t (round_of (map rational fs ++ vs) l) ≡ not (any (λ g. contains (rational g) l) (take t fs))
        → leb (suc t) (elim b [ true ↦ 0 | false ↦ suc (round_of (map rational fs ++ vs) l) ])
        ≡ not (b || any (λ g. contains (rational g) l) (take t fs))
    by true e = leb-suc-zero t
    by false e = leb-suc-suc t (round_of (map rational fs ++ vs) l) ∙ e

module _ (fs : List ℕ) (t : ℕ) (l : rules.Line) (few : t ≤ length fs) where
  untaken : leb t (round_of (order_by fs) l) ≡ without (take t fs) l
  unfolding order_by without
  untaken = round-taken fs (tabulate limit.all_booleans boolean) t l few

  pub untaken-yes : t ≤ round_of (order_by fs) l → without (take t fs) l ≡ true
  untaken-yes h = sym untaken ∙ le-leb t (round_of (order_by fs) l) h

  pub untaken-no : round_of (order_by fs) l < t → without (take t fs) l ≡ false
  untaken-no h = sym untaken ∙ lt-leb t (round_of (order_by fs) l) h

-- ---- along the walk
module _ (taken : List ℕ) (proof : List ℕ) where
  pub counted_none : (c : Counts) → ((f : ℕ) → (get_or c.uppers f 0 ≡ 0) × (get_or c.lowers f 0 ≡ 0)) → Counted taken (steps_in proof 0) c
  unfolding steps_in tabulate
  counted_none c h f k = ((h f).0 ∙ sym (count_none positively taken f), (h f).1 ∙ sym (count_none negatively taken f))

  next-step : (i : ℕ) → steps_in proof (suc i) ≡ steps_in proof i ++ (step_from (step_at proof i) ∷ [])
  unfolding steps_in
  next-step i = tabulate-snoc i (λ k. step_from (step_at proof k))

  count_at : (side : Variable → rules.Line → Bool) (i f : ℕ) → let m = meaning (line_at proof i) in
      count side taken (steps_in proof (suc i)) f ≡ count side taken (steps_in proof i) f + one (without taken m && side (rational f) m)
  unfolding step_from line_at
  count_at side i f =
      ap (λ (ss : List Step). count side taken ss f) (next-step i)
      ∙ count_next side taken (steps_in proof i) (step_from (step_at proof i)) f

  -- a line that counts, and one that does not
  pub counted-line : (i : ℕ) (c d : Counts) → without taken (meaning (line_at proof i)) ≡ true → Counted taken (steps_in proof i) c
      → CountedOne (meaning (line_at proof i)) c d → Counted taken (steps_in proof (suc i)) d
  counted-line i c d w h k f l =
      let m = meaning (line_at proof i) in
      let next : (side : Variable → rules.Line → Bool) → count side taken (steps_in proof (suc i)) f
      ≡ count side taken (steps_in proof i) f + one (side (rational f) m) =
      (λ side. count_at side i f ∙ ap (λ (b : Bool). count side taken (steps_in proof i) f + one (b && side (rational f) m)) w) in (
        (k f l).0 ∙ ap (λ (n : ℕ). n + one (positively (rational f) m)) (h f l).0 ∙ sym (next positively),
        (k f l).1 ∙ ap (λ (n : ℕ). n + one (negatively (rational f) m)) (h f l).1 ∙ sym (next negatively),
      )

  pub counted-past : (i : ℕ) (c : Counts) → without taken (meaning (line_at proof i)) ≡ false → Counted taken (steps_in proof i) c
      → Counted taken (steps_in proof (suc i)) c
  unfolding one
  counted-past i c w h f l =
      let m = meaning (line_at proof i) in
      let next : (side : Variable → rules.Line → Bool) → count side taken (steps_in proof (suc i)) f ≡ count side taken
      (steps_in proof i) f =
      (λ side. count_at side i f
      ∙ ap (λ (b : Bool). count side taken (steps_in proof i) f + one (b && side (rational f) m)) w ∙ omega arith) in
      ((h f l).0 ∙ sym (next positively), (h f l).1 ∙ sym (next negatively))

  pub counted-within : (i : ℕ) (c : Counts) → Counted taken (steps_in proof i) c → Within i c
  counted-within i c h f l = (
    omega (arith, (h f l).0, count-within positively taken (steps_in proof i) f, length-steps_in proof i),
    omega (arith, (h f l).1, count-within negatively taken (steps_in proof i) f, length-steps_in proof i),
  )

-- ---- a line's signs, one rational variable after another: before f they are added, from f on not yet
pub record Through (test : ℤ → Bool) (row : List ℤ) (before after : List ℕ) (f : ℕ) : Type 0 where
  pub long : length after ≡ limit.rationals
  pub done : (g : ℕ) → g < f → get_or after g 0 ≡ get_or before g 0 + one (test (get_or row g (pos 0)))
  pub left : (g : ℕ) → f ≤ g → get_or after g 0 ≡ get_or before g 0

module _ (test : ℤ → Bool) (row : List ℤ) (before : List ℕ) where
  pub through-none : length before ≡ limit.rationals → Through test row before before 0
  through-none n = record { long = n; done = λ g h. absurd (omega arith); left = λ g h. refl }

  pub through-next : (after : List ℕ) (f n : ℕ) → f < limit.rationals → Through test row before after f
      → n ≡ get_or after f 0 + one (test (get_or row f (pos 0))) → Through test row before (set after f n) (f + 1)
  through-next after f n k h e =
      record {
        long = length-set after f n ∙ h.long;
        done = λ g l. ⊎_elim (λ z. here g (eqb_yes z)) (λ z. earlier g (eqb_no {a = g} {b = f} z) l) (split (eqb g f));
        left = λ g l. get_or-set_other after f g n 0 (λ z. absurd (omega (arith, z, l))) ∙ h.left g (omega (arith, l));
      }
    where
      here : (g : ℕ) → g ≡ f → get_or (set after f n) g 0 ≡ get_or before g 0 + one (test (get_or row g (pos 0)))
      here g z = subst⁻¹ (λ (m : ℕ). get_or (set after f n) m 0 ≡ get_or before m 0 + one (test (get_or row m (pos 0)))) z
          (get_or-set_same after f n 0 (omega (arith, h.long, k)) ∙ e
          ∙ ap (λ (m : ℕ). m + one (test (get_or row f (pos 0)))) (h.left f (omega arith)))

      earlier : (g : ℕ) → (g ≡ f → ⊥) → g < f + 1 → get_or (set after f n) g 0 ≡ get_or before g 0 + one (test (get_or row g (pos 0)))
      earlier g z l = get_or-set_other after f g n 0 z ∙ h.done g (omega (arith, z, l))

-- what that comes to
pub counted-one : (l : Line) → Shaped l → (c d : Counts) → Through is_positive l.coefficients c.uppers d.uppers limit.rationals
    → Through is_negative l.coefficients c.lowers d.lowers limit.rationals → CountedOne (meaning l) c d
unfolding positively negatively
counted-one l s c d up low f k = (
  up.done f k ∙ ap (λ (z : ℤ). get_or c.uppers f 0 + one (is_positive z)) (sym (coefficient-is l s f)),
  low.done f k ∙ ap (λ (z : ℤ). get_or c.lowers f 0 + one (is_negative z)) (sym (coefficient-is l s f)),
)

-- ---- 64 bits hold a cost
pub product-fits : (u l : ℕ) → u ≤ limit.most_steps → l ≤ limit.most_steps → SFits w64 (pos u *ℤ pos l)
product-fits u l h k = fits-size (pos u *ℤ pos l) (omega (arith, abs-*-≤ (pos u) (pos l) h k))

pub less-fits : (u l : ℕ) → u ≤ limit.most_steps → l ≤ limit.most_steps → SFits w64 (pos u *ℤ pos l -ℤ pos u)
less-fits u l h k = fits-size (pos u *ℤ pos l -ℤ pos u)
    (omega (arith, abs-minus-≤ (pos u *ℤ pos l) (pos u) (abs-*-≤ (pos u) (pos l) h k) h))

pub cost-fits : (u l : ℕ) → u ≤ limit.most_steps → l ≤ limit.most_steps → SFits w64 (pos u *ℤ pos l -ℤ pos u -ℤ pos l)
cost-fits u l h k = fits-size (pos u *ℤ pos l -ℤ pos u -ℤ pos l)
    (omega (
      arith,
      abs-minus-≤ (pos u *ℤ pos l -ℤ pos u) (pos l)
          (abs-minus-≤ (pos u *ℤ pos l) (pos u) (abs-*-≤ (pos u) (pos l) h k) h) k,
    ))

pub price-fits : (taken : List ℕ) (steps : List Step) (c : Counts) → Counted taken steps c → Within limit.most_steps c
    → (f : ℕ) → f < limit.rationals → SFits w64 (cost taken steps f)
unfolding cost_at cost_of
price-fits taken steps c h w f k = subst (SFits w64) (counted-cost taken steps c h f k)
    (cost-fits (get_or c.uppers f 0) (get_or c.lowers f 0) (w f k).0 (w f k).1)
