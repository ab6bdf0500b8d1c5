-- The bounds that lines give a rational variable, gathered from the last line on: the tightest so far on either side, none of them
-- beyond; or that one of them is beyond.
use Rattle.std.proofs.Math.Path.{◌≡◌, refl, ap}
use Rattle.std.proofs.Common.{◌∙◌, arith}
use Rattle.std.specs.Prelude.{Bool, not, ◌&&◌, ◌||◌, List, [], ◌∷◌, ℕ, zero, suc, drop, Option, None, Some}
use Rattle.std.proofs.Math.Bool.{true, false, or-true}
use Rattle.std.proofs.Math.Option as math
use Rattle.std.proofs.Math.Option.{none, some}
use Rattle.rules.specs.Lists.{any, filter}
use Rattle.rules.specs.Problem.{Constraint}
use Rattle.rules.specs.Meaning.{Assignment}
use Rattle.rules.specs.Lines as rules
use Rattle.rules.specs.Lines.{Variable, rational, a_literal_holds, positively, negatively}
use Rattle.rules.specs.Values.{Fraction, beyond, less, Bound, absent, tighter, bound_of, Gathered, bounds_of, gather, tightest}
use Rattle.fractions.specs.Meaning.{bound_meaning}
use Rattle.fractions.specs.Range.{Small, Within}
use Rattle.fractions.specs.NotBeyond.{small-not-beyond, tighter-within}
use Rattle.lines.specs.declared.order.RationalRound.{RationalRound}
use Rattle.values.specs.declared.gather.Bounds.{Bounds}
use Rattle.values.specs.Round.{belongs, own_of, filter-other, filter_more}

-- ---- one side
abbrev pub any_beyond : List Gathered → Bool
any_beyond gs = any (λ g. beyond g.at) gs

pub record Side (side : Variable → rules.Line → Bool) (before : Fraction → Fraction → Bool) (χ : Assignment) (f : ℕ) (ls : List rules.Line)
    (B : Bound) : Type 0 where
  pub tightest : B ≡ tightest before (gather side χ f ls)
  pub within : Within B
  pub none : any_beyond (gather side χ f ls) ≡ false

module _ (side : Variable → rules.Line → Bool) (χ : Assignment) (f : ℕ) (l : rules.Line) (ls : List rules.Line) where
  abbrev gives : rules.Line → Bool
  gives l = side (rational f) l && not (a_literal_holds χ l)

  gather-skip : gives l ≡ false → gather side χ f (l ∷ ls) ≡ gather side χ f ls
  unfolding gather
  gather-skip e = ap (bounds_of χ f) (filter-other gives l ls e)

  gather-more : (c : Constraint) → gives l ≡ true → l.constraint ≡ some c
      → gather side χ f (l ∷ ls) ≡ record { at = bound_of χ f c; strict = c.strict } ∷ gather side χ f ls
  unfolding gather bounds_of
  gather-more c e k = ap (bounds_of χ f) (filter_more gives l ls e) ∙ rw (k, bounds_of)

  module _ (before : Fraction → Fraction → Bool) (B : Bound) (h : Side side before χ f ls B) where
    side-skip : gives l ≡ false → Side side before χ f (l ∷ ls) B
    side-skip e = record { tightest = rw (gather-skip e) h.tightest; within = h.within; none = rw (gather-skip e) h.none }

    side-more : (c : Constraint) → gives l ≡ true → l.constraint ≡ some c → Small (bound_of χ f c)
        → Side side before χ f (l ∷ ls) (tighter before (bound_of χ f c) c.strict B)
    unfolding tightest any
    side-more c e k s =
        record {
          tightest = rw (gather-more c e k) (ap (λ (B : Bound). tighter before (bound_of χ f c) c.strict B) h.tightest);
          within = tighter-within before (bound_of χ f c) c.strict B s h.within;
          none = rw (gather-more c e k, small-not-beyond (bound_of χ f c) s) h.none;
        }

  beyond-here : (c : Constraint) → gives l ≡ true → l.constraint ≡ some c → beyond (bound_of χ f c) ≡ true
      → any_beyond (gather side χ f (l ∷ ls)) ≡ true
  unfolding any
  beyond-here c e k b = rw (gather-more c e k, b)

  beyond-kept : any_beyond (gather side χ f ls) ≡ true → any_beyond (gather side χ f (l ∷ ls)) ≡ true
  unfolding gather filter bounds_of any
  beyond-kept h = by (gives l) l.constraint refl
    where
      by : (t : Bool) (k : math.Option Constraint) → l.constraint ≡ k
          → any_beyond (bounds_of χ f (elim t [ true ↦ l ∷ filter gives ls | false ↦ filter gives ls ])) ≡ true
      by false k e = h
      by true none e = rw e h
      by true (some c) e = rw (e, h) (or-true (beyond (bound_of χ f c)))

-- ---- both sides
pub record Collected (χ : Assignment) (current : RationalRound) (ls : List rules.Line) (L U : Bound) : Type 0 where
  pub lower : Side negatively (λ x y. less y x) χ current.rational (own_of current ls) L
  pub upper : Side positively less χ current.rational (own_of current ls) U

-- a bound more, an upper one or a lower one
abbrev pub with_lower : Bool → Fraction → Bool → Bound → Bound
with_lower true x s L = L
with_lower false x s L = tighter (λ x y. less y x) x s L

abbrev pub with_upper : Bool → Fraction → Bool → Bound → Bound
with_upper true x s U = tighter less x s U
with_upper false x s U = U

unfoldable pub exceeding : Assignment → RationalRound → List rules.Line → Bool
exceeding χ current ls = any_beyond (gather negatively χ current.rational (own_of current ls))
    || any_beyond (gather positively χ current.rational (own_of current ls))

-- ---- in machine words
abbrev pub CollectedIn : Bounds → Assignment → RationalRound → List rules.Line → Type 0
CollectedIn b χ current ls = Collected χ current ls (bound_meaning b.lower) (bound_meaning b.upper)

abbrev pub GatheredIn : Option Bounds → Assignment → RationalRound → List rules.Line → Type 0
GatheredIn None χ current ls = exceeding χ current ls ≡ true
GatheredIn (Some b) χ current ls = CollectedIn b χ current ls

-- a line of the round in which nothing else holds
unfoldable pub counts : Assignment → RationalRound → rules.Line → Bool
counts χ current l = belongs current l && not (a_literal_holds χ l)

-- with this line more, whichever lines gave the bounds so far
abbrev pub WithLine : Bounds → Option Bounds → Assignment → RationalRound → rules.Line → Type 0
WithLine earlier b χ current l = (ls : List rules.Line) → CollectedIn earlier χ current ls → GatheredIn b χ current (l ∷ ls)

pub collected-none : (χ : Assignment) (current : RationalRound) → Collected χ current [] absent absent
unfolding filter gather bounds_of tightest any
collected-none χ current = record {
  lower = record { tightest = refl; within = tt; none = refl };
  upper = record { tightest = refl; within = tt; none = refl };
}

module _ (χ : Assignment) (current : RationalRound) (l : rules.Line) (ls : List rules.Line) where
  abbrev f : ℕ
  f = current.rational

  abbrev mine : List rules.Line
  mine = own_of current ls

  pub exceeding-more : exceeding χ current ls ≡ true → exceeding χ current (l ∷ ls) ≡ true
  unfolding exceeding
  exceeding-more h = by (belongs current l) refl
    where
      either : (a b c d : Bool) → (a ≡ true → c ≡ true) → (b ≡ true → d ≡ true) → a || b ≡ true → c || d ≡ true
      either true b c d g k e = rw (g refl)
      either false true true d g k e = refl
      either false true false d g k e = k refl
      either false false c d g k e = let z : ◌≡◌ {A = ℕ} 0 1 = cc in absurd (omega arith)

      by : (t : Bool) → belongs current l ≡ t → any_beyond (gather negatively χ f (own_of current (l ∷ ls)))
          || any_beyond (gather positively χ f (own_of current (l ∷ ls))) ≡ true
      by false e = rw (filter-other (belongs current) l ls e) h
      by true e =
          rw (filter_more (belongs current) l ls e)
          (either (any_beyond (gather negatively χ f mine)) (any_beyond (gather positively χ f mine))
          (any_beyond (gather negatively χ f (l ∷ mine))) (any_beyond (gather positively χ f (l ∷ mine)))
          (beyond-kept negatively χ f l mine) (beyond-kept positively χ f l mine) h)

  module _ (L U : Bound) (h : Collected χ current ls L U) where
    -- a line of another round
    pub collected-other : belongs current l ≡ false → Collected χ current (l ∷ ls) L U
    collected-other e = let k = filter-other (belongs current) l ls e in record {
      lower = rw k h.lower;
      upper = rw k h.upper;
    }

    module _ (e : belongs current l ≡ true) where
      with_it : own_of current (l ∷ ls) ≡ l ∷ mine
      with_it = filter_more (belongs current) l ls e

      -- one in which a literal holds
      pub collected-held : a_literal_holds χ l ≡ true → Collected χ current (l ∷ ls) L U
      collected-held t =
          record {
            lower = rw with_it (side-skip negatively χ f l mine (λ x y. less y x) L h.lower (never (negatively (rational f) l)));
            upper = rw with_it (side-skip positively χ f l mine less U h.upper (never (positively (rational f) l)));
          }
        where
          never : (a : Bool) → a && not (a_literal_holds χ l) ≡ false
          never true = ap not t
          never false = refl

      module _ (free : a_literal_holds χ l ≡ false) (c : Constraint) (given : l.constraint ≡ some c) where
        only : (a : Bool) → a && not (a_literal_holds χ l) ≡ a
        only true = ap not free
        only false = refl

        -- its bound counts on its side
        pub collected-more : (t : Bool) → positively (rational f) l ≡ t → negatively (rational f) l ≡ not t → Small (bound_of χ f c)
            → Collected χ current (l ∷ ls) (with_lower t (bound_of χ f c) c.strict L) (with_upper t (bound_of χ f c) c.strict U)
        collected-more true p n s =
            record {
              lower = rw with_it (side-skip negatively χ f l mine (λ x y. less y x) L h.lower (only (negatively (rational f) l) ∙ n));
              upper = rw with_it (side-more positively χ f l mine less U h.upper c (only (positively (rational f) l) ∙ p) given s);
            }
        collected-more false p n s =
            record {
              lower = rw with_it (side-more negatively χ f l mine (λ x y. less y x) L h.lower c
                  (only (negatively (rational f) l) ∙ n) given s);
              upper = rw with_it (side-skip positively χ f l mine less U h.upper (only (positively (rational f) l) ∙ p));
            }

        -- its bound is beyond: on whichever side it is
        pub exceeding-here : positively (rational f) l || negatively (rational f) l ≡ true → beyond (bound_of χ f c) ≡ true
            → exceeding χ current (l ∷ ls) ≡ true
        unfolding exceeding
        exceeding-here v b = rw with_it (by (positively (rational f) l) (negatively (rational f) l) refl refl v)
          where
            by : (p n : Bool) → positively (rational f) l ≡ p → negatively (rational f) l ≡ n → p || n ≡ true
                → any_beyond (gather negatively χ f (l ∷ mine)) || any_beyond (gather positively χ f (l ∷ mine)) ≡ true
            by p true i j w = rw (beyond-here negatively χ f l mine c (only (negatively (rational f) l) ∙ j) given b)
            by true false i j w = rw (beyond-here positively χ f l mine c (only (positively (rational f) l) ∙ i) given b)
                (or-true (any_beyond (gather negatively χ f (l ∷ mine))))
            by false false i j w = let z : ◌≡◌ {A = ℕ} 0 1 = cc in absurd (omega arith)

-- a line that counts, and one that does not
module _ (χ : Assignment) (current : RationalRound) (l : rules.Line) where
  pub counts-own : belongs current l ≡ true → counts χ current l ≡ not (a_literal_holds χ l)
  unfolding counts
  counts-own e = rw e

  pub counts-other : belongs current l ≡ false → counts χ current l ≡ false
  unfolding counts
  counts-other e = rw e

  pub counted : counts χ current l ≡ true → (belongs current l ≡ true) × (a_literal_holds χ l ≡ false)
  unfolding counts
  counted e = by (belongs current l) (a_literal_holds χ l) refl refl e
    where
      by : (a b : Bool) → belongs current l ≡ a → a_literal_holds χ l ≡ b → a && not b ≡ true
          → (belongs current l ≡ true) × (a_literal_holds χ l ≡ false)
      by true false i j n = (i, j)
      by true true i j n = let z : ◌≡◌ {A = ℕ} 0 1 = cc in absurd (omega arith)
      by false b i j n = let z : ◌≡◌ {A = ℕ} 0 1 = cc in absurd (omega arith)

  pub collected-not : (ls : List rules.Line) (L U : Bound) → Collected χ current ls L U → counts χ current l ≡ false
      → Collected χ current (l ∷ ls) L U
  unfolding counts
  collected-not ls L U h e = by (belongs current l) (a_literal_holds χ l) refl refl e
    where
      by : (a b : Bool) → belongs current l ≡ a → a_literal_holds χ l ≡ b → a && not b ≡ false → Collected χ current (l ∷ ls) L U
      by false b i j n = collected-other χ current l ls L U h i
      by true true i j n = collected-held χ current l ls L U h i j
      by true false i j n = let z : ◌≡◌ {A = ℕ} 0 1 = cc in absurd (omega arith)

pub exceeding-front : (χ : Assignment) (current : RationalRound) (j : ℕ) (ls : List rules.Line) → exceeding χ current (drop j ls) ≡ true
    → exceeding χ current ls ≡ true
exceeding-front χ current zero ls h = h
exceeding-front χ current (suc j) [] h = h
exceeding-front χ current (suc j) (l ∷ ls) h = exceeding-more χ current l ls (exceeding-front χ current j ls h)
