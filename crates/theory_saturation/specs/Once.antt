-- No rational variable has two rounds.
use Rattle.std.specs.Prelude.{Bool, false, not, List, [], ◌∷◌, ℕ, zero, suc, T, eqb, drop}
use Rattle.rules.specs.Lists.{any}
use Rattle.rules.specs.Lines.{Variable, rational, boolean}

-- it is rational variable f
unfoldable pub names : ℕ → Variable → Bool
names f (rational g) = eqb f g
names f (boolean i) = false

-- rational variable f has no round among these
abbrev pub Absent : ℕ → List Variable → Type 0
Absent f vs = T (not (any (names f) vs))

-- none of these rounds is that of the variable, if it is a rational one
abbrev pub Alone : Variable → List Variable → Type 0
Alone (rational f) vs = Absent f vs
Alone (boolean i) vs = Unit {0}

abbrev pub Once : List Variable → Type 0
Once [] = Unit {0}
Once (v ∷ vs) = Alone v vs × Once vs

-- from every round on
pub once-drop : (t : ℕ) (vs : List Variable) → Once vs → Once (drop t vs)
once-drop zero vs h = h
once-drop (suc t) [] h = tt
once-drop (suc t) (v ∷ vs) h = once-drop t vs h.1
