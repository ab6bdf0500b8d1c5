-- `put_model` meets its contract. Assumes nothing.
use mathlib.Core.Path.{◌≡◌, ap, ◌∙◌}
use mathlib.Core.List.{[], ◌∷◌, append_assoc}
use Prim.Native.Nat.{ℕ}
use native.Mathlib.Omega.{arith}
use Rattle.rules_types.specs.Layout as layout
use Rattle.rules.specs.Bytes.{field_at}
use Rattle.rules.specs.Print.{ascii, decimal, print_line, print_model}
use Rattle.printing.specs.Appended.{appended-++}
use Rattle.printing.specs.Texts.{booleans_text, numerators_text}
use Rattle.printing.proofs.model.put_model.Goals as goal
use Rattle.printing.proofs.model.put_model.Goals.{After-u8_at-r}

r-is : (c : After-u8_at-r)
    → let model = c.args.model.now in
    c.u8_at-r.result ≡ field_at (layout.model_rationals (field_at layout.model_booleans 1 model)) 1 model
r-is c =
    let model = c.args.model.now in
    c.u8_at-r.ensures
    ∙ ap (λ (k : ℕ). field_at k 1 model) (c.model_rationals.ensures ∙ ap layout.model_rationals c.u8_at-b.ensures)

pub returns-clause-appended : goal.returns-clause-appended
unfolding print_model
returns-clause-appended c =
    let a = c.args in
    let b = field_at layout.model_booleans 1 a.model.now in
    let r = field_at (layout.model_rationals b) 1 a.model.now in
    let front = rw c.u8_at-b.ensures at c.put_booleans-next.ensures.appended in
    let back = rw (r-is (goal.at.returns-clause-appended c).After-u8_at-r, c.u8_at-b.ensures) at c.put_rationals.ensures.appended in
    let all = appended-++ (omega (arith, c.requires.model_room_in_bounds)) front back in
    let assoc = append_assoc (booleans_text a.model.now b) (print_line (ascii "figures") (decimal r ∷ []))
    (numerators_text a.model.now b r) in
    rw assoc all
