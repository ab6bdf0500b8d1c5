use mathlib.Core.Path.{◌≡◌, refl, ap, ◌∙◌}
use Prim.Native.Nat.{◌+◌}
use native.Mathlib.Omega.{arith}
use Rattle.rules.specs.Convert.{place_of}
use Rattle.theory_conversion.specs.Length.{place-high}
use Rattle.kept_rationals.specs.Kept.{inside, place-next}
use Rattle.kept_rationals.proofs.places.place_of.Goals as goal

pub loop-f-init : goal.loop-f-init
unfolding place_of
loop-f-init c = (refl, omega arith)

pub halves-n-requires : goal.halves-n-requires
halves-n-requires c = omega (arith, c.requires)

pub overflow_add-n : goal.overflow_add-n
overflow_add-n c =
    let l = c.loop-f in
    omega (
      arith,
      l.invariant.0,
      c.halves-n.ensures,
      place-next (inside c.args.mask) l.f,
      place-high (inside c.args.mask)
          (l.f + 1),
      c.requires,
    )

pub loop-f-preserved : goal.loop-f-preserved
loop-f-preserved c =
    let l = c.loop-f in
    (omega (arith, l.invariant.0, c.halves-n.ensures, place-next (inside c.args.mask) l.f), omega arith)

pub returns : goal.returns
returns c =
    let l = c.loop-f in
    let e : l.f ≡ c.args.r = omega (arith, l.invariant.1) in
    l.invariant.0 ∙ ap (place_of (inside c.args.mask)) e
