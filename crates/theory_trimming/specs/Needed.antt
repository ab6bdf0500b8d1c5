-- The steps that trimming keeps are the last one and those from which it descends.
use Rattle.std.proofs.Common.{subst, arith}
use Rattle.std.specs.Prelude.{◌↔◌, List, [], ◌∷◌, ℕ, zero, suc, ◌-◌, ◌<◌, T, ltb}
use Rattle.std.proofs.Math.Logic.{⊎_elim}
use Rattle.std.proofs.Math.Dec.{ltb→lt, nltb→le}
use Rattle.rules_types.specs.declared.limits.Limits.{Limits}
use Rattle.rules.specs.Trim.{step_count, needed}
use Rattle.theory_lists.specs.Tests.{split}
use Rattle.theory_trimming.specs.Statements.{Parent, Generations, Descends}
use Rattle.theory_trimming.specs.Ordered.{Trimmable}
use Rattle.theory_trimming.specs.Wanted.{wanted-here, wanted-one, wanted-stays, wanted-descends, wanted-late, wanted-closed}

module _ {limits : Limits} {proof : List ℕ} (c : Trimmable limits proof) where
  abbrev last : ℕ
  last = step_count proof - 1

  pub needed-last : T (needed proof (step_count proof - 1))
  unfolding needed
  needed-last = wanted-stays proof (step_count proof) (last ∷ []) last (wanted-here last [])

  pub needed-below : (j : ℕ) → T (needed proof j) → j < step_count proof
  unfolding needed
  needed-below j t =
      ⊎_elim (λ l. ltb→lt j (step_count proof) l)
      (λ l. let b = nltb→le j (step_count proof) l in
      absurd (omega (arith, c.some, wanted-one last j (wanted-late proof c.ordered (step_count proof) (last ∷ []) j (omega arith) b t))))
      (split (ltb j (step_count proof)))

  pub needed-parent : (i j : ℕ) → T (needed proof i) → Parent proof i j → T (needed proof j)
  unfolding needed
  needed-parent i j t p = wanted-closed proof c.ordered (step_count proof) (last ∷ []) i j (omega arith) (needed-below i t) t p

  needed-generations : (d j : ℕ) → Generations proof last d j → T (needed proof j)
  needed-generations zero j e = subst (λ (i : ℕ). T (needed proof i)) e needed-last
  needed-generations (suc d) j (i, g, p) = needed-parent i j (needed-generations d i g) p

  pub needed-exactly : (j : ℕ) → T (needed proof j) ↔ Descends proof (step_count proof - 1) j
  unfolding needed
  needed-exactly j = (
    wanted-descends proof last (step_count proof) (last ∷ []) (λ i t. (0, wanted-one last i t)) j,
    λ h. needed-generations h.0 j h.1,
  )
