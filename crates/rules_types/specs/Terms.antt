-- What a caller names besides the problem's bytes, as one value: the number of lines and the edition.
use Rattle.std.specs.Prelude.{cond, ℕ, eqb}
use Rattle.rules_types.specs.declared.limits.Limits.{Limits}
use Rattle.rules_types.specs.declared.terms.Edition.{Edition}
use Rattle.rules_types.specs.declared.terms.Edition.TheVariants.{First, Second}
use Rattle.rules_types.specs.declared.terms.Named.{Named}
use Rattle.rules_types.specs.declared.terms.Named.TheVariants.{Known, Unknown}
use Rattle.rules_types.specs.declared.terms.Terms.{Terms}
use Rattle.rules_types.specs.Limits as limit

abbrev pub on : Limits → Edition → Terms
on limits e = record { limits = limits; edition = e }

-- of a caller who names neither: document 01's number of lines and its edition, the first
abbrev pub standard : Terms
standard = record { limits = limit.standard; edition = First }

-- of a preview, which names no edition either
abbrev pub preview : Terms
preview = record { limits = limit.preview; edition = First }

-- 02, (v): "The caller names edition 1 or 2."
unfoldable pub edition_named : ℕ → Named
edition_named n = cond (eqb n 1) (Known First) (cond (eqb n 2) (Known Second) Unknown)
