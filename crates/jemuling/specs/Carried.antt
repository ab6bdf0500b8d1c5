-- Converting and carrying back keep what they promise: from the equations with the definitions.
use Rattle.std.specs.Prelude.{◌≡◌, List, ℕ}
use Rattle.std.proofs.Common.{sym, ap, subst}
use Rattle.rules_types.specs.declared.answers.Converted.{Converted}
use Rattle.rules_types.specs.declared.answers.Carried.{Carried}
use Rattle.rules_types.specs.Answers.{carried_value}
use Rattle.rules.specs.Convert.{convert, carry_back}
use Rattle.theory_bytes.specs.Bytes.{AllBytes}
use Rattle.promises.specs.Numbers.{length-exactly, unconverted-exactly, carried-exactly, uncarried-exactly}
use Rattle.promises.specs.CarriedOverKept.{converts}
use Rattle.promises.specs.CarriedBackKept.{carries-back}
use Rattle.jemuling.specs.declared.told.Told.{Told}
use Rattle.jemuling.specs.Told.{converted_told, carried_told}
use Rattle.jemuling.specs.Promised.{TellsConverted, TellsCarried, ProblemConverted, ModelCarriedBack}

converted-tells : (c : Converted) → TellsConverted (converted_told c) c
unfolding converted_told
converted-tells c = record { length = length-exactly c; refused = unconverted-exactly c }

carried-tells : (c : Carried) → TellsCarried (carried_told c) c
unfolding carried_told carried_value
carried-tells c = record { done = carried-exactly c; refused = uncarried-exactly c; value = λ e. ap carried_value e }

pub problem-converted : (input lent : List ℕ) (told : Told) (output : List ℕ) → AllBytes input → AllBytes output
    → told ≡ converted_told (convert input lent).converted → output ≡ (convert input lent).output
    → ProblemConverted input lent told output
problem-converted input lent told output are left t o =
    let ours = convert input lent in
    record {
      bytes = are;
      bytes_left = left;
      ours = ours;
      tells = subst (λ (x : Told). TellsConverted x ours.converted) (sym t) (converted-tells ours.converted);
      leaves = o;
      converts = converts input lent are;
    }

pub model-carried-back : (input model lent : List ℕ) (told : Told) (target : List ℕ) → AllBytes input → AllBytes target
    → told ≡ carried_told (carry_back input model lent).carried → target ≡ (carry_back input model lent).model
    → ModelCarriedBack input model lent told target
model-carried-back input model lent told target are left t o =
    let ours = carry_back input model lent in
    record {
      bytes = are;
      bytes_left = left;
      ours = ours;
      tells = subst (λ (x : Told). TellsCarried x ours.carried) (sym t) (carried-tells ours.carried);
      leaves = o;
      carries = carries-back input model lent are;
    }
