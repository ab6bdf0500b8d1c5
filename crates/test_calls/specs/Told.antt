-- What a test program is told of a reading.
use Rattle.std.specs.Prelude.{◌≡◌, refl, length}
use Rattle.rules_types.specs.Answers.{refusal_number}
use Rattle.rules.specs.Calls.{Reading, faulty, sound}
use Rattle.problem_scan.specs.declared.cursor.Scan.{Scan}
use Rattle.problem_scan.specs.declared.cursor.Scan.TheVariants.{Sound, Fault}
use Rattle.problem_read.specs.ScanOf.{scan_of}
use Rattle.test_calls.specs.declared.ReadTold.{ReadTold}

unfoldable pub told : Reading → ReadTold
told (faulty f place) = record { number = refusal_number f; place = place; booleans = 0; rationals = 0; clauses = 0 }
told (sound p) = record { number = 0; place = 0; booleans = p.booleans; rationals = p.rationals; clauses = length p.clauses }

-- by what the call for reading gives
unfoldable pub told_of : Scan → ReadTold
told_of (Fault f place) = record { number = refusal_number f; place = place; booleans = 0; rationals = 0; clauses = 0 }
told_of (Sound s) = record { number = 0; place = 0; booleans = s.booleans; rationals = s.rationals; clauses = s.clauses }

pub told_is : (r : Reading) → told_of (scan_of r) ≡ told r
unfolding told told_of scan_of
told_is (faulty f place) = refl
told_is (sound p) = refl
