-- The problem that some bytes say.
use Rattle.std.specs.Prelude.{List, [], ℕ}
use Rattle.rules.specs.Problem.{Problem}
use Rattle.rules.specs.Calls.{Reading, faulty, sound, read}

abbrev pub of_reading : Reading → Problem
of_reading (faulty f place) = record { booleans = 0; rationals = 0; clauses = [] }
of_reading (sound p) = p

abbrev pub problem_from : List ℕ → Problem
problem_from input = of_reading (read input)
