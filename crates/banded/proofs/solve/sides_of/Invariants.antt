use mathlib.Core.Path.{◌≡◌}
use lib.ListN.{length}
use Rattle.banded.proofs.Solving.{SidesTo}
use Rattle.banded.proofs.solve.sides_of.Given as goal

abbrev pub invariant-loop-a : goal.invariant-loop-a
invariant-loop-a l = (length l.s ≡ 72) × SidesTo l.band l.rows l.e l.count l.a l.s
