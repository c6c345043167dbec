use mathlib.Core.Path.{◌≡◌}
use lib.ListN.{length}
use Rattle.banded.proofs.Solving.{SolvedTo}
use Rattle.banded.proofs.solve.solved_up.Given as goal

abbrev pub invariant-loop-t : goal.invariant-loop-t
invariant-loop-t l = (length l.d ≡ 72) × SolvedTo l.band l.rows l.s l.count l.t l.d
