use mathlib.Core.Path.{◌≡◌}
use Rattle.integer.specs.Sum.{sum}
use Rattle.dual.proofs.FloorSizes.{started_at}
use Rattle.dual.proofs.floor.started.Given as goal

abbrev pub invariant-loop-j : goal.invariant-loop-j
invariant-loop-j l = l.total ≡ sum l.j (started_at l.a l.start l.y)
