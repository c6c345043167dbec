use Prim.Native.Nat.{◌+◌, ◌*◌}
use Rattle.integer.specs.Places.{Stretch}
use Rattle.problem.specs.Dual.{state_slope}
use Rattle.primal.specs.Padded.{state_matrix, padded}
use Rattle.dual.proofs.slopes.state_slopes.Given as goal

abbrev pub invariant-loop-i : goal.invariant-loop-i
invariant-loop-i l = Stretch (10 * l.k + 4) l.i (state_slope 6 l.horizon (state_matrix l.a) (padded l.y) l.k) l.initial.s l.s
