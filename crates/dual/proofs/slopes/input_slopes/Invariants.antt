use Prim.Native.Nat.{◌*◌}
use Rattle.integer.specs.Places.{Stretch}
use Rattle.problem.specs.Dual.{input_slope}
use Rattle.primal.specs.Padded.{input_matrix, padded}
use Rattle.dual.proofs.slopes.input_slopes.Given as goal

abbrev pub invariant-loop-j : goal.invariant-loop-j
invariant-loop-j l = Stretch (10 * l.k) l.j (input_slope 6 (input_matrix l.b) (padded l.y) l.k) l.initial.s l.s
