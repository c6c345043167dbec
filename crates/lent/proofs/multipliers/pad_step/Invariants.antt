use Prim.Native.Nat.{◌*◌}
use Rattle.integer.specs.Places.{Stretch}
use Rattle.problem.specs.Model.{multipliers_of}
use Rattle.lent.proofs.multipliers.pad_step.Given as goal

abbrev pub invariant-loop-i : goal.invariant-loop-i
invariant-loop-i l = Stretch (6 * l.k) l.i (multipliers_of l.n l.multipliers l.k) l.initial.y l.y
