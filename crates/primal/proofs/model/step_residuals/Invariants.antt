use Prim.Native.Nat.{◌*◌}
use Rattle.integer.specs.Places.{Stretch}
use Rattle.primal.proofs.ModelSizes.{residual_at}
use Rattle.primal.proofs.model.step_residuals.Given as goal

abbrev pub invariant-loop-i : goal.invariant-loop-i
invariant-loop-i l = Stretch (6 * l.k) l.i (residual_at l.a l.b l.drift l.start l.v l.k) l.initial.e l.e
