use mathlib.Core.Path.{◌≡◌}
use lib.ListN.{length}
use Rattle.integer.specs.Places.{Steps}
use Rattle.primal.proofs.ModelSizes.{residual_at}
use Rattle.primal.proofs.model.residuals.Given as goal

abbrev pub invariant-loop-k : goal.invariant-loop-k
invariant-loop-k l = (length l.e ≡ 72) × Steps 6 l.k (residual_at l.a l.b l.drift l.start l.v) l.e
