use Prim.Native.Nat.{◌*◌}
use mathlib.Core.Path.{◌≡◌}
use Rattle.integer.specs.Places.{Stretch}
use Rattle.integer.specs.Sum.{sum}
use Rattle.primal.specs.Padded.{padded}
use Rattle.steps.specs.Steps.{ascended, gain_correction}
use Rattle.passes.specs.Sums.{residual_by}
use Rattle.passes.proofs.SumSizes.{pull_at}
use Rattle.passes.proofs.ascend.ascend_step.Given as goal

abbrev pub invariant-loop-i : goal.invariant-loop-i
invariant-loop-i l =
    Stretch (6 * l.k) l.i (λ i. ascended (padded l.y l.k i) (gain_correction l.gain (residual_by l.a l.forced l.start l.v l.k i))) l.initial.next l.next
    × (l.total ≡ sum l.i (pull_at l.a l.forced l.start l.v l.y l.k))
