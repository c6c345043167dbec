use mathlib.Core.Path.{◌≡◌}
use lib.ListN.{length}
use Rattle.integer.specs.Places.{Steps}
use Rattle.integer.specs.Sum.{sum}
use Rattle.primal.specs.Padded.{padded}
use Rattle.steps.specs.Steps.{ascended, gain_correction}
use Rattle.passes.specs.Sums.{residual_by}
use Rattle.passes.proofs.SumSizes.{pull_at}
use Rattle.passes.proofs.ascend.ascend.Given as goal

abbrev pub invariant-loop-k : goal.invariant-loop-k
invariant-loop-k l =
    (length l.next ≡ 72)
    × Steps 6 l.k (λ k i. ascended (padded l.y k i) (gain_correction l.gain (residual_by l.a l.forced l.start l.v k i))) l.next
    × (l.total ≡ sum l.k (λ k. sum 6 (pull_at l.a l.forced l.start l.v l.y k)))
