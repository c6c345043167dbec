use mathlib.Core.Path.{◌≡◌}
use lib.ListN.{length}
use Rattle.integer.specs.Places.{Steps}
use Rattle.passes.specs.Sums.{forcing}
use Rattle.passes.proofs.forced.force.Given as goal

abbrev pub invariant-loop-k : goal.invariant-loop-k
invariant-loop-k l = (length l.forced ≡ 72) × Steps 6 l.k (forcing l.b l.drift l.v) l.forced
