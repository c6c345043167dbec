use mathlib.Core.Path.{◌≡◌}
use lib.ListN.{length}
use Rattle.integer.specs.Places.{Steps}
use Rattle.problem.specs.Model.{multipliers_of}
use Rattle.lent.proofs.LentMultipliers.{up_to}
use Rattle.lent.proofs.multipliers.padded_multipliers.Given as goal

abbrev pub invariant-loop-k : goal.invariant-loop-k
invariant-loop-k l = (length l.y ≡ 72) × Steps 6 l.k (λ q. up_to l.n (multipliers_of l.n l.multipliers q)) l.y
