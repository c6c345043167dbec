use mathlib.Core.Path.{◌≡◌}
use lib.ListN.{length}
use Rattle.integer.specs.Places.{at}
use Rattle.banded.specs.Floats.{float}
use Rattle.banded.specs.Rows.{Holds}
use Rattle.corrections.proofs.right_sides.Given as goal

abbrev pub invariant-loop-p : goal.invariant-loop-p
invariant-loop-p l = (length l.sides ≡ 72) × Holds l.p (λ q. float (at l.residuals q)) l.sides
