use Prim.Native.Nat.{◌+◌, ◌*◌, ◌/◌, ◌%◌}
use mathlib.Core.Path.{◌≡◌}
use lib.ListN.{length}
use Rattle.integer.specs.Places.{at}
use Rattle.banded.specs.Floats.{float}
use Rattle.banded.specs.Rows.{Holds}
use Rattle.ascent.proofs.band.right_sides.Given as goal

abbrev pub invariant-loop-a : goal.invariant-loop-a
invariant-loop-a l = (length l.sides ≡ 72) × Holds l.a (λ q. float (at l.e (6 * (q / l.n) + q % l.n))) l.sides
