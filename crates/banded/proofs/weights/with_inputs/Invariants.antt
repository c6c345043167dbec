use Prim.Native.Nat.{◌+◌}
use mathlib.Core.Path.{◌≡◌}
use lib.IntN.{pos, ◌*ℤ◌}
use Rattle.integer.specs.Places.{at}
use Rattle.banded.specs.Floats.{sum_from}
use Rattle.primal.specs.Padded.{input_matrix}
use Rattle.banded.specs.Weights.{input_share}
use Rattle.banded.proofs.weights.with_inputs.Given as goal

abbrev pub invariant-loop-c : goal.invariant-loop-c
invariant-loop-c l =
    l.total ≡ sum_from l.sum l.c (input_share (input_matrix l.b) (λ q. pos 4096 *ℤ at l.weight (l.n + q)) l.k l.i l.l l.j l.s)
