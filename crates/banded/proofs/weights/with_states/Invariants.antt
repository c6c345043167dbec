use mathlib.Core.Path.{◌≡◌}
use lib.IntN.{pos, ◌*ℤ◌}
use Rattle.integer.specs.Places.{at}
use Rattle.banded.specs.Floats.{sum_from}
use Rattle.primal.specs.Padded.{state_matrix}
use Rattle.banded.specs.Weights.{state_share}
use Rattle.banded.proofs.weights.with_states.Given as goal

abbrev pub invariant-loop-c : goal.invariant-loop-c
invariant-loop-c l =
    l.total ≡ sum_from l.sum l.c (state_share (state_matrix l.a) (λ q. pos 4096 *ℤ at l.weight q) l.k l.i l.l l.j l.s)
