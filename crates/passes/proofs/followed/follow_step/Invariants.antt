use Prim.Native.Nat.{◌+◌, ◌*◌}
use mathlib.Core.Path.{◌≡◌}
use mathlib.Core.Bool.{false}
use Rattle.integer.specs.Places.{Stretch}
use Rattle.integer.specs.Sum.{sum}
use Rattle.integer.specs.Tests.{any}
use Rattle.passes.proofs.StepSums.{next_state, is_over, state_cost}
use Rattle.passes.proofs.followed.follow_step.Given as goal

abbrev pub invariant-loop-i : goal.invariant-loop-i
invariant-loop-i l =
    (any l.i (is_over l.table l.a l.forced l.start l.initial.plan l.k) ≡ false) × Stretch (10 * l.k + 4) l.i (next_state l.a l.forced l.start l.initial.plan l.k) l.initial.plan l.plan
    × (l.total ≡ sum l.i (state_cost l.table l.a l.forced l.start l.initial.plan l.k))
