use Prim.Native.Nat.{◌*◌}
use Rattle.integer.specs.Places.{Stretch}
use Rattle.passes.specs.Sums.{forcing}
use Rattle.passes.proofs.forced.force_step.Given as goal

abbrev pub invariant-loop-i : goal.invariant-loop-i
invariant-loop-i l = Stretch (6 * l.k) l.i (forcing l.b l.drift l.v l.k) l.initial.forced l.forced
