use Prim.Native.Nat.{◌+◌, ◌*◌}
use mathlib.Core.Path.{◌≡◌}
use Rattle.integer.specs.Places.{Stretch}
use Rattle.integer.specs.Sum.{sum}
use Rattle.lookup.specs.Numbers.{state_number}
use Rattle.lookup.proofs.NumberSums.{state_cost}
use Rattle.lookup.proofs.minimise.state_numbers.Given as goal

abbrev pub invariant-loop-i : goal.invariant-loop-i
invariant-loop-i l =
    Stretch (10 * l.k + 4) l.i (state_number l.horizon l.table l.a l.y l.k) l.initial.v l.v
    × (l.total ≡ sum l.i (state_cost l.horizon l.table l.a l.y l.k))
