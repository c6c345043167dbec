use Prim.Native.Nat.{◌*◌}
use mathlib.Core.Path.{◌≡◌}
use Rattle.integer.specs.Places.{Stretch}
use Rattle.integer.specs.Sum.{sum}
use Rattle.lookup.specs.Numbers.{input_number}
use Rattle.lookup.proofs.NumberSums.{input_cost}
use Rattle.lookup.proofs.minimise.input_numbers.Given as goal

abbrev pub invariant-loop-j : goal.invariant-loop-j
invariant-loop-j l =
    Stretch (10 * l.k) l.j (input_number l.table l.b l.y l.k) l.initial.v l.v
    × (l.total ≡ sum l.j (input_cost l.table l.b l.y l.k))
