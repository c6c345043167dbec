use mathlib.Core.Path.{◌≡◌}
use lib.ListN.{length}
use Rattle.integer.specs.Places.{Steps}
use Rattle.integer.specs.Sum.{sum}
use Rattle.dual.specs.Slopes.{by_place}
use Rattle.lookup.specs.Numbers.{input_number, state_number}
use Rattle.lookup.proofs.NumberSums.{inputs_cost, states_cost}
use Rattle.lookup.proofs.minimise.minimise.Given as goal

abbrev pub invariant-loop-k : goal.invariant-loop-k
invariant-loop-k l =
    (length l.v ≡ 120)
    × Steps 10 l.k (by_place (input_number l.table l.b l.y) (state_number l.horizon l.table l.a l.y)) l.v
    × (l.inputs ≡ sum l.k (inputs_cost l.table l.b l.y))
    × (l.states ≡ sum l.k (states_cost l.horizon l.table l.a l.y))
