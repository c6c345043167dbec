use Prim.Native.Nat.{◌*◌, ◌-◌, ◌<◌, ◌≤◌}
use Rattle.integer.proofs.number.root_up.Given as goal

abbrev pub invariant-loop-low : goal.invariant-loop-low
invariant-loop-low l = (l.low < l.high) × (l.high ≤ 4294967296) × (l.low * l.low < l.z) × (l.z ≤ l.high * l.high)

abbrev pub decreases-loop-low : goal.decreases-loop-low
decreases-loop-low l = l.high - l.low
