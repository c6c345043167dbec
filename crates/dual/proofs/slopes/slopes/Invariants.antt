use mathlib.Core.Path.{◌≡◌}
use lib.ListN.{length}
use Rattle.integer.specs.Places.{Steps}
use Rattle.dual.proofs.ByPlace.{slope_at}
use Rattle.dual.proofs.slopes.slopes.Given as goal

abbrev pub invariant-loop-k : goal.invariant-loop-k
invariant-loop-k l = (length l.s ≡ 120) × Steps 10 l.k (slope_at l.a l.b l.y l.horizon) l.s
