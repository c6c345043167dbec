use Prim.Native.Nat.{◌+◌}
use mathlib.Core.Path.{◌≡◌}
use lib.ListN.{drop}
use Rattle.models.specs.Models.{tested}
use Rattle.models.proofs.test_entries.Given as goal

abbrev pub invariant-loop-i : goal.invariant-loop-i
invariant-loop-i l = tested l.count l.entries ≡ tested (l.count + l.i) (drop l.i l.entries)
