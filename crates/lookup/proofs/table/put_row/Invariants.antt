use Prim.Native.Nat.{◌*◌}
use Rattle.integer.specs.Places.{at, Stretch}
use Rattle.lookup.proofs.table.put_row.Given as goal

abbrev pub invariant-loop-j : goal.invariant-loop-j
invariant-loop-j l = Stretch (7 * l.p) l.j (at l.row) l.initial.table l.table
