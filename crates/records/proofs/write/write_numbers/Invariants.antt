use Prim.Native.Nat.{◌*◌}
use lib.ListN.{length, take}
use Rattle.integer.proofs.Filled.{Filled}
use Rattle.records.specs.Readers.{number_bytes}
use Rattle.records.proofs.write.write_numbers.Given as goal

abbrev pub invariant-loop-i : goal.invariant-loop-i
invariant-loop-i l = Filled (length l.initial.part) (l.width * l.i) (number_bytes l.width (take l.i l.numbers)) l.part
