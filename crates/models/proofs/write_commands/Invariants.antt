use Prim.Native.Nat.{◌*◌}
use mathlib.Core.Path.{◌≡◌}
use lib.ListN.{take}
use Rattle.models.specs.Models.{commands_from}
use Rattle.models.proofs.write_commands.Given as goal

abbrev pub invariant-loop-i : goal.invariant-loop-i
invariant-loop-i l = take (5 * l.i) l.out ≡ commands_from l.byte l.columns 0 (take l.i l.entries)
