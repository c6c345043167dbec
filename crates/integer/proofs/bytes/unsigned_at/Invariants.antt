use Prim.Native.Nat.{◌+◌, ◌-◌}
use mathlib.Core.Path.{◌≡◌}
use Rattle.integer.specs.Operand.{unsigned, operand}
use Rattle.integer.proofs.bytes.unsigned_at.Given as goal

abbrev pub invariant-loop-i : goal.invariant-loop-i
invariant-loop-i g l = l.number ≡ unsigned (operand (g.row.N - l.i) l.s (l.at + l.i))
