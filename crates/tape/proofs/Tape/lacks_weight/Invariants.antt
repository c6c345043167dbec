use Prim.Native.Nat.{ℕ}
use mathlib.Core.Path.{◌≡◌}
use mathlib.Core.Bool.{Bool, false}
use mathlib.Core.List.{List}
use lib.IntN.{ℤ, pos}
use lib.Signed.{le_z}
use Rattle.integer.specs.Places.{at}
use Rattle.integer.specs.Tests.{any}
use Rattle.tape.proofs.Tape.lacks_weight.Given as goal

-- the weight of a column is 0
abbrev pub zero_at : List ℤ → ℕ → Bool
zero_at weight p = le_z (at weight p) (pos 0)

abbrev pub invariant-loop-column : goal.invariant-loop-column
invariant-loop-column l = any l.column (zero_at l.self.weight) ≡ false
