use Prim.Native.Nat.{ℕ}
use mathlib.Core.Path.{◌≡◌}
use Rattle.banded.specs.Elimination.{Matrix, usable_pivots}
use Rattle.banded.specs.Rows.{KeptRows}
use Rattle.banded.proofs.are_usable.Given as goal

abbrev pub invariant-loop-p : goal.invariant-loop-p
invariant-loop-p l = (band : ℕ) (w : Matrix) → KeptRows band w l.count l.rows → l.usable ≡ usable_pivots band w l.p
