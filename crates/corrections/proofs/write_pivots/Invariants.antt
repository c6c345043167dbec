use Prim.Native.Nat.{ℕ}
use mathlib.Core.Path.{◌≡◌}
use mathlib.Core.List.{List}
use lib.ListN.{length}
use lib.Ieee.{Float}
use Rattle.banded.specs.declared.rows.Row.{Row}
use Rattle.banded.specs.Elimination.{Matrix, pivot}
use Rattle.banded.specs.Rows.{Holds, KeptRows}
use Rattle.corrections.proofs.write_pivots.Given as goal

-- the first p pivots are written
pub record Pivots (rows : List Row) (count p : ℕ) (l : List Float) : Type 0 where
  pub each : (band : ℕ) (w : Matrix) → KeptRows band w count rows → Holds p (pivot band w) l

abbrev pub invariant-loop-p : goal.invariant-loop-p
invariant-loop-p l =
    (length l.pivots ≡ length l.initial.pivots) × Pivots l.rows (length l.initial.pivots) l.p l.pivots
