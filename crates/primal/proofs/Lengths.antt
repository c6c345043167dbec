-- The lengths that lent slices are tested for fit 64 bits: at most 12 steps of at most 10 numbers.
use Prim.Native.Nat.{ℕ, ◌*◌, ◌≤◌}
use native.Mathlib.Omega.{arith}
use native.Mathlib.Nat.{mul-le-mul}
use mir.Syntax.{w64}
use mir.Val.{Fits}

pub count_fits : (N w : ℕ) → N ≤ 12 → w ≤ 10 → Fits w64 (N * w)
count_fits N w h k = omega (arith, mul-le-mul h k)
