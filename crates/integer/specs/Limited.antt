-- A number limited to lo to hi, ends included.
use Rattle.std.specs.Prelude.{cond, ℤ}
use Rattle.std.specs.Int.Signed.{lt_z}

unfoldable pub limited : ℤ → ℤ → ℤ → ℤ
limited lo hi x = cond (lt_z x lo) lo (cond (lt_z hi x) hi x)
