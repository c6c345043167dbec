use Prim.Native.Nat.{◌<◌, ◌^◌}
use mathlib.Core.Path.{◌≡◌, ◌∙◌}
use lib.IntN.{ℤ}
use lib.Signed.{mag}
use mir.Syntax.{w32}
use mir.Val.{to_z, of_z}
use mir.Facts.{to_z-of_z}
use Rattle.solver.proofs.first_duties.Goals as goal

-- the i32 that a call gave, read back
given : (z : ℤ) {d : ℤ} → mag z < 2 ^ 31 → z ≡ d → to_z w32 (of_z w32 z) ≡ d
given z h e = to_z-of_z {w = w32} {z = z} (record { sfits = h }) ∙ e

pub returns : goal.returns
returns c =
    rw (
      given _ c.duty_at.type_inv c.duty_at.ensures,
      given _ c.duty_at-2.type_inv c.duty_at-2.ensures,
      given _ c.duty_at-3.type_inv c.duty_at-3.ensures,
      given _ c.duty_at-4.type_inv c.duty_at-4.ensures,
    )
