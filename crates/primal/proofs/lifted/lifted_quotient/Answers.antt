use Prim.Native.Nat.{ℕ, ◌*◌, ◌/◌, ◌^◌, ◌≤◌}
use native.Mathlib.Omega.{arith}
use native.Mathlib.Nat.{le_trans, div-le_self}
use lib.IntN.{ℤ, pos, nat_abs, ◌+ℤ◌, ◌-ℤ◌}
use mir.Syntax.{w64}
use mir.Val.{to_z}
use mir.Facts.{to_z-of_z, to_z_pos}
use Rattle.integer.specs.Quotient.{◌÷◌}
use Rattle.integer.proofs.Sizes.{size-add, fits_by, casts, back, Formed, formed}
use Rattle.integer.proofs.Quotient.{size_quotient}
use Rattle.primal.proofs.LiftedQuotient.{lifted_nonneg, quotient_lifted}
use Rattle.primal.proofs.lifted.lifted_quotient.Goals as goal

module _ (c : goal.Start) where
  abbrev x : ℤ
  x = c.args.x

  abbrev d : ℕ
  d = c.args.d

  abbrev lifted : ℤ
  lifted = x +ℤ pos (4294967296 * d)

  size_x : nat_abs x ≤ 2 ^ 48
  size_x = omega arith

  size_lifted : nat_abs lifted ≤ 2 ^ 49
  size_lifted = size-add x (pos (4294967296 * d)) {A = 2 ^ 48} {B = 2 ^ 48} size_x (omega arith)

  sum : Formed (back x +ℤ to_z w64 (4294967296 * d)) lifted
  sum = formed (rw (to_z-of_z c.ranges.x, to_z_pos w64 {n = 4294967296 * d} (omega arith))) size_lifted (omega arith)

  size_unsigned : nat_abs lifted / d ≤ 2 ^ 49
  size_unsigned = le_trans (div-le_self (nat_abs lifted) d) size_lifted

  difference : Formed (to_z w64 (nat_abs (back (back x +ℤ to_z w64 (4294967296 * d))) / d) -ℤ pos 4294967296) (x ÷ pos d)
  difference =
      formed
      (rw (sum.is, to_z_pos w64 {n = nat_abs lifted / d} (let h = size_unsigned in omega arith)) (quotient_lifted x 4294967296 d c.requires.0 c.requires.2))
      (le_trans (size_quotient x (pos d)) size_x) (omega arith)

pub overflow_add-result : goal.overflow_add-result
overflow_add-result c = (sum c).fits

pub overflow_cast-result-2 : goal.overflow_cast-result-2
overflow_cast-result-2 c = rw (sum c).is (casts (lifted_nonneg (x c) c.requires.2) (fits_by (lifted c) (size_lifted c) (omega arith)))

pub overflow_cast-result-3 : goal.overflow_cast-result-3
overflow_cast-result-3 c = rw (sum c).is (fits_by (pos (nat_abs (lifted c) / d c)) (size_unsigned c) (omega arith))

pub overflow_sub-result : goal.overflow_sub-result
overflow_sub-result c = (difference c).fits

pub returns : goal.returns
returns c = (difference c).is
