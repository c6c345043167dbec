use Prim.Native.Nat.{◌^◌, ◌<◌, ◌≤◌}
use native.Mathlib.Nat.{le_trans}
use native.Mathlib.Omega.{arith}
use lib.IntN.{ℤ, pos, nat_abs, ◌+ℤ◌, ◌-ℤ◌}
use lib.Signed.{quot_z}
use mir.Facts.{to_z-of_z}
use Rattle.integer.specs.Order.{◌≺◌}
use Rattle.integer.specs.Quotient.{◌÷◌, quotient_up}
use Rattle.integer.proofs.Parts.{minus}
use Rattle.integer.proofs.Order.{order}
use Rattle.integer.proofs.Sizes.{fitting, fit, size_parts, fits_by, back, Formed, formed}
use Rattle.integer.proofs.Quotient.{divides, machine_quotient, machine_up, size_quotient, size_up, up_from_one}
-- ---- From 1 on: what the code forms
-- ---- Below
use Rattle.integer.proofs.number.quotient_up.Goals as goal

module _ (c : goal.Then-x-gt0) where
  abbrev x : ℤ
  x = c.args.x

  abbrev d : ℤ
  d = c.args.d

  above : pos 0 ≺ x
  above = omega (arith, fitting, fit c.ranges.x)

  size : nat_abs x < 2 ^ 63
  size = let a = above in omega (arith, fitting, fit c.ranges.x, size_parts x)

  size_less : nat_abs (x -ℤ pos 1) ≤ nat_abs x
  size_less = let a = above in omega (arith, order, size_parts x, size_parts (x -ℤ pos 1), minus x (pos 1))

  less : Formed (back x -ℤ pos 1) (x -ℤ pos 1)
  less = formed (rw (to_z-of_z c.ranges.x)) size_less size

  whole : Formed (quot_z (back (back x -ℤ pos 1)) (back d)) ((x -ℤ pos 1) ÷ d)
  whole =
      let a = above in
      formed (rw (less.is, to_z-of_z c.ranges.d) (machine_quotient (x -ℤ pos 1) d (omega (arith, order, minus x (pos 1))) c.requires))
      (le_trans (size_quotient (x -ℤ pos 1) d) size_less) size

  raised : Formed (back (quot_z (back (back x -ℤ pos 1)) (back d)) +ℤ pos 1) (quotient_up x d)
  raised = formed (rw whole.is (up_from_one x d c.requires)) (size_up x d) size

pub overflow_sub-result : goal.overflow_sub-result
overflow_sub-result c = (less c).fits

pub nonzero_div-result : goal.nonzero_div-result
nonzero_div-result c = rw ((less c).is, to_z-of_z c.ranges.d) (divides (x c -ℤ pos 1) (d c) c.requires (fits_by (x c -ℤ pos 1) (size_less c) (size c)))

pub overflow_add-result : goal.overflow_add-result
overflow_add-result c = (raised c).fits

pub returns-then-x-gt0 : goal.returns-then-x-gt0
returns-then-x-gt0 c = (raised c).is

pub nonzero_div-result-2 : goal.nonzero_div-result-2
nonzero_div-result-2 c = let f = c.ranges in rw (to_z-of_z f.x, to_z-of_z f.d) (divides _ _ c.requires f.x)

pub returns : goal.returns
returns c =
    let f = c.ranges in
    rw (to_z-of_z (nonzero_div-result-2 c).1, to_z-of_z f.x, to_z-of_z f.d)
    (machine_up c.args.x c.args.d (omega (arith, fitting, fit f.x)) c.requires)
