use Prim.Native.Nat.{◌*◌, ◌≤◌}
use mathlib.Core.Path.{◌∙◌}
use native.Mathlib.Omega.{arith}
use native.Mathlib.Nat.{le_refl}
use lib.IntN.{ℤ, pos, nat_abs, ◌+ℤ◌, ◌-ℤ◌, ◌*ℤ◌}
use mir.Facts.{to_z-of_z}
use Rattle.integer.specs.Quotient.{◌÷◌}
use Rattle.integer.proofs.Parts.{plus}
use Rattle.integer.proofs.Order.{order}
use Rattle.integer.proofs.Sizes.{size_parts, size-add, size-sub, size-mul, called, back, Formed, formed}
use Rattle.steps.specs.Steps.{ahead}
use Rattle.steps.proofs.NumberSizes.{moved}
use Rattle.steps.proofs.numbers.ahead_of.Goals as goal

module _ (c : goal.Start) where
  abbrev k : ℤ
  k = c.args.k

  abbrev y : ℤ
  y = c.args.y

  abbrev previous : ℤ
  previous = c.args.previous

  size_round : nat_abs k ≤ 10000
  size_round = let h = c.requires in omega (arith, order, size_parts k)

  size_factor : nat_abs (k -ℤ pos 1) ≤ 10001
  size_factor = size-sub k (pos 1) size_round (le_refl 1)

  factor : Formed (back k -ℤ pos 1) (k -ℤ pos 1)
  factor = formed (rw (to_z-of_z c.ranges.k)) size_factor (omega arith)

  size_change : nat_abs (y -ℤ previous) ≤ 33554432
  size_change = size-sub y previous c.requires.2 c.requires.3

  change : Formed (back y -ℤ back previous) (y -ℤ previous)
  change = formed (rw (to_z-of_z c.ranges.y, to_z-of_z c.ranges.previous)) size_change (omega arith)

  size_product : nat_abs ((k -ℤ pos 1) *ℤ (y -ℤ previous)) ≤ 10001 * 33554432
  size_product = size-mul (k -ℤ pos 1) (y -ℤ previous) size_factor size_change

  product : Formed (back (back k -ℤ pos 1) *ℤ back (back y -ℤ back previous)) ((k -ℤ pos 1) *ℤ (y -ℤ previous))
  product = formed (rw (factor.is, change.is)) size_product (omega arith)

  divisor : Formed (back k +ℤ pos 2) (k +ℤ pos 2)
  divisor = formed (rw (to_z-of_z c.ranges.k)) (size-add k (pos 2) size_round (le_refl 2)) (omega arith)

pub overflow_sub-k : goal.overflow_sub-k
overflow_sub-k c = (factor c).fits

pub overflow_sub-y : goal.overflow_sub-y
overflow_sub-y c = (change c).fits

pub overflow_mul-k : goal.overflow_mul-k
overflow_mul-k c = (product c).fits

pub overflow_add-k : goal.overflow_add-k
overflow_add-k c = (divisor c).fits

pub quotient-requires : goal.quotient-requires
quotient-requires c = let h = c.requires in rw (divisor c).is (omega (arith, order, plus c.args.k (pos 2)))

total : (c : goal.After-quotient) →
    let a = c.args in
    Formed (back a.y +ℤ back c.quotient.result) (a.y +ℤ ((a.k -ℤ pos 1) *ℤ (a.y -ℤ a.previous)) ÷ (a.k +ℤ pos 2))
total c =
    let b = c.before in
    moved b.args.y _ _ c.quotient.result b.requires.2 (size_product b) (omega arith)
    (called c.quotient.result c.quotient.type_inv ∙ rw ((product b).is, (divisor b).is) at c.quotient.ensures)

pub overflow_add-y : goal.overflow_add-y
overflow_add-y c = (total c).fits

pub returns : goal.returns
unfolding ahead
returns c = called c.limit.result c.limit.type_inv ∙ rw (total c.before).is at c.limit.ensures
