use Prim.Native.Nat.{◌+◌, ◌*◌, ◌≤◌}
use mathlib.Core.Path.{◌∙◌}
use native.Mathlib.Omega.{arith}
use native.Mathlib.Nat.{le_refl}
use lib.IntN.{ℤ, pos, nat_abs, ◌+ℤ◌, ◌*ℤ◌}
use mir.Facts.{to_z-of_z}
use Rattle.integer.specs.Quotient.{◌÷◌}
use Rattle.integer.proofs.Sizes.{size-add, size-mul, called, back, Formed, formed}
use Rattle.primal.specs.Ranges.{most_residual}
use Rattle.steps.specs.Steps.{ascended}
use Rattle.steps.proofs.NumberSizes.{moved}
use Rattle.steps.proofs.numbers.ascended_of.Goals as goal

module _ (c : goal.Start) where
  abbrev e : ℤ
  e = c.args.e

  abbrev gain : ℤ
  gain = c.args.gain

  size_product : nat_abs (e *ℤ gain) ≤ most_residual * 65535
  size_product = size-mul e gain c.requires.2 c.requires.0

  product : Formed (back e *ℤ back gain) (e *ℤ gain)
  product = formed (rw (to_z-of_z c.ranges.e, to_z-of_z c.ranges.gain)) size_product (omega arith)

  size_dividend : nat_abs (e *ℤ gain +ℤ pos 32768) ≤ most_residual * 65535 + 32768
  size_dividend = size-add (e *ℤ gain) (pos 32768) size_product (le_refl 32768)

  dividend : Formed (back (back e *ℤ back gain) +ℤ pos 32768) (e *ℤ gain +ℤ pos 32768)
  dividend = formed (rw product.is) size_dividend (omega arith)

pub overflow_mul-e : goal.overflow_mul-e
overflow_mul-e c = (product c).fits

pub overflow_add-e : goal.overflow_add-e
overflow_add-e c = (dividend c).fits

pub lifted_quotient-requires : goal.lifted_quotient-requires
lifted_quotient-requires c = rw (dividend c).is (let h = size_dividend c in (omega arith, omega arith, omega arith))

total : (c : goal.After-lifted_quotient) →
    let a = c.args in Formed (back a.y +ℤ back c.lifted_quotient.result) (a.y +ℤ (a.e *ℤ a.gain +ℤ pos 32768) ÷ pos 65536)
total c =
    let b = c.before in
    moved b.args.y _ _ c.lifted_quotient.result b.requires.1 (size_dividend b) (omega arith)
    (called c.lifted_quotient.result c.lifted_quotient.type_inv ∙ rw (dividend b).is at c.lifted_quotient.ensures)

pub overflow_add-y : goal.overflow_add-y
overflow_add-y c = (total c).fits

pub returns : goal.returns
unfolding ascended
returns c = called c.limit.result c.limit.type_inv ∙ rw (total c.before).is at c.limit.ensures
