-- Each step is read back as the number that it stands for, from the inside out; then its size shows that it fits.
use Prim.Native.Nat.{◌<◌}
use mathlib.Core.Path.{◌≡◌, ◌∙◌}
use native.Mathlib.Nat.{le_trans}
use native.Mathlib.Omega.{arith}
use lib.IntN.{ℤ, pos, ◌+ℤ◌, ◌-ℤ◌, ◌*ℤ◌}
use lib.Signed.{quot_z}
use mir.Syntax.{w64}
use mir.Val.{SFits, of_z}
use mir.Facts.{to_z-of_z}
use Rattle.integer.specs.Quotient.{◌÷◌}
use Rattle.integer.proofs.Order.{order}
use Rattle.integer.proofs.Sizes.{called, size-add, size-mul, fits_by, back, Formed, formed}
use Rattle.integer.proofs.Quotient.{divides, machine_quotient, size_quotient}
use Rattle.integer.proofs.Square.{Sized, rest, raised, square_quotient, divisor, size_divisor, size-whole, size-rest, size_both, size_front, size-square, size_less, size_raised, raised_nonneg}
use Rattle.integer.proofs.number.square_quotient.Goals as goal

module _ (c : goal.After-quotient-a) where
  abbrev s : ℤ
  s = c.args.s

  abbrev d : ℤ
  d = c.args.d

  -- what the code forms, in its order: a d, b, s + b, a (s + b), b b, d − 1, their sum, its quotient, and the total
  abbrev a : ℤ
  a = c.quotient-a.result

  abbrev multiple : ℤ
  multiple = back a *ℤ back d

  abbrev b : ℤ
  b = back s -ℤ back multiple

  abbrev both : ℤ
  both = back s +ℤ back b

  abbrev front : ℤ
  front = back a *ℤ back both

  abbrev square : ℤ
  square = back b *ℤ back b

  abbrev less : ℤ
  less = back d -ℤ pos 1

  abbrev lifted : ℤ
  lifted = back square +ℤ back less

  abbrev last : ℤ
  last = quot_z (back lifted) (back d)

  abbrev total : ℤ
  total = back front +ℤ back last

  sized : Sized s d
  sized = let p = c.requires in record { size = p.0; low = p.1; high = p.2 }

  s_is : back s ≡ s
  s_is = to_z-of_z c.ranges.s

  d_is : back d ≡ d
  d_is = to_z-of_z c.ranges.d

  a_is : back a ≡ s ÷ d
  a_is = called a c.quotient-a.type_inv ∙ rw (s_is, d_is) at c.quotient-a.ensures

  multiple_formed : Formed multiple ((s ÷ d) *ℤ d)
  multiple_formed = formed (rw (a_is, d_is)) (size-mul (s ÷ d) d (size-whole s d sized) (size_divisor s d sized)) (omega arith)

  b_formed : Formed b (rest s d)
  b_formed = formed (rw (s_is, multiple_formed.is)) (size-rest s d sized) (omega arith)

  both_formed : Formed both (s +ℤ rest s d)
  both_formed = formed (rw (b_formed.is, s_is)) (size_both s d sized) (omega arith)

  front_formed : Formed front ((s ÷ d) *ℤ (s +ℤ rest s d))
  front_formed = formed (rw (both_formed.is, a_is)) (size_front s d sized) (omega arith)

  square_formed : Formed square (rest s d *ℤ rest s d)
  square_formed = formed (rw b_formed.is) (size-square s d sized) (omega arith)

  less_formed : Formed less (d -ℤ pos 1)
  less_formed = formed (rw d_is) (size_less s d sized) (omega arith)

  lifted_formed : Formed lifted (raised s d)
  lifted_formed = formed (rw (square_formed.is, less_formed.is)) (size_raised s d sized) (omega arith)

  division : (0 < of_z w64 d) × SFits w64 (quot_z (raised s d) d)
  division = divides (raised s d) d (divisor s d sized) (fits_by (raised s d) (size_raised s d sized) (omega arith))

  last_formed : Formed last (raised s d ÷ d)
  last_formed =
      formed (rw (lifted_formed.is, d_is) (machine_quotient (raised s d) d (raised_nonneg s d sized) (divisor s d sized)))
      (le_trans (size_quotient (raised s d) d) (size_raised s d sized)) (omega arith)

  total_formed : Formed total ((s ÷ d) *ℤ (s +ℤ rest s d) +ℤ raised s d ÷ d)
  total_formed =
      formed (rw (front_formed.is, last_formed.is))
      (size-add ((s ÷ d) *ℤ (s +ℤ rest s d)) (raised s d ÷ d) (size_front s d sized)
      (le_trans (size_quotient (raised s d) d) (size_raised s d sized))) (omega arith)

pub quotient-a-requires : goal.quotient-a-requires
quotient-a-requires c = rw (to_z-of_z c.ranges.d) (let p = c.requires in omega (arith, order))

pub overflow_mul-b : goal.overflow_mul-b
overflow_mul-b c = (multiple_formed c).fits

pub overflow_sub-b : goal.overflow_sub-b
overflow_sub-b c = (b_formed c).fits

pub overflow_add-total : goal.overflow_add-total
overflow_add-total c = (both_formed c).fits

pub overflow_mul-total : goal.overflow_mul-total
overflow_mul-total c = (front_formed c).fits

pub overflow_mul-total-2 : goal.overflow_mul-total-2
overflow_mul-total-2 c = (square_formed c).fits

pub overflow_sub-total : goal.overflow_sub-total
overflow_sub-total c = (less_formed c).fits

pub overflow_add-total-2 : goal.overflow_add-total-2
overflow_add-total-2 c = (lifted_formed c).fits

pub nonzero_div-total : goal.nonzero_div-total
nonzero_div-total c = rw ((lifted_formed c).is, d_is c) (division c)

pub overflow_add-total-3 : goal.overflow_add-total-3
overflow_add-total-3 c = (total_formed c).fits

pub returns : goal.returns
returns c = (total_formed c).is ∙ square_quotient (s c) (d c) (divisor (s c) (d c) (sized c))
