-- A quotient rounded down, from the unsigned one of a number that is lifted above 0 by a multiple of the divisor.
use Prim.Native.Nat.{ℕ, ◌*◌, ◌/◌, ◌<◌, ◌≤◌}
use mathlib.Core.Path.{◌≡◌, refl}
use native.Mathlib.Omega.{arith}
use lib.IntN.{ℤ, pos, negsuc, nat_abs, ◌+ℤ◌, ◌-ℤ◌}
use Rattle.integer.specs.Order.{◌≼◌}
use Rattle.integer.specs.Quotient.{◌÷◌}
use Rattle.integer.proofs.Order.{order}
use Rattle.integer.proofs.Parts.{plus}
use Rattle.integer.proofs.Ring.{ring, ◌⊕◌, ◌⊖◌, ◌⊗◌, ◌≐◌}
use Rattle.integer.proofs.Sizes.{size_parts}
use Rattle.integer.proofs.Quotient.{quotient_shift}

-- what is lifted is from 0
pub lifted_nonneg : (z : ℤ) {n : ℕ} → nat_abs z ≤ n → pos 0 ≼ z +ℤ pos n
lifted_nonneg z {n} h = omega (arith, order, size_parts z, plus z (pos n))

unsigned : (w : ℤ) (d : ℕ) → pos 0 ≼ w → pos (nat_abs w / d) ≡ w ÷ pos d
unfolding ◌÷◌
unsigned (pos a) d h = refl
unsigned (negsuc a) d h = absurd h.le

pub quotient_lifted : (z : ℤ) (c d : ℕ) → 0 < d → nat_abs z ≤ c * d → pos (nat_abs (z +ℤ pos (c * d)) / d) -ℤ pos c ≡ z ÷ pos d
quotient_lifted z c d p h =
    rw (
      unsigned (z +ℤ pos (c * d)) d (lifted_nonneg z h),
      ring 3 (λ z c d. z ⊕ c ⊗ d ≐ d ⊗ c ⊕ z) tt z (pos c) (pos d),
      quotient_shift (pos d) (pos c) z (omega (arith, order)),
    ) (ring 2 (λ c q. c ⊕ q ⊖ c ≐ q) tt (pos c) (z ÷ pos d))
