-- No step of the code that forms the next multiplier passes 64 bits.
use Prim.Native.Nat.{ℕ, ◌+◌, ◌^◌, ◌<◌, ◌≤◌}
use mathlib.Core.Path.{◌≡◌}
use native.Mathlib.Omega.{arith}
use native.Mathlib.Nat.{le_trans}
use lib.IntN.{ℤ, nat_abs, ◌+ℤ◌}
use Rattle.integer.specs.Quotient.{◌÷◌}
use Rattle.integer.proofs.Sizes.{size-add, back, back_is, Formed, formed}
use Rattle.integer.proofs.Quotient.{size_quotient}
use Rattle.commands.specs.Ranges.{most_multiplier}

-- a multiplier y plus the quotient z ÷ d, which a call returned as q
pub moved : (y z d q : ℤ) {B : ℕ} → nat_abs y ≤ most_multiplier → nat_abs z ≤ B → 16777216 + B < 2 ^ 63 → back q ≡ z ÷ d →
    Formed (back y +ℤ back q) (y +ℤ z ÷ d)
moved y z d q h k l e =
    formed (rw (back_is y h (omega arith), e)) (size-add y (z ÷ d) h (le_trans (size_quotient z d) k)) l
