-- Quotients by a divisor from 1.
use Rattle.std.specs.Prelude.{◌/◌, ℤ, pos, negsuc, neg_ℤ, nat_abs}

infixl 7 ◌÷◌
-- Rounded down, as document 01 rounds every quotient. `negsuc a` is −(a + 1): the numbers −1 to −d have the quotient −1.
unfoldable pub ◌÷◌ : ℤ → ℤ → ℤ
pos a ÷ d = pos (a / nat_abs d)
negsuc a ÷ d = negsuc (a / nat_abs d)

-- Rounded up, as document 02, request 7 rounds that of the third piece: −z / d rounded down, its sign changed.
unfoldable pub quotient_up : ℤ → ℤ → ℤ
quotient_up z d = neg_ℤ (neg_ℤ z ÷ d)
