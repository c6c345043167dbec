-- Tests: whether a number lies outside a range, whether one of several does, and how many do.
use Rattle.std.specs.Prelude.{ℕ, zero, suc, ◌+◌, Bool, false, cond, ◌||◌, ℤ}
use Rattle.std.specs.Int.Signed.{lt_z}

-- v is not in lo to hi
unfoldable pub outside : ℤ → ℤ → ℤ → Bool
outside lo hi v = lt_z v lo || lt_z hi v

-- f holds of a number below count
unfoldable pub any : ℕ → (ℕ → Bool) → Bool
any zero f = false
any (suc count) f = any count f || f count

-- how many numbers below n have f
unfoldable pub count : ℕ → (ℕ → Bool) → ℕ
count zero f = 0
count (suc n) f = count n f + cond (f n) 1 0
