-- Rows and padded places: row a is state a % n of step a / n.
use Prim.Native.Nat.{ℕ, ◌+◌, ◌*◌, ◌/◌, ◌%◌, ◌<◌, ◌≤◌}
use native.Mathlib.Nat.{div-lt_iff_lt-mul, mod-lt, mul-le-mul}
use native.Mathlib.Omega.{arith}

-- the padded place of a row
pub place_small : (a n : ℕ) → 1 ≤ n → n ≤ 6 → a < 12 * n → 6 * (a / n) + a % n < 72
place_small a n h k l =
    let q : a / n < 12 = (div-lt_iff_lt-mul {k = n} {x = a} {y = 12} (omega arith)).1 l in
    let r : a % n < n = mod-lt a (omega arith) in
    omega arith

-- the row of a padded place
pub row_small : (p n : ℕ) → n ≤ 6 → p < 72 → p % 6 < n → p / 6 * n + p % 6 < 72
row_small p n k l h =
    let q : p / 6 ≤ 11 = omega arith in
    let m : p / 6 * n ≤ 11 * 6 = mul-le-mul q k in
    omega arith
