-- The root of a number, rounded up.
use Rattle.std.specs.Prelude.{ℕ, zero, suc, ◌+◌, ◌*◌, ◌≤◌, cond, ltb}

-- Of 0 it is 0; of n + 1 it is that of n, or one more where the square of that is only n.
unfoldable pub root_up : ℕ → ℕ
root_up zero = 0
root_up (suc n) = cond (ltb n (root_up n * root_up n)) (root_up n) (root_up n + 1)

-- b is the least number whose square is at least z.
pub record LeastRoot (z b : ℕ) : Type 0 where
  pub enough : z ≤ b * b
  pub least : (c : ℕ) → z ≤ c * c → b ≤ c
