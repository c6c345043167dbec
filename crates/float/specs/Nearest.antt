-- The whole number nearest to a fraction p / q, for a q from 1, halves upward.
use Rattle.std.specs.Prelude.{ℕ, ◌*◌, ◌≤◌, ℤ, pos, ◌+ℤ◌, ◌-ℤ◌, ◌*ℤ◌, unsigned_abs, Float}
use Rattle.integer.specs.Order.{◌≼◌, ◌≺◌}
use Rattle.integer.specs.Quotient.{◌÷◌}
use Rattle.float.specs.Value.{Finite, numerator, denominator}

-- p / q + 1/2, rounded down
abbrev pub nearest_whole : ℤ → ℕ → ℤ
nearest_whole p q = (pos 2 *ℤ p +ℤ pos q) ÷ (pos 2 *ℤ pos q)

-- k − 1/2 ≤ p / q < k + 1/2
pub record Nearest (p : ℤ) (q : ℕ) (k : ℤ) : Type 0 where
  pub from : (pos 2 *ℤ k -ℤ pos 1) *ℤ pos q ≼ pos 2 *ℤ p
  pub below : pos 2 *ℤ p ≺ (pos 2 *ℤ k +ℤ pos 1) *ℤ pos q

-- x is finite and at most B in size
pub record Within (B : ℕ) (x : Float) : Type 0 where
  pub finite : Finite x
  pub size : unsigned_abs (numerator x) ≤ B * denominator x
