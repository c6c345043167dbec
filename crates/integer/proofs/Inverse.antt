-- A quotient as one by a larger N of a product with the divisor's inverse.
use Prim.Native.Nat.{ℕ, ◌+◌, ◌*◌, ◌/◌, ◌%◌, ◌<◌, ◌≤◌}
use mathlib.Core.Path.{◌≡◌, ap}
use native.Mathlib.Omega.{arith}
use native.Mathlib.Nat.{div-add-mod, mod-lt, div-eq_of_lt-le, mul-le-mul_left, mul-le-mul_right, lt_of_mul-lt-mul_right}

module _ (N h z : ℕ) (divisor : 0 < h) (small : z * h < N) where
  low : z / h * N ≤ z * (N / h + 1)
  low =
      let l : N % h ≤ h = omega (arith, mod-lt N divisor) in
      omega (
        arith,
        ap (λ (x : ℕ). z / h * x) (div-add-mod N h),
        ap (λ (x : ℕ). x * (N / h + 1)) (div-add-mod z h),
        mul-le-mul_left (z / h) l,
      )

  high : z * (N / h + 1) < (z / h + 1) * N
  high =
      let l : z + 1 ≤ (z / h + 1) * h = omega (arith, div-add-mod z h, mod-lt z divisor) in
      lt_of_mul-lt-mul_right h (omega (arith, ap (λ (x : ℕ). z * x) (div-add-mod N h), mul-le-mul_right N l))

  pub inverse_quotient : z * (N / h + 1) / N ≡ z / h
  inverse_quotient = div-eq_of_lt-le N low high
