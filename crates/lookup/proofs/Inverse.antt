-- Division as a product with the divisor's inverse.
use Prim.Native.Nat.{ℕ, ◌+◌, ◌*◌, ◌/◌, ◌%◌, ◌<◌, ◌≤◌}
use mathlib.Core.Path.{◌≡◌, ◌∙◌, ap}
use native.Mathlib.Omega.{arith}
use native.Mathlib.Nat.{div-add-mod, mod-lt, div-eq_of_lt-le, div-div-eq-div-mul, mul-le-mul_left, mul-le-mul_right, lt_of_mul-lt-mul_right}
use lib.IntN.{ℤ, pos, negsuc, nat_abs, ◌+ℤ◌, ◌*ℤ◌}
use Rattle.integer.specs.Order.{◌≼◌}
use Rattle.integer.specs.Quotient.{◌÷◌}
use Rattle.integer.proofs.Order.{order}

module _ (N h z : ℕ) (divisor : 0 < h) (small : z * h < N) where
  low : z / h * N ≤ z * (N / h + 1)
  low =
      let l : N % h ≤ h = omega (arith, mod-lt N divisor) in
      omega (
        arith,
        ap (λ (x : ℕ). z / h * x) (div-add-mod N h),
        ap (λ (x : ℕ). x * (N / h + 1)) (div-add-mod z h),
        mul-le-mul_left (z / h) l,
      )

  high : z * (N / h + 1) < (z / h + 1) * N
  high =
      let l : z + 1 ≤ (z / h + 1) * h = omega (arith, div-add-mod z h, mod-lt z divisor) in
      lt_of_mul-lt-mul_right h (omega (arith, ap (λ (x : ℕ). z * x) (div-add-mod N h), mul-le-mul_right N l))

  inverse_quotient : z * (N / h + 1) / N ≡ z / h
  inverse_quotient = div-eq_of_lt-le N low high

-- after a division by 8192 it divides by 8192 h
two_quotients : (N h z : ℕ) → 0 < h → z / 8192 * h < N → z / 8192 * (N / h + 1) / N ≡ z / (8192 * h)
two_quotients N h z d s = inverse_quotient N h (z / 8192) d s ∙ div-div-eq-div-mul z 8192 h

-- that is 2P, where P is 4096 h
module _ (z p h : ℤ) (whole : p ≡ pos 4096 *ℤ h) (some : pos 0 ≼ z) (one : pos 1 ≼ h) where
  pub by_inverse : nat_abs z / 8192 * nat_abs h < 68719476736 →
      pos (nat_abs z / 8192 * nat_abs (pos 68719476736 ÷ (p ÷ pos 4096) +ℤ pos 1) / 68719476736) ≡ z ÷ (pos 2 *ℤ p)
  unfolding ◌÷◌
  by_inverse = rw whole (go z h some one)
    where
      go : (z h : ℤ) → pos 0 ≼ z → pos 1 ≼ h → nat_abs z / 8192 * nat_abs h < 68719476736 →
          pos (nat_abs z / 8192 * nat_abs (pos 68719476736 ÷ (pos 4096 *ℤ h ÷ pos 4096) +ℤ pos 1) / 68719476736) ≡ z ÷ (pos 2 *ℤ (pos 4096 *ℤ h))
      go (pos z) (pos h) some one small =
          let e : 4096 * h / 4096 ≡ h = omega arith in
          let f : 2 * (4096 * h) ≡ 8192 * h = omega arith in
          rw (e, f) (ap pos (two_quotients 68719476736 h z (omega (arith, order)) small))
      go (pos z) (negsuc h) some one small = absurd one.le
      go (negsuc z) h some one small = absurd some.le
