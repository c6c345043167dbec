-- Which entries are refused: the tests of `import_entry` are those of the definition.
use Prim.Native.Nat.{ℕ, ◌*◌, ◌<◌, ◌≤◌}
use mathlib.Core.Path.{◌≡◌}
use mathlib.Core.Bool.{true, false}
use native.Mathlib.Omega.{arith}
use lib.IntN.{ℤ, pos, negsuc, nat_abs, ◌+ℤ◌, ◌-ℤ◌, ◌*ℤ◌}
use lib.Ieee.{Float, fin, lt, le}
use Rattle.integer.specs.Order.{◌≼◌, ◌≺◌}
use Rattle.integer.proofs.Parts.{plus, minus, times}
use Rattle.integer.proofs.Ring.{ring, K, ◌⊗◌, ◌≐◌}
use Rattle.integer.proofs.Order.{order, le→, lt→, mul-le, mul_cancel_lt}
use Rattle.integer.proofs.Sizes.{size_parts}
use Rattle.float.specs.Value.{Finite, numerator, denominator}
use Rattle.float.specs.Nearest.{Nearest}
use Rattle.float.proofs.Values.{own, denominator_pos, value_less, value_not_less, value-most, value-above}
use Rattle.float.proofs.Rounded.{nearest_exists}
use Rattle.import.specs.Entries.{scaled, number}

-- ---- Where the number nearest to 4096 n / d lies

module _ (n : ℤ) (d : ℕ) (k : ℤ) (D : 0 < d) (h : Nearest (pos 4096 *ℤ n) d k) where
  double : pos 2 *ℤ (pos 4096 *ℤ n) ≡ n *ℤ pos 8192
  double = ring 1 (λ n. K 2 ⊗ (K 4096 ⊗ n) ≐ n ⊗ K 8192) tt n

  lower : (pos 2 *ℤ k -ℤ pos 1) *ℤ pos d ≼ n *ℤ pos 8192
  lower = rw double at h.from

  upper : n *ℤ pos 8192 ≺ (pos 2 *ℤ k +ℤ pos 1) *ℤ pos d
  upper = rw double at h.below

  -- a factor d comes off both sides
  off : (u v : ℤ) → u *ℤ pos d ≺ v *ℤ pos d → u ≺ v
  off u v l = mul_cancel_lt (pos d) (omega (arith, order)) (rw (ring 2 (λ u d. u ⊗ d ≐ d ⊗ u) tt u (pos d), ring 2 (λ u d. u ⊗ d ≐ d ⊗ u) tt v (pos d)) at l)

  high-beyond : pos 32769 *ℤ pos d ≼ n *ℤ pos 8192 → 16384 < nat_abs k
  high-beyond l =
      let m : pos 32769 ≺ pos 2 *ℤ k +ℤ pos 1 = off (pos 32769) (pos 2 *ℤ k +ℤ pos 1) (omega (arith, order, le→ l, lt→ upper)) in
      omega (arith, lt→ m, size_parts k, times (pos 2) k, plus (pos 2 *ℤ k) (pos 1))

  low-beyond : n *ℤ pos 8192 ≺ negsuc 32768 *ℤ pos d → 16384 < nat_abs k
  low-beyond l =
      let m : pos 2 *ℤ k -ℤ pos 1 ≺ negsuc 32768 = off (pos 2 *ℤ k -ℤ pos 1) (negsuc 32768) (omega (arith, order, lt→ l, le→ lower)) in
      omega (arith, lt→ m, size_parts k, times (pos 2) k, minus (pos 2 *ℤ k) (pos 1))

  inside : n *ℤ pos 8192 ≺ pos 32769 *ℤ pos d → negsuc 32768 *ℤ pos d ≼ n *ℤ pos 8192 → nat_abs k ≤ 16384
  inside l m =
      let u : pos 2 *ℤ k -ℤ pos 1 ≺ pos 32769 = off (pos 2 *ℤ k -ℤ pos 1) (pos 32769) (omega (arith, order, lt→ l, le→ lower)) in
      let v : negsuc 32768 ≺ pos 2 *ℤ k +ℤ pos 1 = off (negsuc 32768) (pos 2 *ℤ k +ℤ pos 1) (omega (arith, order, le→ m, lt→ upper)) in
      omega (arith, lt→ u, lt→ v, size_parts k, times (pos 2) k, minus (pos 2 *ℤ k) (pos 1), plus (pos 2 *ℤ k) (pos 1))

  -- the other way: a number that is not too large leaves the entry below 5
  small : nat_abs k ≤ 16384 → nat_abs n ≤ 5 * d
  small b =
      let u : (pos 2 *ℤ k +ℤ pos 1) *ℤ pos d ≼ pos 32769 *ℤ pos d = grown (pos 2 *ℤ k +ℤ pos 1) (pos 32769) (omega (arith, order, b, size_parts k, times (pos 2) k, plus (pos 2 *ℤ k) (pos 1))) in
      let v : negsuc 32768 *ℤ pos d ≼ (pos 2 *ℤ k -ℤ pos 1) *ℤ pos d = grown (negsuc 32768) (pos 2 *ℤ k -ℤ pos 1) (omega (arith, order, b, size_parts k, times (pos 2) k, minus (pos 2 *ℤ k) (pos 1))) in
      omega (arith, le→ u, le→ v, lt→ upper, le→ lower, size_parts n, times n (pos 8192), times (negsuc 32768) (pos d), times (pos 32769) (pos d))
    where
      grown : (u v : ℤ) → u ≼ v → u *ℤ pos d ≼ v *ℤ pos d
      grown u v l = rw (ring 2 (λ u d. u ⊗ d ≐ d ⊗ u) tt u (pos d), ring 2 (λ u d. u ⊗ d ≐ d ⊗ u) tt v (pos d)) (mul-le (pos d) (omega (arith, order)) l)

-- ---- 16,384.5 / 4,096 and the two tests

abbrev bound : Float
bound = fin false 32769 (negsuc 12)

abbrev minus_bound : Float
minus_bound = fin true 32769 (negsuc 12)

module _ (a : Float) (f : Finite a) where
  D : 0 < denominator a
  D = denominator_pos a

  pub is-nearest : Nearest (scaled a) (denominator a) (number a)
  unfolding number
  is-nearest = nearest_exists (scaled a) (denominator a) D

  pub too_high : le bound a ≡ true → 16384 < nat_abs (number a)
  too_high h = high-beyond (numerator a) (denominator a) (number a) D is-nearest (value-most (own bound tt) (own a f) (omega arith) D h)

  pub too_low : lt a minus_bound ≡ true → 16384 < nat_abs (number a)
  too_low h = low-beyond (numerator a) (denominator a) (number a) D is-nearest (value_less (own a f) (own minus_bound tt) D (omega arith) h)

  pub within : le bound a ≡ false → lt a minus_bound ≡ false → nat_abs (number a) ≤ 16384
  within h l =
      inside (numerator a) (denominator a) (number a) D is-nearest
      (value-above (own bound tt) (own a f) (omega arith) D h)
      (value_not_less (own a f) (own minus_bound tt) D (omega arith) l)

  pub below_5 : nat_abs (number a) ≤ 16384 → nat_abs (numerator a) ≤ 5 * denominator a
  below_5 b = small (numerator a) (denominator a) (number a) D is-nearest b
