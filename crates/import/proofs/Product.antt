-- 4096 times an entry that is not refused is exact in floats; so are the test against its nearest whole number and the difference.
use Prim.Native.Nat.{◌*◌, ◌^◌, ◌<◌, ◌≤◌}
use mathlib.Core.Path.{◌≡◌, sym, ap, ◌∙◌}
use mathlib.Core.Bool.{true, false}
use native.Mathlib.Omega.{arith}
use native.Mathlib.Nat.{le_trans, mul-le-mul_right, lt_of_le_of_lt, le_of_mul-le-mul_right, mul_right_comm}
use lib.Dec.{T}
use lib.IntN.{ℤ, pos, nat_abs, ◌-ℤ◌, ◌*ℤ◌}
use lib.Ieee.{Float, fin, binary64, mul, sub, of_int, fits, eq}
use lib.Ieee.Fits.{mul-fits}
use Rattle.integer.proofs.Parts.{minus}
use Rattle.integer.proofs.Ring.{ring, K, ◌⊖◌, ◌⊗◌, ◌≐◌}
use Rattle.integer.proofs.Order.{order, eq→}
use Rattle.integer.proofs.Sizes.{size_product}
use Rattle.float.specs.Value.{Finite, numerator, denominator, Equals, float_of}
use Rattle.float.specs.Nearest.{nearest_whole, Nearest, Within}
use Rattle.float.proofs.Values.{rescaled, denominator_pos, value_equal, value_unequal}
use Rattle.float.proofs.Exact.{exact_4096, shape, few_digits, sub_is}
use Rattle.float.proofs.Rounded.{nearest_exists, nearest-is, nearest-same, nearest_left}
use Rattle.float.proofs.Whole.{whole-value, whole_over, less_whole, few}
use Rattle.import.specs.Entries.{scaled, number, rest, Is}
use Rattle.import.proofs.Bounds.{below_5}

abbrev pub product : Float → Float
product a = mul binary64 a (fin false 1 (pos 12))

abbrev pub whole : Float → Float
whole a = of_int binary64 (number a)

module _ (a : Float) (f : Finite a) (g : T (fits binary64 a)) (s : nat_abs (number a) ≤ 16384) where
  D : 0 < denominator a
  D = denominator_pos a

  product_value : Equals (product a) (scaled a) (denominator a)
  product_value =
      let h = shape a f g in
      exact_4096 a f h.is h.few (few_digits a f g (le_trans (below_5 a f s) (mul-le-mul_right (denominator a) (omega arith))))

  pub product_within : Within 67108864 (product a)
  product_within =
      let v = product_value in
      let m = nat_abs (numerator (product a)) in
      let c = denominator (product a) in
      let e : m * denominator a ≡ nat_abs (scaled a) * c = sym (size_product (numerator (product a)) (pos (denominator a))) ∙ ap nat_abs v.value ∙ size_product (scaled a) (pos c) in
      let b : nat_abs (scaled a) ≤ 67108864 * denominator a = omega (arith, size_product (pos 4096) (numerator a), below_5 a f s) in
      let l : nat_abs (scaled a) * c ≤ 67108864 * denominator a * c = mul-le-mul_right c b in
      record {
        finite = v.finite;
        size = le_of_mul-le-mul_right (rw (← e, mul_right_comm 67108864 (denominator a) c) at l) D;
      }

  -- the product's own nearest whole number
  product_nearest : Nearest (numerator (product a)) (denominator (product a)) (nearest_whole (numerator (product a)) (denominator (product a)))
  product_nearest = nearest_exists (numerator (product a)) (denominator (product a)) (denominator_pos (product a))

  pub product_number : nearest_whole (numerator (product a)) (denominator (product a)) ≡ number a
  unfolding number
  product_number = nearest-is (scaled a) (denominator a) _ D (nearest-same D product_value product_nearest)

  small_float : nat_abs (number a) ≤ 2 ^ 53
  small_float = le_trans s (omega arith)

  as_float : Equals (whole a) (number a) 1
  as_float = whole-value (number a) small_float

  one : scaled a *ℤ pos 1 ≡ scaled a
  one = ring 1 (λ z. z ⊗ K 1 ≐ z) tt (scaled a)

  pub is_whole : eq (product a) (whole a) ≡ true → Is a (number a)
  is_whole t = sym one ∙ value_equal product_value as_float D (omega arith) t

  pub not_whole : eq (product a) (whole a) ≡ false → Is a (number a) → ⊥
  not_whole t e = value_unequal product_value as_float D (omega arith) t (one ∙ e)

  pub leftover_is : (Is a (number a) → ⊥) → sub binary64 (product a) (whole a) ≡ float_of (rest a) (denominator a)
  unfolding rest
  leftover_is n =
      let u = number a *ℤ pos (denominator a) in
      sub_is product_value (whole_over (number a) (denominator a) small_float) D (λ e. n (omega (arith, order, eq→ e, minus (scaled a) u)))

  pub leftover_value : Equals (sub binary64 (product a) (whole a)) (rest a) (denominator a)
  unfolding rest
  leftover_value =
      let w = product_within in
      let t = mul-fits binary64 a (fin false 1 (pos 12)) in
      let k = number a in
      let m = numerator (product a) in
      let c = pos (denominator (product a)) in
      let n : Nearest m (denominator (product a)) k = rw product_number at product_nearest in
      let v = less_whole (product a) k w.finite (shape (product a) w.finite t) small_float (lt_of_le_of_lt (nearest_left m (denominator (product a)) k n) (few (product a) w t)) in
      rescaled (denominator_pos (product a)) v
      (ring 4 (λ m k c d. (m ⊖ k ⊗ c) ⊗ d ≐ m ⊗ d ⊖ k ⊗ c ⊗ d) tt m k c (pos (denominator a))
      ∙ ap (λ (z : ℤ). z -ℤ k *ℤ c *ℤ pos (denominator a)) product_value.value
      ∙ ring 4 (λ z k c d. z ⊗ c ⊖ k ⊗ c ⊗ d ≐ (z ⊖ k ⊗ d) ⊗ c) tt (scaled a) k c (pos (denominator a)))
