-- Whole numbers beside floats: a float without its fraction, and a float less a whole number.
use Rattle.std.proofs.Common.{◌≡◌, ℕ, suc, ◌+◌, ◌-◌, ◌*◌, ◌/◌, ◌%◌, ◌^◌, ◌<◌, ◌≤◌, min, Bool, true, false, T, ℤ, pos, negsuc, ◌+ℤ◌, ◌-ℤ◌, ◌*ℤ◌, neg_ℤ, nat_abs, sym, ap, subst, le_trans, lt_of_le_of_lt, mul-le-mul_right, mod-lt, div-add-mod', le_of_mul-le-mul_right, arith, le→leb, lt→ltb}
use lib.Ieee.{Float, fin, binary64, up, down, round, sub, of_int, to_signed, in_float, fits, lt, le}
use lib.Ieee.Fits.{down_pos}
use lib.Ieee.Back.{round_whole}
use Rattle.integer.specs.Order.{◌≼◌, ◌≺◌}
use Rattle.integer.proofs.Parts.{plus, minus, negated, times}
use Rattle.integer.proofs.Ring.{ring, K, ◌⊕◌, ◌⊖◌, ◌⊗◌, ◌≐◌}
use Rattle.integer.proofs.Order.{order, le→, lt→, eq→}
use Rattle.integer.proofs.Sizes.{size_parts}
use Rattle.float.specs.Value.{Finite, signed, numerator, denominator, Equals}
use Rattle.float.specs.Nearest.{nearest_whole, Nearest, Within}
use Rattle.float.proofs.Signs.{signed_mul, signed-size}
use Rattle.float.proofs.Values.{own, of_value, rescaled, denominator_pos, value_less, value_not_less, value-most, value-above, value-most-holds, value_less_holds}
use Rattle.float.proofs.Exact.{exact_sub, Shape, shape, few_digits}
use Rattle.float.proofs.Rounded.{nearest_by, nearest-is}

-- ---- A whole number as a float

pub whole-value : (z : ℤ) → nat_abs z ≤ 2 ^ 53 → Equals (of_int binary64 z) z 1
unfolding of_int
whole-value (pos n) h = of_value (round binary64 false n 1) false n 1 (round_whole binary64 false n h)
whole-value (negsuc n) h = of_value (round binary64 true (suc n) 1) true (suc n) 1 (round_whole binary64 true (suc n) h)

pub whole_fits : (z : ℤ) → nat_abs z ≤ 2 ^ 53 → T (in_float binary64 z)
unfolding in_float
whole_fits (pos n) h = le→leb n (2 ^ 53) h
whole_fits (negsuc n) h = lt→ltb n (2 ^ 53) h

-- over any denominator
pub whole_over : (z : ℤ) (d : ℕ) → nat_abs z ≤ 2 ^ 53 → Equals (of_int binary64 z) (z *ℤ pos d) d
whole_over z d h = rescaled (omega arith) (whole-value z h) (ring 2 (λ z d. z ⊗ d ≐ z ⊗ d ⊗ K 1) tt z (pos d))

pub less_whole : (x : Float) (z : ℤ) → Finite x → Shape x → nat_abs z ≤ 2 ^ 53 → nat_abs (numerator x -ℤ z *ℤ pos (denominator x)) < 2 ^ 53
    → Equals (sub binary64 x (of_int binary64 z)) (numerator x -ℤ z *ℤ pos (denominator x)) (denominator x)
less_whole x z f s h =
    subst (λ (d : ℕ). Equals x (numerator x) d → nat_abs (numerator x -ℤ z *ℤ pos d) < 2 ^ 53 → Equals (sub binary64 x (of_int binary64 z)) (numerator x -ℤ z *ℤ pos d) d) (sym s.is)
    (λ v small. exact_sub v (whole_over z (2 ^ s.places) h) s.few small)
    (own x f)

-- ---- A float without its fraction

pub record Cut (B : ℕ) (p : ℤ) (d : ℕ) (t : ℤ) : Type 0 where
  pub size : nat_abs t ≤ B
  pub above : neg_ℤ (pos d) ≺ p -ℤ t *ℤ pos d
  pub below : p -ℤ t *ℤ pos d ≺ pos d
  pub left : nat_abs (p -ℤ t *ℤ pos d) ≤ nat_abs p

cut_of : (s : Bool) (B M D Q F : ℕ) → Q * D + F ≡ M → F < D → Q ≤ B → Cut B (signed s M) D (signed s Q)
cut_of false B M D Q F e l b =
    let u = pos Q *ℤ pos D in
    record {
      size = b;
      above = omega (arith, order, minus (pos M) u, negated (pos D));
      below = omega (arith, order, minus (pos M) u);
      left = omega (arith, size_parts (pos M -ℤ u), minus (pos M) u);
    }
cut_of true B M D Q F e l b =
    let u = neg_ℤ (pos Q) *ℤ pos D in
    let v = eq→ (signed_mul true Q D) in
    let n = negated (pos (Q * D)) in
    let m = negated (pos M) in
    record {
      size = rw (signed-size true Q) b;
      above = omega (arith, order, minus (neg_ℤ (pos M)) u, negated (pos D));
      below = omega (arith, order, minus (neg_ℤ (pos M)) u);
      left = omega (arith, size_parts (neg_ℤ (pos M) -ℤ u), size_parts (neg_ℤ (pos M)), minus (neg_ℤ (pos M)) u);
    }

quotient_le : (M D B : ℕ) → 0 < D → M ≤ B * D → M / D ≤ B
quotient_le M D B h k = le_of_mul-le-mul_right {k = D} (omega (arith, div-add-mod' M D)) h

uncut : (s : Bool) (m : ℕ) (e : ℤ) → m * up e / down e ≤ 67108864 → signed s (m * up e / down e) ≡ to_signed 63 (fin s m e)
unfolding to_signed
uncut false m e b = let q : m * up e / down e ≡ min (m * up e / down e) (2 ^ 63 - 1) = omega arith in ap pos q
uncut true m e b = let q : m * up e / down e ≡ min (m * up e / down e) (2 ^ 63) = omega arith in ap (λ (n : ℕ). neg_ℤ (pos n)) q

pub truncated : (x : Float) → Finite x → nat_abs (numerator x) ≤ 67108864 * denominator x → Cut 67108864 (numerator x) (denominator x) (to_signed 63 x)
truncated lib.Ieee.nan f h = elim f [ ]
truncated (lib.Ieee.inf _) f h = elim f [ ]
truncated (fin s m e) f h =
    let M = m * up e in
    let D = down e in
    let b : M / D ≤ 67108864 = quotient_le M D 67108864 (down_pos e) (rw (signed-size s M) at h) in
    subst (λ (t : ℤ). Cut 67108864 (signed s M) D t) (uncut s m e b)
    (cut_of s 67108864 M D (M / D) (M % D) (div-add-mod' M D) (mod-lt M (down_pos e)) b)

-- ---- From there to the nearest, by what is left

module _ {B : ℕ} {p : ℤ} {d : ℕ} {t : ℤ} (c : Cut B p d t) where
  pub nearest_up : pos 1 *ℤ pos d ≼ (p -ℤ t *ℤ pos d) *ℤ pos 2 → Nearest p d (t +ℤ pos 1)
  nearest_up h =
      let u = t *ℤ pos d in
      let e : (t +ℤ pos 1) *ℤ pos d ≡ u +ℤ pos d = ring 2 (λ t d. (t ⊕ K 1) ⊗ d ≐ t ⊗ d ⊕ d) tt t (pos d) in
      let w = (t +ℤ pos 1) *ℤ pos d in
      nearest_by
      (omega (arith, order, eq→ e, le→ h, lt→ c.below, lt→ c.above, negated (pos d), plus u (pos d), minus p u, times (p -ℤ u) (pos 2), times (pos 2) p, times (pos 2) w, minus (pos 2 *ℤ w) (pos d)))
      (omega (arith, order, eq→ e, le→ h, lt→ c.below, lt→ c.above, negated (pos d), plus u (pos d), minus p u, times (p -ℤ u) (pos 2), times (pos 2) p, times (pos 2) w, plus (pos 2 *ℤ w) (pos d)))

  pub nearest_down : (p -ℤ t *ℤ pos d) *ℤ pos 2 ≺ negsuc 0 *ℤ pos d → Nearest p d (t -ℤ pos 1)
  nearest_down h =
      let u = t *ℤ pos d in
      let e : (t -ℤ pos 1) *ℤ pos d ≡ u -ℤ pos d = ring 2 (λ t d. (t ⊖ K 1) ⊗ d ≐ t ⊗ d ⊖ d) tt t (pos d) in
      let w = (t -ℤ pos 1) *ℤ pos d in
      nearest_by
      (omega (arith, order, eq→ e, lt→ h, lt→ c.below, lt→ c.above, negated (pos d), times (negsuc 0) (pos d), minus u (pos d), minus p u, times (p -ℤ u) (pos 2), times (pos 2) p, times (pos 2) w, minus (pos 2 *ℤ w) (pos d)))
      (omega (arith, order, eq→ e, lt→ h, lt→ c.below, lt→ c.above, negated (pos d), times (negsuc 0) (pos d), minus u (pos d), minus p u, times (p -ℤ u) (pos 2), times (pos 2) p, times (pos 2) w, plus (pos 2 *ℤ w) (pos d)))

  pub nearest_here : (p -ℤ t *ℤ pos d) *ℤ pos 2 ≺ pos 1 *ℤ pos d → negsuc 0 *ℤ pos d ≼ (p -ℤ t *ℤ pos d) *ℤ pos 2 → Nearest p d t
  nearest_here h l =
      let u = t *ℤ pos d in
      nearest_by
      (omega (arith, order, lt→ h, le→ l, times (negsuc 0) (pos d), minus p u, times (p -ℤ u) (pos 2), times (pos 2) p, times (pos 2) u, minus (pos 2 *ℤ u) (pos d)))
      (omega (arith, order, lt→ h, le→ l, times (negsuc 0) (pos d), minus p u, times (p -ℤ u) (pos 2), times (pos 2) p, times (pos 2) u, plus (pos 2 *ℤ u) (pos d)))

-- ---- What `nearest` tests

abbrev half : Float
half = fin false 1 (negsuc 0)

abbrev minus_half : Float
minus_half = fin true 1 (negsuc 0)

module _ (x : Float) (w : Within 67108864 x) (f : T (fits binary64 x)) where
  pub cut : Cut 67108864 (numerator x) (denominator x) (to_signed 63 x)
  cut = truncated x w.finite w.size

  D : 0 < denominator x
  D = denominator_pos x

  pub few : nat_abs (numerator x) < 2 ^ 53
  few = few_digits x w.finite f (le_trans w.size (mul-le-mul_right (denominator x) (omega arith)))

  rest : Equals (sub binary64 x (of_int binary64 (to_signed 63 x))) (numerator x -ℤ to_signed 63 x *ℤ pos (denominator x)) (denominator x)
  rest = less_whole x (to_signed 63 x) w.finite (shape x w.finite f) (le_trans cut.size (omega arith)) (lt_of_le_of_lt cut.left few)

  is : (k : ℤ) → Nearest (numerator x) (denominator x) k → k ≡ nearest_whole (numerator x) (denominator x)
  is k h = nearest-is (numerator x) (denominator x) k D h

  pub up_test : le half (sub binary64 x (of_int binary64 (to_signed 63 x))) ≡ true → to_signed 63 x +ℤ pos 1 ≡ nearest_whole (numerator x) (denominator x)
  up_test e = is (to_signed 63 x +ℤ pos 1) (nearest_up cut (value-most (own half tt) rest (omega arith) D e))

  pub down_test : lt (sub binary64 x (of_int binary64 (to_signed 63 x))) minus_half ≡ true → to_signed 63 x -ℤ pos 1 ≡ nearest_whole (numerator x) (denominator x)
  down_test e = is (to_signed 63 x -ℤ pos 1) (nearest_down cut (value_less rest (own minus_half tt) D (omega arith) e))

  pub here_test : le half (sub binary64 x (of_int binary64 (to_signed 63 x))) ≡ false → lt (sub binary64 x (of_int binary64 (to_signed 63 x))) minus_half ≡ false
      → to_signed 63 x ≡ nearest_whole (numerator x) (denominator x)
  here_test e g = is (to_signed 63 x) (nearest_here cut (value-above (own half tt) rest (omega arith) D e) (value_not_less rest (own minus_half tt) D (omega arith) g))

  -- what the cut asks
  pub from_low : T (le (fin true 1 (pos 63)) x)
  from_low =
      value-most-holds (own (fin true 1 (pos 63)) tt) (own x w.finite) (omega arith) D
      (omega (arith, order, size_parts (numerator x), w.size, times (negsuc 9223372036854775807) (pos (denominator x)), times (numerator x) (pos 1)))

  pub to_high : T (lt x (fin false 1 (pos 63)))
  to_high =
      value_less_holds (own x w.finite) (own (fin false 1 (pos 63)) tt) D (omega arith)
      (omega (arith, order, size_parts (numerator x), w.size, D, times (numerator x) (pos 1)))
