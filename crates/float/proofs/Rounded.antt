-- The nearest whole number: there is one and no other, it is the fraction's own and not of how it is written, and the fraction
-- less it is no larger than the fraction.
use Rattle.std.proofs.Common.{◌≡◌, ℕ, zero, suc, ◌+◌, ◌*◌, ◌<◌, ◌≤◌, ℤ, pos, negsuc, ◌+ℤ◌, ◌-ℤ◌, ◌*ℤ◌, nat_abs, ap, ◌∙◌, arith}
use lib.Ieee.{Float}
use Rattle.integer.specs.Order.{◌≼◌, ◌≺◌}
use Rattle.integer.proofs.Parts.{plus, minus, times}
use Rattle.integer.proofs.Ring.{ring, K, ◌⊕◌, ◌⊖◌, ◌⊗◌, ◌≐◌}
use Rattle.integer.proofs.Order.{order, le→, lt→, mul-le, mul-lt, mul_cancel_lt, mul_cancel_le}
use Rattle.integer.proofs.Sizes.{size_parts}
use Rattle.integer.proofs.Quotient.{quotient_low, quotient_high, quotient_unique, quotient_most, quotient_least}
use Rattle.float.specs.Value.{numerator, denominator, Equals}
use Rattle.float.specs.Nearest.{nearest_whole, Nearest}
use Rattle.float.proofs.Values.{from_one, denominator_pos}

-- 2 k d − d ≤ 2 p < 2 k d + d
pub nearest-from : {p : ℤ} {d : ℕ} {k : ℤ} → Nearest p d k → pos 2 *ℤ (k *ℤ pos d) -ℤ pos d ≼ pos 2 *ℤ p
nearest-from {p} {d} {k} h = rw (ring 2 (λ k d. (K 2 ⊗ k ⊖ K 1) ⊗ d ≐ K 2 ⊗ (k ⊗ d) ⊖ d) tt k (pos d)) at h.from

pub nearest-below : {p : ℤ} {d : ℕ} {k : ℤ} → Nearest p d k → pos 2 *ℤ p ≺ pos 2 *ℤ (k *ℤ pos d) +ℤ pos d
nearest-below {p} {d} {k} h = rw (ring 2 (λ k d. (K 2 ⊗ k ⊕ K 1) ⊗ d ≐ K 2 ⊗ (k ⊗ d) ⊕ d) tt k (pos d)) at h.below

pub nearest_by : {p : ℤ} {d : ℕ} {k : ℤ} → pos 2 *ℤ (k *ℤ pos d) -ℤ pos d ≼ pos 2 *ℤ p → pos 2 *ℤ p ≺ pos 2 *ℤ (k *ℤ pos d) +ℤ pos d → Nearest p d k
nearest_by {p} {d} {k} l h = record {
  from = rw (ring 2 (λ k d. (K 2 ⊗ k ⊖ K 1) ⊗ d ≐ K 2 ⊗ (k ⊗ d) ⊖ d) tt k (pos d)) l;
  below = rw (ring 2 (λ k d. (K 2 ⊗ k ⊕ K 1) ⊗ d ≐ K 2 ⊗ (k ⊗ d) ⊕ d) tt k (pos d)) h;
}

-- ---- p / d + 1/2 rounded down

twice_pos : (d : ℕ) → 0 < d → pos 1 ≼ pos 2 *ℤ pos d
twice_pos d h = omega (arith, order)

pub nearest_exists : (p : ℤ) (d : ℕ) → 0 < d → Nearest p d (nearest_whole p d)
nearest_exists p d D =
    let k = nearest_whole p d in
    let z = pos 2 *ℤ p +ℤ pos d in
    let u = k *ℤ pos d in
    let low : pos 2 *ℤ pos d *ℤ k ≼ z = quotient_low z (pos 2 *ℤ pos d) (twice_pos d D) in
    let high : z ≺ pos 2 *ℤ pos d *ℤ (k +ℤ pos 1) = quotient_high z (pos 2 *ℤ pos d) (twice_pos d D) in
    let l = rw (ring 2 (λ k d. K 2 ⊗ d ⊗ k ≐ K 2 ⊗ (k ⊗ d)) tt k (pos d)) at low in
    let h = rw (ring 2 (λ k d. K 2 ⊗ d ⊗ (k ⊕ K 1) ≐ K 2 ⊗ (k ⊗ d) ⊕ K 2 ⊗ d) tt k (pos d)) at high in
    nearest_by
    (omega (arith, order, le→ l, plus (pos 2 *ℤ p) (pos d), minus (pos 2 *ℤ u) (pos d)))
    (omega (arith, order, lt→ h, plus (pos 2 *ℤ p) (pos d), plus (pos 2 *ℤ u) (pos d), plus (pos 2 *ℤ u) (pos 2 *ℤ pos d)))

pub nearest-is : (p : ℤ) (d : ℕ) (k : ℤ) → 0 < d → Nearest p d k → k ≡ nearest_whole p d
nearest-is p d k D h =
    let z = pos 2 *ℤ p +ℤ pos d in
    let u = k *ℤ pos d in
    quotient_unique z (pos 2 *ℤ pos d) k (twice_pos d D)
    (rw (ring 2 (λ k d. K 2 ⊗ d ⊗ k ≐ K 2 ⊗ (k ⊗ d)) tt k (pos d)) (omega (arith, order, le→ (nearest-from h), plus (pos 2 *ℤ p) (pos d), minus (pos 2 *ℤ u) (pos d))))
    (rw (ring 2 (λ k d. K 2 ⊗ d ⊗ (k ⊕ K 1) ≐ K 2 ⊗ (k ⊗ d) ⊕ K 2 ⊗ d) tt k (pos d)) (omega (arith, order, lt→ (nearest-below h), plus (pos 2 *ℤ p) (pos d), plus (pos 2 *ℤ u) (pos d), plus (pos 2 *ℤ u) (pos 2 *ℤ pos d))))

-- ---- From a whole number on, and up to one

pub nearest-least : (p : ℤ) (d : ℕ) (k : ℤ) → 0 < d → k *ℤ pos d ≼ p → k ≼ nearest_whole p d
nearest-least p d k D h =
    let u = k *ℤ pos d in
    quotient_most (pos 2 *ℤ p +ℤ pos d) (pos 2 *ℤ pos d) k (twice_pos d D)
    (rw (ring 2 (λ k d. K 2 ⊗ d ⊗ k ≐ K 2 ⊗ (k ⊗ d)) tt k (pos d)) (omega (arith, order, le→ h, times (pos 2) p, times (pos 2) u, plus (pos 2 *ℤ p) (pos d))))

pub nearest-most : (p : ℤ) (d : ℕ) (k : ℤ) → 0 < d → p ≼ k *ℤ pos d → nearest_whole p d ≼ k
nearest-most p d k D h =
    let u = k *ℤ pos d in
    quotient_least (pos 2 *ℤ p +ℤ pos d) (pos 2 *ℤ pos d) k (twice_pos d D)
    (rw (ring 2 (λ k d. K 2 ⊗ d ⊗ (k ⊕ K 1) ≐ K 2 ⊗ (k ⊗ d) ⊕ K 2 ⊗ d) tt k (pos d))
    (omega (arith, order, le→ h, times (pos 2) p, times (pos 2) u, plus (pos 2 *ℤ p) (pos d), plus (pos 2 *ℤ u) (pos 2 *ℤ pos d))))

-- ---- The same of the same number

pub nearest-same : {x : Float} {p : ℤ} {d : ℕ} {k : ℤ} → 0 < d → Equals x p d → Nearest (numerator x) (denominator x) k → Nearest p d k
nearest-same {x} {p} {d} {k} D e h =
    let n = numerator x in
    let c = pos (denominator x) in
    let C : pos 1 ≼ c = from_one (denominator x) (denominator_pos x) in
    let m : pos d *ℤ (pos 2 *ℤ n) ≡ c *ℤ (pos 2 *ℤ p) =
    ring 2 (λ d n. d ⊗ (K 2 ⊗ n) ≐ K 2 ⊗ (n ⊗ d)) tt (pos d) n ∙ ap (λ (z : ℤ). pos 2 *ℤ z) e.value ∙ ring 2 (λ p c. K 2 ⊗ (p ⊗ c) ≐ c ⊗ (K 2 ⊗ p)) tt p c in
    let turn : (y : ℤ) → pos d *ℤ (y *ℤ c) ≡ c *ℤ (y *ℤ pos d) = λ y. ring 3 (λ d y c. d ⊗ (y ⊗ c) ≐ c ⊗ (y ⊗ d)) tt (pos d) y c in
    record {
      from = mul_cancel_le c C (rw (turn (pos 2 *ℤ k -ℤ pos 1), m) at (mul-le (pos d) (omega (arith, order)) h.from));
      below = mul_cancel_lt c (omega (arith, order)) (rw (turn (pos 2 *ℤ k +ℤ pos 1), m) at (mul-lt (pos d) (from_one d D) h.below));
    }

-- ---- What is left is no larger

pub nearest_left : (p : ℤ) (d : ℕ) (k : ℤ) → Nearest p d k → nat_abs (p -ℤ k *ℤ pos d) ≤ nat_abs p
nearest_left p d (pos zero) h =
    let z : pos 0 *ℤ pos d ≡ pos 0 = omega (arith, order) in
    rw z (omega (arith, size_parts p, size_parts (p -ℤ pos 0), minus p (pos 0)))
nearest_left p d (pos (suc n)) h =
    let u = pos (suc n) *ℤ pos d in
    omega (arith, size_parts p, size_parts (p -ℤ u), minus p u, le→ (nearest-from h), lt→ (nearest-below h), minus (pos 2 *ℤ u) (pos d), plus (pos 2 *ℤ u) (pos d), times (pos 2) p)
nearest_left p d (negsuc n) h =
    let u = negsuc n *ℤ pos d in
    omega (arith, size_parts p, size_parts (p -ℤ u), minus p u, le→ (nearest-from h), lt→ (nearest-below h), minus (pos 2 *ℤ u) (pos d), plus (pos 2 *ℤ u) (pos d), times (pos 2) p, times (pos 2) u, times (negsuc n) (pos d))
