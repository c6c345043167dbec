-- The quotient rounded down and the one rounded up, for a divisor from 1: what fixes them, and how the machine's quotient, rounded toward
-- 0, gives them.
use Prim.Native.Nat.{ℕ, suc, ◌+◌, ◌*◌, ◌/◌, ◌<◌, ◌≤◌}
use mathlib.Core.Path.{◌≡◌, refl, sym, ap}
use native.Mathlib.Omega.{arith}
use native.Mathlib.Nat.{div-add-mod, mod-lt, div-le_self}
use lib.IntN.{ℤ, pos, negsuc, neg_ℤ, nat_abs, ◌+ℤ◌, ◌-ℤ◌, ◌*ℤ◌}
use lib.Signed.{quot_z}
use Rattle.std.specs.Int.{int_div_euclid}
use mir.Syntax.{Width}
use mir.Val.{SFits, of_z}
use Rattle.integer.specs.Order.{◌≼◌, ◌≺◌}
use Rattle.integer.specs.Quotient.{◌÷◌, quotient_up}
use Rattle.integer.proofs.Parts.{up, dn, plus, minus, negated, times}
use Rattle.integer.proofs.Ring.{ring, K, ⊝, ◌⊕◌, ◌⊖◌, ◌⊗◌, ◌≐◌}
use Rattle.integer.proofs.Order.{order, le_by, mul_cancel_lt, diff_nonneg}
use Rattle.integer.proofs.Sizes.{fit, →fits, size-neg}

-- ---- d q ≤ z < d (q + 1) fixes q

pub quotient_low : (z d : ℤ) → pos 1 ≼ d → d *ℤ (z ÷ d) ≼ z
unfolding ◌÷◌
quotient_low (pos a) (pos d) h = omega (arith, order, div-add-mod a d)
quotient_low (negsuc a) (pos d) h =
    let p : 0 < d = omega (arith, order) in
    omega (arith, order, div-add-mod a d, mod-lt a p, negated (pos (d * suc (a / d))))
quotient_low z (negsuc d) h = absurd h.le

pub quotient_high : (z d : ℤ) → pos 1 ≼ d → z ≺ d *ℤ (z ÷ d +ℤ pos 1)
unfolding ◌÷◌
quotient_high (pos a) (pos d) h =
    let p : 0 < d = omega (arith, order) in
    omega (arith, order, div-add-mod a d, mod-lt a p)
quotient_high (negsuc a) (pos d) h =
    let p : 0 < d = omega (arith, order) in
    let q = negsuc (a / d) +ℤ pos 1 in
    let e : d * (up q + suc (a / d)) ≡ d * (1 + dn q) = ap (λ (x : ℕ). d * x) (omega (arith, plus (negsuc (a / d)) (pos 1))) in
    omega (arith, order, div-add-mod a d, mod-lt a p, times (pos d) q, e)
quotient_high z (negsuc d) h = absurd h.le

above : (z d q r : ℤ) → pos 1 ≼ d → d *ℤ q ≼ z → z ≺ d *ℤ (r +ℤ pos 1) → q ≼ r
above z d q r p h k =
    let l : q ≺ r +ℤ pos 1 = mul_cancel_lt d (omega (arith, order)) (omega (arith, order)) in
    omega (arith, order, plus r (pos 1))

-- a whole number at most the fraction z / d is at most its quotient
pub quotient_most : (z d q : ℤ) → pos 1 ≼ d → d *ℤ q ≼ z → q ≼ z ÷ d
quotient_most z d q p h = above z d q (z ÷ d) p h (quotient_high z d p)

-- and the quotient is at most each whole number q with z / d below q + 1
pub quotient_least : (z d q : ℤ) → pos 1 ≼ d → z ≺ d *ℤ (q +ℤ pos 1) → z ÷ d ≼ q
quotient_least z d q p k = above z d (z ÷ d) q p (quotient_low z d p) k

pub quotient_unique : (z d q : ℤ) → pos 1 ≼ d → d *ℤ q ≼ z → z ≺ d *ℤ (q +ℤ pos 1) → q ≡ z ÷ d
quotient_unique z d q p h k =
    let l : q ≼ z ÷ d = quotient_most z d q p h in
    let g : z ÷ d ≼ q = quotient_least z d q p k in
    omega (arith, order)

-- a multiple of the divisor comes out of the quotient
pub quotient_shift : (d x y : ℤ) → pos 1 ≼ d → (d *ℤ x +ℤ y) ÷ d ≡ x +ℤ y ÷ d
quotient_shift d x y p = sym (quotient_unique (d *ℤ x +ℤ y) d (x +ℤ y ÷ d) p low high)
  where
    low : d *ℤ (x +ℤ y ÷ d) ≼ d *ℤ x +ℤ y
    low =
        le_by _ (diff_nonneg (quotient_low y d p))
        (ring 4 (λ d x y q. d ⊗ (x ⊕ q) ⊕ (y ⊖ d ⊗ q) ≐ d ⊗ x ⊕ y) tt d x y (y ÷ d))

    high : d *ℤ x +ℤ y ≺ d *ℤ (x +ℤ y ÷ d +ℤ pos 1)
    high =
        rw (ring 3 (λ d x q. d ⊗ (x ⊕ q ⊕ K 1) ≐ d ⊗ x ⊕ d ⊗ (q ⊕ K 1)) tt d x (y ÷ d))
        (let h = quotient_high y d p in omega (arith, order, plus (d *ℤ x) y, plus (d *ℤ x) (d *ℤ (y ÷ d +ℤ pos 1))))

-- the quotient is no larger than the number
pub size_quotient : (z d : ℤ) → nat_abs (z ÷ d) ≤ nat_abs z
unfolding ◌÷◌
size_quotient (pos a) d = omega (arith, div-le_self a (nat_abs d))
size_quotient (negsuc a) d = omega (arith, div-le_self a (nat_abs d))

pub fits_quotient : {w : Width} (z d : ℤ) → SFits w z → SFits w (z ÷ d)
unfolding ◌÷◌
fits_quotient (pos a) d f = →fits (omega (arith, fit f, div-le_self a (nat_abs d)))
fits_quotient (negsuc a) d f = →fits (omega (arith, fit f, div-le_self a (nat_abs d)))

-- ---- Rounded up: the least whole number q with z ≤ d q

pub up_enough : (z d : ℤ) → pos 1 ≼ d → z ≼ d *ℤ quotient_up z d
unfolding quotient_up
up_enough z d p =
    le_by _ (diff_nonneg (quotient_low (neg_ℤ z) d p)) (ring 3 (λ z d c. z ⊕ (⊝ z ⊖ d ⊗ c) ≐ d ⊗ ⊝ c) tt z d (neg_ℤ z ÷ d))

pub up_least : (z d q : ℤ) → pos 1 ≼ d → z ≼ d *ℤ q → quotient_up z d ≼ q
unfolding quotient_up
up_least z d q p h =
    let l = quotient_most (neg_ℤ z) d (neg_ℤ q) p (le_by _ (diff_nonneg h) (ring 3 (λ z d q. d ⊗ ⊝ q ⊕ (d ⊗ q ⊖ z) ≐ ⊝ z) tt z d q)) in
    omega (arith, order, negated q, negated (neg_ℤ z ÷ d))

-- it is the quotient rounded down, or one more
pub up_down : (z d : ℤ) → pos 1 ≼ d → (z ÷ d ≼ quotient_up z d) × (quotient_up z d ≼ z ÷ d +ℤ pos 1)
up_down z d p =
    let q = quotient_up z d in (
      quotient_least z d q p (rw (ring 2 (λ d q. d ⊗ (q ⊕ K 1) ≐ d ⊗ q ⊕ d) tt d q) (omega (arith, order, up_enough z d p, plus (d *ℤ q) d))),
      up_least z d (z ÷ d +ℤ pos 1) p (omega (arith, order, quotient_high z d p)),
    )

-- a multiple of the divisor comes out of it
pub up_shift : (d x y : ℤ) → pos 1 ≼ d → quotient_up (d *ℤ x +ℤ y) d ≡ x +ℤ quotient_up y d
unfolding quotient_up
up_shift d x y p =
    rw (ring 3 (λ d x y. ⊝ (d ⊗ x ⊕ y) ≐ d ⊗ ⊝ x ⊕ ⊝ y) tt d x y, quotient_shift d (neg_ℤ x) (neg_ℤ y) p)
    (ring 2 (λ x c. ⊝ (⊝ x ⊕ c) ≐ x ⊕ ⊝ c) tt x (neg_ℤ y ÷ d))

-- it is no larger than the number
pub size_up : (z d : ℤ) → nat_abs (quotient_up z d) ≤ nat_abs z
unfolding quotient_up
size_up z d = rw (size-neg (neg_ℤ z ÷ d)) (rw (size-neg z) at (size_quotient (neg_ℤ z) d))

-- d − 1 more, and then rounded down, give the same
pub up_is : (z d : ℤ) → pos 1 ≼ d → (z +ℤ (d -ℤ pos 1)) ÷ d ≡ quotient_up z d
up_is z d p =
    let y = z +ℤ (d -ℤ pos 1) in
    let q = y ÷ d in
    let next : (a : ℤ) → d *ℤ (a +ℤ pos 1) ≡ d *ℤ a +ℤ d = λ a. ring 2 (λ d a. d ⊗ (a ⊕ K 1) ≐ d ⊗ a ⊕ d) tt d a in
    let above = rw (next q) at (quotient_high y d p) in
    let low = up_least z d q p (omega (arith, order, plus (d *ℤ q) d, plus z (d -ℤ pos 1), minus d (pos 1))) in
    let u = quotient_up z d in
    let high =
    quotient_least y d u p (rw (next u) (omega (arith, order, up_enough z d p, plus (d *ℤ u) d, plus z (d -ℤ pos 1), minus d (pos 1))))
    in
    omega (arith, order)

-- and so does one more than the quotient of z − 1
pub up_from_one : (z d : ℤ) → pos 1 ≼ d → (z -ℤ pos 1) ÷ d +ℤ pos 1 ≡ quotient_up z d
up_from_one z d p =
    let e : z +ℤ (d -ℤ pos 1) ≡ d *ℤ pos 1 +ℤ (z -ℤ pos 1) = ring 2 (λ z d. z ⊕ (d ⊖ K 1) ≐ d ⊗ K 1 ⊕ (z ⊖ K 1)) tt z d in
    rw (← up_is z d p, e, quotient_shift d (pos 1) (z -ℤ pos 1) p) (ring 1 (λ q. q ⊕ K 1 ≐ K 1 ⊕ q) tt ((z -ℤ pos 1) ÷ d))

-- ---- The machine's division

-- what it asks: a divisor that is not 0, and a quotient that fits
pub divides : {w : Width} (z d : ℤ) → pos 1 ≼ d → SFits w z → (0 < of_z w d) × SFits w (quot_z z d)
divides (pos a) (pos d) h f = (omega (arith, order), →fits (omega (arith, fit f, div-le_self a d)))
divides (negsuc a) (pos d) h f = (omega (arith, order), →fits (omega (arith, fit f, div-le_self (suc a) d, negated (pos (suc a / d)))))
divides z (negsuc d) h f = absurd h.le

pub machine_quotient : (z d : ℤ) → pos 0 ≼ z → pos 1 ≼ d → quot_z z d ≡ z ÷ d
unfolding ◌÷◌
machine_quotient (pos a) (pos d) h k = refl
machine_quotient (pos a) (negsuc d) h k = absurd k.le
machine_quotient (negsuc a) d h k = absurd h.le

-- the division that rounds down where the divisor is from 1
pub euclid_quotient : (z d : ℤ) → pos 1 ≼ d → int_div_euclid z d ≡ z ÷ d
unfolding ◌÷◌
euclid_quotient (pos a) (pos d) h = refl
euclid_quotient (negsuc a) (pos d) h = refl
euclid_quotient z (negsuc d) h = absurd h.le

-- toward 0 is up where z is at most 0
pub machine_up : (z d : ℤ) → z ≼ pos 0 → pos 1 ≼ d → quot_z z d ≡ quotient_up z d
unfolding ◌÷◌ quotient_up
machine_up (pos a) (pos d) h k =
    let e : a ≡ 0 = omega (arith, order) in
    let z : 0 / d ≡ 0 = omega (arith, div-le_self 0 d) in
    rw (e, z)
machine_up (negsuc a) (pos d) h k = refl
machine_up z (negsuc d) h k = absurd k.le
