-- Sizes |z|, that is `nat_abs z`, and whether a number fits a signed width. By sizes, `fits_by _ (size-add .. (size-mul ..)) (omega arith)`
-- shows that a sum of products fits, the bounds adding and multiplying as numerals; by bounds, `omega (arith, fitting, plus a b)`.
use Prim.Native.Nat.{ℕ, zero, suc, ◌+◌, ◌*◌, ◌-◌, ◌^◌, ◌<◌, ◌≤◌, max}
use mathlib.Core.Path.{◌≡◌, refl, ap, ◌∙◌}
use mathlib.Core.List.{List}
use native.Mathlib.Omega.{arith}
use native.Mathlib.Nat.{le_trans, mul-le-mul}
use lib.IntN.{ℤ, pos, negsuc, neg_ℤ, nat_abs, ◌+ℤ◌, ◌-ℤ◌, ◌*ℤ◌}
use lib.Dec.{T}
use lib.Signed.{mag, non_neg, yes_non_neg}
use mir.Syntax.{Width, w32, w64}
use mir.Val.{Fits, SFits, hbits, to_z, of_z}
use mir.Facts.{to_z-of_z, Fits-nat_abs, sfits_widen}
use Rattle.integer.specs.Order.{◌≼◌}
use Rattle.integer.specs.Places.{at, Bounded}
use Rattle.integer.proofs.Parts.{up, dn, plus, minus, negated}
use Rattle.integer.proofs.Order.{order, le→}

-- ---- Sizes

-- the size by the parts, for `omega`'s list
pub size_parts : (z : ℤ) → (nat_abs z ≡ up z + dn z) × (nat_abs z ≡ max (up z) (dn z))
size_parts (pos n) = (omega arith, omega arith)
size_parts (negsuc n) = (omega arith, omega arith)

-- −B ≤ z ≤ B, to and from
pub size_by : {z : ℤ} {B : ℕ} → neg_ℤ (pos B) ≼ z → z ≼ pos B → nat_abs z ≤ B
size_by {z} {B} l h = omega (arith, size_parts z, le→ l, le→ h, negated (pos B))

pub size_low : (z : ℤ) {B : ℕ} → nat_abs z ≤ B → neg_ℤ (pos B) ≼ z
size_low z {B} h = omega (arith, order, size_parts z, negated (pos B))

pub size-high : (z : ℤ) {B : ℕ} → nat_abs z ≤ B → z ≼ pos B
size-high z h = omega (arith, order, size_parts z)

pub size-add : (a b : ℤ) {A B : ℕ} → nat_abs a ≤ A → nat_abs b ≤ B → nat_abs (a +ℤ b) ≤ A + B
size-add a b h k = omega (arith, size_parts a, size_parts b, size_parts (a +ℤ b), plus a b)

pub size-sub : (a b : ℤ) {A B : ℕ} → nat_abs a ≤ A → nat_abs b ≤ B → nat_abs (a -ℤ b) ≤ A + B
size-sub a b h k = omega (arith, size_parts a, size_parts b, size_parts (a -ℤ b), minus a b)

pub size-neg : (a : ℤ) → nat_abs (neg_ℤ a) ≡ nat_abs a
size-neg (pos zero) = refl
size-neg (pos (suc n)) = refl
size-neg (negsuc n) = refl

pub size_product : (a b : ℤ) → nat_abs (a *ℤ b) ≡ nat_abs a * nat_abs b
size_product (pos m) (pos n) = refl
size_product (pos m) (negsuc n) = size-neg (pos (m * suc n))
size_product (negsuc m) (pos n) = size-neg (pos (suc m * n))
size_product (negsuc m) (negsuc n) = refl

pub size-mul : (a b : ℤ) {A B : ℕ} → nat_abs a ≤ A → nat_abs b ≤ B → nat_abs (a *ℤ b) ≤ A * B
size-mul a b h k = omega (arith, size_product a b, mul-le-mul h k)

-- ---- What fits a width

pub fits_by : {w : Width} (z : ℤ) {B : ℕ} → nat_abs z ≤ B → B < 2 ^ hbits w → SFits w z
fits_by {w} z {B} h k = record { sfits = go z h }
  where
    go : (z : ℤ) → nat_abs z ≤ B → mag z < 2 ^ hbits w
    go (pos n) h = omega arith
    go (negsuc n) h = omega arith

pub bounded_fits : {w : Width} {B : ℕ} {l : List ℤ} → Bounded B l → B < 2 ^ hbits w → (p : ℕ) → SFits w (at l p)
bounded_fits {l = l} b k p = fits_by (at l p) (b.each p) k

pub wider : {A B : ℕ} {l : List ℤ} → Bounded A l → A ≤ B → Bounded B l
wider b h = record { each = λ p. le_trans (b.each p) h }

fits_parts : {w : Width} {z : ℤ} → SFits w z → (up z < 2 ^ hbits w) × (dn z ≤ 2 ^ hbits w)
fits_parts {w} {z} f = go z f.sfits
  where
    go : (z : ℤ) → mag z < 2 ^ hbits w → (up z < 2 ^ hbits w) × (dn z ≤ 2 ^ hbits w)
    go (pos n) h = (h, omega arith)
    go (negsuc n) h = (omega arith, h)

pub →fits : {w : Width} {z : ℤ} → max (suc (up z) - dn z) (dn z - up z) ≤ 2 ^ hbits w → SFits w z
→fits {w} {z} h = record { sfits = go z h }
  where
    go : (z : ℤ) → max (suc (up z) - dn z) (dn z - up z) ≤ 2 ^ hbits w → mag z < 2 ^ hbits w
    go (pos n) h = omega arith
    go (negsuc n) h = omega arith

pub ruleset fitting = (order, →fits)

-- what a cast of an i64 to a u64 asks
pub casts : {z : ℤ} → pos 0 ≼ z → SFits w64 z → T (non_neg z) × Fits w64 (nat_abs z)
casts h f = (yes_non_neg h, Fits-nat_abs tt f)

-- ---- The read-back. A signed local is its bits, and each use of it is `to_z w (of_z w z)`: `mir.Facts.to_z-of_z` takes the two off by
-- the `SFits` of z, in a list of `rw`

-- the same for `omega`'s list, with z's bounds: `omega (arith, fitting, fit c.fits.x)` reads a test on x
pub fit : {w : Width} {z : ℤ} → SFits w z → (up z < 2 ^ hbits w) × (dn z ≤ 2 ^ hbits w) × (up (to_z w (of_z w z)) ≡ up z) × (dn (to_z w (of_z w z)) ≡ dn z)
fit f = let h = fits_parts f in (h.0, h.1, ap up (to_z-of_z f), ap dn (to_z-of_z f))

-- the result of a call, `called c.f.result c.f.ok`, and an element that was copied out, `called (at l i) c.x.given`
pub called : (z : ℤ) → mag z < 2 ^ 63 → to_z w64 (of_z w64 z) ≡ z
called z h = to_z-of_z {w = w64} {z = z} (record { sfits = h })

-- an i64 as it is read back
abbrev pub back : ℤ → ℤ
back z = to_z w64 (of_z w64 z)

pub back_is : (z : ℤ) {B : ℕ} → nat_abs z ≤ B → B < 2 ^ 63 → back z ≡ z
back_is z h k = to_z-of_z {w = w64} (fits_by z h k)

pub element_is : {B : ℕ} {l : List ℤ} → Bounded B l → B < 2 ^ 63 → (p : ℕ) → back (at l p) ≡ at l p
element_is {l = l} b h p = back_is (at l p) (b.each p) h

-- what the code forms, z, fits and is the number w: `.fits` answers an overflow, `.is` reads the step back
pub record Formed (z w : ℤ) : Type 0 where
  pub fits : SFits w64 z
  pub is : back z ≡ w

pub formed : {z w : ℤ} {B : ℕ} → z ≡ w → nat_abs w ≤ B → B < 2 ^ 63 → Formed z w
formed {z} {w} e h k = let f : SFits w64 z = rw e (fits_by w h k) in record { fits = f; is = to_z-of_z f ∙ e }

-- an i32 that the code reads and casts to i64
pub widened : (z : ℤ) → mag z < 2 ^ 31 → Formed (to_z w32 (of_z w32 z)) z
widened z h =
    let f : SFits w32 z = record { sfits = h } in
    let g : SFits w64 z = sfits_widen tt f in
    record { fits = rw (to_z-of_z f) g; is = rw (to_z-of_z f, to_z-of_z g) }
