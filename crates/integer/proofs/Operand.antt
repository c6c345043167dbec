-- Operands of any width: where they lie, what range they have, the value of a longer one from its parts, and what functions return of them.
use Prim.Native.Nat.{ℕ, suc, ◌+◌, ◌-◌, ◌*◌, ◌^◌, ◌<◌, ◌≤◌}
use mathlib.Core.Path.{◌≡◌, refl, ◌∙◌, ap, subst}
use mathlib.Core.Bool.{Bool, true, false, cond}
use mathlib.Core.List.{List, [], ◌∷◌, ◌++◌}
use native.Mathlib.Omega.{arith}
use native.Mathlib.Nat.{pow-succ', pow-le-pow_right}
use native.Mathlib.Decide.{dec_le}
use lib.Dec.{ltb}
use lib.ListN.{length, take, drop, get_or, length-take, length-drop, get_or-eq_default}
use lib.Seq.{drop-cons, take-add, take-append-le, drop-append-le, drop-append-add, drop-drop, get_or-take, get_or-drop}
use lib.IntN.{ℤ, pos, negsuc, neg_ℤ, ◌-ℤ◌, ◌*ℤ◌}
use mir.Syntax.{w8}
use mir.Val.{Fits}
use borrow.Author.Tests.{ltb-true, ltb-false}
use Rattle.integer.specs.Order.{◌≼◌, ◌≺◌}
use Rattle.integer.specs.Operand.{unsigned, signed, operand}
use Rattle.integer.proofs.Parts.{minus, negated, times}
use Rattle.integer.proofs.Order.{order}

-- ---- Where an operand lies

pub operand-length : (k : ℕ) (s : List ℕ) (at : ℕ) → at + k ≤ length s → length (operand k s at) ≡ k
operand-length k s at h = simp (length-take, length-drop) (omega arith)

pub operand_parts : (j k : ℕ) (s : List ℕ) (at : ℕ) → operand (j + k) s at ≡ operand j s at ++ operand k s (at + j)
operand_parts j k s at = take-add j k (drop at s) ∙ ap (λ (l : List ℕ). operand j s at ++ take k l) (drop-drop j at s)

-- bytes behind it change nothing
pub operand_front : (k : ℕ) (xs ys : List ℕ) (at : ℕ) → at + k ≤ length xs → operand k (xs ++ ys) at ≡ operand k xs at
operand_front k xs ys at h =
    ap (λ (l : List ℕ). take k l) (drop-append-le at xs ys (omega arith))
    ∙ take-append-le k (drop at xs) ys (simp length-drop (omega arith))

-- and so do bytes before it
pub operand_behind : (k : ℕ) (xs ys : List ℕ) (at : ℕ) → operand k (xs ++ ys) (length xs + at) ≡ operand k ys at
operand_behind k xs ys at = ap (λ (l : List ℕ). take k l) (drop-append-add xs ys at)

-- ---- Its value

pub unsigned-append : (xs ys : List ℕ) → unsigned (xs ++ ys) ≡ unsigned xs + 256 ^ length xs * unsigned ys
unfolding unsigned
unsigned-append [] ys = omega arith
unsigned-append (x ∷ xs) ys = rw (pow-succ' 256 (length xs), unsigned-append xs ys) (omega arith)

-- a longer operand from its parts
pub unsigned_parts : (j k : ℕ) (s : List ℕ) (at : ℕ) → at + j ≤ length s →
    unsigned (operand (j + k) s at) ≡ unsigned (operand j s at) + 256 ^ j * unsigned (operand k s (at + j))
unsigned_parts j k s at h =
    ap unsigned (operand_parts j k s at) ∙ unsigned-append (operand j s at) (operand k s (at + j))
    ∙ ap (λ (n : ℕ). unsigned (operand j s at) + 256 ^ n * unsigned (operand k s (at + j))) (operand-length j s at h)

pub unsigned_byte : (s : List ℕ) (at : ℕ) → at < length s → unsigned (operand 1 s at) ≡ get_or s at 0
unfolding unsigned
unsigned_byte s at h = ap (λ (l : List ℕ). unsigned (take 1 l)) (drop-cons s at 0 h) ∙ (omega arith)

pub signed-operand : (k : ℕ) (s : List ℕ) (at : ℕ) → at + k ≤ length s →
    let v = unsigned (operand k s at) in signed (operand k s at) ≡ cond (ltb (2 * v) (256 ^ k)) (pos v) (pos v -ℤ pos (256 ^ k))
unfolding signed
signed-operand k s at h =
    let v = unsigned (operand k s at) in
    ap (λ (n : ℕ). cond (ltb (2 * v) (256 ^ n)) (pos v) (pos v -ℤ pos (256 ^ n))) (operand-length k s at h)

-- ---- Its range

pub record Bytes (s : List ℕ) : Type 0 where
  pub each : (j : ℕ) → get_or s j 0 < 256

-- a slice's elements are bytes: `bytes_of c.shared-slice-known.given`
pub bytes_of : {s : List ℕ} → ((j : ℕ) → Fits w8 (get_or s j 0)) → Bytes s
bytes_of h = record { each = λ j. (h j).fits }

unsigned-below : (bs : List ℕ) → Bytes bs → unsigned bs < 256 ^ length bs
unfolding unsigned
unsigned-below [] b = omega arith
unsigned-below (x ∷ bs) b =
    let h : unsigned bs < 256 ^ length bs = unsigned-below bs (record { each = λ j. b.each (suc j) }) in
    rw (pow-succ' 256 (length bs)) (omega (arith, b.each 0))

operand_bytes : (k : ℕ) (s : List ℕ) (at : ℕ) → Bytes s → Bytes (operand k s at)
operand_bytes k s at b = record { each = λ j. go j (dec_le k j) }
  where
    go : (j : ℕ) → Dec (k ≤ j) → get_or (operand k s at) j 0 < 256
    go j (yes h) = let l : length (operand k s at) ≤ j = rw (length-take k (drop at s)) (omega arith) in rw (get_or-eq_default (operand k s at) 0 l) (omega arith)
    go j (no h) = rw (get_or-take k (drop at s) j 0 (omega arith), get_or-drop at s j 0) (b.each (at + j))

pub unsigned-range : (k : ℕ) (s : List ℕ) (at : ℕ) → Bytes s → at + k ≤ length s → unsigned (operand k s at) < 256 ^ k
unsigned-range k s at b h =
    subst (λ (n : ℕ). unsigned (operand k s at) < 256 ^ n) (operand-length k s at h) (unsigned-below (operand k s at) (operand_bytes k s at b))

pub signed_range : (k : ℕ) (s : List ℕ) (at : ℕ) → Bytes s → at + k ≤ length s →
    (neg_ℤ (pos (256 ^ k)) ≼ pos 2 *ℤ signed (operand k s at)) × (pos 2 *ℤ signed (operand k s at) ≺ pos (256 ^ k))
signed_range k s at b h = rw (signed-operand k s at h) (go (ltb (2 * v) (256 ^ k)) refl)
  where
    v : ℕ
    v = unsigned (operand k s at)

    go : (t : Bool) → ltb (2 * v) (256 ^ k) ≡ t →
        let z = cond t (pos v) (pos v -ℤ pos (256 ^ k)) in (neg_ℤ (pos (256 ^ k)) ≼ pos 2 *ℤ z) × (pos 2 *ℤ z ≺ pos (256 ^ k))
    go true e = let l = ltb-true (2 * v) (256 ^ k) e in (omega (arith, order, negated (pos (256 ^ k))), omega (arith, order))
    go false e =
        let l = ltb-false (2 * v) (256 ^ k) e in
        let r : v < 256 ^ k = unsigned-range k s at b h in (
          omega (arith, order, negated (pos (256 ^ k)), minus (pos v) (pos (256 ^ k)), times (pos 2) (pos v -ℤ pos (256 ^ k))),
          omega (arith, order, minus (pos v) (pos (256 ^ k)), times (pos 2) (pos v -ℤ pos (256 ^ k))),
        )

-- ---- What the functions return, for every width

-- an operand from its two parts
pub unsigned-at : (j k : ℕ) (s : List ℕ) (at : ℕ) {low high : ℕ} → Bytes s → at + (j + k) ≤ length s →
    low ≡ unsigned (operand j s at) → high ≡ unsigned (operand k s (at + j)) →
    (low + 256 ^ j * high ≡ unsigned (operand (j + k) s at)) × (low + 256 ^ j * high < 256 ^ (j + k))
unsigned-at j k s at b h l u =
    rw (l, u, ← unsigned_parts j k s at (omega arith)) (refl, unsigned-range (j + k) s at b h)

-- one byte more in front, where the operand ends at a place
pub unsigned_more : (s : List ℕ) (to i : ℕ) → 0 < i → i ≤ to → to ≤ length s →
    256 * unsigned (operand (to - i) s i) + get_or s (i - 1) 0 ≡ unsigned (operand (to - (i - 1)) s (i - 1))
unsigned_more s to i b l h =
    let e : to - (i - 1) ≡ 1 + (to - i) = omega arith in
    let n : i - 1 + 1 ≡ i = omega arith in
    let p = rw (unsigned_byte s (i - 1) (omega arith), n) at (unsigned_parts 1 (to - i) s (i - 1) (omega arith)) in
    rw e (omega (arith, p))

-- at most four bytes
pub four_bytes : (k : ℕ) → k ≤ 4 → 256 ^ k ≤ 4294967296
four_bytes k h = pow-le-pow_right {n = 256} (omega arith) {j = 4} h

-- v is the operand unsigned, and z what two's complement makes of v
pub signed_value : (k : ℕ) (s : List ℕ) (at : ℕ) {v : ℕ} {z : ℤ} → at + k ≤ length s →
    v ≡ unsigned (operand k s at) → z ≡ cond (ltb (2 * v) (256 ^ k)) (pos v) (pos v -ℤ pos (256 ^ k)) →
    z ≡ signed (operand k s at)
signed_value k s at h e f = rw (f, e, ← signed-operand k s at h) refl

-- with its range, by the most that it can be
pub signed-at : (k most : ℕ) (s : List ℕ) (at : ℕ) {v : ℕ} {z : ℤ} → 2 * (1 + most) ≡ 256 ^ k → Bytes s → at + k ≤ length s →
    v ≡ unsigned (operand k s at) → z ≡ cond (ltb (2 * v) (256 ^ k)) (pos v) (pos v -ℤ pos (256 ^ k)) →
    (z ≡ signed (operand k s at)) × (negsuc most ≼ z) × (z ≼ pos most)
signed-at k most s at m b h e f =
    let w = signed (operand k s at) in
    let r = signed_range k s at b h in
    rw (signed_value k s at h e f)
    (refl, omega (arith, order, times (pos 2) w, negated (pos (256 ^ k))), omega (arith, order, times (pos 2) w))
