-- Bytes of any width are read back as the number that they were made from.
use Prim.Native.Nat.{ℕ, zero, suc, ◌+◌, ◌-◌, ◌*◌, ◌/◌, ◌%◌, ◌^◌, ◌<◌, ◌≤◌, zero-le}
use mathlib.Core.Path.{◌≡◌, refl, ap}
use mathlib.Core.Bool.{cond}
use mathlib.Core.List.{List, ◌++◌, append-nil}
use native.Mathlib.Omega.{arith}
use native.Mathlib.Nat.{pow-succ', div-add-mod', sub-zero}
use native.Mathlib.Numerals.{add-one}
use lib.Dec.{ltb}
use lib.ListN.{length, set, take, length-set}
use lib.Seq.{append_snoc, take_all, take-suc-set}
use lib.IntN.{ℤ, pos, negsuc, neg_ℤ, nat_abs, ◌+ℤ◌, ◌-ℤ◌, ◌*ℤ◌}
use borrow.Author.Tests.{lt-ltb, le-ltb}
use Rattle.integer.specs.Order.{◌≼◌, ◌≺◌}
use Rattle.integer.specs.Operand.{unsigned, signed}
use Rattle.integer.specs.Encoding.{unsigned_bytes, complement, signed_bytes}
use Rattle.integer.proofs.Parts.{plus, minus, negated, times}
use Rattle.integer.proofs.Order.{order, le→, lt→}
use Rattle.integer.proofs.Sizes.{size_parts}

pub bytes_length : (k n : ℕ) → length (unsigned_bytes k n) ≡ k
unfolding unsigned_bytes
bytes_length zero n = refl
bytes_length (suc k) n = ap suc (bytes_length k (n / 256))

pub unsigned_back : (k n : ℕ) → n < 256 ^ k → unsigned (unsigned_bytes k n) ≡ n
unfolding unsigned unsigned_bytes
unsigned_back zero n h = omega arith
unsigned_back (suc k) n h =
    let l : n / 256 < 256 ^ k = omega (arith, pow-succ' 256 k, div-add-mod' n 256) in
    rw (unsigned_back k (n / 256) l) (omega (arith, div-add-mod' n 256))

pub complement_small : (count : ℕ) (z : ℤ) → neg_ℤ (pos count) ≼ pos 2 *ℤ z → pos 2 *ℤ z ≺ pos count → complement count z < count
unfolding complement
complement_small count (pos n) l h = omega (arith, lt→ h)
complement_small count (negsuc n) l h = omega (arith, le→ l, negated (pos count), times (pos 2) (negsuc n))

-- the two cases of `complement`, as a test of the number's sign finds them
pub complement-below : (count : ℕ) (z : ℤ) → z ≺ pos 0 → nat_abs z ≤ count → (nat_abs (z +ℤ pos count) ≡ complement count z) × (pos 0 ≼ z +ℤ pos count)
unfolding complement
complement-below count (pos n) h l = let no : ⊥ = omega (arith, lt→ h) in absurd no
complement-below count (negsuc n) h l =
    let p = plus (negsuc n) (pos count) in
    let s = size_parts (negsuc n +ℤ pos count) in
    (omega arith, omega (arith, order))

pub complement-from : (count : ℕ) (z : ℤ) → pos 0 ≼ z → nat_abs z ≡ complement count z
unfolding complement
complement-from count (pos n) h = refl
complement-from count (negsuc n) h = absurd h.le

-- what k bytes can stand for, by a bound on sizes
pub in_bytes : (k : ℕ) (z : ℤ) {B : ℕ} → nat_abs z ≤ B → 2 * B < 256 ^ k → (neg_ℤ (pos (256 ^ k)) ≼ pos 2 *ℤ z) × (pos 2 *ℤ z ≺ pos (256 ^ k))
in_bytes k z h b = (omega (arith, order, size_parts z, negated (pos (256 ^ k)), times (pos 2) z), omega (arith, order, size_parts z, times (pos 2) z))

pub signed_back : (k : ℕ) (z : ℤ) → neg_ℤ (pos (256 ^ k)) ≼ pos 2 *ℤ z → pos 2 *ℤ z ≺ pos (256 ^ k) → signed (signed_bytes k z) ≡ z
unfolding signed complement
signed_back k z l h =
    rw (unsigned_back k (complement (256 ^ k) z) (complement_small (256 ^ k) z l h), bytes_length k (complement (256 ^ k) z)) (go z l h)
  where
    go : (z : ℤ) → neg_ℤ (pos (256 ^ k)) ≼ pos 2 *ℤ z → pos 2 *ℤ z ≺ pos (256 ^ k) →
        let v = complement (256 ^ k) z in cond (ltb (2 * v) (256 ^ k)) (pos v) (pos v -ℤ pos (256 ^ k)) ≡ z
    go (pos n) l h = rw (lt-ltb (2 * n) (256 ^ k) (omega (arith, lt→ h)))
    go (negsuc n) l h =
        let v = 256 ^ k - suc n in
        let m : 2 * suc n ≤ 256 ^ k = omega (arith, le→ l, negated (pos (256 ^ k)), times (pos 2) (negsuc n)) in
        rw (le-ltb (2 * v) (256 ^ k) (omega arith)) (omega (arith, order, minus (pos v) (pos (256 ^ k))))

-- ---- Bytes written from the front

-- of L bytes of n the first i stand in l, and the others are those of `rest`
pub record BytesBegun (L n i rest : ℕ) (l : List ℕ) : Type 0 where
  pub within : i ≤ L
  pub long : length l ≡ L
  pub whole : take i l ++ unsigned_bytes (L - i) rest ≡ unsigned_bytes L n

pub bytes_none : (n : ℕ) (l : List ℕ) → BytesBegun (length l) n 0 n l
bytes_none n l = record { within = zero-le; long = refl; whole = ap (λ (k : ℕ). unsigned_bytes k n) (sub-zero (length l)) }

module _ {L n i rest : ℕ} {l : List ℕ} (b : BytesBegun L n i rest l) where
  pub bytes_more : i < L → BytesBegun L n (i + 1) (rest / 256) (set l i (rest % 256))
  unfolding unsigned_bytes
  bytes_more h =
      let j = L - suc i in
      let e : L - i ≡ suc j = omega arith in
      record {
        within = omega arith;
        long = simp length-set b.long;
        whole = rw (add-one i, take-suc-set l i (rest % 256) (omega (arith, b.long)), append_snoc (take i l) (rest % 256) (unsigned_bytes j (rest / 256)))
            (rw e at b.whole);
      }

  pub bytes_whole : L ≤ i → l ≡ unsigned_bytes L n
  unfolding unsigned_bytes
  bytes_whole h =
      let e : L - i ≡ 0 = omega arith in
      rw (e, append-nil (take i l), take_all i l (omega (arith, b.long))) at b.whole
