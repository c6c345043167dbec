-- Laws about the bits of a word, for words of any width.
use Prim.Native.Nat.{ℕ, zero, suc, ◌+◌, ◌-◌, ◌*◌, ◌/◌, ◌%◌, ◌^◌, ◌<◌, ◌≤◌}
use mathlib.Core.Path.{◌≡◌, refl, sym, ap, ap₂, ◌∙◌}
use mathlib.Core.Bool.{Bool, true, false, cond, not, ◌&&◌, ◌||◌}
use mathlib.Core.List.{List}
use mathlib.Core.Logic.{⊎_elim}
use native.Mathlib.Nat.{div-eq_of_lt, mod-lt, pow-suc, one-mul, sub-zero, add_comm, add-mul, lt_of_lt_of_le}
use native.Mathlib.Numerals.{add-one}
use native.Mathlib.Omega.{arith}
use lib.Dec.{eqb, ltb, lit<}
use lib.Bits.{bit_and, bit_or, and_shr, or_shr, and_mod, or_mod}
use lib.Count.{ones, ones_in, ones_cat}
use lib.Arith.{lt-one}
use lib.ListN.{get_or, replicate, get_or-replicate}
use lib.Pow.{pow_pos, pow_mono, pow-lt, pow-add, shl-shr, ones_lt, shl_exact, split, le_ones, ones_sub-lt, ones_split, high, field, mod-mod-pow, shr_lt}
use borrow.Author.Tests.{lt-ltb, le-ltb, eq-eqb, ne_eqb}
use Rattle.integer.specs.Tests.{count}
use Rattle.integer.proofs.Tests.{count_cong}
use Rattle.integer.proofs.Places.{lt_or_le}
use Rattle.words.specs.Words.{word_count, bit, bit_of, Holds, HoldAll}

-- a test as a digit
abbrev digit : Bool → ℕ
digit test = cond test 1 0

-- bit b of a word is its digit b
bit-digit : (x b : ℕ) → x / 2 ^ b % 2 ≡ digit (bit x b)
unfolding bit
bit-digit x b = go (x / 2 ^ b % 2) (omega arith)
  where
    go : (r : ℕ) → r < 2 → r ≡ digit (eqb r 1)
    go zero h = refl
    go (suc zero) h = refl
    go (suc (suc r)) h = let z : ⊥ = omega arith in absurd z

-- ---- Operations bit by bit

module _ (op : ℕ → ℕ → ℕ) (test : Bool → Bool → Bool) where
  by_bits : ((x y k : ℕ) → op x y / 2 ^ k ≡ op (x / 2 ^ k) (y / 2 ^ k)) → ((x y k : ℕ) → op x y % 2 ^ k ≡ op (x % 2 ^ k) (y % 2 ^ k))
      → ((p q : Bool) → eqb (op (digit p) (digit q)) 1 ≡ test p q) → (x y b : ℕ) → bit (op x y) b ≡ test (bit x b) (bit y b)
  unfolding bit
  by_bits shift low table x y b =
      ap (λ (d : ℕ). eqb d 1) (ap (λ (d : ℕ). d % 2) (shift x y b) ∙ low (x / 2 ^ b) (y / 2 ^ b) 1 ∙ ap₂ op (bit-digit x b) (bit-digit y b))
      ∙ table (bit x b) (bit y b)

bit_and_lem : (x y b : ℕ) → bit (bit_and x y) b ≡ bit x b && bit y b
bit_and_lem = by_bits bit_and ◌&&◌ and_shr and_mod table
  where
    table : (p q : Bool) → eqb (bit_and (digit p) (digit q)) 1 ≡ p && q
    table true true = refl
    table true false = refl
    table false true = refl
    table false false = refl

pub bit_or_lem : (x y b : ℕ) → bit (bit_or x y) b ≡ bit x b || bit y b
bit_or_lem = by_bits bit_or ◌||◌ or_shr or_mod table
  where
    table : (p q : Bool) → eqb (bit_or (digit p) (digit q)) 1 ≡ p || q
    table true true = refl
    table true false = refl
    table false true = refl
    table false false = refl

-- ---- Digits above and below a bit

bit_past : (x b : ℕ) → x < 2 ^ b → bit x b ≡ false
unfolding bit
bit_past x b h = ap (λ (d : ℕ). eqb (d % 2) 1) (div-eq_of_lt h)

-- the digits of a word below a width have its bits
bit-low : (x w b : ℕ) → b < w → bit (x % 2 ^ w) b ≡ bit x b
unfolding bit
bit-low x w b h = let e : w ≡ suc (w - suc b) + b = omega arith in rw e (go (w - suc b))
  where
    go : (i : ℕ) → bit (x % 2 ^ (suc i + b)) b ≡ bit x b
    go i = ap (λ (d : ℕ). eqb d 1) (ap (λ (d : ℕ). d % 2) (field x (suc i) b) ∙ (rw (add-one i) at (mod-mod-pow (x / 2 ^ b) i 1)))

-- digits above a bit and below it, taken off apart
parts : (P q C B r : ℕ) → q ≤ P → r ≤ B → P * C + B - (q * C + r) ≡ (P - q) * C + (B - r)
parts P q C B r u v = let d : P ≡ q + (P - q) = omega arith in omega (arith, ap (λ (t : ℕ). t * C) d, add-mul q (P - q) C)

-- an odd number less q is odd where q is even
flip : (T q : ℕ) → q < T * 2 → eqb ((T * 2 - 1 - q) % 2) 1 ≡ not (eqb (q % 2) 1)
flip T q h = go (q % 2) ((T * 2 - 1 - q) % 2) (omega arith) (omega arith)
  where
    go : (r s : ℕ) → r < 2 → r + s ≡ 1 → eqb s 1 ≡ not (eqb r 1)
    go zero s l e = let z : s ≡ 1 = omega arith in rw z
    go (suc zero) s l e = let z : s ≡ 0 = omega arith in rw z
    go (suc (suc r)) s l e = let z : ⊥ = omega arith in absurd z

-- a word that is all ones but for the bits of another one
bit_not : (w x b : ℕ) → x < 2 ^ w → b < w → bit (2 ^ w - 1 - x) b ≡ not (bit x b)
unfolding bit
bit_not w x b h l = let e : w ≡ suc (w - suc b) + b = omega arith in rw e (go (w - suc b) (rw e at h))
  where
    go : (i : ℕ) → x < 2 ^ (suc i + b) → eqb ((2 ^ (suc i + b) - 1 - x) / 2 ^ b % 2) 1 ≡ not (eqb (x / 2 ^ b % 2) 1)
    go i h =
        let q = x / 2 ^ b in
        let r = x % 2 ^ b in
        let l : q < 2 ^ suc i = shr_lt (suc i) b h in
        let apart = parts (2 ^ suc i - 1) q (2 ^ b) (2 ^ b - 1) r (le_ones (suc i) l) (le_ones b (mod-lt x (pow_pos b))) in
        let above = high (2 ^ suc i - 1 - q) b (ones_sub-lt b r) in
        ap (λ (d : ℕ). eqb (d / 2 ^ b % 2) 1) (ap₂ ◌-◌ (ones_split (suc i) b) (sym (split x b)) ∙ apart) ∙ ap (λ (d : ℕ). eqb (d % 2) 1) above
        ∙ ap (λ (d : ℕ). eqb ((d - 1 - q) % 2) 1) (pow-suc 2 i) ∙ flip (2 ^ i) q (rw (pow-suc 2 i) at l)

-- one word's bits but for those of another
pub bit_without : (w x y b : ℕ) → y < 2 ^ w → b < w → bit (bit_and x (2 ^ w - 1 - y)) b ≡ bit x b && not (bit y b)
bit_without w x y b h l = bit_and_lem x (2 ^ w - 1 - y) b ∙ ap (λ (t : Bool). bit x b && t) (bit_not w y b h l)

-- ---- Words that are written out

pub bit_zero : (b : ℕ) → bit 0 b ≡ false
bit_zero b = bit_past 0 b (pow_pos b)

-- the lowest k bits
pub bit_ones : (k b : ℕ) → bit (2 ^ k - 1) b ≡ ltb b k
bit_ones k b =
    ⊎_elim
    (λ l. ap (λ (x : ℕ). bit x b) (sym (sub-zero (2 ^ k - 1))) ∙ bit_not k 0 b (pow_pos k) l ∙ ap not (bit_zero b) ∙ sym (lt-ltb b k l))
    (λ l. bit_past (2 ^ k - 1) b (lt_of_lt_of_le (ones_lt k) (pow_mono l)) ∙ sym (le-ltb b k l))
    (lt_or_le b k)

-- bit k alone: below it, at it and above it
bit_under : (i b : ℕ) → bit (2 ^ (suc i + b)) b ≡ false
unfolding bit
bit_under i b =
    let even : 2 ^ i * 2 % 2 ≡ 0 = omega arith in
    ap (λ (d : ℕ). eqb (d % 2) 1) (ap (λ (d : ℕ). d / 2 ^ b) (pow-add 2 (suc i) b) ∙ shl-shr (2 ^ suc i) b ∙ pow-suc 2 i) ∙ ap (λ (d : ℕ). eqb d 1) even

bit-same : (k : ℕ) → bit (2 ^ k) k ≡ true
unfolding bit
bit-same k = ap (λ (d : ℕ). eqb (d % 2) 1) (ap (λ (d : ℕ). d / 2 ^ k) (sym (one-mul (2 ^ k))) ∙ shl-shr 1 k)

pub bit_one : (k b : ℕ) → bit (2 ^ k) b ≡ eqb b k
bit_one k b =
    ⊎_elim
    (λ l.
    let e : k ≡ suc (k - suc b) + b = omega arith in
    ap (λ (d : ℕ). bit (2 ^ d) b) e ∙ bit_under (k - suc b) b ∙ sym (ne_eqb b k (λ d. omega arith)))
    (λ l. ⊎_elim
    (λ g. bit_past (2 ^ k) b (pow-lt g) ∙ sym (ne_eqb b k (λ d. omega arith)))
    (λ g. let e : b ≡ k = omega arith in ap (bit (2 ^ k)) e ∙ bit-same k ∙ sym (eq-eqb b k e))
    (lt_or_le k b))
    (lt_or_le b k)

-- 1 shifted by less than the width
pub shifted_one : (w k : ℕ) → k < w → 1 * 2 ^ k % 2 ^ w ≡ 2 ^ k
shifted_one w k h = shl_exact 1 k w (lit< tt) (omega arith) ∙ one-mul (2 ^ k)

-- ---- How many bits are set

ones_digit : (a : ℕ) → a < 2 → ones a ≡ a
unfolding ones ones_in
ones_digit zero h = refl
ones_digit (suc zero) h = refl
ones_digit (suc (suc a)) h = let z : ⊥ = omega arith in absurd z

-- of a word, one by one
pub ones_count : (w x : ℕ) → x < 2 ^ w → ones x ≡ count w (bit x)
unfolding count
ones_count zero x h = ap ones (lt-one h) ∙ ones_digit 0 (lit< tt)
ones_count (suc w) x h =
    ap ones (sym (split x w)) ∙ ones_cat w (x / 2 ^ w) (x % 2 ^ w) (mod-lt x (pow_pos w))
    ∙ ap₂ ◌+◌ (top (x / 2 ^ w) (shr_lt 1 w (rw (sym (add_comm 1 w ∙ add-one w)) at h)) (bit-digit x w))
    (ones_count w (x % 2 ^ w) (mod-lt x (pow_pos w)) ∙ count_cong w (bit (x % 2 ^ w)) (bit x) (λ b l. bit-low x w b l))
    ∙ add_comm (digit (bit x w)) (count w (bit x))
  where
    top : (a : ℕ) {d : ℕ} → a < 2 → a % 2 ≡ d → ones a ≡ d
    top a l e = ones_digit a l ∙ (let z : a ≡ a % 2 = omega arith in z) ∙ e

-- ---- Bits of several words

pub bit_of_lem : (words : List ℕ) (w b : ℕ) → b < 64 → bit_of words (64 * w + b) ≡ bit (get_or words w 0) b
unfolding bit_of
bit_of_lem words w b h =
    let quotient : (64 * w + b) / 64 ≡ w = omega arith in
    let rest : (64 * w + b) % 64 ≡ b = omega arith in
    ap₂ (λ (q r : ℕ). bit (get_or words q 0) r) quotient rest

pub bit-none : (k i : ℕ) → i < 64 * k → bit_of (replicate k 0) i ≡ false
unfolding bit_of
bit-none k i h = ap (λ (y : ℕ). bit y (i % 64)) (get_or-replicate k (i / 64) 0 0 (omega arith)) ∙ bit_zero (i % 64)

-- words that hold f one by one
pub by_words : (f : ℕ → Bool) (words : List ℕ) → ((w : ℕ) → w < word_count → Holds (get_or words w 0) (λ b. f (64 * w + b))) → HoldAll words f
by_words f words h = record { each = λ i l. each i l }
  where
    each : (i : ℕ) → i < 64 * word_count → bit_of words i ≡ f i
    each i l =
        let w = i / 64 in
        let b = i % 64 in
        let e : i ≡ 64 * w + b = omega arith in
        ap (bit_of words) e ∙ bit_of_lem words w b (omega arith) ∙ (h w (omega arith)).each b (omega arith) ∙ ap f (sym e)
