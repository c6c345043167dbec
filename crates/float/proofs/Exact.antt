-- Where no operation rounds: a difference and a product by 4096 whose digits are few enough.
use Rattle.std.proofs.Common.{◌≡◌, ℕ, zero, suc, ◌+◌, ◌-◌, ◌*◌, ◌%◌, ◌^◌, ◌<◌, ◌≤◌, Bool, true, false, not, ◌&&◌, T, eqb, ltb, leb, ℤ, pos, negsuc, ◌+ℤ◌, ◌-ℤ◌, ◌*ℤ◌, neg_ℤ, nat_abs, sym, refl, ap, ◌∙◌, subst, lt_of_lt_of_le, le_of_suc-le-suc, mul_assoc, mul-pos, lt_of_not-le, mul-one, mul_right_comm, not-le_of_lt, arith, eqb→eq, ltb→lt, leb→le, pow_pos, pow_mono, pow-add, shl_lt, ltb-false, ltb-true}
use native.Mathlib.Nat.{pow-succ'}
use lib.Pow.{pow-lt}
use lib.Ieee.{Float, fin, Format, binary64, up, down, round, sum, add, sub, neg, mul, fits, unlike}
use lib.Ieee.Fits.{and_l, and_r, down_pos}
use lib.Ieee.Exact.{HasValue, round_exact}
use lib.Ieee.Scale.{round_same}
use Rattle.integer.proofs.Parts.{plus, negated, times}
use Rattle.integer.proofs.Ring.{ring, K, ◌⊖◌, ◌⊗◌, ◌≐◌}
use Rattle.integer.proofs.Order.{order, eq→, mul_cancel}
use Rattle.integer.proofs.Sizes.{size_product}
use Rattle.integer.proofs.Tests.{by_test}
use Rattle.float.specs.Value.{Finite, signed, numerator, denominator, Equals, float_of}
use Rattle.float.proofs.Signs.{signed_mul, signed_not, signed-size}
use Rattle.float.proofs.Values.{from_one, of_value, rescaled, denominator_pos}

-- ---- A fraction of at most 53 digits over 2^k, times 2^t, is its own rounding

units : (num den q t k : ℕ) → k ≤ 1074 → num * 2 ^ k ≡ q * 2 ^ t * den → num * 2 ^ 1074 ≡ q * 2 ^ (t + (1074 - k)) * den
units num den q t k h e =
    let l = 1074 - k in
    let s : k + l ≡ 1074 = omega arith in
    ap (λ (i : ℕ). num * 2 ^ i) (sym s)
    ∙ ap (λ (y : ℕ). num * y) (pow-add 2 k l)
    ∙ sym (mul_assoc num (2 ^ k) (2 ^ l))
    ∙ ap (λ (y : ℕ). y * 2 ^ l) e
    ∙ mul_right_comm (q * 2 ^ t) den (2 ^ l)
    ∙ ap (λ (y : ℕ). y * den) (mul_assoc q (2 ^ t) (2 ^ l) ∙ ap (λ (y : ℕ). q * y) (sym (pow-add 2 t l)))

exact_round : (g : Bool) (num den q t k : ℕ) → 0 < den → k ≤ 1074 → t ≤ 12 → q < 2 ^ 53 → num * 2 ^ k ≡ q * 2 ^ t * den → HasValue (round binary64 g num den) g num den
exact_round g num den q t k D K T' small e =
    let j = t + (1074 - k) in
    let r : 53 + j ≤ 2098 = omega arith in
    round_exact binary64 g num den q j D small (lt_of_lt_of_le (shl_lt 53 j small) (pow_mono r)) (units num den q t k K e)

-- ---- The float of a fraction

-- by its sign and its size, where it is not 0
float_of_lem : (s : Bool) (n q : ℕ) {z : ℤ} → signed s n ≡ z → (z ≡ pos 0 → ⊥) → round binary64 s n q ≡ float_of z q
float_of_lem s n q e some = subst (λ (z : ℤ). (z ≡ pos 0 → ⊥) → round binary64 s n q ≡ float_of z q) e (go s n) some
  where
    go : (s : Bool) (n : ℕ) → (signed s n ≡ pos 0 → ⊥) → round binary64 s n q ≡ float_of (signed s n) q
    go false n h = refl
    go true zero h = absurd (h refl)
    go true (suc n) h = refl

-- equal fractions are one float
float_same : (z w : ℤ) (c d : ℕ) → 0 < c → 0 < d → z *ℤ pos d ≡ w *ℤ pos c → float_of z c ≡ float_of w d
float_same (pos n) (pos m) c d C D e = round_same binary64 false n c m d C D (omega (arith, eq→ e, times (pos n) (pos d), times (pos m) (pos c)))
float_same (negsuc n) (negsuc m) c d C D e = round_same binary64 true (suc n) c (suc m) d C D (omega (arith, eq→ e, times (negsuc n) (pos d), times (negsuc m) (pos c)))
float_same (pos n) (negsuc m) c d C D e =
    let l : 0 < suc m * c = mul-pos (omega arith) C in
    let z : ⊥ = omega (arith, eq→ e, times (pos n) (pos d), times (negsuc m) (pos c)) in
    absurd z
float_same (negsuc n) (pos m) c d C D e =
    let l : 0 < suc n * d = mul-pos (omega arith) D in
    let z : ⊥ = omega (arith, eq→ e, times (negsuc n) (pos d), times (pos m) (pos c)) in
    absurd z

-- ---- A sum, as a rounding of the sum in ℤ

pub record Summed (f : Format) (x : Float) (z : ℤ) (c : ℕ) : Type 0 where
  pub sign : Bool
  pub size : ℕ
  pub rounds : x ≡ round f sign size c
  pub is : signed sign size ≡ z

-- the sign of a difference of negative numbers is a test of its own
turned : (f : Format) (s : Bool) (n c : ℕ) {z : ℤ} → (s ≡ true → neg_ℤ (pos n) ≡ z) → (s ≡ false → pos n ≡ z) → Summed f (round f s n c) z c
turned f true n c g h = record { sign = true; size = n; rounds = refl; is = g refl }
turned f false n c g h = record { sign = false; size = n; rounds = refl; is = h refl }

summed : (f : Format) (s : Bool) (a : ℕ) (t : Bool) (b c : ℕ) → Summed f (sum f s a t b c) (signed s a +ℤ signed t b) c
unfolding sum
summed f false a false b c = record { sign = false; size = a + b; rounds = refl; is = omega (arith, order, plus (pos a) (pos b)) }
summed f true a true b c = record {
  sign = true;
  size = a + b;
  rounds = refl;
  is = omega (arith, order, plus (neg_ℤ (pos a)) (neg_ℤ (pos b)), negated (pos a), negated (pos b), negated (pos (a + b)));
}
summed f false a true b c =
    let z = pos a +ℤ neg_ℤ (pos b) in
    let p = plus (pos a) (neg_ℤ (pos b)) in
    by_test (λ (x : Float). Summed f x z c) (ltb a b)
    (λ e. record { sign = true; size = b - a; rounds = refl; is = omega (arith, order, ltb-true a b e, p, negated (pos b), negated (pos (b - a))) })
    (λ e. record { sign = false; size = a - b; rounds = refl; is = omega (arith, order, ltb-false a b e, p, negated (pos b)) })
summed f true a false b c =
    let z = neg_ℤ (pos a) +ℤ pos b in
    let p = plus (neg_ℤ (pos a)) (pos b) in
    by_test (λ (x : Float). Summed f x z c) (ltb a b)
    (λ e. record { sign = false; size = b - a; rounds = refl; is = omega (arith, order, ltb-true a b e, p, negated (pos a)) })
    (λ e.
    turned f (ltb b a) (a - b) c
    (λ t. omega (arith, order, ltb-true b a t, p, negated (pos a), negated (pos (a - b))))
    (λ t. omega (arith, order, ltb-false a b e, ltb-false b a t, p, negated (pos a))))

differs : (f : Format) (x y : Float) → Finite x → Finite y → Summed f (sub f x y) (numerator x *ℤ pos (denominator y) -ℤ numerator y *ℤ pos (denominator x)) (denominator x * denominator y)
unfolding sub add neg
differs f lib.Ieee.nan y g h = elim g [ ]
differs f (lib.Ieee.inf _) y g h = elim g [ ]
differs f (fin s m e) lib.Ieee.nan g h = elim h [ ]
differs f (fin s m e) (lib.Ieee.inf _) g h = elim h [ ]
differs f (fin s m e) (fin t n d) g h =
    subst (λ (z : ℤ). Summed f (sum f s (m * up e * down d) (not t) (n * up d * down e) (down e * down d)) z (down e * down d))
    (ap (λ (z : ℤ). signed s (m * up e * down d) +ℤ z) (signed_not t (n * up d * down e) ∙ ap neg_ℤ (signed_mul t (n * up d) (down e)))
    ∙ ap (λ (z : ℤ). z +ℤ neg_ℤ (signed t (n * up d) *ℤ pos (down e))) (signed_mul s (m * up e) (down d)))
    (summed f s (m * up e * down d) (not t) (n * up d * down e) (down e * down d))

-- ---- The difference of two numbers over one denominator

module _ {x y : Float} {p p' : ℤ} {q : ℕ} (a : Equals x p q) (b : Equals y p' q) where
  between : ℤ
  between = numerator x *ℤ pos (denominator y) -ℤ numerator y *ℤ pos (denominator x)

  both : ℕ
  both = denominator x * denominator y

  both_pos : 0 < both
  unfolding both
  both_pos = mul-pos (denominator_pos x) (denominator_pos y)

  crossed : between *ℤ pos q ≡ (p -ℤ p') *ℤ pos both
  unfolding between both
  crossed =
      ring 5 (λ n d m c u. (n ⊗ d ⊖ m ⊗ c) ⊗ u ≐ (n ⊗ u) ⊗ d ⊖ (m ⊗ u) ⊗ c) tt (numerator x) (pos (denominator y)) (numerator y) (pos (denominator x)) (pos q)
      ∙ ap (λ (z : ℤ). z *ℤ pos (denominator y) -ℤ (numerator y *ℤ pos q) *ℤ pos (denominator x)) a.value
      ∙ ap (λ (z : ℤ). p *ℤ pos (denominator x) *ℤ pos (denominator y) -ℤ z *ℤ pos (denominator x)) b.value
      ∙ ring 4 (λ p c d q. p ⊗ c ⊗ d ⊖ q ⊗ d ⊗ c ≐ (p ⊖ q) ⊗ (c ⊗ d)) tt p (pos (denominator x)) (pos (denominator y)) p'

  as_sum : Summed binary64 (sub binary64 x y) between both
  unfolding between both
  as_sum = differs binary64 x y a.finite b.finite

  -- as a float of its own, where it is not 0
  pub sub_is : 0 < q → (p -ℤ p' ≡ pos 0 → ⊥) → sub binary64 x y ≡ float_of (p -ℤ p') q
  sub_is Q some =
      let v = as_sum in
      let n : between ≡ pos 0 → ⊥ = λ e. some (mul_cancel (pos both) (from_one both both_pos)
      (ring 2 (λ c z. c ⊗ z ≐ z ⊗ c) tt (pos both) (p -ℤ p') ∙ sym crossed ∙ ap (λ (z : ℤ). z *ℤ pos q) e ∙ ring 2 (λ c q. K 0 ⊗ q ≐ c ⊗ K 0) tt (pos both) (pos q))) in
      v.rounds ∙ float_of_lem v.sign v.size both v.is n ∙ float_same between (p -ℤ p') both q both_pos Q crossed

-- exact where it has at most 53 digits over 2^k
module _ {x y : Float} {p p' : ℤ} {k : ℕ} (a : Equals x p (2 ^ k)) (b : Equals y p' (2 ^ k)) (K : k ≤ 1074) (small : nat_abs (p -ℤ p') < 2 ^ 53) where
  pub exact_sub : Equals (sub binary64 x y) (p -ℤ p') (2 ^ k)
  exact_sub =
      let v = as_sum a b in
      let c = both a b in
      let e : v.size * 2 ^ k ≡ nat_abs (p -ℤ p') * 2 ^ 0 * c =
      ap (λ (n : ℕ). n * 2 ^ k) (sym (signed-size v.sign v.size) ∙ ap nat_abs v.is)
      ∙ sym (size_product (between a b) (pos (2 ^ k)))
      ∙ ap nat_abs (crossed a b)
      ∙ size_product (p -ℤ p') (pos c)
      ∙ ap (λ (n : ℕ). n * c) (sym (mul-one (nat_abs (p -ℤ p')))) in
      let h : HasValue (round binary64 v.sign v.size c) v.sign v.size c = exact_round v.sign v.size c (nat_abs (p -ℤ p')) 0 k (both_pos a b) K (omega arith) small e in
      let i : Equals (sub binary64 x y) (signed v.sign v.size) c = rw v.rounds (of_value (round binary64 v.sign v.size c) v.sign v.size c h) in
      rescaled (both_pos a b) i (ap (λ (z : ℤ). z *ℤ pos (2 ^ k)) v.is ∙ crossed a b)

-- ---- 4096 times a number of at most 53 digits is exact

like : (s : Bool) → unlike s false ≡ s
like true = refl
like false = refl

pub exact_4096 : (a : Float) {k : ℕ} → Finite a → denominator a ≡ 2 ^ k → k ≤ 1074 → nat_abs (numerator a) < 2 ^ 53
    → Equals (mul binary64 a (fin false 1 (pos 12))) (pos 4096 *ℤ numerator a) (denominator a)
unfolding mul
exact_4096 lib.Ieee.nan {k = k} f d near small = elim f [ ]
exact_4096 (lib.Ieee.inf _) {k = k} f d near small = elim f [ ]
exact_4096 (fin s m e) {k} f d near small =
    let M = m * up e in
    let n = M * (1 * 2 ^ 12) in
    let c = down e * 1 in
    let C : 0 < c = mul-pos (down_pos e) (pow_pos 0) in
    let l : n * 2 ^ k ≡ M * 2 ^ 12 * c = ap (λ (y : ℕ). n * y) (sym d ∙ sym (mul-one (down e))) in
    let h : HasValue (round binary64 s n c) s n c = exact_round s n c M 12 k C near (omega arith) (rw (signed-size s M) at small) l in
    subst (λ (g : Bool). Equals (round binary64 g n c) (pos 4096 *ℤ signed s M) (down e)) (sym (like s))
    (rescaled C (of_value (round binary64 s n c) s n c h)
    (ap (λ (z : ℤ). z *ℤ pos (down e)) (signed_mul s M 4096) ∙ ring 2 (λ n d. n ⊗ K 4096 ⊗ d ≐ (K 4096 ⊗ n) ⊗ d) tt (signed s M) (pos (down e)) ∙ ap (λ (y : ℕ). (pos 4096 *ℤ signed s M) *ℤ pos y) (sym (mul-one (down e)))))

-- ---- What a float of 64 bits holds

under : (i l : ℕ) → 2 ^ i ≤ 2 ^ l → i ≤ l
under i l h = le_of_suc-le-suc (lt_of_not-le (λ g. not-le_of_lt (pow-lt g) h))

digits : (s : Bool) (m : ℕ) (e : ℤ) → T (fits binary64 (fin s (suc m) e)) → (suc m < 2 ^ 53) × (down e ≤ 2 ^ 1074)
unfolding fits
digits s m e h =
    let o = eqb (suc m % 2) 1 in
    let p = ltb (suc m) (2 ^ 53) in
    let q = leb (down e) (2 ^ 1074) in
    let r = ltb (suc m * up e) (2 ^ 1024 * down e) in
    let t = and_l (o && p && q) r h in
    (ltb→lt (suc m) (2 ^ 53) (and_r o p (and_l (o && p) q t)), leb→le (down e) (2 ^ 1074) (and_r (o && p) q t))

pub record Shape (x : Float) : Type 0 where
  pub places : ℕ
  pub few : places ≤ 1074
  pub is : denominator x ≡ 2 ^ places

not_one : (k : ℕ) → 1 * 2 ^ suc k ≡ 1 → ⊥
not_one k h = omega (arith, pow-succ' 2 k, pow_pos k)

zero_shape : (s : Bool) (e : ℤ) → T (fits binary64 (fin s zero e)) → Shape (fin s zero e)
unfolding fits
zero_shape s (pos k) h = record { places = 0; few = omega arith; is = refl }
zero_shape s (negsuc k) h = absurd (not_one k (eqb→eq (1 * 2 ^ suc k) 1 h))

pub shape : (x : Float) → Finite x → T (fits binary64 x) → Shape x
shape lib.Ieee.nan f h = elim f [ ]
shape (lib.Ieee.inf _) f h = elim f [ ]
shape (fin s zero e) f h = zero_shape s e h
shape (fin s (suc m) (pos k)) f h = record { places = 0; few = omega arith; is = refl }
shape (fin s (suc m) (negsuc k)) f h = record { places = suc k; few = under (suc k) 1074 (digits s m (negsuc k) h).1; is = refl }

-- at most 53 digits, for a number of at most 2^52
pub few_digits : (x : Float) → Finite x → T (fits binary64 x) → nat_abs (numerator x) ≤ 2 ^ 52 * denominator x → nat_abs (numerator x) < 2 ^ 53
few_digits lib.Ieee.nan f h b = elim f [ ]
few_digits (lib.Ieee.inf _) f h b = elim f [ ]
few_digits (fin s zero e) f h b = rw (signed-size s (zero * up e)) (omega arith)
few_digits (fin s (suc m) (pos k)) f h b = omega arith
few_digits (fin s (suc m) (negsuc k)) f h b = rw (signed-size s (suc m * 1), mul-one) (digits s m (negsuc k) h).0
