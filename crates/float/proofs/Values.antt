-- Floats compare as the numbers that they stand for, in whatever fractions these are given.
use Rattle.std.proofs.Common.{◌≡◌, ℕ, ◌*◌, ◌<◌, Bool, true, false, T, ℤ, pos, ◌*ℤ◌, sym, refl, ap, ◌∙◌, mul-pos, arith}
use lib.Ieee.{Float, nan, inf, fin, up, down, lt, le, eq}
use lib.Ieee.Fits.{down_pos}
use lib.Ieee.Exact.{HasValue}
use Rattle.integer.specs.Order.{◌≼◌, ◌≺◌}
use Rattle.integer.proofs.Ring.{ring, ◌⊗◌, ◌≐◌}
use Rattle.integer.proofs.Order.{order, le→, lt→, mul-le, mul-lt, mul_cancel_lt, mul_cancel_le, mul_cancel}
use Rattle.float.specs.Value.{Finite, signed, numerator, denominator, Equals}
use Rattle.float.proofs.Signs.{signed_mul, sign_less, sign_not_less, sign_most, sign_above, sign_equal, sign_unequal}

-- ---- A denominator

pub from_one : (q : ℕ) → 0 < q → pos 1 ≼ pos q
from_one q h = omega (arith, order)

-- ---- Fractions of one number

pub own : (x : Float) → Finite x → Equals x (numerator x) (denominator x)
own x f = record { finite = f; value = refl }

pub denominator_pos : (x : Float) → 0 < denominator x
denominator_pos nan = omega arith
denominator_pos (inf s) = omega arith
denominator_pos (fin s m e) = down_pos e

pub of_value : (x : Float) (s : Bool) (a c : ℕ) → HasValue x s a c → Equals x (signed s a) c
of_value nan s a c h = absurd h
of_value (inf t) s a c h = absurd h
of_value (fin t m e) s a c h = record {
  finite = tt;
  value = sym (signed_mul t (m * up e) c) ∙ ap (λ (n : ℕ). signed t n) h.1 ∙ ap (λ (b : Bool). signed b (a * down e)) h.0 ∙ signed_mul s a (down e);
}

pub rescaled : {x : Float} {z w : ℤ} {c d : ℕ} → 0 < c → Equals x z c → z *ℤ pos d ≡ w *ℤ pos c → Equals x w d
rescaled {x} {z} {w} {c} {d} p h e =
    let n = numerator x in
    let q = pos (denominator x) in
    let l : pos c *ℤ (n *ℤ pos d) ≡ pos c *ℤ (w *ℤ q) =
    ring 3 (λ c n d. c ⊗ (n ⊗ d) ≐ (n ⊗ c) ⊗ d) tt (pos c) n (pos d)
    ∙ ap (λ (y : ℤ). y *ℤ pos d) h.value
    ∙ ring 3 (λ z q d. z ⊗ q ⊗ d ≐ (z ⊗ d) ⊗ q) tt z q (pos d)
    ∙ ap (λ (y : ℤ). y *ℤ q) e
    ∙ ring 3 (λ w c q. w ⊗ c ⊗ q ≐ c ⊗ (w ⊗ q)) tt w (pos c) q in
    record { finite = h.finite; value = mul_cancel (pos c) (from_one c p) l }

-- ---- Tests of two floats

less : (x y : Float) → Finite x → Finite y → lt x y ≡ true → numerator x *ℤ pos (denominator y) ≺ numerator y *ℤ pos (denominator x)
unfolding lt
less nan y f g h = elim f [ ]
less (inf _) y f g h = elim f [ ]
less (fin s m e) nan f g h = elim g [ ]
less (fin s m e) (inf _) f g h = elim g [ ]
less (fin s m e) (fin t n d) f g h = rw (← signed_mul s (m * up e) (down d), ← signed_mul t (n * up d) (down e)) (sign_less s (m * up e * down d) t (n * up d * down e) h)

not_less : (x y : Float) → Finite x → Finite y → lt x y ≡ false → numerator y *ℤ pos (denominator x) ≼ numerator x *ℤ pos (denominator y)
unfolding lt
not_less nan y f g h = elim f [ ]
not_less (inf _) y f g h = elim f [ ]
not_less (fin s m e) nan f g h = elim g [ ]
not_less (fin s m e) (inf _) f g h = elim g [ ]
not_less (fin s m e) (fin t n d) f g h = rw (← signed_mul s (m * up e) (down d), ← signed_mul t (n * up d) (down e)) (sign_not_less s (m * up e * down d) t (n * up d * down e) h)

most : (x y : Float) → Finite x → Finite y → le x y ≡ true → numerator x *ℤ pos (denominator y) ≼ numerator y *ℤ pos (denominator x)
unfolding le lt eq
most nan y f g h = elim f [ ]
most (inf _) y f g h = elim f [ ]
most (fin s m e) nan f g h = elim g [ ]
most (fin s m e) (inf _) f g h = elim g [ ]
most (fin s m e) (fin t n d) f g h = rw (← signed_mul s (m * up e) (down d), ← signed_mul t (n * up d) (down e)) (sign_most s (m * up e * down d) t (n * up d * down e) h)

above : (x y : Float) → Finite x → Finite y → le x y ≡ false → numerator y *ℤ pos (denominator x) ≺ numerator x *ℤ pos (denominator y)
unfolding le lt eq
above nan y f g h = elim f [ ]
above (inf _) y f g h = elim f [ ]
above (fin s m e) nan f g h = elim g [ ]
above (fin s m e) (inf _) f g h = elim g [ ]
above (fin s m e) (fin t n d) f g h = rw (← signed_mul s (m * up e) (down d), ← signed_mul t (n * up d) (down e)) (sign_above s (m * up e * down d) t (n * up d * down e) h)

equal : (x y : Float) → Finite x → Finite y → eq x y ≡ true → numerator x *ℤ pos (denominator y) ≡ numerator y *ℤ pos (denominator x)
unfolding eq
equal nan y f g h = elim f [ ]
equal (inf _) y f g h = elim f [ ]
equal (fin s m e) nan f g h = elim g [ ]
equal (fin s m e) (inf _) f g h = elim g [ ]
equal (fin s m e) (fin t n d) f g h = rw (← signed_mul s (m * up e) (down d), ← signed_mul t (n * up d) (down e)) (sign_equal s (m * up e * down d) t (n * up d * down e) h)

unequal : (x y : Float) → Finite x → Finite y → eq x y ≡ false → numerator x *ℤ pos (denominator y) ≡ numerator y *ℤ pos (denominator x) → ⊥
unfolding eq
unequal nan y f g h = elim f [ ]
unequal (inf _) y f g h = elim f [ ]
unequal (fin s m e) nan f g h = elim g [ ]
unequal (fin s m e) (inf _) f g h = elim g [ ]
unequal (fin s m e) (fin t n d) f g h = rw (← signed_mul s (m * up e) (down d), ← signed_mul t (n * up d) (down e)) (sign_unequal s (m * up e * down d) t (n * up d * down e) h)

-- the same of any fractions that they are
module _ {x y : Float} {p p' : ℤ} {q q' : ℕ} (h : Equals x p q) (k : Equals y p' q') (Q : 0 < q) (Q' : 0 < q') where
  both : ℤ
  both = pos q *ℤ pos q'

  shared : ℤ
  shared = pos (denominator x) *ℤ pos (denominator y)

  both_pos : pos 1 ≼ both
  unfolding both
  both_pos = from_one (q * q') (mul-pos Q Q')

  shared_pos : pos 1 ≼ shared
  unfolding shared
  shared_pos = from_one (denominator x * denominator y) (mul-pos (denominator_pos x) (denominator_pos y))

  left : both *ℤ (numerator x *ℤ pos (denominator y)) ≡ shared *ℤ (p *ℤ pos q')
  unfolding both shared
  left =
      ring 4 (λ n d a b. (a ⊗ b) ⊗ (n ⊗ d) ≐ (n ⊗ a) ⊗ (b ⊗ d)) tt (numerator x) (pos (denominator y)) (pos q) (pos q')
      ∙ ap (λ (z : ℤ). z *ℤ (pos q' *ℤ pos (denominator y))) h.value
      ∙ ring 4 (λ p c b d. (p ⊗ c) ⊗ (b ⊗ d) ≐ (c ⊗ d) ⊗ (p ⊗ b)) tt p (pos (denominator x)) (pos q') (pos (denominator y))

  right : both *ℤ (numerator y *ℤ pos (denominator x)) ≡ shared *ℤ (p' *ℤ pos q)
  unfolding both shared
  right =
      ring 4 (λ n d a b. (a ⊗ b) ⊗ (n ⊗ d) ≐ (n ⊗ b) ⊗ (a ⊗ d)) tt (numerator y) (pos (denominator x)) (pos q) (pos q')
      ∙ ap (λ (z : ℤ). z *ℤ (pos q *ℤ pos (denominator x))) k.value
      ∙ ring 4 (λ p c b d. (p ⊗ c) ⊗ (b ⊗ d) ≐ (d ⊗ c) ⊗ (p ⊗ b)) tt p' (pos (denominator y)) (pos q) (pos (denominator x))

  pub value_less : lt x y ≡ true → p *ℤ pos q' ≺ p' *ℤ pos q
  value_less t = mul_cancel_lt shared (omega (arith, order, le→ shared_pos)) (rw (left, right) at (mul-lt both both_pos (less x y h.finite k.finite t)))

  pub value_not_less : lt x y ≡ false → p' *ℤ pos q ≼ p *ℤ pos q'
  value_not_less t = mul_cancel_le shared shared_pos (rw (left, right) at (mul-le both (omega (arith, order, le→ both_pos)) (not_less x y h.finite k.finite t)))

  pub value-most : le x y ≡ true → p *ℤ pos q' ≼ p' *ℤ pos q
  value-most t = mul_cancel_le shared shared_pos (rw (left, right) at (mul-le both (omega (arith, order, le→ both_pos)) (most x y h.finite k.finite t)))

  pub value-above : le x y ≡ false → p' *ℤ pos q ≺ p *ℤ pos q'
  value-above t = mul_cancel_lt shared (omega (arith, order, le→ shared_pos)) (rw (left, right) at (mul-lt both both_pos (above x y h.finite k.finite t)))

  pub value_equal : eq x y ≡ true → p *ℤ pos q' ≡ p' *ℤ pos q
  value_equal t = mul_cancel shared shared_pos (sym left ∙ ap (λ (z : ℤ). both *ℤ z) (equal x y h.finite k.finite t) ∙ right)

  pub value_unequal : eq x y ≡ false → p *ℤ pos q' ≡ p' *ℤ pos q → ⊥
  value_unequal t e = unequal x y h.finite k.finite t (mul_cancel both both_pos (left ∙ ap (λ (z : ℤ). shared *ℤ z) e ∙ sym right))

  pub value-most-holds : p *ℤ pos q' ≼ p' *ℤ pos q → T (le x y)
  value-most-holds l = go (le x y) refl
    where
      go : (b : Bool) → le x y ≡ b → T b
      go true e = tt
      go false e = let z : ⊥ = omega (arith, le→ l, lt→ (value-above e)) in absurd z

  pub value_less_holds : p *ℤ pos q' ≺ p' *ℤ pos q → T (lt x y)
  value_less_holds l = go (lt x y) refl
    where
      go : (b : Bool) → lt x y ≡ b → T b
      go true e = tt
      go false e = let z : ⊥ = omega (arith, lt→ l, le→ (value_not_less e)) in absurd z
