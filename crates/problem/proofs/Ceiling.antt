-- No number within its limits costs more than P times the larger of (lo − r)² and (hi − r)²: in units of 1/D, D² times that.
use mathlib.Core.Path.{◌≡◌, refl}
use mathlib.Core.Logic.{◌⊎◌, inl, inr}
use mathlib.Core.Bool.{Bool, true, false, cond}
use native.Mathlib.Omega.{arith}
use lib.IntN.{ℤ, pos, ◌+ℤ◌, ◌-ℤ◌, ◌*ℤ◌}
use lib.Signed.{le_z}
use Rattle.integer.specs.Order.{◌≼◌, ◌≺◌}
use Rattle.integer.proofs.Parts.{minus}
use Rattle.integer.proofs.Ring.{ring, ◌⊕◌, ◌⊖◌, ◌⊗◌, ◌≐◌}
use Rattle.integer.proofs.Order.{order, le_by, le_trans, le_or_lt, diff_nonneg, add_nonneg, mul_nonneg, mul_nonpos, square_nonneg, mul-le}
use Rattle.integer.proofs.Tests.{by_test}
use Rattle.problem.specs.declared.Term.{Term}
use Rattle.problem.specs.Cost.{square, cost, Within}
use Rattle.problem.specs.Rival.{finer_term}
use Rattle.problem.specs.Dual.{larger, most}

larger_both : (a b : ℤ) → (a ≼ larger a b) × (b ≼ larger a b)
unfolding larger
larger_both a b = go (le_z a b) refl
  where
    go : (t : Bool) → le_z a b ≡ t → (a ≼ cond t b a) × (b ≼ cond t b a)
    go true e = (omega (arith, order), omega (arith, order))
    go false e = (omega (arith, order), omega (arith, order))

-- c² is at most d² where c lies from 0 to d, on either side of 0
square_le : (c d : ℤ) → pos 0 ≼ (d -ℤ c) *ℤ c → square c ≼ square d
square_le c d h =
    le_by (square (d -ℤ c) +ℤ ((d -ℤ c) *ℤ c +ℤ (d -ℤ c) *ℤ c)) (add_nonneg (square_nonneg (d -ℤ c)) (add_nonneg h h))
    (ring 2 (λ c d. c ⊗ c ⊕ ((d ⊖ c) ⊗ (d ⊖ c) ⊕ ((d ⊖ c) ⊗ c ⊕ (d ⊖ c) ⊗ c)) ≐ d ⊗ d) tt c d)

-- a square between two numbers is at most the larger of their squares
square_between : (a b c : ℤ) → a ≼ c → c ≼ b → square c ≼ larger (square a) (square b)
square_between a b c h k = go (le_or_lt (pos 0) c)
  where
    go : (pos 0 ≼ c) ⊎ (c ≺ pos 0) → square c ≼ larger (square a) (square b)
    go (inl l) = le_trans (square_le c b (mul_nonneg (diff_nonneg k) l)) (larger_both (square a) (square b)).1
    go (inr l) =
        let m : a -ℤ c ≼ pos 0 = omega (arith, order, minus a c) in
        let n : c ≼ pos 0 = omega (arith, order) in
        le_trans (square_le c a (mul_nonpos m n)) (larger_both (square a) (square b)).0

-- the larger of two multiples, by a factor from 0 on
larger-mul : (k a b : ℤ) → pos 0 ≼ k → larger (k *ℤ a) (k *ℤ b) ≼ k *ℤ larger a b
unfolding larger
larger-mul k a b p =
    by_test (λ z. z ≼ k *ℤ larger a b) (le_z (k *ℤ a) (k *ℤ b)) (λ _. mul-le k p (larger_both a b).1) (λ _. mul-le k p (larger_both a b).0)

pub cost-most : (D : ℤ) (t : Term) (v : ℤ) → pos 0 ≼ t.penalty → Within (finer_term D t) v → cost (finer_term D t) v ≼ square D *ℤ most t
unfolding cost most
cost-most D t v weighed within =
    let r = D *ℤ t.reference in
    let low = t.low -ℤ t.reference in
    let high = t.high -ℤ t.reference in
    let scaled : (a : ℤ) → square (D *ℤ a -ℤ r) ≡ square D *ℤ square (a -ℤ t.reference) =
    λ a. ring 3 (λ D a r. (D ⊗ a ⊖ D ⊗ r) ⊗ (D ⊗ a ⊖ D ⊗ r) ≐ D ⊗ D ⊗ ((a ⊖ r) ⊗ (a ⊖ r))) tt D a t.reference
    in
    let far : square (v -ℤ r) ≼ larger (square (D *ℤ t.low -ℤ r)) (square (D *ℤ t.high -ℤ r)) =
    let l = within.0 in
    let h = within.1 in
    square_between (D *ℤ t.low -ℤ r) (D *ℤ t.high -ℤ r) (v -ℤ r) (omega (arith, order, minus (D *ℤ t.low) r, minus v r))
    (omega (arith, order, minus (D *ℤ t.high) r, minus v r))
    in
    rw (ring 3 (λ d p l. d ⊗ (p ⊗ l) ≐ p ⊗ (d ⊗ l)) tt (square D) t.penalty (larger (square low) (square high)))
    (mul-le t.penalty weighed
    (le_trans (rw (scaled t.low, scaled t.high) at far) (larger-mul (square D) (square low) (square high) (square_nonneg D))))
