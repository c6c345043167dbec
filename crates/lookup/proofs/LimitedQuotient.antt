-- A limit before a quotient and after it.
use mathlib.Core.Path.{◌≡◌, sym, ◌∙◌}
use mathlib.Core.Logic.{◌⊎◌, inl, inr}
use native.Mathlib.Omega.{arith}
use lib.IntN.{ℤ, pos, ◌+ℤ◌, ◌-ℤ◌, ◌*ℤ◌}
use Rattle.integer.specs.Order.{◌≼◌, ◌≺◌}
use Rattle.integer.specs.Limited.{limited}
use Rattle.integer.specs.Quotient.{◌÷◌}
use Rattle.integer.proofs.Parts.{plus, minus}
use Rattle.integer.proofs.Order.{order, le_or_lt, mul-lt, mul_cancel_lt}
use Rattle.integer.proofs.Limited.{by_tests, limited-below, limited-above, limited-inside}
use Rattle.integer.proofs.Quotient.{quotient_low, quotient_most, quotient_least, quotient_unique}

-- from hi on, a number limited is hi
pub limited-from : (lo hi x : ℤ) → lo ≼ hi → hi ≼ x → limited lo hi x ≡ hi
limited-from lo hi x h k = go (le_or_lt x hi)
  where
    go : (x ≼ hi) ⊎ (hi ≺ x) → limited lo hi x ≡ hi
    go (inl l) = let e : x ≡ hi = omega (arith, order) in limited-inside lo hi x (omega (arith, order)) l ∙ e
    go (inr l) = limited-above lo hi x (omega (arith, order)) l

-- lo comes out of the limit
pub limited_shift : (lo hi x : ℤ) → lo ≼ hi → limited lo hi (lo +ℤ x) ≡ lo +ℤ limited (pos 0) (hi -ℤ lo) x
limited_shift lo hi x o =
    let p = plus lo x in
    let m = minus hi lo in
    by_tests (pos 0) (hi -ℤ lo) x (λ z. limited lo hi (lo +ℤ x) ≡ lo +ℤ z)
    (λ b. limited-below lo hi (lo +ℤ x) (omega (arith, order)) ∙ omega (arith, order, plus lo (pos 0)))
    (λ l h. limited-above lo hi (lo +ℤ x) (omega (arith, order)) (omega (arith, order)) ∙ omega (arith, order, plus lo (hi -ℤ lo)))
    (λ l h. limited-inside lo hi (lo +ℤ x) (omega (arith, order)) (omega (arith, order)))

module _ (d : ℤ) (divisor : pos 1 ≼ d) where
  multiple : (x : ℤ) → d *ℤ x ÷ d ≡ x
  multiple x =
      sym (quotient_unique (d *ℤ x) d x divisor (omega (arith, order)) (mul-lt d divisor (omega (arith, order, plus x (pos 1)))))

  -- the limits times the divisor, before the quotient
  pub limited_quotient : (lo hi z : ℤ) → lo ≼ hi → limited lo hi (z ÷ d) ≡ limited (d *ℤ lo) (d *ℤ hi) z ÷ d
  limited_quotient lo hi z o =
      let q = z ÷ d in
      by_tests (d *ℤ lo) (d *ℤ hi) z (λ x. limited lo hi q ≡ x ÷ d)
      (λ b. limited-below lo hi q (mul_cancel_lt d (omega (arith, order)) (omega (arith, order, quotient_low z d divisor))) ∙ sym (multiple lo))
      (λ l h. limited-from lo hi q o (quotient_most z d hi divisor (omega (arith, order))) ∙ sym (multiple hi))
      (λ l h. limited-inside lo hi q (quotient_most z d lo divisor l)
      (quotient_least z d hi divisor (let n = mul-lt d {a = hi} {b = hi +ℤ pos 1} divisor (omega (arith, order, plus hi (pos 1))) in omega (arith, order))))
