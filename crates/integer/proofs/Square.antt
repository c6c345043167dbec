-- The quotient of a square, rounded up: with a = s ÷ d and b = s − a d it is a (s + b) and that of b b.
use Prim.Native.Nat.{◌^◌, ◌<◌, ◌≤◌}
use mathlib.Core.Path.{◌≡◌, sym, ◌∙◌, ap}
use native.Mathlib.Omega.{arith}
use native.Mathlib.Nat.{le_refl}
use lib.IntN.{ℤ, pos, negsuc, nat_abs, ◌+ℤ◌, ◌-ℤ◌, ◌*ℤ◌, *ℤ_comm}
use Rattle.integer.specs.Order.{◌≼◌, ◌≺◌}
use Rattle.integer.specs.Quotient.{◌÷◌, quotient_up}
use Rattle.integer.proofs.Parts.{plus, minus, times}
use Rattle.integer.proofs.Ring.{ring, K, ◌⊕◌, ◌⊖◌, ◌⊗◌, ◌≐◌}
use Rattle.integer.proofs.Order.{order, diff_nonneg, add_nonneg, square_nonneg}
use Rattle.integer.proofs.Sizes.{size_parts, size_by, size-add, size-mul}
use Rattle.integer.proofs.Quotient.{quotient_low, quotient_high, quotient_most, quotient_least, up_shift, up_is}

abbrev pub rest : ℤ → ℤ → ℤ
rest s d = s -ℤ (s ÷ d) *ℤ d

-- b b and d − 1, which the quotient rounded down then rounds up
abbrev pub raised : ℤ → ℤ → ℤ
raised s d = rest s d *ℤ rest s d +ℤ (d -ℤ pos 1)

pub square_quotient : (s d : ℤ) → pos 1 ≼ d → (s ÷ d) *ℤ (s +ℤ rest s d) +ℤ raised s d ÷ d ≡ quotient_up (s *ℤ s) d
square_quotient s d h =
    ap (λ (z : ℤ). (s ÷ d) *ℤ (s +ℤ rest s d) +ℤ z) (up_is (rest s d *ℤ rest s d) d h)
    ∙ sym (up_shift d ((s ÷ d) *ℤ (s +ℤ rest s d)) (rest s d *ℤ rest s d) h)
    ∙ ap (λ (z : ℤ). quotient_up z d)
    (ring 3 (λ s d a. d ⊗ (a ⊗ (s ⊕ (s ⊖ a ⊗ d))) ⊕ (s ⊖ a ⊗ d) ⊗ (s ⊖ a ⊗ d) ≐ s ⊗ s) tt s d (s ÷ d))

-- ---- No step passes 64 bits

pub record Sized (s d : ℤ) : Type 0 where
  pub size : nat_abs s < 2 ^ 37
  pub low : pos 16384 ≼ d
  pub high : d ≼ pos 4177920

module _ (s d : ℤ) (p : Sized s d) where
  pub divisor : pos 1 ≼ d
  divisor = let h = p.low in omega (arith, order)

  pub size-whole : nat_abs (s ÷ d) ≤ 2 ^ 23
  size-whole =
      let l = p.low in
      let h = p.size in
      size_by
      (quotient_most s d (negsuc 8388607) divisor (omega (arith, order, size_parts s, times d (negsuc 8388607))))
      (quotient_least s d (pos 8388608) divisor (omega (arith, order, size_parts s, times d (pos 8388609))))

  pub size_divisor : nat_abs d ≤ 2 ^ 22
  size_divisor = let l = p.low in let h = p.high in omega (arith, order, size_parts d)

  pub size-rest : nat_abs (rest s d) ≤ 2 ^ 22
  size-rest =
      let h = p.high in
      let low : pos 0 ≼ rest s d = rw (*ℤ_comm (s ÷ d) d) (diff_nonneg (quotient_low s d divisor)) in
      let high : rest s d ≺ d =
      let k = quotient_high s d divisor in
      let e = ring 2 (λ d a. d ⊗ (a ⊕ K 1) ≐ a ⊗ d ⊕ d) tt d (s ÷ d) in
      omega (arith, order, minus s ((s ÷ d) *ℤ d), plus ((s ÷ d) *ℤ d) d) in
      omega (arith, order, size_parts (rest s d))

  pub size_both : nat_abs (s +ℤ rest s d) ≤ 2 ^ 38
  size_both = let h = p.size in omega (arith, size-add s (rest s d) (le_refl (nat_abs s)) size-rest)

  pub size_front : nat_abs ((s ÷ d) *ℤ (s +ℤ rest s d)) ≤ 2 ^ 61
  size_front = size-mul (s ÷ d) (s +ℤ rest s d) size-whole size_both

  pub size-square : nat_abs (rest s d *ℤ rest s d) ≤ 2 ^ 44
  size-square = size-mul (rest s d) (rest s d) size-rest size-rest

  pub size_less : nat_abs (d -ℤ pos 1) ≤ 2 ^ 22
  size_less = let l = p.low in let h = p.high in omega (arith, order, minus d (pos 1), size_parts (d -ℤ pos 1))

  pub size_raised : nat_abs (raised s d) ≤ 2 ^ 45
  size_raised = omega (arith, size-add (rest s d *ℤ rest s d) (d -ℤ pos 1) size-square size_less)

  pub raised_nonneg : pos 0 ≼ raised s d
  raised_nonneg = add_nonneg (square_nonneg (rest s d)) (diff_nonneg divisor)
