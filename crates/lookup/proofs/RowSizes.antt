-- How large the numbers of a row are, and what is formed of them.
use Prim.Native.Nat.{ℕ, ◌+◌, ◌*◌, ◌/◌, ◌≤◌}
use mathlib.Core.Bool.{Bool, true, false, cond}
use mathlib.Core.Logic.{◌⊎◌, inl, inr, ⊎_elim}
use native.Mathlib.Omega.{arith}
use native.Mathlib.Nat.{le_refl, mul-le-mul}
use lib.IntN.{ℤ, pos, nat_abs, ◌+ℤ◌, ◌-ℤ◌, ◌*ℤ◌}
use Rattle.integer.specs.Order.{◌≼◌}
use Rattle.integer.specs.Limited.{limited}
use Rattle.integer.specs.Quotient.{◌÷◌}
use Rattle.integer.proofs.Parts.{times}
use Rattle.integer.proofs.Order.{order, mul_nonneg, diff_nonneg}
use Rattle.integer.proofs.Sizes.{size_parts, size-add, size-sub, size-mul}
use Rattle.integer.proofs.Limited.{limited-low, limited-high}
use Rattle.integer.proofs.Quotient.{size_quotient}
use Rattle.integer.proofs.Tests.{by_test}
use Rattle.commands.specs.Ranges.{most_number}
use Rattle.problem.specs.declared.Term.{Term}
use Rattle.problem.specs.Dual.{weightless}
use Rattle.primal.specs.Ranges.{most_penalty, Ranged}
use Rattle.primal.proofs.TermSizes.{Near}
use Rattle.dual.proofs.PieceSizes.{size_rise}
use Rattle.lookup.specs.Table.{centre, span, inverse}

-- What is divided by 8192.
abbrev pub scaled : Term → ℤ → ℤ
scaled t s = limited (pos 0) (span t) (centre t -ℤ s)

-- The quotient times the inverse.
abbrev pub product : Term → ℤ → ℕ
product t s = nat_abs (scaled t s) / 8192 * nat_abs (inverse t)

module _ {t : Term} (g : Ranged t) where
  abbrev p : ℤ
  p = t.penalty

  abbrev wide : ℤ
  wide = t.high -ℤ t.low

  pub width : pos 0 ≼ wide
  width = diff_nonneg g.ordered

  pub size_width : nat_abs wide ≤ 40000
  size_width = size-sub t.high t.low g.high g.low

  -- the laws of a number beside its reference serve a number beside lo
  pub over_low : (v : ℤ) → nat_abs v ≤ most_number → Near p v t.low
  over_low v h = record { penalty = g.penalty; number = h; reference = g.low }

  size_risen : nat_abs (pos 2 *ℤ p *ℤ wide) ≤ 80000 * most_penalty
  size_risen = let h = g.penalty in omega (arith, size_rise (over_low t.high g.high))

  pub size-centre : nat_abs (centre t) ≤ 80001 * most_penalty
  unfolding centre
  size-centre =
      let h = g.penalty in
      by_test (λ z. nat_abs z ≤ 80001 * most_penalty) (weightless p) (λ e. omega arith)
      (λ e. omega (arith, size-add (pos 2 *ℤ p *ℤ (t.reference -ℤ t.low)) p (size_rise (over_low t.reference g.reference)) h))

  span_nonneg : pos 0 ≼ span t
  unfolding span
  span_nonneg =
      by_test (λ z. pos 0 ≼ z) (weightless p) (λ e. omega (arith, order))
      (λ e. mul_nonneg {a = pos 2 *ℤ p} (omega (arith, order, times (pos 2) p)) width)

  pub size-inverted : nat_abs (pos 68719476736 ÷ (p ÷ pos 4096) +ℤ pos 1) ≤ 68719476736 + 1
  size-inverted = size-add (pos 68719476736 ÷ (p ÷ pos 4096)) (pos 1) (size_quotient (pos 68719476736) (p ÷ pos 4096)) (le_refl 1)

  pub inverse_nonneg : pos 0 ≼ inverse t
  unfolding inverse ◌÷◌
  inverse_nonneg =
      by_test (λ z. pos 0 ≼ z) (weightless p) (λ e. mul_nonneg {a = pos 68719476736} (omega (arith, order)) width) (λ e. omega (arith, order))

  -- At P = 0 the span is small and the inverse large, else it is the other way round: the product is below 2^63 in both.
  sizes : ((nat_abs (span t) ≤ 8192) × (nat_abs (inverse t) ≤ 68719476736 * 40000))
      ⊎ ((nat_abs (span t) ≤ 80000 * most_penalty) × (nat_abs (inverse t) ≤ 68719476736 + 1))
  unfolding span inverse
  sizes = go (weightless p)
    where
      go : (b : Bool) →
          let risen = cond b (pos 8192) (pos 2 *ℤ p *ℤ wide) in
          let inverted = cond b (pos 68719476736 *ℤ wide) (pos 68719476736 ÷ (p ÷ pos 4096) +ℤ pos 1) in
          ((nat_abs risen ≤ 8192) × (nat_abs inverted ≤ 68719476736 * 40000))
          ⊎ ((nat_abs risen ≤ 80000 * most_penalty) × (nat_abs inverted ≤ 68719476736 + 1))
      go true = inl (omega arith, size-mul (pos 68719476736) wide (le_refl 68719476736) size_width)
      go false = inr (size_risen, size-inverted)

  pub size-span : nat_abs (span t) ≤ 80000 * most_penalty
  size-span = ⊎_elim (λ h. omega arith) (λ h. h.0) sizes

  pub size-inverse : nat_abs (inverse t) ≤ 68719476736 * 40000
  size-inverse = ⊎_elim (λ h. h.1) (λ h. omega arith) sizes

  module _ (s : ℤ) where
    pub scaled_nonneg : pos 0 ≼ scaled t s
    scaled_nonneg = limited-low (pos 0) (span t) (centre t -ℤ s) span_nonneg

    pub size-scaled : nat_abs (scaled t s) ≤ nat_abs (span t)
    size-scaled =
        let h = limited-high (pos 0) (span t) (centre t -ℤ s) span_nonneg in
        omega (arith, order, scaled_nonneg, size_parts (scaled t s), size_parts (span t))

    pub size_product : product t s ≤ 10200000 * (68719476736 + 1)
    size_product =
        let k = size-scaled in
        let d = nat_abs (scaled t s) / 8192 in
        ⊎_elim
        (λ h. let l : d ≤ 1 = omega arith in omega (arith, mul-le-mul l h.1))
        (λ h. let l : d ≤ 10200000 = omega arith in mul-le-mul l h.1)
        sizes
