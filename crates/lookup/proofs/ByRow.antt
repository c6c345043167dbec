-- The minimiser by the row of its term.
use Prim.Native.Nat.{ℕ, ◌*◌, ◌/◌, ◌≤◌}
use mathlib.Core.Path.{◌≡◌, ap}
use mathlib.Core.Logic.{⊎_elim}
use native.Mathlib.Omega.{arith}
use native.Mathlib.Nat.{mul-le-mul}
use lib.IntN.{ℤ, pos, nat_abs, ◌+ℤ◌, ◌-ℤ◌, ◌*ℤ◌, *ℤ-zero}
use lib.Signed.{le_z}
use Rattle.integer.specs.Order.{◌≼◌, ◌≺◌}
use Rattle.integer.specs.Limited.{limited}
use Rattle.integer.specs.Quotient.{◌÷◌}
use Rattle.integer.proofs.Parts.{plus, minus, times}
use Rattle.integer.proofs.Ring.{ring, K, ◌⊕◌, ◌⊖◌, ◌⊗◌, ◌≐◌}
use Rattle.integer.proofs.Order.{order, le_or_lt}
use Rattle.integer.proofs.Sizes.{size_parts, size_product as size-times}
use Rattle.integer.proofs.Limited.{by_tests}
use Rattle.integer.proofs.Quotient.{quotient_shift}
use Rattle.integer.proofs.Tests.{at_most, not_at-most, by_test}
use Rattle.problem.specs.declared.Term.{Term}
use Rattle.problem.specs.Dual.{unweighted}
use Rattle.primal.specs.Ranges.{Ranged}
use Rattle.steps.specs.Steps.{minimiser}
use Rattle.lookup.specs.Table.{centre, span, inverse, Whole}
use Rattle.lookup.proofs.Inverse.{by_inverse}
use Rattle.lookup.proofs.LimitedQuotient.{limited-from, limited_shift, limited_quotient}
use Rattle.lookup.proofs.RowSizes.{product, width, size-span, scaled_nonneg, size-scaled}

-- The number that a row gives.
abbrev pub number_by : Term → ℤ → ℤ
number_by t s = t.low +ℤ pos (product t s / 68719476736)

module _ {t : Term} (g : Ranged t) (s : ℤ) where
  abbrev p : ℤ
  p = t.penalty

  abbrev wide : ℤ
  wide = t.high -ℤ t.low

  -- ---- P from 4096 on

  module _ (w : Whole p) (one : pos 1 ≼ p) where
    abbrev twice : ℤ
    twice = pos 2 *ℤ p

    abbrev z : ℤ
    z = twice *ℤ (t.reference -ℤ t.low) +ℤ p -ℤ s

    -- lo in front of the limit, and the limit before the quotient
    limited-first : limited t.low t.high ((twice *ℤ t.reference -ℤ s +ℤ p) ÷ twice) ≡ t.low +ℤ limited (pos 0) (twice *ℤ wide) z ÷ twice
    limited-first =
        let divisor : pos 1 ≼ twice = omega (arith, order, times (pos 2) p) in
        let e : twice *ℤ t.reference -ℤ s +ℤ p ≡ twice *ℤ t.low +ℤ z =
        ring 4 (λ p r l s. K 2 ⊗ p ⊗ r ⊖ s ⊕ p ≐ K 2 ⊗ p ⊗ l ⊕ (K 2 ⊗ p ⊗ (r ⊖ l) ⊕ p ⊖ s)) tt p t.reference t.low s in
        let f = limited_quotient twice divisor (pos 0) wide z (width g) in
        rw (e, quotient_shift twice t.low z divisor, limited_shift t.low t.high (z ÷ twice) g.ordered)
        (ap (λ (x : ℤ). t.low +ℤ x) (rw (*ℤ-zero twice) at f))

    weighed-row : number_by t s ≡ minimiser t s
    unfolding minimiser centre span inverse
    weighed-row =
        let h = w.weight in
        let weighed = not_at-most p (pos 0) (omega (arith, order)) in
        let some = rw weighed at (scaled_nonneg g s) in
        let l : pos 1 ≼ h = omega (arith, order, w.is, times (pos 4096) h) in
        let m : nat_abs h ≤ 255 = omega (arith, g.penalty, ap nat_abs w.is, size-times (pos 4096) h) in
        let d = limited (pos 0) (twice *ℤ wide) z in
        let k : nat_abs d / 8192 ≤ 10200000 = omega (arith, rw weighed at (size-scaled g s), rw weighed at (size-span g)) in
        rw (weighed, limited-first) (ap (λ (x : ℤ). t.low +ℤ x) (by_inverse d p h w.is some l (omega (arith, mul-le-mul k m))))

  -- ---- P = 0

  abbrev tested : ℤ
  tested = limited (pos 0) (pos 8192) (pos 8191 -ℤ s)

  -- lo where s is from 0 on: 8191 − s is below 8192
  at_low : pos 0 ≼ s → (k : ℕ) → nat_abs tested / 8192 * k / 68719476736 ≡ 0
  at_low h k =
      let x = pos 8191 -ℤ s in
      let e : nat_abs tested / 8192 ≡ 0 =
      by_tests (pos 0) (pos 8192) x (λ z. nat_abs z / 8192 ≡ 0) (λ b. omega arith)
      (λ l b. let z : ⊥ = omega (arith, order, minus (pos 8191) s) in absurd z)
      (λ l b. omega (arith, order, minus (pos 8191) s, size_parts x)) in
      rw e (omega arith)

  -- hi where it is below: the quotient by 8192 is 1
  at_high : s ≺ pos 0 → nat_abs tested / 8192 * nat_abs (pos 68719476736 *ℤ wide) / 68719476736 ≡ nat_abs wide
  at_high h =
      let e : tested ≡ pos 8192 = limited-from (pos 0) (pos 8192) (pos 8191 -ℤ s) (omega (arith, order)) (omega (arith, order, minus (pos 8191) s)) in
      rw (e, size-times (pos 68719476736) wide) (omega arith)

  weightless-row : p ≼ pos 0 → number_by t s ≡ minimiser t s
  unfolding minimiser centre span inverse unweighted
  weightless-row none =
      let r = nat_abs tested / 8192 * nat_abs (pos 68719476736 *ℤ wide) / 68719476736 in
      rw (at_most p (pos 0) none)
      (by_test (λ (x : ℤ). t.low +ℤ pos r ≡ x) (le_z (pos 0) s)
      (λ e. omega (arith, order, at_low (omega (arith, order)) (nat_abs (pos 68719476736 *ℤ wide)), plus t.low (pos r)))
      (λ e. omega (arith, order, at_high (omega (arith, order)), plus t.low (pos r), width g, minus t.high t.low, size_parts wide)))

  pub by_row : Whole p → number_by t s ≡ minimiser t s
  by_row w = ⊎_elim weightless-row (λ h. weighed-row w (omega (arith, order))) (le_or_lt p (pos 0))
