-- Tilts and pieces of one number: how large they are, and that no step of the code that forms them passes 64 bits.
use Prim.Native.Nat.{ℕ, ◌+◌, ◌*◌, ◌^◌, ◌<◌, ◌≤◌}
use mathlib.Core.Path.{◌≡◌}
use mathlib.Core.Bool.{false}
use native.Mathlib.Omega.{arith}
use native.Mathlib.Nat.{le_refl}
use lib.IntN.{ℤ, pos, negsuc, nat_abs, ◌+ℤ◌, ◌-ℤ◌, ◌*ℤ◌}
use lib.Signed.{le_z}
use Rattle.integer.specs.Order.{◌≼◌}
use Rattle.integer.specs.Quotient.{quotient_up}
use Rattle.integer.proofs.Parts.{plus, times}
use Rattle.integer.proofs.Order.{order, le_trans, square_nonneg, mul_cancel_nonneg}
use Rattle.integer.proofs.Sizes.{size_parts, size-add, size-sub, size-mul, back, back_is, Formed, formed}
use Rattle.integer.proofs.Quotient.{up_enough, up_least}
use Rattle.integer.proofs.Tests.{by_test}
use Rattle.commands.specs.Ranges.{most_number}
use Rattle.problem.specs.declared.Term.{Term}
use Rattle.problem.specs.Cost.{cost}
use Rattle.problem.specs.Dual.{weightless, unweighted, conjugate, tilt, piece}
use Rattle.problem.proofs.Piece.{conjugate-is, one_limit}
use Rattle.primal.specs.Ranges.{Ranged}
use Rattle.primal.proofs.TermSizes.{most_cost, Near, near, size_distance, distance, size-cost}
use Rattle.dual.specs.Slopes.{most_slope}

abbrev pub most_piece : ℕ
most_piece = most_cost + most_slope * most_number

-- s v
pub pushed : (s v : ℤ) → nat_abs s ≤ most_slope → nat_abs v ≤ most_number → Formed (back s *ℤ back v) (s *ℤ v)
pushed s v h k = formed (rw (back_is s h (omega arith), back_is v k (omega arith))) (size-mul s v h k) (omega arith)

module _ {p v r : ℤ} (n : Near p v r) where
  size_double : nat_abs (pos 2 *ℤ p) ≤ 2 * nat_abs p
  size_double = size-mul (pos 2) p (le_refl 2) (le_refl (nat_abs p))

  pub size_rise : nat_abs (pos 2 *ℤ p *ℤ (v -ℤ r)) ≤ 80000 * nat_abs p
  size_rise = omega (arith, size-mul (pos 2 *ℤ p) (v -ℤ r) size_double (size_distance n))

  -- 2P (v − r) + s, step by step
  pub doubled : Formed (pos 2 *ℤ back p) (pos 2 *ℤ p)
  doubled = let h = n.penalty in formed (rw (back_is p h (omega arith))) size_double (omega arith)

  pub risen : Formed (back (pos 2 *ℤ back p) *ℤ back (back v -ℤ back r)) (pos 2 *ℤ p *ℤ (v -ℤ r))
  risen = let h = n.penalty in formed (rw (doubled.is, (distance n).is)) size_rise (omega arith)

  module _ (s : ℤ) (h : nat_abs s ≤ most_slope) where
    pub tilted : Formed (back (back (pos 2 *ℤ back p) *ℤ back (back v -ℤ back r)) +ℤ back s) (pos 2 *ℤ p *ℤ (v -ℤ r) +ℤ s)
    tilted =
        let k = n.penalty in
        formed (rw (risen.is, back_is s h (omega arith))) (size-add (pos 2 *ℤ p *ℤ (v -ℤ r)) s size_rise h) (omega arith)

    pub size_edge : nat_abs (p *ℤ ((v -ℤ r) *ℤ (v -ℤ r)) +ℤ s *ℤ v) ≤ most_piece
    size_edge = size-add (p *ℤ ((v -ℤ r) *ℤ (v -ℤ r))) (s *ℤ v) (size-cost n) (size-mul s v h n.number)

-- ---- The third piece: the tests bound s by 80000 P, and so s² / 4P by 1.6 · 10⁹ P

size-conjugate : (p s : ℤ) → pos 1 ≼ p → nat_abs s ≤ 80000 * nat_abs p → nat_abs (conjugate p s) ≤ 1600000000 * nat_abs p
size-conjugate (pos n) s h k =
    let d = pos 4 *ℤ pos n in
    let one : pos 1 ≼ d = omega (arith, order) in
    let q = quotient_up (s *ℤ s) d in
    let low : pos 0 ≼ q = mul_cancel_nonneg d one (le_trans (square_nonneg s) (up_enough (s *ℤ s) d one)) in
    let square = size-mul s s k k in
    let high = up_least (s *ℤ s) d (pos (1600000000 * n)) one (omega (arith, order, size_parts (s *ℤ s))) in
    rw (conjugate-is (pos n) s h) (omega (arith, order, size_parts q))
size-conjugate (negsuc n) s h k = absurd h.le

module _ {t : Term} (g : Ranged t) (s : ℤ) where
  abbrev p : ℤ
  p = t.penalty

  pub size-tested : le_z (pos 0) (tilt t s t.low) ≡ false → le_z (tilt t s t.high) (pos 0) ≡ false → nat_abs s ≤ 80000 * nat_abs p
  unfolding tilt
  size-tested e f =
      let a = pos 2 *ℤ p *ℤ (t.low -ℤ t.reference) in
      let b = pos 2 *ℤ p *ℤ (t.high -ℤ t.reference) in
      omega (
        arith,
        order,
        size_parts s,
        size_parts a,
        size_parts b,
        plus a s,
        plus b s,
        size_rise (near g t.low g.low),
        size_rise (near g t.high g.high),
      )

  module _ (one : pos 1 ≼ p) (h : nat_abs s ≤ 80000 * nat_abs p) where
    -- what `square_quotient` requires
    pub sized : (nat_abs s < 2 ^ 37) × (pos 16384 ≼ pos 4 *ℤ p) × (pos 4 *ℤ p ≼ pos 4177920)
    sized =
        let w = g.weighed one in
        let k = g.penalty in
        (omega arith, omega (arith, order, times (pos 4) p), omega (arith, order, times (pos 4) p, size_parts p))

    pub size-third : nat_abs (s *ℤ t.reference -ℤ conjugate p s) ≤ 3200000000 * nat_abs p
    size-third =
        omega (arith, size-sub (s *ℤ t.reference) (conjugate p s) (size-mul s t.reference h g.reference) (size-conjugate p s one h))

  pub size-unweighted : nat_abs (unweighted t.low t.high s) ≤ most_number
  size-unweighted = one_limit (λ v. nat_abs v ≤ most_number) t.low t.high s g.low g.high

  pub size-piece : nat_abs s ≤ most_slope → nat_abs (piece t s) ≤ most_piece
  unfolding piece cost
  size-piece h =
      let Small : ℤ → Type 0 = λ z. nat_abs z ≤ most_piece in
      by_test Small (weightless p) (λ _. omega (arith, size-mul s (unweighted t.low t.high s) h size-unweighted))
      (λ w. by_test Small (le_z (pos 0) (tilt t s t.low)) (λ _. size_edge (near g t.low g.low) s h)
      (λ e. by_test Small (le_z (tilt t s t.high) (pos 0)) (λ _. size_edge (near g t.high g.high) s h)
      (λ f. let k = g.penalty in omega (arith, size-third (omega (arith, order)) (size-tested e f)))))
