use Prim.Native.Nat.{◌*◌, ◌^◌, ◌<◌, ◌≤◌}
use mathlib.Core.Path.{◌≡◌, ◌∙◌}
use mathlib.Core.Bool.{false}
use native.Mathlib.Nat.{le_refl}
use native.Mathlib.Omega.{arith}
use lib.IntN.{ℤ, pos, nat_abs, ◌+ℤ◌, ◌-ℤ◌, ◌*ℤ◌}
use lib.Signed.{le_z, mag}
use mir.Facts.{to_z-of_z}
use Rattle.integer.specs.Order.{◌≼◌}
use Rattle.integer.specs.Quotient.{quotient_up}
use Rattle.integer.proofs.Order.{order}
use Rattle.integer.proofs.Sizes.{called, size-mul, back, back_is, Formed, formed}
use Rattle.problem.specs.declared.Term.{Term}
use Rattle.problem.specs.Cost.{cost}
use Rattle.problem.specs.Dual.{weightless, unweighted, conjugate, tilt, piece}
use Rattle.problem.proofs.Piece.{conjugate-is}
use Rattle.primal.specs.Ranges.{Ranged}
use Rattle.dual.specs.Slopes.{most_slope}
use Rattle.dual.proofs.PieceSizes.{pushed, size-tested, sized, size-third, size-unweighted}
use Rattle.dual.proofs.pieces.piece_of.Goals as goal

-- the numbers of a term as the code reads them
module _ {t : Term} (g : Ranged t) where
  penalty_is : back t.penalty ≡ t.penalty
  penalty_is = let h = g.penalty in back_is t.penalty h (omega arith)

  low_is : back t.low ≡ t.low
  low_is = back_is t.low g.low (omega arith)

  high_is : back t.high ≡ t.high
  high_is = back_is t.high g.high (omega arith)

  reference_is : back t.reference ≡ t.reference
  reference_is = back_is t.reference g.reference (omega arith)

  divisor : Formed (pos 4 *ℤ back t.penalty) (pos 4 *ℤ t.penalty)
  divisor = let h = g.penalty in formed (rw penalty_is) (size-mul (pos 4) t.penalty (le_refl 4) h) (omega arith)

-- ---- Weight 0

linear : (c : goal.After-unweighted_of) → let t = c.args.term in
    Formed (back c.args.s *ℤ back c.unweighted_of.result) (c.args.s *ℤ unweighted t.low t.high c.args.s)
linear c =
    let g = c.requires.0 in
    let s = c.args.s in
    let number = called c.unweighted_of.result c.unweighted_of.type_inv ∙ rw (low_is g, high_is g, to_z-of_z c.ranges.s) at c.unweighted_of.ensures in
    formed (rw (to_z-of_z c.ranges.s, number)) (size-mul s (unweighted c.args.term.low c.args.term.high s) c.requires.1 (size-unweighted g s)) (omega arith)

pub overflow_mul-result : goal.overflow_mul-result
overflow_mul-result c = (linear c).fits

pub returns-then-term-le0 : goal.returns-then-term-le0
unfolding piece
returns-then-term-le0 c =
    let test = rw (penalty_is c.requires.0) at c.if-term-le0.true in
    (linear c).is ∙ rw test

-- ---- The three tests, of a tilt as `tilt_at` gives it

module _ {t : Term} (g : Ranged t) {s : ℤ} (s_is : back s ≡ s) where
  weighed : le_z (back t.penalty) (pos 0) ≡ false → weightless t.penalty ≡ false
  weighed e = rw (penalty_is g) at e

  tilt_is : {v r : ℤ} → back v ≡ v → mag r < 2 ^ 63 → r ≡ pos 2 *ℤ back t.penalty *ℤ (back v -ℤ back t.reference) +ℤ back s → back r ≡ tilt t s v
  unfolding tilt
  tilt_is {v} {r} e f told = called r f ∙ rw (penalty_is g, e, reference_is g, s_is) at told

  edge_is : {v r : ℤ} → back v ≡ v → mag r < 2 ^ 63
      → r ≡ back t.penalty *ℤ ((back v -ℤ back t.reference) *ℤ (back v -ℤ back t.reference)) +ℤ back s *ℤ back v
      → back r ≡ cost t v +ℤ s *ℤ v
  unfolding cost
  edge_is {v} {r} e f told = called r f ∙ rw (penalty_is g, e, reference_is g, s_is) at told

pub returns-then-tilt_at-ge0 : goal.returns-then-tilt_at-ge0
unfolding piece
returns-then-tilt_at-ge0 c =
    let g = c.requires.0 in
    let i = to_z-of_z c.ranges.s in
    let low = rw (tilt_is g i (low_is g) c.tilt_at.type_inv c.tilt_at.ensures) at c.if-tilt_at-ge0.true in
    edge_is g i (low_is g) c.edge.type_inv c.edge.ensures ∙ rw (weighed g i c.if-term-le0.false, low)

pub returns-then-tilt_at-le0 : goal.returns-then-tilt_at-le0
unfolding piece
returns-then-tilt_at-le0 c =
    let g = c.requires.0 in
    let i = to_z-of_z c.ranges.s in
    let e = c.edge-then-tilt_at-le0 in
    let low = rw (tilt_is g i (low_is g) c.tilt_at.type_inv c.tilt_at.ensures) at c.if-tilt_at-ge0.false in
    let high = rw (tilt_is g i (high_is g) c.tilt_at-2.type_inv c.tilt_at-2.ensures) at c.if-tilt_at-le0.true in
    edge_is g i (high_is g) e.type_inv e.ensures ∙ rw (weighed g i c.if-term-le0.false, low, high)

-- ---- The third piece

module _ {t : Term} (g : Ranged t) {s : ℤ} (h : nat_abs s ≤ most_slope) (s_is : back s ≡ s) (w : weightless t.penalty ≡ false)
    (low : le_z (pos 0) (tilt t s t.low) ≡ false) (high : le_z (tilt t s t.high) (pos 0) ≡ false) where
  one : pos 1 ≼ t.penalty
  one = omega (arith, order)

  needed : (nat_abs (back s) < 2 ^ 37) × (pos 16384 ≼ back (pos 4 *ℤ back t.penalty)) × (back (pos 4 *ℤ back t.penalty) ≼ pos 4177920)
  needed = rw ((divisor g).is, s_is) (sized g s one (size-tested g s low high))

  third : {q : ℤ} → mag q < 2 ^ 63 → q ≡ quotient_up (back s *ℤ back s) (back (pos 4 *ℤ back t.penalty)) →
      Formed (back (back s *ℤ back t.reference) -ℤ back q) (s *ℤ t.reference -ℤ conjugate t.penalty s)
  third {q} f told =
      let k = g.penalty in
      let quotient : back q ≡ conjugate t.penalty s = rw (conjugate-is t.penalty s one) (called q f ∙ rw ((divisor g).is, s_is) at told) in
      formed (rw ((pushed s t.reference h g.reference).is, quotient)) (size-third g s one (size-tested g s low high)) (omega arith)

pub overflow_mul-result-2 : goal.overflow_mul-result-2
overflow_mul-result-2 c = (pushed c.args.s c.args.term.reference c.requires.1 c.requires.0.reference).fits

pub overflow_mul-term : goal.overflow_mul-term
overflow_mul-term c = (divisor c.requires.0).fits

pub square_quotient-requires : goal.square_quotient-requires
square_quotient-requires c =
    let g = c.requires.0 in
    let i = to_z-of_z c.ranges.s in
    needed g c.requires.1 i (weighed g i c.if-term-le0.false)
    (rw (tilt_is g i (low_is g) c.tilt_at.type_inv c.tilt_at.ensures) at c.if-tilt_at-ge0.false)
    (rw (tilt_is g i (high_is g) c.tilt_at-2.type_inv c.tilt_at-2.ensures) at c.if-tilt_at-le0.false)

total : (c : goal.After-square_quotient) →
    let t = c.args.term in
    Formed (back (back c.args.s *ℤ back t.reference) -ℤ back c.square_quotient.result) (piece t c.args.s)
unfolding piece
total c =
    let g = c.requires.0 in
    let i = to_z-of_z c.ranges.s in
    let w = weighed g i c.if-term-le0.false in
    let low = rw (tilt_is g i (low_is g) c.tilt_at.type_inv c.tilt_at.ensures) at c.if-tilt_at-ge0.false in
    let high = rw (tilt_is g i (high_is g) c.tilt_at-2.type_inv c.tilt_at-2.ensures) at c.if-tilt_at-le0.false in
    rw (w, low, high) (third g c.requires.1 i w low high c.square_quotient.type_inv c.square_quotient.ensures)

pub overflow_sub-result : goal.overflow_sub-result
overflow_sub-result c = (total c).fits

pub returns : goal.returns
returns c = (total c).is
