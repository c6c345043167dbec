use mathlib.Core.Path.{◌≡◌, ◌∙◌, ap}
use native.Mathlib.Omega.{arith}
use native.Mathlib.Nat.{le_refl, le_trans}
use lib.IntN.{ℤ, pos, ◌+ℤ◌, ◌-ℤ◌, ◌*ℤ◌}
use mathlib.Core.Bool.{false}
use lib.Signed.{le_z, quot_z}
use mir.Syntax.{w64}
use Rattle.integer.specs.Order.{◌≼◌}
use Rattle.integer.specs.Quotient.{◌÷◌}
use Rattle.integer.proofs.Order.{order}
use Rattle.integer.proofs.Sizes.{size-mul, fits_by, back, back_is, Formed, formed}
use Rattle.integer.proofs.Quotient.{size_quotient, quotient_most, divides, machine_quotient}
use Rattle.integer.proofs.Tests.{at_most, not_at-most}
use Rattle.problem.specs.declared.Term.{Term}
use Rattle.primal.specs.Ranges.{Ranged}
use Rattle.primal.proofs.TermSizes.{Near, distance}
use Rattle.dual.proofs.PieceSizes.{doubled, risen, tilted}
use Rattle.lookup.specs.Table.{centre, span, inverse}
use Rattle.lookup.proofs.RowSizes.{over_low, size_width, size-inverted}
use Rattle.lookup.proofs.table.row_of.Goals as goal

module _ {t : Term} (g : Ranged t) where
  abbrev p : ℤ
  p = t.penalty

  penalty_is : back p ≡ p
  penalty_is = let h = g.penalty in back_is p h (omega arith)

  reference_near : Near p t.reference t.low
  reference_near = over_low g t.reference g.reference

  high_near : Near p t.high t.low
  high_near = over_low g t.high g.high

  -- at P = 0
  inverted_width : Formed (pos 68719476736 *ℤ back (back t.high -ℤ back t.low)) (pos 68719476736 *ℤ (t.high -ℤ t.low))
  inverted_width =
      formed (rw (distance high_near).is) (size-mul (pos 68719476736) (t.high -ℤ t.low) (le_refl 68719476736) (size_width g)) (omega arith)

  centred : Formed (back (back (pos 2 *ℤ back p) *ℤ back (back t.reference -ℤ back t.low)) +ℤ back p) (pos 2 *ℤ p *ℤ (t.reference -ℤ t.low) +ℤ p)
  centred = tilted reference_near p (let h = g.penalty in omega arith)

  -- otherwise P may be divided by 4096, and 2^36 by h
  module _ (one : pos 1 ≼ p) where
    weighed : pos 4096 ≼ p
    weighed = g.weighed one

    weight_is : quot_z (back p) (pos 4096) ≡ p ÷ pos 4096
    weight_is =
        let h = weighed in
        ap (λ (x : ℤ). quot_z x (pos 4096)) penalty_is ∙ machine_quotient p (pos 4096) (omega (arith, order)) (omega (arith, order))

    weight : Formed (quot_z (back p) (pos 4096)) (p ÷ pos 4096)
    weight = formed weight_is (le_trans (size_quotient p (pos 4096)) g.penalty) (omega arith)

    weight_from_one : pos 1 ≼ p ÷ pos 4096
    weight_from_one = quotient_most p (pos 4096) (pos 1) (omega (arith, order)) weighed

    inverse_of : Formed (quot_z (pos 68719476736) (back (quot_z (back p) (pos 4096)))) (pos 68719476736 ÷ (p ÷ pos 4096))
    inverse_of =
        formed (ap (quot_z (pos 68719476736)) weight.is ∙ machine_quotient (pos 68719476736) (p ÷ pos 4096) (omega (arith, order)) weight_from_one)
        (size_quotient (pos 68719476736) (p ÷ pos 4096)) (omega arith)

    inverted : Formed (back (quot_z (pos 68719476736) (back (quot_z (back p) (pos 4096)))) +ℤ pos 1) (pos 68719476736 ÷ (p ÷ pos 4096) +ℤ pos 1)
    inverted = formed (rw inverse_of.is) (size-inverted g) (omega arith)

pub overflow_mul-result : goal.overflow_mul-result
overflow_mul-result c = (inverted_width c.requires).fits

pub returns-then-p-le0 : goal.returns-then-p-le0
unfolding centre span inverse
returns-then-p-le0 c =
    let g = c.requires in
    let t = c.args.term in
    let e = penalty_is g in
    rw (
      at_most t.penalty (pos 0) (omega (arith, order)),
      (inverted_width g).is,
      e,
      back_is t.low g.low (omega arith),
      back_is t.high g.high (omega arith),
      back_is t.reference g.reference (omega arith),
    )

-- P is above 0 behind the test
one : {t : Term} → Ranged t → le_z (back t.penalty) (pos 0) ≡ false → pos 1 ≼ t.penalty
one g e = let s = rw (penalty_is g) at e in omega (arith, order)

pub overflow_mul-result-3 : goal.overflow_mul-result-3
overflow_mul-result-3 c = (risen (reference_near c.requires)).fits

pub overflow_add-result : goal.overflow_add-result
overflow_add-result c = (centred c.requires).fits

pub overflow_mul-result-5 : goal.overflow_mul-result-5
overflow_mul-result-5 c = (risen (high_near c.requires)).fits

pub nonzero_div-result : goal.nonzero_div-result
nonzero_div-result c = (omega arith, (weight c.requires (one c.requires c.if-p-le0.false)).fits)

pub nonzero_div-result-2 : goal.nonzero_div-result-2
nonzero_div-result-2 c =
    let g = c.requires in
    let o = one g c.if-p-le0.false in
    let q = pos 68719476736 in
    (rw (weight_is g o) (divides q (c.args.term.penalty ÷ pos 4096) (weight_from_one g o) (fits_by {w = w64} q (le_refl 68719476736) (omega arith))).0, (inverse_of g o).fits)

pub overflow_add-result-2 : goal.overflow_add-result-2
overflow_add-result-2 c = (inverted c.requires (one c.requires c.if-p-le0.false)).fits

pub returns : goal.returns
unfolding centre span inverse
returns c =
    let g = c.requires in
    let t = c.args.term in
    let o = one g c.if-p-le0.false in
    let e = penalty_is g in
    rw (
      not_at-most t.penalty (pos 0) (omega (arith, order)),
      (centred g).is,
      (risen (high_near g)).is,
      (inverted g o).is,
      e,
      back_is t.low g.low (omega arith),
      back_is t.high g.high (omega arith),
      back_is t.reference g.reference (omega arith),
    )
