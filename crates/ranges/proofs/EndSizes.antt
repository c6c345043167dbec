-- How large the centre and the reach are: no number that the code forms passes 64 bits.
use Prim.Native.Nat.{ℕ, ◌+◌, ◌*◌, ◌≤◌}
use native.Mathlib.Omega.{arith}
use native.Mathlib.Nat.{le_refl}
use lib.IntN.{ℤ, pos, nat_abs, ◌*ℤ◌}
use lib.Signed.{le_z}
use Rattle.integer.specs.Order.{◌≼◌}
use Rattle.integer.proofs.Order.{order}
use Rattle.integer.proofs.Sizes.{size_parts, size-sub, size-mul}
use Rattle.integer.proofs.Tests.{by_test}
use Rattle.commands.specs.Ranges.{most_number, most_wanted}
use Rattle.problem.specs.declared.Term.{Term}
use Rattle.problem.specs.Dual.{tilt}
use Rattle.primal.specs.Ranges.{most_penalty, Ranged}
use Rattle.dual.specs.Slopes.{most_slope}
use Rattle.ranges.specs.Range.{centre, reach}
use Rattle.ranges.proofs.Ends.{reach-least}

-- 2P, and 2P times a number within the limits
abbrev pub most_double : ℕ
most_double = 2 * most_penalty

abbrev pub most_centre : ℕ
most_centre = most_double * most_number + most_slope

pub size_double : (p : ℤ) → nat_abs p ≤ most_penalty → nat_abs (pos 2 *ℤ p) ≤ most_double
size_double p h = size-mul (pos 2) p (le_refl 2) h

pub size_place : (p v : ℤ) → nat_abs p ≤ most_penalty → nat_abs v ≤ most_number → nat_abs (pos 2 *ℤ p *ℤ v) ≤ most_double * most_number
size_place p v h k = size-mul (pos 2 *ℤ p) v (size_double p h) k

pub size-centre : (t : Term) (s : ℤ) → Ranged t → nat_abs s ≤ most_slope → nat_abs (centre t s) ≤ most_centre
unfolding centre
size-centre t s g h =
    let Small : ℤ → Type 0 = λ z. nat_abs z ≤ most_centre in
    let place = size_place t.penalty in
    by_test Small (le_z (pos 0) (tilt t s t.low)) (λ _. omega (arith, place t.low g.penalty g.low))
    (λ _. by_test Small (le_z (tilt t s t.high) (pos 0)) (λ _. omega (arith, place t.high g.penalty g.high))
    (λ _. size-sub (pos 2 *ℤ t.penalty *ℤ t.reference) s (place t.reference g.penalty g.reference) h))

pub wanted-size : (gap : ℤ) → pos 0 ≼ gap → gap ≼ pos most_wanted → nat_abs gap ≤ most_wanted
wanted-size gap l k = omega (arith, order, size_parts gap)

-- 4P gap is below 2^54, and its root at most 2^27
pub size_room : (p gap : ℤ) → nat_abs p ≤ most_penalty → pos 0 ≼ gap → gap ≼ pos most_wanted → nat_abs (pos 4 *ℤ p *ℤ gap) ≤ 4 * most_penalty * most_wanted
size_room p gap h l k = size-mul (pos 4 *ℤ p) gap (size-mul (pos 4) p (le_refl 4) h) (wanted-size gap l k)

pub size-reach : (p gap : ℤ) → pos 0 ≼ p → nat_abs p ≤ most_penalty → pos 0 ≼ gap → gap ≼ pos most_wanted → nat_abs (reach p gap) ≤ 134217728
unfolding reach
size-reach p gap n h l k =
    let c = reach-least p gap n l (pos 134217728) (omega (arith, order)) (omega (arith, order, size_room p gap h l k, size_parts (pos 4 *ℤ p *ℤ gap))) in
    omega (arith, order)
