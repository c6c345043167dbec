use mathlib.Core.Path.{◌≡◌, ap}
use native.Mathlib.Omega.{arith}
use native.Mathlib.Nat.{le_refl}
use lib.IntN.{pos, nat_abs, ◌*ℤ◌}
use mir.Facts.{to_z-of_z}
use Rattle.integer.specs.Root.{root_up}
use Rattle.integer.proofs.Parts.{times}
use Rattle.integer.proofs.Order.{order, mul_nonneg}
use Rattle.integer.proofs.Sizes.{size-mul, fits_by, casts, back, Formed, formed}
use Rattle.ranges.specs.Range.{reach}
use Rattle.ranges.proofs.EndSizes.{size_room, size-reach}
use Rattle.ranges.proofs.range.reach_of.Goals as goal

four : (c : goal.Start) → Formed (pos 4 *ℤ back c.args.p) (pos 4 *ℤ c.args.p)
four c = formed (rw (to_z-of_z c.ranges.p)) (size-mul (pos 4) c.args.p (le_refl 4) c.requires.1) (omega arith)

-- 4P gap
room : (c : goal.Start) → let a = c.args in Formed (back (pos 4 *ℤ back a.p) *ℤ back a.gap) (pos 4 *ℤ a.p *ℤ a.gap)
room c =
    let h = c.requires in
    formed (rw ((four c).is, to_z-of_z c.ranges.gap)) (size_room c.args.p c.args.gap h.1 h.2 h.3) (omega arith)

root : (c : goal.After-root_up) → Formed (pos c.root_up.result) (reach c.args.p c.args.gap)
unfolding reach
root c =
    let a = c.args in
    let h = c.requires in
    let e : c.root_up.result ≡ root_up (nat_abs (pos 4 *ℤ a.p *ℤ a.gap)) = rw (room c.before).is at c.root_up.ensures.value in
    formed (ap pos e) (size-reach a.p a.gap h.0 h.1 h.2 h.3) (omega arith)

pub overflow_mul-p : goal.overflow_mul-p
overflow_mul-p c = (four c).fits

pub overflow_mul-p-2 : goal.overflow_mul-p-2
overflow_mul-p-2 c = (room c).fits

pub overflow_cast-p : goal.overflow_cast-p
overflow_cast-p c =
    let a = c.args in
    let h = c.requires in
    rw (room c).is
    (casts (mul_nonneg {a = pos 4 *ℤ a.p} (omega (arith, order, times (pos 4) a.p)) h.2)
    (fits_by (pos 4 *ℤ a.p *ℤ a.gap) (size_room a.p a.gap h.1 h.2 h.3) (omega arith)))

pub overflow_cast-result : goal.overflow_cast-result
overflow_cast-result c = (root c).fits

pub returns : goal.returns
returns c = (root c).is
