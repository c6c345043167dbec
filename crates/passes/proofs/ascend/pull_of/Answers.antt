use mathlib.Core.Path.{ap}
use native.Mathlib.Omega.{arith}
use native.Mathlib.Nat.{le_refl}
use lib.IntN.{pos, nat_abs, ◌-ℤ◌, ◌*ℤ◌}
use mir.Syntax.{w64}
use mir.Val.{to_z}
use mir.Facts.{to_z-of_z}
use Rattle.integer.proofs.Sizes.{size-mul, back, Formed, formed}
use Rattle.passes.specs.Sums.{pull}
use Rattle.passes.proofs.SumSizes.{size-pull}
use Rattle.passes.proofs.ascend.pull_of.Goals as goal

product : (c : goal.Start) → Formed (back c.args.y *ℤ back c.args.e) (c.args.y *ℤ c.args.e)
product c =
    let a = c.args in
    formed (rw (to_z-of_z c.ranges.y, to_z-of_z c.ranges.e)) (size-mul a.y a.e c.requires.0 c.requires.1) (omega arith)

pub overflow_mul-result : goal.overflow_mul-result
overflow_mul-result c = (product c).fits

size_is : (c : goal.After-size) → Formed (pos c.size.result) (pos (nat_abs c.args.y))
size_is c = let s = c.before in formed (ap pos (rw (to_z-of_z s.ranges.y) at c.size.ensures)) s.requires.0 (omega arith)

pub overflow_cast-result : goal.overflow_cast-result
overflow_cast-result c = (size_is c).fits

allowed : (c : goal.After-size) → Formed (pos 2048 *ℤ to_z w64 c.size.result) (pos 2048 *ℤ pos (nat_abs c.args.y))
allowed c =
    let s = c.before in
    formed (rw (size_is c).is) (size-mul (pos 2048) (pos (nat_abs s.args.y)) (le_refl 2048) s.requires.0) (omega arith)

pub overflow_mul-result-2 : goal.overflow_mul-result-2
overflow_mul-result-2 c = (allowed c).fits

whole : (c : goal.After-size) →
    let a = c.args in
    Formed (back (back a.y *ℤ back a.e) -ℤ back (pos 2048 *ℤ to_z w64 c.size.result)) (pull a.y a.e)
whole c =
    let s = c.before in
    formed (rw ((product s).is, (allowed c).is)) (size-pull s.args.y s.args.e s.requires.0 s.requires.1) (omega arith)

pub overflow_sub-result : goal.overflow_sub-result
overflow_sub-result c = (whole c).fits

pub returns : goal.returns
returns c = (whole c).is
