use mathlib.Core.Path.{◌≡◌}
use mathlib.Core.Bool.{true, false}
use lib.Signed.{lt_z}
use mir.Facts.{to_z-of_z}
use Rattle.lent.specs.Checks.{tested}
use Rattle.lent.proofs.walk.check_number.Goals as goal

pub returns-then-x-low : goal.returns-then-x-low
unfolding tested
returns-then-x-low c =
    let below : lt_z c.args.x c.args.low ≡ true = rw (to_z-of_z c.ranges.x, to_z-of_z c.ranges.low) at c.if-x-low.true in
    rw below (rw (to_z-of_z c.ranges.x, to_z-of_z c.ranges.low) at c.fail.ensures)

pub returns-then-high-x : goal.returns-then-high-x
unfolding tested
returns-then-high-x c =
    let not-below : lt_z c.args.x c.args.low ≡ false = rw (to_z-of_z c.ranges.x, to_z-of_z c.ranges.low) at c.if-x-low.false in
    let above : lt_z c.args.high c.args.x ≡ true = rw (to_z-of_z c.ranges.x, to_z-of_z c.ranges.high) at c.if-high-x.true in
    rw (not-below, above) (rw (to_z-of_z c.ranges.x, to_z-of_z c.ranges.high) at c.fail-then-high-x.ensures)

pub returns : goal.returns
unfolding tested
returns c =
    let not-below : lt_z c.args.x c.args.low ≡ false = rw (to_z-of_z c.ranges.x, to_z-of_z c.ranges.low) at c.if-x-low.false in
    let not-above : lt_z c.args.high c.args.x ≡ false = rw (to_z-of_z c.ranges.x, to_z-of_z c.ranges.high) at c.if-high-x.false in
    rw (not-below, not-above)
