use native.Mathlib.Omega.{arith}
use lib.IntN.{pos}
use mir.Facts.{to_z-of_z}
use Rattle.integer.proofs.Order.{order}
use Rattle.integer.proofs.Tests.{at_most, not_at-most}
use Rattle.problem.specs.Dual.{unweighted}
use Rattle.dual.proofs.pieces.unweighted_of.Goals as goal

pub returns-then-s-ge0 : goal.returns-then-s-ge0
unfolding unweighted
returns-then-s-ge0 c =
    let f = c.ranges in
    let slope = to_z-of_z f.s in
    rw (at_most (pos 0) c.args.s (omega (arith, order))) (to_z-of_z f.low)

pub returns : goal.returns
unfolding unweighted
returns c =
    let f = c.ranges in
    let slope = to_z-of_z f.s in
    rw (not_at-most (pos 0) c.args.s (omega (arith, order))) (to_z-of_z f.high)
