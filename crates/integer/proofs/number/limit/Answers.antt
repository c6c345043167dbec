use native.Mathlib.Omega.{arith}
use Rattle.integer.specs.Order.{◌≼◌}
use Rattle.integer.proofs.Sizes.{fitting, fit}
use Rattle.integer.proofs.Limited.{limited-below, limited-above, limited-inside}
use Rattle.integer.proofs.number.limit.Goals as goal

pub returns-then-x-lo : goal.returns-then-x-lo
returns-then-x-lo c =
    let f = c.ranges in
    let a = c.args in
    let e = limited-below a.lo a.hi a.x (omega (arith, fitting, fit f.x, fit f.lo)) in
    omega (arith, fitting, fit f.lo)

pub returns-then-hi-x : goal.returns-then-hi-x
returns-then-hi-x c =
    let f = c.ranges in
    let a = c.args in
    let l : a.lo ≼ a.x = omega (arith, fitting, fit f.x, fit f.lo) in
    let e = limited-above a.lo a.hi a.x l (omega (arith, fitting, fit f.x, fit f.hi)) in
    omega (arith, fitting, fit f.lo, fit f.hi)

pub returns : goal.returns
returns c =
    let f = c.ranges in
    let a = c.args in
    let l : a.lo ≼ a.x = omega (arith, fitting, fit f.x, fit f.lo) in
    let e = limited-inside a.lo a.hi a.x l (omega (arith, fitting, fit f.x, fit f.hi)) in
    omega (arith, fitting, fit f.x)
