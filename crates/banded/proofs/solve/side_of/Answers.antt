use mathlib.Core.Path.{◌≡◌}
use native.Mathlib.Omega.{arith}
use Rattle.banded.proofs.Solving.{side-first, side-step}
use Rattle.banded.proofs.solve.side_of.Goals as goal

pub loop-p-init : goal.loop-p-init
loop-p-init c =
    let a = c.args in
    rw c.first_before-first.ensures (side-first a.band a.a a.factors.now a.s.now a.e)

pub loop-p-preserved : goal.loop-p-preserved
loop-p-preserved c =
    let first = c.first_before-first.ensures in
    side-step _ _ _ _ _ _ _ _ (omega (arith, first)) (omega arith) (omega (arith, first)) c.loop-p.invariant

pub returns : goal.returns
returns c = λ w right f s g.
    let e : c.loop-p.p ≡ c.args.a = omega arith in
    rw e at (c.loop-p.invariant.each w right f s g)
