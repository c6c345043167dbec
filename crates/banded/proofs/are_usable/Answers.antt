use mathlib.Core.Path.{◌≡◌, refl}
use native.Mathlib.Omega.{arith}
use Rattle.banded.specs.Elimination.{usable_pivots}
use Rattle.banded.proofs.Reduction.{usable_more}
use Rattle.banded.proofs.are_usable.Goals as goal

pub loop-p-init : goal.loop-p-init
unfolding usable_pivots
loop-p-init c = λ band w k. refl

pub loop-p-preserved : goal.loop-p-preserved
loop-p-preserved c = λ band w k.
    usable_more _ _ c.loop-p.p _ _ _ (k.each c.loop-p.p _ (omega arith)) (c.loop-p.invariant band w k) c.is_usable-usable.ensures

pub returns : goal.returns
returns c = λ band w k.
    let e : c.loop-p.p ≡ c.args.count = omega arith in
    rw e at (c.loop-p.invariant band w k)
