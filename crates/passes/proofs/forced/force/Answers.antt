use mathlib.Core.Path.{◌≡◌, ◌∙◌}
use native.Mathlib.Omega.{arith}
use Rattle.integer.proofs.Places.{steps-none, steps_more}
use Rattle.passes.proofs.forced.force.Goals as goal

pub loop-k-init : goal.loop-k-init
loop-k-init c = let e = c.requires.1 in (rw e, rw e (steps-none 6 72 _))

pub loop-k-preserved : goal.loop-k-preserved
loop-k-preserved c =
    let l = c.loop-k in
    let step = c.force_step.ensures in
    (step.same ∙ l.invariant.0, steps_more 6 l.k _ _ _ l.invariant.1 step)

pub returns : goal.returns
returns c = let e : c.loop-k.k ≡ c.args.horizon = omega arith in rw e at c.loop-k.invariant.1
