use mathlib.Core.Path.{◌≡◌, ◌∙◌}
use native.Mathlib.Omega.{arith}
use Rattle.integer.proofs.Sizes.{called}
use Rattle.integer.proofs.Places.{stretch_none, stretch_store}
use Rattle.dual.proofs.slopes.state_slopes.Goals as goal

pub loop-i-init : goal.loop-i-init
loop-i-init c = stretch_none _ _ _

pub loop-i-preserved : goal.loop-i-preserved
loop-i-preserved c =
    let f = c.state_slope_at in
    stretch_store _ _ _ _ _ _ (omega arith) c.loop-i.invariant (called f.result f.type_inv ∙ f.ensures)

pub returns : goal.returns
returns c = let e : c.loop-i.i ≡ 6 = omega arith in rw e at c.loop-i.invariant
