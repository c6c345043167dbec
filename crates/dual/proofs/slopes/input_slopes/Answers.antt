use mathlib.Core.Path.{◌≡◌, ◌∙◌}
use native.Mathlib.Omega.{arith}
use Rattle.integer.proofs.Sizes.{called}
use Rattle.integer.proofs.Places.{stretch_none, stretch_store}
use Rattle.dual.proofs.slopes.input_slopes.Goals as goal

pub loop-j-init : goal.loop-j-init
loop-j-init c = stretch_none _ _ _

pub loop-j-preserved : goal.loop-j-preserved
loop-j-preserved c =
    let f = c.input_slope_at in
    stretch_store _ _ _ _ _ _ (omega arith) c.loop-j.invariant (called f.result f.type_inv ∙ f.ensures)

pub returns : goal.returns
returns c = let e : c.loop-j.j ≡ 4 = omega arith in rw e at c.loop-j.invariant
