use Prim.Native.Nat.{◌*◌}
use mathlib.Core.Path.{◌≡◌, ◌∙◌}
use native.Mathlib.Omega.{arith}
use lib.ListN.{length-replicate}
use lib.IntN.{ℤ, pos}
use Rattle.integer.proofs.Places.{stretch_none, fill_store}
use Rattle.integer.proofs.Sizes.{called}
use Rattle.ascent.proofs.band.multipliers_by_rows.Goals as goal

pub loop-p-init : goal.loop-p-init
loop-p-init c = stretch_none _ _ _

pub loop-p-preserved : goal.loop-p-preserved
loop-p-preserved c =
    let l = c.loop-p in
    let r = c.multiplier_at in
    fill_store l.invariant (omega (arith, length-replicate {A = ℤ} 72 (pos 0))) (called r.result r.type_inv ∙ r.ensures)

pub returns : goal.returns
returns c =
    let e : c.loop-p.p ≡ 6 * c.args.horizon = omega arith in
    rw e at c.loop-p.invariant
