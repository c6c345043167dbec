use Prim.Native.Nat.{◌+◌, ◌*◌}
use mathlib.Core.Path.{◌≡◌}
use native.Mathlib.Omega.{arith}
use lib.IntN.{pos, ◌-ℤ◌, ◌*ℤ◌}
use Rattle.integer.proofs.Sizes.{called, back, element_is, Formed, formed}
use Rattle.integer.proofs.Places.{stretch_none, stretch_store}
use Rattle.primal.specs.Padded.{padded_plan}
use Rattle.primal.proofs.ModelSizes.{residual_at, size-residual}
use Rattle.primal.proofs.ProductSizes.{size_units}
use Rattle.primal.proofs.model.step_residuals.Goals as goal

pub loop-i-init : goal.loop-i-init
loop-i-init c = stretch_none _ _ _

scaled : (c : goal.After-e-1) →
    let a = c.args in
    let i = c.loop-i.i in
    Formed (pos 4096 *ℤ back ((padded_plan a.v.now).x a.k i)) (pos 4096 *ℤ (padded_plan a.v.now).x a.k i)
scaled c =
    let h = c.requires.6 in
    let p = 10 * c.args.k + (4 + c.loop-i.i) in
    formed (rw (element_is h (omega arith) p)) (size_units h p) (omega arith)

pub overflow_mul-e-in-loop-i : goal.overflow_mul-e-in-loop-i
overflow_mul-e-in-loop-i c = (scaled c).fits

residual : (c : goal.After-e-1) →
    let a = c.args in
    let i = c.loop-i.i in
    Formed (back c.model_sum.result -ℤ back (pos 4096 *ℤ back ((padded_plan a.v.now).x a.k i)))
    (residual_at a.a.now a.b.now a.drift.now a.start.now a.v.now a.k i)
residual c =
    let s = c.before.before.before.before in
    let h = s.requires in
    let f = c.model_sum in
    formed (rw ((scaled c).is, called f.result f.type_inv, f.ensures))
    (size-residual h.2 h.3 h.4 h.5 h.6 s.args.k c.loop-i.i) (omega arith)

pub overflow_sub-e : goal.overflow_sub-e
overflow_sub-e c = (residual c).fits

pub loop-i-preserved : goal.loop-i-preserved
loop-i-preserved c = stretch_store _ _ _ _ _ _ (omega arith) c.loop-i.invariant (residual c).is

pub returns : goal.returns
returns c = let e : c.loop-i.i ≡ 6 = omega arith in rw e at c.loop-i.invariant
