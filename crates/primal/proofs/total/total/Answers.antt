use mathlib.Core.Path.{sym, ap₂, ◌∙◌}
use native.Mathlib.Omega.{arith}
use lib.IntN.{◌+ℤ◌}
use mir.Syntax.{w64}
use mir.Val.{to_z}
use Rattle.integer.proofs.Sizes.{size-add, back, called, Formed, formed}
use Rattle.integer.proofs.Sum.{sum-none, sum_last}
use Rattle.primal.proofs.total.total.Goals as goal

pub loop-p-init : goal.loop-p-init
loop-p-init g c = (omega arith, λ h k. sym (sum-none h))

pub loop-p-preserved : goal.loop-p-preserved
loop-p-preserved g c =
    let l = c.loop-p in
    let r = c.f-total.result in
    let told = c.f-total.ensures in
    let x = to_z w64 l.total-bits in
    let size = size-add x r l.invariant.0 (c.requires.small l.p r (omega arith) told) in
    let next : Formed (x +ℤ back r) (x +ℤ r) = formed (rw (called r c.f-total.type_inv)) size (omega arith) in
    (rw next.is (omega (arith, size)), λ h k. next.is ∙ ap₂ ◌+ℤ◌ (l.invariant.1 h k) (k l.p r (omega arith) told) ∙ sym (sum_last l.p h))
