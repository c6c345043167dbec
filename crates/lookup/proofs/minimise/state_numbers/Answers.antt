use Prim.Native.Nat.{◌+◌, ◌*◌}
use mathlib.Core.Path.{◌≡◌, refl, sym, ◌∙◌}
use native.Mathlib.Omega.{arith}
use lib.IntN.{◌+ℤ◌}
use mir.Syntax.{w64}
use mir.Val.{to_z}
use Rattle.integer.specs.Sum.{sum}
use Rattle.integer.proofs.Sizes.{called, back, Formed}
use Rattle.integer.proofs.Sum.{sum-none}
use Rattle.integer.proofs.Places.{stretch_none}
use Rattle.dual.proofs.SlopeSizes.{size-state_slope}
use Rattle.lookup.proofs.NumberSums.{state_cost, stretch_stored, cost_added}
use Rattle.lookup.proofs.minimise.state_numbers.Goals as goal

pub loop-i-init : goal.loop-i-init
loop-i-init c = (stretch_none _ _ _, sym (sum-none _))

pub put_number-total-requires : goal.put_number-total-requires
put_number-total-requires c =
    let h = c.requires in
    (omega arith, c.loop-i.invariant.0.same ∙ h.2, h.3, rw (called c.state_slope_at.result c.state_slope_at.type_inv, c.state_slope_at.ensures) (size-state_slope h.4 h.5 _ _ _))

next : (c : goal.After-put_number-total) →
    let l = c.loop-i in
    let a = c.args in
    Formed (to_z w64 l.total-bits +ℤ back c.put_number-total.result) (sum (l.i + 1) (state_cost a.horizon a.table.now a.a.now a.y.now a.k))
next c =
    let l = c.loop-i in
    let a = c.args in
    let f = c.put_number-total in
    let s = c.state_slope_at in
    cost_added c.requires.3 6 (λ i. 10 * a.k + (4 + i)) _ (omega arith) (λ i h. omega arith) (omega arith) l.invariant.1 f.type_inv
    (rw (called s.result s.type_inv, s.ensures) at f.ensures.value)

pub overflow_add-total : goal.overflow_add-total
overflow_add-total c = (next c).fits

pub loop-i-preserved : goal.loop-i-preserved
loop-i-preserved c =
    let s = c.state_slope_at in
    let stored = rw (called s.result s.type_inv, s.ensures) at c.put_number-total.ensures.stored in
    (rw stored (stretch_stored (omega arith) (omega arith) c.loop-i.invariant.0 refl), (next c).is)

pub returns : goal.returns
returns c = let l = c.loop-i in let e : l.i ≡ 6 = omega arith in
    record {
      stretch = rw e at l.invariant.0;
      value = rw e at l.invariant.1;
    }
