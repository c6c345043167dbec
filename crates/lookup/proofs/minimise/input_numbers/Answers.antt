use Prim.Native.Nat.{◌+◌, ◌*◌}
use mathlib.Core.Path.{◌≡◌, refl, sym, ◌∙◌}
use native.Mathlib.Nat.{le_trans}
use native.Mathlib.Omega.{arith}
use lib.IntN.{◌+ℤ◌}
use mir.Syntax.{w64}
use mir.Val.{to_z}
use Rattle.integer.specs.Sum.{sum}
use Rattle.integer.proofs.Sizes.{called, back, Formed}
use Rattle.integer.proofs.Sum.{sum-none}
use Rattle.integer.proofs.Places.{stretch_none, stretch_store}
use Rattle.dual.proofs.SlopeSizes.{size-input_slope}
use Rattle.lookup.proofs.NumberSums.{input_cost, cost_added}
use Rattle.lookup.proofs.minimise.input_numbers.Goals as goal

pub loop-j-init : goal.loop-j-init
loop-j-init c = (stretch_none _ _ _, sym (sum-none _))

pub put_number-total-requires : goal.put_number-total-requires
put_number-total-requires c =
    let h = c.requires in
    (omega arith, c.loop-j.invariant.0.same ∙ h.1, h.2, rw (called c.input_slope_at.result c.input_slope_at.type_inv, c.input_slope_at.ensures) (le_trans (size-input_slope h.3 h.4 _ _) (omega arith)))

next : (c : goal.After-put_number-total) →
    let l = c.loop-j in
    let a = c.args in
    Formed (to_z w64 l.total-bits +ℤ back c.put_number-total.result) (sum (l.j + 1) (input_cost a.table.now a.b.now a.y.now a.k))
next c =
    let l = c.loop-j in
    let a = c.args in
    let f = c.put_number-total in
    let s = c.input_slope_at in
    cost_added c.requires.2 4 (λ j. 10 * a.k + j) _ (omega arith) (λ j h. omega arith) (omega arith) l.invariant.1 f.type_inv
    (rw (called s.result s.type_inv, s.ensures) at f.ensures.value)

pub overflow_add-total : goal.overflow_add-total
overflow_add-total c = (next c).fits

pub loop-j-preserved : goal.loop-j-preserved
loop-j-preserved c =
    let s = c.input_slope_at in
    let stored = rw (called s.result s.type_inv, s.ensures) at c.put_number-total.ensures.stored in
    (rw stored (stretch_store _ _ _ _ _ _ (omega arith) c.loop-j.invariant.0 refl), (next c).is)

pub returns : goal.returns
returns c = let l = c.loop-j in let e : l.j ≡ 4 = omega arith in
    record {
      stretch = rw e at l.invariant.0;
      value = rw e at l.invariant.1;
    }
