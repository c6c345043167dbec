use Prim.Native.Nat.{◌+◌}
use mathlib.Core.Path.{◌≡◌, sym, ap, ◌∙◌}
use native.Mathlib.Omega.{arith}
use lib.ListN.{length}
use lib.IntN.{◌+ℤ◌}
use mir.Syntax.{w64}
use mir.Val.{to_z}
use mir.Facts.{to_z-of_z}
use Rattle.integer.specs.Sum.{sum}
use Rattle.integer.proofs.Sizes.{called, back, Formed}
use Rattle.integer.proofs.Sum.{sum-none, added}
use Rattle.integer.proofs.Places.{steps-none, steps_more}
use Rattle.passes.proofs.SumSizes.{pull_at, size-step_pulls}
use Rattle.passes.proofs.ascend.ascend.Goals as goal

pub loop-k-init : goal.loop-k-init
loop-k-init c = let e = c.requires.horizon_bound.1 in (ap length e, rw e (steps-none 6 72 _), sym (sum-none _))

pub ascend_step-total-requires : goal.ascend_step-total-requires
ascend_step-total-requires c =
    let h = c.requires in
    rw (to_z-of_z c.ranges.gain) (record {
      k_bound = (omega arith, c.loop-k.invariant.0, h.horizon_bound.2, h.horizon_bound.3);
      bounded = h.bounded;
    })

next : (c : goal.After-ascend_step-total) →
    let l = c.loop-k in
    let a = c.args in
    Formed (to_z w64 l.total-bits +ℤ back c.ascend_step-total.result)
    (sum (l.k + 1) (λ k. sum 6 (pull_at a.a.now a.forced.now a.start.now a.v.now a.y.now k)))
next c =
    let l = c.loop-k in
    let h = c.requires in
    let f = c.ascend_step-total in
    added l.k _ (λ k _. size-step_pulls h.bounded.0 h.bounded.1 h.bounded.2 h.bounded.3 h.horizon_bound.3 k) (omega arith) l.invariant.2
    (rw (called f.result f.type_inv) f.ensures.value)

pub overflow_add-total : goal.overflow_add-total
overflow_add-total c = (next c).fits

pub loop-k-preserved : goal.loop-k-preserved
loop-k-preserved c =
    let l = c.loop-k in
    let step = c.ascend_step-total.ensures.stretch in
    (step.same ∙ l.invariant.0, steps_more 6 l.k _ _ _ l.invariant.1 step, (next c).is)

pub returns : goal.returns
returns c =
    let l = c.loop-k in
    let s = c.before.before in
    let e : l.k ≡ s.args.horizon = omega arith in
    record {
      steps = (rw (e, to_z-of_z s.ranges.gain) at l.invariant.1, l.invariant.0);
      value = rw e at l.invariant.2;
    }
