use Prim.Native.Nat.{◌+◌, ◌*◌}
use mathlib.Core.Path.{◌≡◌, sym, ◌∙◌}
use native.Mathlib.Omega.{arith}
use mir.Syntax.{w64}
use mir.Val.{to_z}
use mir.Facts.{to_z-of_z}
use lib.IntN.{◌+ℤ◌}
use Rattle.integer.specs.Sum.{sum}
use Rattle.integer.proofs.Sizes.{called, back, element_is, Formed}
use Rattle.integer.proofs.Sum.{sum-none, added}
use Rattle.integer.proofs.Places.{stretch_none, stretch_store}
use Rattle.passes.specs.Sums.{residual_by}
use Rattle.passes.proofs.SumSizes.{pull_at, size-residual_by, size-pull-at}
use Rattle.passes.proofs.ascend.ascend_step.Goals as goal
use Rattle.passes.proofs.ascend.ascend_step.Tie as tie
use Rattle.passes.proofs.ascend.ascend_step.Reads as reads
use Rattle.passes.proofs.ascend.ascend_step.Lts as lts

pub loop-i-init : goal.loop-i-init
loop-i-init c = (stretch_none _ _ _, sym (sum-none _))

residual : (c : lts.After-residual_at tie.the-claims reads.Pre reads.Post goal.the-invariant-loop-i goal.the-decreases-loop-i tie.handed_clauses) →
    let a = c.args in
    back c.residual_at-e.result ≡ residual_by a.a.now a.forced.now a.start.now a.v.now a.k c.loop-i.i
residual c = called c.residual_at-e.result c.residual_at-e.type_inv ∙ c.residual_at-e.ensures

pub ascended_of-requires : goal.ascended_of-requires
ascended_of-requires c =
    let l = c.loop-i in
    let s = c.before.before.before.before in
    let h = s.requires in
    let p = 6 * s.args.k + l.i in
    rw (to_z-of_z s.ranges.gain, element_is h.k_bound.3 (omega arith) p, residual c.before)
    (h.k_bound.2, h.k_bound.3.each p, size-residual_by h.bounded.0 h.bounded.1 h.bounded.2 h.bounded.3 s.args.k l.i)

abbrev turn : goal.After-pull_of-arg-1 → lts.After-residual_at tie.the-claims reads.Pre reads.Post goal.the-invariant-loop-i goal.the-decreases-loop-i tie.handed_clauses
turn c = c.before.before.before

pub pull_of-total-requires : goal.pull_of-total-requires
pull_of-total-requires c =
    let l = (turn c).loop-i in
    let s = (turn c).before.before.before in
    let h = s.requires in
    let p = 6 * s.args.k + l.i in
    rw (element_is h.k_bound.3 (omega arith) p, residual (turn c))
    (h.k_bound.3.each p, size-residual_by h.bounded.0 h.bounded.1 h.bounded.2 h.bounded.3 s.args.k l.i)

next : (c : goal.After-pull_of-total) →
    let l = (turn c.before).loop-i in
    let a = (turn c.before).args in
    Formed (to_z w64 l.total-bits +ℤ back c.pull_of-total.result)
    (sum (l.i + 1) (pull_at a.a.now a.forced.now a.start.now a.v.now a.y.now a.k))
next c =
    let l = (turn c.before).loop-i in
    let s = (turn c.before).before.before.before in
    let h = s.requires in
    let f = c.pull_of-total in
    let y-is = element_is h.k_bound.3 (omega arith) (6 * s.args.k + l.i) in
    added l.i _ (λ i _. size-pull-at h.bounded.0 h.bounded.1 h.bounded.2 h.bounded.3 h.k_bound.3 s.args.k i) (omega arith) l.invariant.1
    (called f.result f.type_inv ∙ rw (y-is, residual (turn c.before)) at f.ensures)

pub overflow_add-total-in-loop-i : goal.overflow_add-total-in-loop-i
overflow_add-total-in-loop-i c = (next c).fits

pub loop-i-preserved : goal.loop-i-preserved
loop-i-preserved c =
    let l = (turn c.before).loop-i in
    let s = (turn c.before).before.before.before in
    let f = c.ascended_of in
    let y-is = element_is s.requires.k_bound.3 (omega arith) (6 * s.args.k + l.i) in
    let stored = called f.result f.type_inv ∙ rw (y-is, residual (turn c.before)) at f.ensures in
    (stretch_store _ _ _ _ _ _ (omega arith) l.invariant.0 stored, (next c).is)

pub returns : goal.returns
returns c =
    let l = c.loop-i in
    let e : l.i ≡ 6 = omega arith in
    record {
      stretch = rw (e, to_z-of_z c.ranges.gain) at l.invariant.0;
      value = rw e at l.invariant.1;
    }
