use Prim.Native.Nat.{◌+◌, ◌*◌}
use mathlib.Core.Path.{◌≡◌, refl, sym, ◌∙◌, ap}
use mathlib.Core.Bool.{false}
use native.Mathlib.Omega.{arith}
use lib.IntN.{ℤ, ◌+ℤ◌}
use mir.Syntax.{w64}
use mir.Val.{to_z}
use Rattle.integer.specs.Places.{at, Bounded}
use Rattle.integer.specs.Sum.{sum}
use Rattle.integer.specs.Tests.{any}
use Rattle.integer.proofs.Sizes.{called, back, Formed}
use Rattle.integer.proofs.Sum.{sum-none, added}
use Rattle.integer.proofs.Places.{stretch_none}
use Rattle.integer.proofs.Tests.{any_at, any_more, any_none}
use Rattle.commands.specs.Ranges.{most_number}
use Rattle.problem.specs.Model.{rounded}
use Rattle.problem.specs.Cost.{cost}
use Rattle.passes.proofs.StepSums.{sum_by_kept, next_state, is_over, state_cost, state_store, size-state, size-state-cost, step-bounded, size_step}
use Rattle.passes.proofs.followed.follow_step.Goals as goal
use Rattle.passes.proofs.followed.follow_step.Tie as tie
use Rattle.passes.proofs.followed.follow_step.Reads as reads
use Rattle.passes.proofs.followed.follow_step.Lts as lts

pub loop-i-init : goal.loop-i-init
unfolding any
loop-i-init c = (refl, stretch_none _ _ _, sym (sum-none _))

bounded : (c : goal.In-loop-i) → Bounded most_number c.loop-i.plan
bounded c =
    let s = c.before.before in
    let a = s.args in
    let l = c.loop-i in
    step-bounded s.requires.k_bound.4 a.a.now a.forced.now a.start.now a.plan.now a.k s.requires.k_bound.0 l.i (omega arith) l.invariant.0
    s.requires.k_bound.3 l.invariant.1

pub next_state-x-requires : goal.next_state-x-requires
next_state-x-requires c =
    let p = c.requires in
    (p.k_bound.0, omega arith, p.bounded.0, p.bounded.1, p.bounded.2, bounded c)

-- the state, from the array as it was before the loop
abbrev state : goal.In-loop-i → ℤ
state c =
    let a = c.args in
    next_state a.a.now a.forced.now a.start.now a.plan.now a.k c.loop-i.i

state_is : (c : lts.After-next_state tie.the-claims reads.Pre reads.Post goal.the-invariant-loop-i goal.the-decreases-loop-i tie.handed_clauses) → back c.next_state-x.result ≡ state c.before
state_is c =
    let a = c.args in
    let l = c.loop-i in
    let f = c.next_state-x in
    called f.result f.type_inv ∙ f.ensures ∙ ap rounded (sum_by_kept a.a.now a.forced.now a.start.now a.k l.i l.i l.invariant.1)

abbrev turn : lts.After-is_outside tie.the-claims reads.Pre reads.Post goal.the-invariant-loop-i goal.the-decreases-loop-i tie.handed_clauses → goal.In-loop-i
turn c = c.before.before.before.before

-- the test, by the numbers of the table
tested : (c : lts.After-is_outside tie.the-claims reads.Pre reads.Post goal.the-invariant-loop-i goal.the-decreases-loop-i tie.handed_clauses) →
    let a = (turn c).args in
    is_over a.table.now a.a.now a.forced.now a.start.now a.plan.now a.k (turn c).loop-i.i ≡ c.is_outside.result
tested c =
    let a = (turn c).args in
    let p = 10 * a.k + (4 + (turn c).loop-i.i) in
    sym
    (rw (
      called (at a.table.now (7 * p + 1)) c.is_outside-arg-1.given,
      called (at a.table.now (7 * p + 2)) c.is_outside-arg-in-loop-i-1.given,
      state_is c.before.before.before,
    ) at c.is_outside.ensures)

pub returns-then-is_outside : goal.returns-then-is_outside
returns-then-is_outside c =
    let l = (turn c.before).loop-i in
    record {
      dropped_value = sym (any_at _ l.i _ (omega arith) (tested c.before ∙ c.if-is_outside.true));
      filled_unless = tt;
      cost_value = tt;
    }

pub cost_of-total-requires : goal.cost_of-total-requires
cost_of-total-requires c =
    let x = c.before.before.before in
    let s = (turn x).before.before in
    let a = s.args in
    let i = (turn x).loop-i.i in
    let p = 10 * a.k + (4 + i) in
    let g = s.requires.k_bound.4.ranged p (omega arith) in (
      rw (called (at a.table.now (7 * p)) c.cost_of-arg-1.given) g.penalty,
      rw (called (at a.table.now (7 * p + 3)) c.cost_of-arg-in-loop-i-1.given) g.reference,
      rw (state_is x.before.before.before)
          (size-state s.requires.k_bound.4 a.a.now a.forced.now a.start.now a.plan.now a.k s.requires.k_bound.0 i (omega arith)
          (tested x ∙ c.if-is_outside.false)),
    )

abbrev passed : goal.After-cost_of-total → lts.Else1 tie.the-claims reads.Pre reads.Post goal.the-invariant-loop-i goal.the-decreases-loop-i tie.handed_clauses
passed c = c.before.before.before

none_more : (c : lts.Else1 tie.the-claims reads.Pre reads.Post goal.the-invariant-loop-i goal.the-decreases-loop-i tie.handed_clauses) →
    let a = (turn c.before).args in
    any ((turn c.before).loop-i.i + 1) (is_over a.table.now a.a.now a.forced.now a.start.now a.plan.now a.k) ≡ false
none_more c = let l = (turn c.before).loop-i in any_more l.i _ l.invariant.0 (tested c.before ∙ c.if-is_outside.false)

next : (c : goal.After-cost_of-total) →
    let l = (turn (passed c).before).loop-i in
    let a = (turn (passed c).before).args in
    Formed (to_z w64 l.total-bits +ℤ back c.cost_of-total.result)
    (sum (l.i + 1) (state_cost a.table.now a.a.now a.forced.now a.start.now a.plan.now a.k))
unfolding cost
next c =
    let x = (passed c).before in
    let s = (turn x).before.before in
    let a = s.args in
    let l = (turn x).loop-i in
    let p = 10 * a.k + (4 + l.i) in
    let f = c.cost_of-total in
    added l.i _
    (λ j h. size-state-cost s.requires.k_bound.4 a.a.now a.forced.now a.start.now a.plan.now a.k s.requires.k_bound.0 j (omega arith)
    (any_none (l.i + 1) j _ h (none_more (passed c)))) (omega arith) l.invariant.2
    (called f.result f.type_inv
    ∙ rw (
      called (at a.table.now (7 * p)) c.cost_of-arg-1.given,
      called (at a.table.now (7 * p + 3)) c.cost_of-arg-in-loop-i-1.given,
      state_is x.before.before.before,
    ) at f.ensures)

pub overflow_add-total : goal.overflow_add-total
overflow_add-total c = (next c).fits

pub loop-i-preserved : goal.loop-i-preserved
loop-i-preserved c =
    let x = (passed c).before in
    let l = (turn x).loop-i in
    (none_more (passed c), state_store _ l.i (omega arith) l.invariant.1 (state_is x.before.before.before), (next c).is)

pub returns : goal.returns
returns c =
    let s = c.before.before in
    let a = s.args in
    let l = c.loop-i in
    let e : l.i ≡ a.n = omega arith in
    let total = rw e at l.invariant.2 in
    let none = rw e at l.invariant.0 in
    record {
      dropped_value = sym none;
      filled_unless = rw e at l.invariant.1;
      cost_value = (
        total,
        rw total (omega (arith, size_step s.requires.k_bound.4 a.a.now a.forced.now a.start.now a.plan.now a.k s.requires.k_bound.0 a.n s.requires.k_bound.1 none)),
      );
    }
