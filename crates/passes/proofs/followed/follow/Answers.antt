use Prim.Native.Nat.{◌+◌, ◌*◌, ◌<◌, ◌≤◌}
use mathlib.Core.Path.{◌≡◌, sym, ◌∙◌}
use mathlib.Core.Bool.{false}
use native.Mathlib.Omega.{arith}
use borrow.Author.Rules.{rules}
use lib.IntN.{ℤ, nat_abs, ◌+ℤ◌}
use mir.Syntax.{w64}
use mir.Val.{to_z}
use Rattle.std.specs.Prelude.{Some, None}
use Rattle.integer.specs.Sum.{sum}
use Rattle.integer.specs.Tests.{any}
use Rattle.integer.proofs.Sizes.{back, back_is, size-add, Formed, formed}
use Rattle.integer.proofs.Tests.{any_at}
use Rattle.primal.proofs.TermSizes.{most_cost}
use Rattle.steps.specs.Steps.{dropped}
use Rattle.passes.proofs.StepSums.{is_over, state_cost, step-bounded}
use Rattle.passes.proofs.FollowedSteps.{begun_none, step-tested, step_begun}
use Rattle.passes.proofs.followed.follow.Goals as goal

pub loop-k-init : goal.loop-k-init
loop-k-init c =
    let p = c.requires.n_bound in
    (p.2, p.3, omega arith, λ t lent. begun_none lent p.3 p.2)

pub follow_step-requires : goal.follow_step-requires
follow_step-requires c =
    let l = c.loop-k in
    let p = c.requires in
    record {
      k_bound = (omega arith, p.n_bound.0, l.invariant.0, l.invariant.1, p.n_bound.4);
      bounded = p.bounded;
    }

pub returns-in_err-total : goal.returns-in_err-total
unfolding dropped
returns-in_err-total c =
    let l = c.loop-k in
    let e : c.from_residual.result ≡ None = search rules in
    let over = rw c.in_err-total.was at c.follow_step.ensures.dropped_value in
    rw e
    (record {
      followed_by = λ t lent.
          let early : l.k < t.horizon = omega (arith, lent.steps) in
          record {
            same = sym (any_at _ l.k _ early (sym (step-tested lent (l.invariant.3 t lent) early over)));
            held = tt;
            cost = tt;
          };
      cost_bound = tt;
    })

-- a step that is not dropped
module _ (c : goal.In_ok-total) {cost : ℤ} (was : c.follow_step.result ≡ Some cost) where
  abbrev total : ℤ
  total = to_z w64 c.loop-k.total-bits

  none : any c.args.n (is_over c.args.table.now c.args.a.now c.args.forced.now c.args.start.now c.loop-k.plan c.loop-k.k) ≡ false
  none = sym (rw was at c.follow_step.ensures.dropped_value)

  price : (cost ≡ sum c.args.n (state_cost c.args.table.now c.args.a.now c.args.forced.now c.args.start.now c.loop-k.plan c.loop-k.k)) × (nat_abs cost ≤ 6 * most_cost)
  price = rw was at c.follow_step.ensures.cost_value

  size_next : nat_abs (total +ℤ cost) ≤ (c.loop-k.k + 1) * (6 * most_cost)
  size_next = omega (arith, size-add total cost c.loop-k.invariant.2 price.1)

  next : Formed (total +ℤ back cost) (total +ℤ cost)
  next = formed (rw (back_is cost price.1 (omega arith))) size_next (omega arith)

pub overflow_add-total : goal.overflow_add-total
overflow_add-total c = (next c c.in_ok-total.was).fits

pub loop-k-preserved : goal.loop-k-preserved
loop-k-preserved c =
    let l = c.loop-k in
    let a = c.args in
    let h = c.requires.n_bound in
    let was = c.in_ok-total.was in
    let filled = rw was at c.follow_step.ensures.filled_unless in
    let bounded = step-bounded h.4 a.a.now a.forced.now a.start.now l.plan l.k (omega arith) a.n h.0 (none c was) l.invariant.1 filled in (
      filled.same ∙ l.invariant.0,
      bounded,
      rw (next c was).is (size_next c was),
      λ t lent. rw (next c was).is
          (step_begun lent (l.invariant.3 t lent) (omega (arith, lent.steps)) (none c was) bounded filled (price c was).0),
    )

pub returns : goal.returns
unfolding dropped
returns c =
    let l = c.loop-k in
    record {
      followed_by = λ t lent.
          let e : l.k ≡ t.horizon = omega (arith, lent.steps) in
          let b = rw e at (l.invariant.3 t lent) in
          record { same = sym b.kept; held = b.held; cost = b.cost };
      cost_bound = omega (arith, l.invariant.2);
    }
