use mathlib.Core.Path.{◌≡◌, sym, ◌∙◌}
use native.Mathlib.Omega.{arith}
use borrow.Author.Rules.{rules}
use Rattle.std.specs.Prelude.{Err}
use Rattle.primal.proofs.HeldSteps.{held_none}
use Rattle.lent.specs.Checks.{plan_check}
use Rattle.lent.proofs.Steps.{first-none, first-passed, first-failed}
use Rattle.lent.proofs.walk.checked_plan.Goals as goal

pub loop-k-init : goal.loop-k-init
loop-k-init c = (first-none _, held_none _ _ _)

pub returns-in_err-check_step : goal.returns-in_err-check_step
unfolding plan_check
returns-in_err-check_step c =
    let l = c.loop-k in
    let e : c.from_residual.result ≡ Err c.in_err-check_step.field-0.0 = search rules in
    rw e (first-failed l.k _ _ (omega arith) l.invariant.0 (sym c.check_step.ensures.check_value ∙ c.in_err-check_step.was))

pub loop-k-preserved : goal.loop-k-preserved
loop-k-preserved c =
    let l = c.loop-k in
    (first-passed l.k _ l.invariant.0 (sym c.check_step.ensures.check_value ∙ c.in_ok-check_step.was), rw c.in_ok-check_step.was at c.check_step.ensures.held_when_passed)

pub returns : goal.returns
unfolding plan_check
returns c =
    let l = c.loop-k in
    let e : l.k ≡ c.args.t.now.horizon = omega arith in
    (rw e at l.invariant.0, rw e at l.invariant.1)
