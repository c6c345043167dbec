use Prim.Native.Nat.{◌+◌, ◌*◌, ◌<◌, ◌≤◌}
use mathlib.Core.Path.{◌≡◌, sym, ◌∙◌}
use native.Mathlib.Omega.{arith}
use lib.ListN.{length}
use borrow.Author.Rules.{rules}
use Rattle.std.specs.Prelude.{Ok, Err}
use Rattle.integer.specs.Places.{Stretch}
use Rattle.integer.proofs.Places.{step_room}
use Rattle.problem.specs.Model.{plan_of}
use Rattle.lent.proofs.Steps.{inputs_check, states_check, step-failed, inputs-bounded, step-states, held_where}
use Rattle.lent.proofs.walk.check_step.Goals as goal
use Rattle.lent.proofs.walk.check_step.Goals.{Start, In_ok-check_inputs}

early : (c : Start) → c.args.k < 12
early c = omega arith

-- the step's numbers lie in the plan
room : (c : Start) → let t = c.args.t.now in c.args.k * (t.n + t.m) + (t.n + t.m) ≤ length c.args.plan.now
room c = let t = c.args.t.now in omega (arith, step_room (t.n + t.m) c.args.k t.horizon c.requires.legal.2)

pub returns-in_err-check_inputs-clause-check_value : goal.returns-in_err-check_inputs-clause-check_value
returns-in_err-check_inputs-clause-check_value c =
    let r = c.requires in
    let e : c.from_residual.result ≡ Err c.in_err-check_inputs.field-0.0 = search rules in
    e ∙ sym (step-failed r.legal.0 r.legal.1 (omega arith) c.args.plan.now (sym c.check_inputs.ensures.value ∙ c.in_err-check_inputs.was))

-- the inputs have passed, and stand in their places
passed : (c : In_ok-check_inputs) → let a = c.args in inputs_check a.t.now a.terms.now a.plan.now a.k ≡ Ok tt
passed c = sym c.check_inputs.ensures.value ∙ c.in_ok-check_inputs.was

filled : (c : In_ok-check_inputs) →
    let a = c.args in
    let t = a.t.now in
    Stretch (10 * a.k) t.m ((plan_of t.n t.m a.plan.now).u a.k) a.v.now c.check_inputs.new.v
filled c = rw c.in_ok-check_inputs.was at c.check_inputs.ensures.filled_when_passed

pub check_states-requires : goal.check_states-requires
check_states-requires c =
    let i = (goal.at.check_states-requires c).In_ok-check_inputs in
    let s = (goal.at.In_ok-check_inputs i).Start in
    let legal = c.requires.legal.0 in
    let terms = c.requires.legal.1 in
    let held = c.requires.plan_len.1 in
    record {
      legal = c.requires.legal;
      plan_len = (omega (arith, room s), (filled i).same ∙ held.long, inputs-bounded legal terms (early s) c.args.plan.now held (passed i) (filled i));
    }

pub returns : goal.returns
returns c =
    let i = (goal.at.returns c).In_ok-check_inputs in
    let s = (goal.at.In_ok-check_inputs i).Start in
    let legal = c.requires.legal.0 in
    let terms = c.requires.legal.1 in
    let held = c.requires.plan_len.1 in
    let a = c.args in
    let e = c.check_states.ensures in
    record {
      check_value = ◌∙◌ {b = states_check a.t.now a.terms.now a.plan.now c.check_inputs.new.v a.k} e.value
          (sym (step-states legal terms (early s) a.plan.now held (passed i) (filled i)));
      held_when_passed = held_where legal terms (early s) a.plan.now held (passed i) (filled i) _ _ e.value e.filled_when_passed;
    }
