use Rattle.integer.proofs.Operand.{bytes_of}
use Rattle.planner.proofs.Reported.{carried_small, reported_by}
use Rattle.planner.proofs.report.fibergravel_judge_report.Goals as goal

pub report_refusal-requires : goal.report_refusal-requires
report_refusal-requires c =
    let a = c.args in
    carried_small a.tape.now a.plan.now a.multipliers.now (bytes_of c.type_inv.tape) _ (rw c.judge_plan.ensures.value at c.in-Err.is)

pub returns-in-Err-clause-reported_by : goal.returns-in-Err-clause-reported_by
returns-in-Err-clause-reported_by c =
    let a = c.args in
    let e = rw c.judge_plan.ensures.value at c.in-Err.is in
    reported_by a.tape.now a.plan.now a.multipliers.now (bytes_of c.type_inv.tape) a.out.now
    {number = c.report_refusal.result} {out = c.report_refusal.new.out} (rw e c.report_refusal.ensures.value) (rw e c.report_refusal.ensures.out_after)
