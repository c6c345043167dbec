use native.Mathlib.Omega.{arith}
use Rattle.planner.proofs.Figures.{small_judged}
use Rattle.planner.proofs.Answered.{small_mapped}
use Rattle.planner.proofs.fibergravel_judge_plan.Goals as goal

pub answer-requires : goal.answer-requires
answer-requires c =
    let a = c.args in
    (omega arith, small_mapped _ c.judge_plan.result c.map.result c.map.ensures.cases (rw c.judge_plan.ensures.value (small_judged a.tape.now a.plan.now a.multipliers.now)))
