use Rattle.planner.proofs.Figures.{small_shown}
use Rattle.planner.proofs.fibergravel_judge_multipliers.Goals as goal

pub code-requires : goal.code-requires
code-requires c = rw (rw c.judge_multipliers.ensures.value at c.in-Err.is) at (small_shown c.args.tape.now c.args.multipliers.now)
