use native.Mathlib.Omega.{arith}
use Rattle.planner.proofs.Figures.{small_told}
use Rattle.planner.proofs.Answered.{small_mapped}
use Rattle.planner.proofs.fibergravel_read_step.Goals as goal

pub answer-requires : goal.answer-requires
answer-requires c = (omega arith, small_mapped _ c.read.result c.map.result c.map.ensures.cases (rw c.read.ensures (small_told c.args.tape.now)))
