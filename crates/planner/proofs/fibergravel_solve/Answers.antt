use native.Mathlib.Omega.{arith}
use Rattle.integer.proofs.Operand.{bytes_of}
use Rattle.solver.proofs.Small.{SmallSolved, small_solved}
use Rattle.planner.proofs.Figures.{small_rounds, small_answer}
use Rattle.planner.proofs.Answered.{small_mapped}
use Rattle.planner.proofs.fibergravel_solve.Goals as goal
use Rattle.planner.proofs.fibergravel_solve.Goals.{After-solve}

small : (c : After-solve) → SmallSolved c.solve.result
small c =
    let a = c.args in
    rw c.solve.ensures.value (small_solved a.tape.now a.plan.now a.multipliers.now (bytes_of c.type_inv.tape))

pub map-requires : goal.map-requires
map-requires c = λ answer e. small_rounds answer (rw e at (small (goal.at.map-requires c).After-solve))

pub answer-requires : goal.answer-requires
answer-requires c =
    (omega arith, small_mapped _ c.solve.result c.map.result c.map.ensures.cases (small_answer c.solve.result (small (goal.at.answer-requires c).After-solve)))
