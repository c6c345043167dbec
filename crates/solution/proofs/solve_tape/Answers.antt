use mathlib.Core.Path.{sym}
use native.Mathlib.Omega.{arith}
use lib.Seq.{length-take-le}
use Rattle.integer.proofs.Operand.{bytes_of}
use Rattle.solution.proofs.Promise.{solution_promise}
use Rattle.solution.proofs.TapeSizes.{Room, room}
use Rattle.solution.proofs.solve_tape.Goals as goal
use Rattle.solution.proofs.solve_tape.Goals.{After-numbers_of-numbers}

fits : (c : After-numbers_of-numbers) → Room c.numbers_of-numbers.result
fits c = rw c.numbers_of-numbers.ensures (room _ (bytes_of c.type_inv.tape))

pub overflow_add-p : goal.overflow_add-p
overflow_add-p c = let r = fits (goal.at.overflow_add-p c).After-numbers_of-numbers in omega (arith, r.states, r.inputs)

pub overflow_mul-p : goal.overflow_mul-p
overflow_mul-p c = omega (arith, (fits (goal.at.overflow_mul-p c).After-numbers_of-numbers).plan)

pub overflow_mul-q : goal.overflow_mul-q
overflow_mul-q c = omega (arith, (fits (goal.at.overflow_mul-q c).After-numbers_of-numbers).multipliers)

pub slice_bounds-plan-end : goal.slice_bounds-plan-end
slice_bounds-plan-end c = (fits (goal.at.slice_bounds-plan-end c).After-numbers_of-numbers).plan

pub slice_bounds-solve-end : goal.slice_bounds-solve-end
slice_bounds-solve-end c = sym (length-take-le _ _ (fits (goal.at.slice_bounds-solve-end c).After-numbers_of-numbers).plan)

pub slice_bounds-multipliers-end : goal.slice_bounds-multipliers-end
slice_bounds-multipliers-end c = (fits (goal.at.slice_bounds-multipliers-end c).After-numbers_of-numbers).multipliers

pub slice_bounds-solve-end-2 : goal.slice_bounds-solve-end-2
slice_bounds-solve-end-2 c = sym (length-take-le _ _ (fits (goal.at.slice_bounds-solve-end-2 c).After-numbers_of-numbers).multipliers)

pub returns : goal.returns
returns c =
    let s = c.args.tape.now in
    let read = c.numbers_of-numbers.ensures in
    let o = c.solve-answer in
    let e = o.ensures in
    let p = solution_promise s {answer = o.result} o.new.plan o.new.multipliers (room s (bytes_of c.type_inv.tape))
    (rw read at c.plan-2-1.given) (rw read at c.multipliers-2-1.given) (rw read at e.value) (rw read at e.plan_after) (rw read at e.multipliers_after) e.upheld in
    rw read (record { value = p.0; upheld = p.1 })
