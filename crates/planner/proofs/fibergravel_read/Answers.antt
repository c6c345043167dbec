use mathlib.Core.Path.{sym, ◌∙◌}
use native.Mathlib.Omega.{arith}
use Rattle.integer.proofs.Operand.{bytes_of}
use Rattle.tape.specs.Reading.{reading}
use Rattle.tape.proofs.Facts.{legal}
use Rattle.tape.proofs.Told.{told_ok}
use Rattle.planner.proofs.Figures.{small_told}
use Rattle.planner.proofs.fibergravel_read.Goals as goal

pub numbers_of-requires : goal.numbers_of-requires
numbers_of-requires c =
    let s = c.args.tape.now in
    let r = told_ok (reading s) (sym c.read.ensures ∙ c.in-Ok.is) in
    rw r.1 at (legal s (bytes_of c.type_inv.tape) r.0)

pub answer-requires-in-Err : goal.answer-requires-in-Err
answer-requires-in-Err c = (omega arith, rw (rw c.read.ensures at c.in-Err.is) at (small_told c.args.tape.now))
