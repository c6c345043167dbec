use native.Mathlib.Omega.{arith}
use lib.ListN.{length}
use Rattle.integer.proofs.Operand.{bytes_of}
use Rattle.planner.proofs.Answered.{small_mapped}
use Rattle.planner.proofs.Recorded.{small_recorded}
use Rattle.planner.proofs.record.fibergravel_record.Goals as goal

pub answer-requires : goal.answer-requires
answer-requires c =
    let a = c.args in (
      omega arith,
      small_mapped _ c.write_record.result c.map.result c.map.ensures.cases
          (rw c.write_record.ensures.value (small_recorded a.tape.now (bytes_of c.type_inv.tape) (length a.laboratory.now) (length a.service.now))),
    )
