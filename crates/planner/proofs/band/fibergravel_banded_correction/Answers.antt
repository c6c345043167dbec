use native.Mathlib.Omega.{arith}
use lib.ListN.{length}
use Rattle.planner.proofs.Figures.{small_corrected}
use Rattle.planner.proofs.Answered.{small_mapped}
use Rattle.planner.proofs.band.fibergravel_banded_correction.Goals as goal

pub answer-requires : goal.answer-requires
answer-requires c =
    let a = c.args in (
      omega arith,
      small_mapped _ c.banded_correction.result c.map.result c.map.ensures.cases
          (rw c.banded_correction.ensures.value (small_corrected a.tape.now a.residuals.now (length a.pivots.now) (length a.correction.now))),
    )
