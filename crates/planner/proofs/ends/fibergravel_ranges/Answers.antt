use native.Mathlib.Omega.{arith}
use Rattle.tape.specs.Reading.{reading}
use Rattle.planner.specs.Ranges.{ends_of}
use Rattle.planner.proofs.Answered.{small_mapped, answered}
use Rattle.planner.proofs.Ranged.{small_ranging, bounding_by}
use Rattle.planner.proofs.ends.fibergravel_ranges.Goals as goal

pub answer-requires : goal.answer-requires
answer-requires c =
    let a = c.args in (
      omega arith,
      small_mapped _ c.judge_ranges.result c.map.result c.map.ensures.cases
          (rw c.judge_ranges.ensures.value (small_ranging a.tape.now a.plan.now a.multipliers.now)),
    )

pub returns-clause-bounding_by : goal.returns-clause-bounding_by
returns-clause-bounding_by c =
    let a = c.args in
    let n = c.answer in
    bounding_by c.judge_ranges.result (reading a.tape.now).tape a.plan.now a.multipliers.now n.result n.new.out a.out.now
    (answered _ c.judge_ranges.result c.map.result c.map.ensures.cases ends_of n.result n.new.out a.out.now (λ ranges out is made. made) n.ensures.value n.ensures.out_after)
    c.judge_ranges.ensures.bounding
