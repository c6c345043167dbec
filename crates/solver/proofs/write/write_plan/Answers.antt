use native.Mathlib.Omega.{arith}
use Rattle.primal.specs.Padded.{padded_plan}
use Rattle.primal.proofs.Lent.{length-step}
use Rattle.solver.proofs.Written.{written_none, written_more, written_whole, written_part}
use Rattle.solver.proofs.write.write_plan.Goals as goal

pub loop-k-init : goal.loop-k-init
loop-k-init c = written_none _ _ _

pub write_step-requires : goal.write_step-requires
write_step-requires c =
    (written_part c.loop-k.invariant c.requires.0 c.loop-k-test.true, c.requires.1, c.requires.2, omega arith, c.requires.4)

pub loop-k-preserved : goal.loop-k-preserved
loop-k-preserved c =
    written_more c.loop-k.invariant c.requires.0 _ c.loop-k-test.true c.write_step.ensures (length-step _ _ (padded_plan c.args.v.now) _)

pub shape_of-plan : goal.shape_of-plan
shape_of-plan c = c.loop-k.invariant.same

pub returns : goal.returns
returns c = written_whole c.loop-k.invariant c.requires.0 (omega arith)
