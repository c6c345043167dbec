use Prim.Native.Nat.{ℕ}
use mathlib.Core.Path.{◌∙◌, ap}
use native.Mathlib.Omega.{arith}
use Rattle.primal.specs.Padded.{padded}
use Rattle.primal.specs.Lent.{listed}
use Rattle.primal.proofs.Lent.{length-listed}
use Rattle.solver.proofs.Written.{written_none, written_more, written_whole, written_part}
use Rattle.solver.proofs.write.write_multipliers.Goals as goal

pub loop-k-init : goal.loop-k-init
loop-k-init c = written_none _ _ _

pub write_numbers-requires : goal.write_numbers-requires
write_numbers-requires c =
    let part = written_part c.loop-k.invariant c.requires.0 c.loop-k-test.true in
    (omega (arith, part), c.requires.3)

pub loop-k-preserved : goal.loop-k-preserved
loop-k-preserved c =
    let l = c.loop-k in
    let part = written_part l.invariant c.requires.0 c.loop-k-test.true in
    written_more l.invariant c.requires.0 _ c.loop-k-test.true (c.write_numbers.ensures ∙ ap (λ (w : ℕ). listed w (padded c.args.y.now l.k)) part) (length-listed _ _)

pub shape_of-multipliers : goal.shape_of-multipliers
shape_of-multipliers c = c.loop-k.invariant.same

pub returns : goal.returns
returns c = written_whole c.loop-k.invariant c.requires.0 (omega arith)
