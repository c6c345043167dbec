use mathlib.Core.Path.{◌≡◌}
use native.Mathlib.Omega.{arith}
use borrow.Author.Rules.{rules}
use Rattle.integer.proofs.Places.{stretch_none, stretch_store}
use Rattle.lent.proofs.multipliers.pad_step.Goals as goal

pub loop-i-init : goal.loop-i-init
loop-i-init c = stretch_none _ _ _

pub loop-i-preserved : goal.loop-i-preserved
loop-i-preserved c = stretch_store _ _ _ _ _ _ (omega arith) c.loop-i.invariant (search rules)

pub returns : goal.returns
returns c = let e : c.loop-i.i ≡ c.args.n = omega arith in rw e at c.loop-i.invariant
