use mathlib.Core.Path.{◌≡◌}
use native.Mathlib.Omega.{arith}
use lib.ListN.{length-set}
use borrow.Author.Rules.{rules}
use Rattle.banded.proofs.Solving.{solved-none, solved-step}
use Rattle.banded.proofs.solve.solved_up.Goals as goal

pub loop-t-init : goal.loop-t-init
loop-t-init c = (search rules, solved-none _ _ _ _ _)

pub loop-t-preserved : goal.loop-t-preserved
loop-t-preserved c =
    let l = c.loop-t in (
      simp length-set l.invariant.0,
      solved-step _ _ _ _ _ l.t l.d _ (omega arith) (rw c.min.ensures at c.sum_after-sum.ensures) (omega arith) l.invariant.1,
    )

pub returns : goal.returns
returns c = λ w right b l.
    let e : c.loop-t.t ≡ c.args.count = omega arith in
    rw e at (c.loop-t.invariant.1.each w right b l)
