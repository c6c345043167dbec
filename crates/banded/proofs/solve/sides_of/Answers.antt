use mathlib.Core.Path.{◌≡◌}
use native.Mathlib.Omega.{arith}
use lib.ListN.{length-set}
use borrow.Author.Rules.{rules}
use Rattle.banded.proofs.Solving.{sides-none, sides-step}
use Rattle.banded.proofs.solve.sides_of.Goals as goal

pub loop-a-init : goal.loop-a-init
loop-a-init c = (search rules, sides-none _ _ _ _ _)

pub loop-a-preserved : goal.loop-a-preserved
loop-a-preserved c =
    let l = c.loop-a in
    (simp length-set l.invariant.0, sides-step _ _ _ _ _ l.a l.s _ (omega arith) (omega arith) l.invariant.1 c.side_of.ensures)

pub returns : goal.returns
returns c = λ w right b g.
    let e : c.loop-a.a ≡ c.args.count = omega arith in
    rw e at (c.loop-a.invariant.1.each w right b g)
