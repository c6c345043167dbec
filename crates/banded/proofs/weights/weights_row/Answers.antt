use native.Mathlib.Omega.{arith}
use lib.ListN.{length-set}
use borrow.Author.Rules.{rules}
use Rattle.banded.proofs.WeightLaws.{filled_none, filled_store, filled_all}
use Rattle.banded.proofs.weights.weights_row.Goals as goal

pub loop-c-init : goal.loop-c-init
loop-c-init c = (search rules, rw c.first_before-first.ensures (filled_none _ _ _ _))

pub loop-c-preserved : goal.loop-c-preserved
loop-c-preserved c =
    let l = c.loop-c in (
      simp length-set l.invariant.0,
      filled_store _ _ _ l.x l.c _ _ (omega (arith, c.first_before-first.ensures)) (omega arith) c.weight_of.ensures l.invariant.1,
    )

pub returns : goal.returns
returns c = filled_all _ _ _ _ c.loop-c.c (omega arith) c.loop-c.invariant.1
