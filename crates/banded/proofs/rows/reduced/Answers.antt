use mathlib.Core.Path.{◌≡◌}
use native.Mathlib.Omega.{arith}
use lib.ListN.{length-set}
use borrow.Author.Rules.{rules}
use Rattle.banded.proofs.Stores.{reduced_none, reduced_store}
use Rattle.banded.proofs.rows.reduced.Goals as goal

pub loop-j-init : goal.loop-j-init
loop-j-init c = (search rules, reduced_none _ _ _ _)

pub loop-j-preserved : goal.loop-j-preserved
loop-j-preserved c =
    let l = c.loop-j in
    (simp length-set l.invariant.0, reduced_store _ _ _ _ l.j l.next (omega arith) l.invariant.1)

pub returns : goal.returns
returns c =
    let e : c.loop-j.j ≡ c.args.band = omega arith in
    rw e at c.loop-j.invariant.1
