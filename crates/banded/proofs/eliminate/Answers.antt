use mathlib.Core.Path.{◌≡◌}
use native.Mathlib.Omega.{arith}
use lib.ListN.{length-set}
use borrow.Author.Rules.{rules}
use Rattle.banded.proofs.Reduction.{rows_none, rows_store}
use Rattle.banded.proofs.eliminate.Goals as goal

pub loop-p-init : goal.loop-p-init
loop-p-init c = (search rules, rows_none _ _ _)

pub loop-p-preserved : goal.loop-p-preserved
loop-p-preserved c =
    let l = c.loop-p in (
      simp length-set l.invariant.0,
      rows_store _ _ l.p l.rows _ (omega arith) (c.eliminated_row.ensures _ l.invariant.1 c.weights_row-x.ensures) l.invariant.1,
    )

pub returns : goal.returns
returns c =
    let l = c.loop-p in
    let n = c.row_count-count in
    let e : l.p ≡ n.result = omega arith in
    let rows = rw e at l.invariant.1 in
    (rw n.ensures.0 at (c.are_usable.ensures _ _ rows), rw n.ensures.0 at rows)
