use mathlib.Core.Path.{◌≡◌, refl}
use native.Mathlib.Omega.{arith}
use lib.ListN.{length-set}
use Rattle.banded.proofs.Reduction.{reduction_first, reduction_step}
use Rattle.banded.proofs.rows.eliminated_row.Goals as goal

pub loop-p-init : goal.loop-p-init
loop-p-init c = (refl, rw c.first_before-first.ensures (reduction_first _ _ _ _ _))

pub loop-p-preserved : goal.loop-p-preserved
loop-p-preserved c =
    let l = c.loop-p in
    let first = c.first_before-first.ensures in (
      simp length-set l.invariant.0,
      reduction_step _ l.p _ _ _ _ _ l.y _ l.factors (omega (arith, first)) (omega arith) (omega (arith, first)) (omega arith) l.invariant.1 c.reduced-y.ensures,
    )

pub returns : goal.returns
returns c = λ w b h.
    let l = c.loop-p in
    let e : l.p ≡ c.args.a = omega arith in
    c.kept.ensures _ w _ c.requires.1 (rw e at (l.invariant.1.row w b h)) (rw e at (l.invariant.1.factors w b h))
