use mathlib.Core.Path.{refl, ◌∙◌, ap}
use mathlib.Core.List.{List}
use native.Mathlib.Omega.{arith}
use mathlib.Core.Path.{◌≡◌}
use lib.IntN.{ℤ}
use Rattle.integer.specs.Places.{at}
use Rattle.integer.proofs.Places.{steps-none, steps_more, stretch_cong}
use Rattle.lookup.proofs.RowTable.{rows_are}
use Rattle.lookup.proofs.table.table_of.Goals as goal

pub loop-p-init : goal.loop-p-init
loop-p-init c = (refl, steps-none _ 840 _)

pub row_of-requires : goal.row_of-requires
row_of-requires c = c.requires.0.each c.loop-p.p (omega arith)

pub loop-p-preserved : goal.loop-p-preserved
loop-p-preserved c =
    let l = c.loop-p in
    let stretch = stretch_cong c.put_row.ensures (λ j _. ap (λ (x : List ℤ). at x j) c.row_of.ensures) in
    (c.put_row.ensures.same ∙ l.invariant.0, steps_more 7 l.p _ _ _ l.invariant.1 stretch)

pub returns : goal.returns
returns c =
    let e : c.loop-p.p ≡ 120 = omega arith in
    rows_are c.requires.0 c.requires.1 (rw e at c.loop-p.invariant.1)
