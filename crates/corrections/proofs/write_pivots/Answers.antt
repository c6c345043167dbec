use Prim.Native.Nat.{ℕ, ◌<◌, ◌+◌}
use mathlib.Core.Path.{refl}
use mathlib.Core.List.{List}
use native.Mathlib.Omega.{arith}
use lib.ListN.{length, length-set, set, get_or}
use lib.Ieee.{Float, nan}
use Rattle.primal.proofs.Lent.{listed-whole}
use Rattle.banded.specs.declared.rows.Row.{Row}
use Rattle.banded.specs.Elimination.{pivot}
use Rattle.banded.proofs.Stores.{holds-none, holds_store}
use Rattle.corrections.proofs.write_pivots.Invariants.{Pivots}
use Rattle.corrections.proofs.write_pivots.Goals as goal

pivots_store : (rows : List Row) (end : Row) (count p : ℕ) (l : List Float) → p < count → p < length l → Pivots rows count p l
    → Pivots rows count (p + 1) (set l p (get_or rows p end).pivot)
pivots_store rows end count p l h room o = record {
  each = λ band w k. holds_store (pivot band w) p l _ room (k.each p end h).pivots (o.each band w k);
}

pub loop-p-init : goal.loop-p-init
loop-p-init c = (refl, record { each = λ band w k. holds-none _ _ })

pub loop-p-preserved : goal.loop-p-preserved
loop-p-preserved c =
    let l = c.loop-p in
    (simp length-set l.invariant.0, pivots_store _ _ _ l.p l.pivots (omega arith) (omega arith) l.invariant.1)

pub returns : goal.returns
returns c = λ band w k.
    let l = c.loop-p in
    listed-whole nan _ _ _ l.invariant.0 (λ j h. (l.invariant.1.each band w k).each j (omega arith))
