use mathlib.Core.Path.{◌≡◌}
use native.Mathlib.Omega.{arith}
use Rattle.banded.specs.Floats.{sum_from}
use Rattle.banded.proofs.Solving.{sum_more}
use Rattle.banded.proofs.Stores.{zero_bits}
use Rattle.banded.proofs.solve.sum_after.Goals as goal

pub loop-j-init : goal.loop-j-init
unfolding sum_from
loop-j-init c = zero_bits

pub loop-j-preserved : goal.loop-j-preserved
loop-j-preserved c =
    let l = c.loop-j in
    sum_more _ l.j _ l.sum l.invariant

pub returns : goal.returns
returns c =
    let e : c.loop-j.j ≡ c.args.count = omega arith in
    rw e at c.loop-j.invariant
