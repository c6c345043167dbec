use Prim.Native.Nat.{◌+◌}
use borrow.Author.Tests.{lt-ltb, le-ltb}
use Rattle.integer.proofs.Sizes.{called}
use Rattle.problem.specs.Dual.{carried}
use Rattle.dual.proofs.slopes.carried_slope.Goals as goal

pub returns-then-k-horizon : goal.returns-then-k-horizon
unfolding carried
returns-then-k-horizon c =
    let s = c.args in
    rw (lt-ltb (s.k + 1) s.horizon c.if-k-horizon.true, called c.adjoint_at.result c.adjoint_at.type_inv) c.adjoint_at.ensures

pub returns : goal.returns
unfolding carried
returns c = simp (le-ltb _ _ c.if-k-horizon.false)
