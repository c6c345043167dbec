use Prim.Native.Nat.{◌+◌, ◌*◌}
use native.Mathlib.Omega.{arith}
use Rattle.integer.proofs.Sizes.{wider}
use Rattle.problem.specs.Dual.{adjoint}
use Rattle.primal.specs.Padded.{padded}
use Rattle.primal.proofs.ProductSizes.{dotted}
use Rattle.dual.proofs.slopes.adjoint_at.Goals as goal

pub dot-requires : goal.dot-requires
dot-requires c =
    let p = c.requires in
    (omega arith, omega (arith, c.dot-arg-1.given), record { each = λ q h. omega (arith, c.dot-arg-2-1.given) }, p.3, wider p.2 (omega arith))

pub returns : goal.returns
unfolding adjoint
returns c =
    let s = c.args in
    dotted 6 (padded s.y.now s.k) s.a.now (λ q. 6 * q + s.j) c.dot.type_inv c.dot.ensures (λ q. omega arith)
