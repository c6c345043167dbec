use Prim.Native.Nat.{suc, ◌+◌, ◌*◌, ◌-◌}
use mathlib.Core.Path.{◌≡◌}
use native.Mathlib.Omega.{arith}
use Rattle.integer.proofs.Sizes.{wider}
use Rattle.problem.specs.Model.{state_at}
use Rattle.primal.specs.Padded.{state_matrix}
use Rattle.primal.proofs.ProductSizes.{dotted}
use Rattle.primal.proofs.model.from_states.Goals as goal

pub dot-requires : goal.dot-requires
dot-requires c =
    let p = c.requires in (
      omega arith,
      omega (arith, c.dot-arg-1.given),
      record { each = λ q h. omega (arith, c.dot-arg-then-k-eq0-1.given) },
      wider p.2 (omega arith),
      wider p.3 (omega arith),
    )

pub returns-then-k-eq0 : goal.returns-then-k-eq0
unfolding state_at
returns-then-k-eq0 c =
    let s = c.args in
    let e : s.k ≡ 0 = c.if-k-eq0.true in
    rw e
    (dotted 6 (state_matrix s.a.now s.i) s.start.now (λ j. j) c.dot.type_inv c.dot.ensures (λ j. omega arith))

pub dot-requires-2 : goal.dot-requires-2
dot-requires-2 c =
    let p = c.requires in (
      omega arith,
      omega (arith, c.dot-arg-2-1.given),
      record { each = λ q h. omega (arith, c.dot-arg-3-1.given) },
      wider p.2 (omega arith),
      wider p.4 (omega arith),
    )

pub returns : goal.returns
unfolding state_at
returns c =
    let s = c.args in
    let e : s.k ≡ suc (s.k - 1) = omega arith in
    rw e
    (dotted 6 (state_matrix s.a.now s.i) s.v.now (λ j. 10 * (s.k - 1) + (4 + j)) c.dot-2.type_inv
    c.dot-2.ensures (λ j. omega arith))
