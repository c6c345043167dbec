use Prim.Native.Nat.{◌+◌}
use mathlib.Core.Path.{◌≡◌, sym, ◌∙◌}
use native.Mathlib.Omega.{arith}
use lib.IntN.{◌+ℤ◌, ◌*ℤ◌}
use mir.Syntax.{w64}
use mir.Val.{to_z}
use Rattle.integer.specs.Places.{at}
use Rattle.integer.specs.Sum.{sum}
use Rattle.integer.proofs.Sizes.{called, back, element_is, Formed, formed}
use Rattle.integer.proofs.Sum.{sum-none, added}
use Rattle.dual.proofs.FloorSizes.{started_at, size_started_at}
use Rattle.dual.proofs.floor.started.Goals as goal
use Rattle.dual.proofs.floor.started.Tie as tie
use Rattle.dual.proofs.floor.started.Reads as reads
use Rattle.dual.proofs.floor.started.Lts as lts

pub loop-j-init : goal.loop-j-init
loop-j-init c = sym (sum-none _)

abbrev turn : goal.After-total-1 → lts.In-loop tie.the-claims reads.Pre reads.Post goal.the-invariant-loop-j goal.the-decreases-loop-j
turn c = c.before.before

product : (c : goal.After-total-1) →
    let a = (turn c).args in
    let j = (turn c).loop-j.j in
    Formed (back c.adjoint_at.result *ℤ back (at a.start.now j)) (started_at a.a.now a.start.now a.y.now j)
product c =
    let f = c.adjoint_at in
    let h = (turn c).requires in
    let j = (turn c).loop-j.j in
    formed (rw (called f.result f.type_inv ∙ f.ensures, element_is h.1 (omega arith) j)) (size_started_at h.0 h.1 h.2 j) (omega arith)

pub overflow_mul-total : goal.overflow_mul-total
overflow_mul-total c = (product c).fits

next : (c : goal.After-total-1) →
    let a = (turn c).args in
    let l = (turn c).loop-j in
    Formed (to_z w64 l.total-bits +ℤ back (back c.adjoint_at.result *ℤ back (at a.start.now l.j)))
    (sum (l.j + 1) (started_at a.a.now a.start.now a.y.now))
next c =
    let h = (turn c).requires in
    let l = (turn c).loop-j in
    added l.j _ (λ j _. size_started_at h.0 h.1 h.2 j) (omega arith) l.invariant (product c).is

pub overflow_add-total : goal.overflow_add-total
overflow_add-total c = (next c).fits

pub loop-j-preserved : goal.loop-j-preserved
loop-j-preserved c = (next c).is

pub returns : goal.returns
returns c = let e : c.loop-j.j ≡ 6 = omega arith in rw e at c.loop-j.invariant
