use Prim.Native.Nat.{◌<◌, ◌+◌, ◌*◌}
use mathlib.Core.Path.{◌≡◌, sym}
use native.Mathlib.Omega.{arith}
use lib.ListN.{length}
use lib.IntN.{◌+ℤ◌, ◌*ℤ◌}
use mir.Syntax.{w64}
use mir.Val.{to_z}
use Rattle.integer.specs.Places.{at}
use Rattle.integer.specs.Sum.{sum}
use Rattle.integer.proofs.Sizes.{back, element_is, Formed, formed}
use Rattle.integer.proofs.Sum.{sum-none, added}
use Rattle.primal.proofs.ProductSizes.{size_product_at}
use Rattle.primal.proofs.dot.dot.Invariants.{term}
use Rattle.primal.proofs.dot.dot.Goals as goal
use Rattle.primal.proofs.dot.dot.Reads as reads
use Rattle.primal.proofs.dot.dot.Lts as lts

pub loop-q-init : goal.loop-q-init
loop-q-init c = sym (sum-none _)

reach : (c : goal.After-total-1) →
    let s = c.before.before.before in s.args.j + s.args.stride * c.loop-q.q < length s.args.y.now
reach c = c.requires.2.each c.loop-q.q (omega arith)

pub overflow_mul-total : goal.overflow_mul-total
overflow_mul-total c = omega (arith, reach c)

pub overflow_add-total-in-loop-q : goal.overflow_add-total-in-loop-q
overflow_add-total-in-loop-q c = omega (arith, reach c)

pub offset_bounds-y-j : goal.offset_bounds-y-j
offset_bounds-y-j c = omega (arith, reach c)

pub bounds-y-j : goal.bounds-y-j
bounds-y-j c = reach c

abbrev turn : goal.After-total-in-loop-q-1 → lts.In-loop reads.Pre reads.Post goal.the-invariant-loop-q goal.the-decreases-loop-q
turn c = c.before.before

product : (c : goal.After-total-in-loop-q-1) →
    let a = (turn c).args in
    let q = (turn c).loop-q.q in
    Formed (back (at a.x.now (a.i + q)) *ℤ back (at a.y.now (a.j + a.stride * q))) (term a.x.now a.i a.y.now a.j a.stride q)
product c =
    let a = (turn c).args in
    let h = (turn c).requires in
    let p = a.i + (turn c).loop-q.q in
    let r = a.j + a.stride * (turn c).loop-q.q in
    formed (rw (element_is h.3 (omega arith) p, element_is h.4 (omega arith) r)) (size_product_at h.3 h.4 p r) (omega arith)

next : (c : goal.After-total-in-loop-q-1) →
    let a = (turn c).args in
    let l = (turn c).loop-q in
    Formed (to_z w64 l.total-bits +ℤ back (back (at a.x.now (a.i + l.q)) *ℤ back (at a.y.now (a.j + a.stride * l.q))))
    (sum (l.q + 1) (term a.x.now a.i a.y.now a.j a.stride))
next c =
    let l = (turn c).loop-q in
    let h = (turn c).requires in
    added l.q _ (λ q _. size_product_at h.3 h.4 _ _) (omega arith) l.invariant (product c).is

pub overflow_mul-total-in-loop-q : goal.overflow_mul-total-in-loop-q
overflow_mul-total-in-loop-q c = (product c).fits

pub overflow_add-total-in-loop-q-2 : goal.overflow_add-total-in-loop-q-2
overflow_add-total-in-loop-q-2 c = (next c).fits

pub loop-q-preserved : goal.loop-q-preserved
loop-q-preserved c = (next c).is

pub returns : goal.returns
returns c = let e : c.loop-q.q ≡ c.args.count = omega arith in rw e at c.loop-q.invariant
