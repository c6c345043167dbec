use Prim.Native.Nat.{◌+◌, ◌*◌}
use mathlib.Core.Path.{◌≡◌}
use native.Mathlib.Omega.{arith}
use lib.IntN.{◌+ℤ◌}
use Rattle.integer.specs.Places.{at}
use Rattle.integer.proofs.Sizes.{wider, back, element_is, Formed, formed}
use Rattle.integer.proofs.Places.{stretch_none, stretch_store}
use Rattle.primal.specs.Padded.{input_matrix}
use Rattle.primal.proofs.ProductSizes.{dotted}
use Rattle.passes.specs.Sums.{forcing}
use Rattle.passes.proofs.SumSizes.{size-forcing}
use Rattle.passes.proofs.forced.force_step.Goals as goal
use Rattle.passes.proofs.forced.force_step.Tie as tie
use Rattle.passes.proofs.forced.force_step.Reads as reads
use Rattle.passes.proofs.forced.force_step.Lts as lts

pub loop-i-init : goal.loop-i-init
loop-i-init c = stretch_none _ _ _

pub dot-requires : goal.dot-requires
dot-requires c =
    let h = c.requires in (
      omega arith,
      omega (arith, c.dot-arg-1.given),
      record { each = λ q l. omega (arith, c.dot-arg-in-loop-i-1.given) },
      wider h.2 (omega arith),
      wider h.4 (omega arith),
    )

abbrev turn : goal.After-forced-1 → lts.In-loop tie.the-claims reads.Pre reads.Post goal.the-invariant-loop-i goal.the-decreases-loop-i
turn c = c.before.before.before.before

next : (c : goal.After-forced-1) →
    let a = (turn c).args in
    let i = (turn c).loop-i.i in
    Formed (back c.dot.result +ℤ back (at a.drift.now i)) (forcing a.b.now a.drift.now a.v.now a.k i)
next c =
    let a = (turn c).args in
    let h = (turn c).requires in
    let i = (turn c).loop-i.i in
    let f = c.dot in
    let inputs = dotted 4 (input_matrix a.b.now i) a.v.now (λ j. 10 * a.k + j) f.type_inv f.ensures (λ j. omega arith) in
    formed (rw (inputs, element_is h.3 (omega arith) i)) (size-forcing h.2 h.3 h.4 a.k i) (omega arith)

pub overflow_add-forced : goal.overflow_add-forced
overflow_add-forced c = (next c).fits

pub loop-i-preserved : goal.loop-i-preserved
loop-i-preserved c = stretch_store _ _ _ _ _ _ (omega arith) (turn c).loop-i.invariant (next c).is

pub returns : goal.returns
returns c = let e : c.loop-i.i ≡ 6 = omega arith in rw e at c.loop-i.invariant
