use Prim.Native.Nat.{◌*◌}
use mathlib.Core.Path.{◌≡◌}
use native.Mathlib.Omega.{arith}
use mir.Facts.{to_z-of_z}
use Rattle.integer.proofs.Places.{stretch_none}
use Rattle.integer.proofs.Sizes.{back, element_is}
use Rattle.steps.specs.Steps.{ahead}
use Rattle.steps.proofs.Combined.{combined_more}
use Rattle.steps.proofs.arrays.multipliers_ahead.Goals as goal
use Rattle.steps.proofs.arrays.multipliers_ahead.Tie as tie
use Rattle.steps.proofs.arrays.multipliers_ahead.Reads as reads
use Rattle.steps.proofs.arrays.multipliers_ahead.Lts as lts

pub loop-p-init : goal.loop-p-init
loop-p-init c = stretch_none _ _ _

abbrev turn : goal.After-ahead_of-arg-in-loop-p-1 → lts.In-loop tie.the-claims reads.Pre reads.Post goal.the-invariant-loop-p goal.the-decreases-loop-p
turn c = c.before.before

pub ahead_of-requires : goal.ahead_of-requires
ahead_of-requires c =
    let p = (turn c).loop-p.p in
    let h = (turn c).requires in
    rw (to_z-of_z (turn c).ranges.k, element_is h.3 (omega arith) p, element_is h.4 (omega arith) p)
    (h.0, h.1, h.3.each p, h.4.each p)

pub loop-p-preserved : goal.loop-p-preserved
loop-p-preserved c =
    let l = (turn c.before).loop-p in
    let s = (turn c.before).before.before in
    let h = s.requires in
    let r = c.ahead_of in
    combined_more (ahead (back s.args.k)) h.3 (omega arith) h.4 (omega arith) l.p r.result (omega (arith, h.5)) l.invariant r.type_inv r.ensures

pub returns : goal.returns
returns c =
    let e : c.loop-p.p ≡ 6 * c.args.horizon = omega arith in
    rw (e, to_z-of_z c.ranges.k) at c.loop-p.invariant
