use lib.IntN.{◌+ℤ◌}
use Rattle.integer.specs.Places.{Bounded}
use Rattle.integer.proofs.Sizes.{back, Formed}
use Rattle.problem.specs.Dual.{constant, floor}
use Rattle.primal.specs.Padded.{padded, padded_problem}
use Rattle.dual.specs.Slopes.{most_slope}
use Rattle.dual.proofs.FloorSizes.{floor_formed}
use Rattle.dual.proofs.SlopeSizes.{slopes_bounded}
use Rattle.dual.proofs.floor.floor_of.Goals as goal
use Rattle.dual.proofs.floor.floor_of.Tie as tie
use Rattle.dual.proofs.floor.floor_of.Reads as reads
use Rattle.dual.proofs.floor.floor_of.Lts as lts

bounded : (c : lts.After-slopes tie.the-claims reads.Pre reads.Post tie.handed_clauses) → Bounded most_slope c.slopes-s.result
bounded c = let h = c.requires in slopes_bounded c.args.horizon h.horizon_bound.1 h.horizon_bound.2 h.tables.1 c.slopes-s.ensures

total : (c : goal.After-offset) →
    let a = c.args in
    Formed (back c.pieces.result +ℤ back c.offset.result)
    (floor
    (padded_problem a.horizon a.a.now a.b.now a.drift.now a.start.now a.terms.now)
    (padded a.y.now))
unfolding constant
total c =
    let s = c.before.before.before.before in
    let h = s.requires in
    let p = c.pieces in
    let o = c.offset in
    floor_formed h.tables.0 s.args.horizon h.horizon_bound.0 h.horizon_bound.1 h.horizon_bound.2 h.horizon_bound.3 h.horizon_bound.4 h.tables.1 c.slopes-s.ensures
    p.type_inv p.ensures o.type_inv o.ensures

pub pieces-requires : goal.pieces-requires
pieces-requires c = let h = c.requires in (h.horizon_bound.0, h.tables.0, bounded c.before)

pub overflow_add-result : goal.overflow_add-result
overflow_add-result c = (total c).fits

pub returns : goal.returns
returns c = (total c).is
