use mathlib.Core.List.{[]}
use native.Mathlib.Omega.{arith}
use lib.IntN.{pos, ◌+ℤ◌, ◌-ℤ◌, ◌*ℤ◌}
use Rattle.integer.proofs.Sizes.{called, back, Formed, formed}
use Rattle.problem.specs.Dual.{constant, sizes}
use Rattle.primal.specs.Padded.{padded, padded_problem}
use Rattle.dual.proofs.FloorSizes.{size-constant, size_offset}
use Rattle.dual.proofs.floor.offset.Goals as goal

first : (c : goal.After-started) →
    let a = c.args in
    Formed (back c.drifts.result +ℤ back c.started.result)
    (constant (padded_problem a.horizon a.a.now [] a.drift.now a.start.now []) (padded a.y.now))
unfolding constant
first c =
    let d = c.drifts in
    let s = c.started in
    let h = c.requires in
    formed (rw (called d.result d.type_inv, d.ensures, called s.result s.type_inv, s.ensures))
    (size-constant c.args.horizon h.0 h.1 h.2 h.3 h.4) (omega arith)

whole : (c : goal.After-allowance) →
    let a = c.args in
    Formed (back (back c.drifts.result +ℤ back c.started.result) -ℤ back c.allowance.result)
    (constant (padded_problem a.horizon a.a.now [] a.drift.now a.start.now []) (padded a.y.now)
    -ℤ pos 2048 *ℤ sizes 6 a.horizon (padded a.y.now))
whole c =
    let s = c.before.before.before in
    let h = s.requires in
    let f = c.allowance in
    formed (rw ((first c.before).is, called f.result f.type_inv, f.ensures))
    (size_offset s.args.horizon h.0 h.1 h.2 h.3 h.4) (omega arith)

pub overflow_add-result : goal.overflow_add-result
overflow_add-result c = (first c).fits

pub overflow_sub-result : goal.overflow_sub-result
overflow_sub-result c = (whole c).fits

pub returns : goal.returns
returns c = (whole c).is
