use mathlib.Core.Path.{◌∙◌}
use Rattle.integer.proofs.Sizes.{called}
use Rattle.problem.specs.Dual.{floor}
use Rattle.primal.specs.Padded.{padded}
use Rattle.primal.proofs.Padding.{padded_tape}
use Rattle.dual.proofs.FloorPadding.{floor-padded}
use Rattle.judge.proofs.tape_floor.Goals as goal

-- the padded problem's floor is the tape's
pub returns : goal.returns
returns c =
    let a = c.args in
    let h = c.requires in
    let f = c.floor_of in
    ◌∙◌ {b = f.result} (called f.result f.type_inv)
    (◌∙◌ {b = floor (padded_tape a.t.now a.terms.now) (padded a.y.now)} f.ensures
    (floor-padded a.t.now h.legal.0 a.terms.now h.legal.1 (padded a.y.now) h.bounded.1.each))
