use mathlib.Core.Path.{◌∙◌}
use native.Mathlib.Omega.{arith}
use mir.Facts.{to_z-of_z}
use Rattle.integer.proofs.Sizes.{called, back_is}
use Rattle.problem.specs.Cost.{cost}
use Rattle.primal.proofs.cost.term_cost.Goals as goal

pub returns : goal.returns
unfolding cost
returns c =
    let t = c.args.term in
    let g = c.requires.0 in
    called c.cost_of.result c.cost_of.type_inv
    ∙ rw (back_is t.penalty g.penalty (omega arith), back_is t.reference g.reference (omega arith), to_z-of_z c.ranges.v) at c.cost_of.ensures
