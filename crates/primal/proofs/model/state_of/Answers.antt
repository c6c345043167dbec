use mathlib.Core.Path.{◌∙◌}
use native.Mathlib.Omega.{arith}
use native.Mathlib.Nat.{le_refl, le_trans}
use mir.Facts.{to_z-of_z}
use Rattle.integer.proofs.Sizes.{called, fits_by, size-add}
use Rattle.problem.specs.Model.{rounded}
use Rattle.primal.proofs.model.state_of.Goals as goal

pub overflow_add-s : goal.overflow_add-s
overflow_add-s c = rw (to_z-of_z c.ranges.s) (fits_by _ (size-add c.args.s _ (le_refl _) (le_refl _)) (omega arith))

pub lifted_quotient-requires : goal.lifted_quotient-requires
lifted_quotient-requires c =
    rw (to_z-of_z (overflow_add-s c), to_z-of_z c.ranges.s)
    (omega arith, omega arith, le_trans (size-add c.args.s _ (le_refl _) (le_refl _)) (omega arith))

pub returns : goal.returns
unfolding rounded
returns c =
    called c.lifted_quotient.result c.lifted_quotient.type_inv
    ∙ rw (to_z-of_z (overflow_add-s c.before), to_z-of_z c.ranges.s) at c.lifted_quotient.ensures
