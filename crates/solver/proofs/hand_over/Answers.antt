use mathlib.Core.Path.{◌≡◌, refl}
use borrow.Author.Rules.{rules}
use Rattle.integer.proofs.Sizes.{back}
use Rattle.solver.proofs.hand_over.Goals as goal

pub returns-in-Proved : goal.returns-in-Proved
returns-in-Proved c =
    let e = c.in-Proved in
    let z : back e.gap ≡ e.gap = search rules in
    rw (e.is, z, c.first_duties-first.ensures)
    (record { value = refl; plan_after = c.write_plan.ensures; multipliers_after = c.write_multipliers.ensures })

pub returns-in-Impossible : goal.returns-in-Impossible
returns-in-Impossible c =
    rw c.in-Impossible.is (record { value = refl; plan_after = refl; multipliers_after = c.write_multipliers-in-Impossible.ensures })

pub returns-in-Open : goal.returns-in-Open
returns-in-Open c = rw c.in-Open.is (record { value = refl; plan_after = refl; multipliers_after = refl })
