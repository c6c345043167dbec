use Prim.Native.Nat.{◌+◌}
use mathlib.Core.Path.{refl}
use native.Mathlib.Omega.{arith}
use borrow.Author.Tests.{eq-eqb, ne_eqb}
use Rattle.primal.proofs.Lengths.{count_fits}
use Rattle.solver.specs.Solving.{solving_on}
use Rattle.solver.proofs.solve_on.Goals as goal

pub overflow_mul-horizon : goal.overflow_mul-horizon
overflow_mul-horizon c =
    let t = c.args.t.now in
    let l = c.requires in
    count_fits t.horizon (t.n + t.m) l.steps.1 (omega arith)

pub returns-then-plan-horizon : goal.returns-then-plan-horizon
unfolding solving_on
returns-then-plan-horizon c = rw (ne_eqb _ _ c.if-plan-horizon.true) (record { value = refl; plan_after = refl; multipliers_after = refl })

pub returns-then-multipliers-horizon : goal.returns-then-multipliers-horizon
unfolding solving_on
returns-then-multipliers-horizon c = rw (eq-eqb _ _ c.if-plan-horizon.false, ne_eqb _ _ c.if-multipliers-horizon.true) (record { value = refl; plan_after = refl; multipliers_after = refl })

pub returns : goal.returns
unfolding solving_on
returns c = rw (eq-eqb _ _ c.if-plan-horizon.false, eq-eqb _ _ c.if-multipliers-horizon.false, c.run_rounds-outcome.ensures.t_value) c.hand_over.ensures
