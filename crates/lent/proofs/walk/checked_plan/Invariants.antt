use mathlib.Core.Path.{◌≡◌}
use Rattle.std.specs.Prelude.{Ok}
use Rattle.problem.specs.Model.{problem_of, plan_of}
use Rattle.primal.specs.Held.{HeldPlan}
use Rattle.lent.specs.Checks.{first, step_check}
use Rattle.lent.proofs.walk.checked_plan.Given as goal

abbrev pub invariant-loop-k : goal.invariant-loop-k
invariant-loop-k l =
    (first l.k (step_check (problem_of l.t) (plan_of l.t.n l.t.m l.plan)) ≡ Ok tt) × HeldPlan l.t.n l.t.m l.k (plan_of l.t.n l.t.m l.plan) l.v
