-- Padded arrays that hold the lent numbers have their floor and their cost.
use Prim.Native.Nat.{ℕ}
use mathlib.Core.Path.{◌≡◌}
use mathlib.Core.List.{List}
use lib.IntN.{ℤ}
use Rattle.tape.specs.declared.Tape.{Tape}
use Rattle.tape.specs.Legal.{Legal}
use Rattle.problem.specs.Model.{Plan, problem_of}
use Rattle.problem.specs.Cost.{plan_cost}
use Rattle.problem.specs.Dual.{floor}
use Rattle.problem.proofs.Congruence.{floor_cong, cost_cong}
use Rattle.primal.specs.Padded.{padded, padded_plan}
use Rattle.primal.specs.Held.{HeldMultipliers, HeldPlan}

module _ (t : Tape) (legal : Legal t) where
  pub floor-held : {y : ℕ → ℕ → ℤ} {l : List ℤ} → HeldMultipliers t.n t.horizon y l → floor (problem_of t) (padded l) ≡ floor (problem_of t) y
  floor-held {y} {l} h = floor_cong (problem_of t) (padded l) y legal.steps.0 h.same

  pub cost-held : {v : Plan} {l : List ℤ} → HeldPlan t.n t.m t.horizon v l → plan_cost (problem_of t) (padded_plan l) ≡ plan_cost (problem_of t) v
  cost-held {v} {l} h = cost_cong (problem_of t) (padded_plan l) v h.input h.state
