-- The theorem of demand 3. For every accepted tape and any multipliers, no rival costs less than the floor: so an accepted plan's
-- cost less its gap is at most that of every rival, and where the floor exceeds the ceiling there is no rival. Numbers of a rival are in
-- units of 1/D, its cost in units of 1/D², for any whole D from 1.
use Prim.Native.Nat.{ℕ, ◌+◌}
use mathlib.Core.Path.{◌≡◌}
use mathlib.Core.Bool.{true}
use mathlib.Core.List.{List}
use native.Mathlib.Omega.{arith}
use lib.IntN.{ℤ, pos, ◌-ℤ◌, ◌*ℤ◌}
use Rattle.integer.specs.Order.{◌≼◌}
use Rattle.integer.specs.Places.{at}
use Rattle.integer.proofs.Parts.{times}
use Rattle.integer.proofs.Ring.{ring, ◌⊖◌, ◌≐◌}
use Rattle.integer.proofs.Order.{order}
use Rattle.tape.specs.declared.Tape.{Tape}
use Rattle.tape.specs.Legal.{Legal}
use Rattle.problem.specs.Model.{problem_of, multipliers_of}
use Rattle.problem.specs.Cost.{square, cost_of}
use Rattle.problem.specs.Rival.{Rival, rival_cost}
use Rattle.problem.specs.Dual.{floor_of, gap_of, ceiling, shows}
use Rattle.problem.proofs.Bound.{Sound, floor-below, cost-below, floor-below-ceiling}

module _ (t : Tape) (legal : Legal t) where
  pub sound : Sound (problem_of t)
  sound = record { stepped = legal.steps.0; inputs = λ k j _. from_zero (t.n + j); states = λ k i _. from_zero i }
    where
      from_zero : (c : ℕ) → pos 0 ≼ pos 4096 *ℤ at t.weight c
      from_zero c = let w = legal.weighed c in omega (arith, order, times (pos 4096) (at t.weight c))

  module _ (D : ℤ) (rival : List ℤ) (r : Rival (problem_of t) D rival) where
    -- the floor of any multipliers is at most the cost of every rival
    pub floor-below_rivals : (y : List ℤ) → square D *ℤ floor_of t y ≼ rival_cost (problem_of t) D rival
    floor-below_rivals y = floor-below (problem_of t) (multipliers_of t.n y) D sound rival r

    -- so no rival costs less than a plan's cost minus its gap
    pub gap-below_rivals : (plan y : List ℤ) → square D *ℤ (cost_of t plan -ℤ gap_of t plan y) ≼ rival_cost (problem_of t) D rival
    gap-below_rivals plan y = rw (ring 2 (λ k f. k ⊖ (k ⊖ f) ≐ f) tt (cost_of t plan) (floor_of t y)) (floor-below_rivals y)

    -- no rival costs more than the ceiling
    pub rivals_below-ceiling : rival_cost (problem_of t) D rival ≼ square D *ℤ ceiling (problem_of t)
    rivals_below-ceiling = cost-below (problem_of t) sound D rival r

    -- and multipliers that show impossibility leave none
    pub impossible : (y : List ℤ) → shows (problem_of t) (multipliers_of t.n y) ≡ true → ⊥
    impossible y shown =
        let c = floor-below-ceiling (problem_of t) sound D rival r (multipliers_of t.n y) in
        omega (arith, order)
