-- The ranges of the first duties of an accepted plan.
use Rattle.std.specs.Prelude.{ℕ, zero, suc, ◌<◌, cond, List, ltb, ℤ, pos, ◌*ℤ◌, Result, Ok, Err}
use Rattle.integer.specs.Order.{◌≼◌}
use Rattle.tape.specs.declared.Tape.{Tape}
use Rattle.tape.specs.declared.refusal.Refusal.{Refusal}
use Rattle.tape.specs.Reading.{reading}
use Rattle.problem.specs.Model.{problem_of, plan_of, multipliers_of}
use Rattle.problem.specs.Cost.{square, cost_of}
use Rattle.problem.specs.Rival.{Rival, rival_cost}
use Rattle.problem.specs.Dual.{input_slope, gap_of}
use Rattle.judge.specs.Judging.{judged}
use Rattle.ranges.specs.declared.Ranges.{Ranges}
use Rattle.ranges.specs.declared.range.Range.{Range}
use Rattle.ranges.specs.Near.{AllNear}
use Rattle.ranges.specs.Range.{range_of, Inside}

-- The range of u(0,j), with the slope of the multipliers y; 0 to 0 beyond m.
unfoldable pub duty_range : Tape → (ℕ → ℕ → ℤ) → ℤ → ℕ → Range
duty_range t y gap j =
    cond (ltb j t.m) (range_of ((problem_of t).input_term 0 j) (input_slope t.n (problem_of t).B y 0 j) gap)
    (record { low = pos 0; high = pos 0 })

-- Of lent multipliers.
abbrev pub first_ranges : Tape → List ℤ → ℤ → Ranges
first_ranges t y gap =
    let range : ℕ → Range = duty_range t (multipliers_of t.n y) gap in
    record { u0 = range 0; u1 = range 1; u2 = range 2; u3 = range 3 }

-- Where judging gives a gap, the ranges by it; else its refusal.
abbrev pub ranged_by : Result ℤ Refusal → Tape → List ℤ → Result Ranges Refusal
ranged_by (Ok gap) t y = Ok (first_ranges t y gap)
ranged_by (Err why) t y = Err why

unfoldable pub ranges_of : List ℕ → List ℤ → List ℤ → Result Ranges Refusal
ranges_of s plan y = ranged_by (judged s plan y) (reading s).tape y

-- ---- What the ranges say

abbrev pub range_at : Ranges → ℕ → Range
range_at ranges zero = ranges.u0
range_at ranges (suc zero) = ranges.u1
range_at ranges (suc (suc zero)) = ranges.u2
range_at ranges (suc (suc (suc j))) = ranges.u3

-- A rival in units of 1/D that costs no more than the plan.
pub record AsCheap (t : Tape) (plan : List ℤ) (D : ℤ) (rival : List ℤ) : Type 0 where
  pub itself : Rival (problem_of t) D rival
  pub cost : rival_cost (problem_of t) D rival ≼ square D *ℤ cost_of t plan

-- Of each such rival every number is near, by the plan's gap, and the first duties lie in the ranges.
pub record NearPlan (t : Tape) (plan y : List ℤ) (ranges : Ranges) : Type 0 where
  pub near : (D : ℤ) (rival : List ℤ) → AsCheap t plan D rival →
      AllNear (problem_of t) (multipliers_of t.n y) (gap_of t plan y) D (plan_of t.n t.m rival)
  pub inside : (D : ℤ) (rival : List ℤ) → AsCheap t plan D rival → (j : ℕ) → j < t.m →
      Inside D (range_at ranges j) ((plan_of t.n t.m rival).u 0 j)

-- A plan that is accepted.
abbrev pub Bounding : Result Ranges Refusal → Tape → List ℤ → List ℤ → Type 0
Bounding (Ok ranges) t plan y = NearPlan t plan y ranges
Bounding (Err why) t plan y = Unit {0}
