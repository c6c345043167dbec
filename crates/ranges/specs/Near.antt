-- Document 02, request 8: how near the numbers of a rival are that costs no more than an accepted plan.
use Rattle.std.specs.Prelude.{ℕ, ◌<◌, ℤ, pos, ◌+ℤ◌, ◌-ℤ◌, ◌*ℤ◌}
use Rattle.integer.specs.Order.{◌≼◌, ◌≺◌}
use Rattle.problem.specs.declared.Term.{Term}
use Rattle.problem.specs.Model.{Problem, Plan}
use Rattle.problem.specs.Cost.{square}
use Rattle.problem.specs.Dual.{input_slope, tilt, state_slope}

-- What a gap leaves to a number V, in units of 1/D, of a term with slope s and P above 0, by the piece that applies: P (V − D lo)² or
-- P (V − D hi)² is at most gap D², or (2P (V − D r) + D s)² at most 4P gap D².
pub record Near (t : Term) (s gap D v : ℤ) : Type 0 where
  pub first : pos 0 ≼ tilt t s t.low → t.penalty *ℤ square (v -ℤ D *ℤ t.low) ≼ gap *ℤ square D
  pub second : tilt t s t.low ≺ pos 0 → tilt t s t.high ≼ pos 0 → t.penalty *ℤ square (v -ℤ D *ℤ t.high) ≼ gap *ℤ square D
  pub third : tilt t s t.low ≺ pos 0 → pos 0 ≺ tilt t s t.high →
      square (pos 2 *ℤ t.penalty *ℤ (v -ℤ D *ℤ t.reference) +ℤ D *ℤ s) ≼ pos 4 *ℤ t.penalty *ℤ gap *ℤ square D

-- Every number of a plan in units of 1/D, its inputs u(k,j) and its states x(k+1,i), is near, with the slopes of the multipliers y. A
-- number of weight 0 may lie anywhere.
pub record AllNear (q : Problem) (y : ℕ → ℕ → ℤ) (gap D : ℤ) (v : Plan) : Type 0 where
  pub inputs : (k j : ℕ) → k < q.horizon → j < q.m → pos 1 ≼ (q.input_term k j).penalty →
      Near (q.input_term k j) (input_slope q.n q.B y k j) gap D (v.u k j)
  pub states : (k i : ℕ) → k < q.horizon → i < q.n → pos 1 ≼ (q.state_term k i).penalty →
      Near (q.state_term k i) (state_slope q.n q.horizon q.A y k i) gap D (v.x k i)
