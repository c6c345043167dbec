-- The theorem of request 8: of every rival that costs no more than a plan, each number of weight above 0 is near, by the gap of that plan.
use Prim.Native.Nat.{ℕ}
use mathlib.Core.List.{List}
use native.Mathlib.Omega.{arith}
use lib.IntN.{ℤ, pos, ◌+ℤ◌, ◌-ℤ◌, ◌*ℤ◌}
use Rattle.integer.specs.Order.{◌≼◌, ◌≺◌}
use Rattle.integer.proofs.Parts.{minus, times}
use Rattle.integer.proofs.Ring.{ring, K, ◌⊖◌, ◌⊗◌, ◌≐◌}
use Rattle.integer.proofs.Order.{order, le_trans, diff_nonneg, diff_nonpos, mul_nonneg, mul_nonpos, mul-le}
use Rattle.integer.proofs.Tests.{at_most, not_at-most}
use Rattle.problem.specs.declared.Term.{Term}
use Rattle.problem.specs.Model.{Problem, Plan, plan_of}
use Rattle.problem.specs.Cost.{square, cost, Within}
use Rattle.problem.specs.Rival.{finer_term, Rival, rival_cost}
use Rattle.problem.specs.Dual.{conjugate, tilt, piece, floor}
use Rattle.problem.proofs.Total.{input-below, state-below}
use Rattle.problem.proofs.Piece.{over, slack, above, between}
use Rattle.problem.proofs.Bound.{Sound, slacks, u_slack_nonneg, x_slack_nonneg, slacks_most}
use Rattle.ranges.specs.Near.{Near, AllNear}

-- ---- One number: its slack is at least its square over the divisor

module _ (t : Term) (s gap D v : ℤ) (weighed : pos 1 ≼ t.penalty) (some : pos 0 ≼ D) (within : Within (finer_term D t) v)
    (small : slack D t s v ≼ gap *ℤ square D) where
  -- by the piece that applies, z
  abbrev Small : ℤ → Type 0
  Small z = over D t s v z ≼ gap *ℤ square D

  on_first : pos 0 ≼ tilt t s t.low → Small (cost t t.low +ℤ s *ℤ t.low)
  unfolding piece
  on_first h = rw (not_at-most t.penalty (pos 0) (omega (arith, order)), at_most _ _ h) at small

  on_second : tilt t s t.low ≺ pos 0 → tilt t s t.high ≼ pos 0 → Small (cost t t.high +ℤ s *ℤ t.high)
  unfolding piece
  on_second l h = rw (not_at-most t.penalty (pos 0) (omega (arith, order)), not_at-most _ _ l, at_most _ _ h) at small

  on_third : tilt t s t.low ≺ pos 0 → pos 0 ≺ tilt t s t.high → Small (s *ℤ t.reference -ℤ conjugate t.penalty s)
  unfolding piece
  on_third l h = rw (not_at-most t.penalty (pos 0) (omega (arith, order)), not_at-most _ _ l, not_at-most _ _ h) at small

  pub slack_near : Near t s gap D v
  unfolding tilt
  slack_near = record {
    first = λ h. le_trans (above D t s v t.low some (mul_nonneg (diff_nonneg within.0) h)) (on_first h);
    second = λ l h. le_trans (above D t s v t.high some (mul_nonpos (diff_nonpos within.1) h)) (on_second l h);
    third = λ l h.
        le_trans (between D t s v weighed)
        (rw (ring 3 (λ p g d. K 4 ⊗ p ⊗ g ⊗ d ≐ K 4 ⊗ p ⊗ (g ⊗ d)) tt t.penalty gap (square D))
        (mul-le (pos 4 *ℤ t.penalty) (omega (arith, order, times (pos 4) t.penalty)) (on_third l h)));
  }

-- ---- All numbers: no slack is below 0, and together they are at most the gap

module _ (q : Problem) (ok : Sound q) (y : ℕ → ℕ → ℤ) (D : ℤ) (rival : List ℤ) (f : Rival q D rival) (cost : ℤ)
    (cheap : rival_cost q D rival ≼ square D *ℤ cost) where
  abbrev v : Plan
  v = plan_of q.n q.m rival

  abbrev gap : ℤ
  gap = cost -ℤ floor q y

  some : pos 0 ≼ D
  some = let o = f.from_one in omega (arith, order)

  slacks_gap : slacks q y D v ≼ gap *ℤ square D
  slacks_gap =
      rw (ring 3 (λ c f d. (c ⊖ f) ⊗ d ≐ d ⊗ c ⊖ d ⊗ f) tt cost (floor q y) (square D))
      (let h = slacks_most q y D ok rival f in
      omega (arith, order, minus (rival_cost q D rival) (square D *ℤ floor q y), minus (square D *ℤ cost) (square D *ℤ floor q y)))

  pub rival_near : AllNear q y gap D v
  rival_near = record {
    inputs = λ k j h l w.
        slack_near (q.input_term k j) _ gap D (v.u k j) w some (f.inputs-within k j h l)
        (le_trans (input-below q.n q.m q.horizon _ _ (u_slack_nonneg q y D ok rival f) (x_slack_nonneg q y D ok rival f) k j h l) slacks_gap);
    states = λ k i h l w.
        slack_near (q.state_term k i) _ gap D (v.x k i) w some (f.states-within k i h l)
        (le_trans (state-below q.n q.m q.horizon _ _ (u_slack_nonneg q y D ok rival f) (x_slack_nonneg q y D ok rival f) k i h l) slacks_gap);
  }
