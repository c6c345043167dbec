-- The floor by costs and residuals. For any numbers v: their cost, and the sum of y e − 2048 |y| over their residuals e, is the floor and
-- the slacks of v. So it is no less than the floor where v keeps to its limits, and it is nearest to the floor at the minimisers.
use Prim.Native.Nat.{ℕ, ◌<◌, ◌≤◌}
use mathlib.Core.Path.{◌≡◌, ◌∙◌, ap, subst}
use native.Mathlib.Omega.{arith}
use lib.IntN.{ℤ, pos, nat_abs, ◌+ℤ◌, ◌-ℤ◌, ◌*ℤ◌}
use Rattle.integer.specs.Order.{◌≼◌}
use Rattle.integer.specs.Sum.{sum}
use Rattle.integer.proofs.Parts.{plus, times}
use Rattle.integer.proofs.Ring.{ring, K, ◌⊕◌, ◌⊖◌, ◌⊗◌, ◌≐◌}
use Rattle.integer.proofs.Order.{order}
use Rattle.integer.proofs.Sum.{sum_cong, sum-mul, sum-sub}
use Rattle.problem.specs.declared.Term.{Term}
use Rattle.problem.specs.Model.{Problem, Plan, residual}
use Rattle.problem.specs.Cost.{plan_cost, Within}
use Rattle.problem.specs.Rival.{finer_term}
use Rattle.problem.specs.Dual.{input_slope, state_slope, sizes, floor}
use Rattle.problem.proofs.Bound.{Sound, u_slack, x_slack, slacks, gap-sum}
use Rattle.problem.proofs.Piece.{slack_nonneg}
use Rattle.problem.proofs.Total.{total_nonneg}
use Rattle.problem.proofs.Whole.{finer_one}

within_one : (t : Term) {z : ℤ} → Within t z → Within (finer_term (pos 1) t) z
within_one t h = (omega (arith, order, times (pos 1) t.low), omega (arith, order, times (pos 1) t.high))

module _ (q : Problem) (y : ℕ → ℕ → ℤ) (v : Plan) where
  abbrev pub pulls : ℤ
  pulls = sum q.horizon (λ k. sum q.n (λ i. y k i *ℤ residual q v k i -ℤ pos 2048 *ℤ pos (nat_abs (y k i))))

  abbrev pub upper : ℤ
  upper = plan_cost q v +ℤ pulls

  abbrev residuals : ℤ
  residuals = sum q.horizon (λ k. sum q.n (λ i. y k i *ℤ residual q v k i))

  pulls_sum : pulls ≡ residuals -ℤ pos 2048 *ℤ sizes q.n q.horizon y
  unfolding sizes
  pulls_sum =
      sum_cong q.horizon _ _
      (λ k _. sum-sub q.n _ _ ∙ ap (λ (z : ℤ). sum q.n (λ i. y k i *ℤ residual q v k i) -ℤ z) (sum-mul q.n (pos 2048) (λ i. pos (nat_abs (y k i)))))
      ∙ sum-sub q.horizon _ _ ∙ ap (λ (z : ℤ). residuals -ℤ z) (sum-mul q.horizon (pos 2048) (λ k. sum q.n (λ i. pos (nat_abs (y k i)))))

  -- the floor identity; its last sum are the slacks
  pub upper_is : 1 ≤ q.horizon → upper ≡ floor q y +ℤ slacks q y (pos 1) v
  upper_is stepped =
      let slack = slacks q y (pos 1) v in
      let least = floor q y in
      let allowed = sizes q.n q.horizon y in
      let whole : plan_cost q v -ℤ pos 1 *ℤ pos 1 *ℤ least ≡ slack +ℤ pos 1 *ℤ (pos 2048 *ℤ pos 1 *ℤ allowed -ℤ residuals) =
      subst
      (λ (p : Problem). plan_cost p v -ℤ pos 1 *ℤ pos 1 *ℤ least
      ≡ slack +ℤ pos 1 *ℤ (pos 2048 *ℤ pos 1 *ℤ allowed -ℤ sum q.horizon (λ k. sum q.n (λ i. y k i *ℤ residual p v k i)))) (finer_one q)
      (gap-sum q y (pos 1) v stepped)
      in
      ap (λ (z : ℤ). plan_cost q v +ℤ z) pulls_sum
      ∙ ring 4 (λ c f e a. c ⊕ (e ⊖ K 2048 ⊗ a) ≐ (c ⊖ K 1 ⊗ K 1 ⊗ f) ⊕ (f ⊕ (e ⊖ K 2048 ⊗ a))) tt (plan_cost q v) least residuals allowed
      ∙ ap (λ (z : ℤ). z +ℤ (least +ℤ (residuals -ℤ pos 2048 *ℤ allowed))) whole
      ∙ ring 4 (λ s f e a. (s ⊕ K 1 ⊗ (K 2048 ⊗ K 1 ⊗ a ⊖ e)) ⊕ (f ⊕ (e ⊖ K 2048 ⊗ a)) ≐ f ⊕ s) tt slack least residuals allowed

  pub floor-below_upper : Sound q → ((k j : ℕ) → k < q.horizon → j < q.m → Within (q.input_term k j) (v.u k j)) →
      ((k i : ℕ) → k < q.horizon → i < q.n → Within (q.state_term k i) (v.x k i)) → floor q y ≼ upper
  floor-below_upper ok inputs states =
      let one : pos 0 ≼ pos 1 = omega (arith, order) in
      let a =
      total_nonneg q.n q.m q.horizon (u_slack q y (pos 1) v) (x_slack q y (pos 1) v)
      (λ k j h l. slack_nonneg (pos 1) (q.input_term k j) (input_slope q.n q.B y k j) (v.u k j) (ok.inputs k j l) one (within_one (q.input_term k j) (inputs k j h l)))
      (λ k i h l. slack_nonneg (pos 1) (q.state_term k i) (state_slope q.n q.horizon q.A y k i) (v.x k i) (ok.states k i l) one (within_one (q.state_term k i) (states k i h l)))
      in
      rw (upper_is ok.stepped) (omega (arith, order, plus (floor q y) (slacks q y (pos 1) v)))
