-- The residuals, each times its multiplier, sum to the plan's numbers, each times its slope, and the constant. A law over any
-- functions of step and index: it says nothing of the model's rounding, of limits or of costs.
use Prim.Native.Nat.{ℕ, zero, suc, ◌+◌, ◌<◌, ◌≤◌}
use mathlib.Core.Path.{◌≡◌, sym, ◌∙◌, ap, ap₂}
use mathlib.Core.Bool.{Bool, cond}
use native.Mathlib.Numerals.{add-one}
use native.Mathlib.Omega.{arith}
use lib.IntN.{ℤ, pos, negsuc, ◌+ℤ◌, ◌-ℤ◌, ◌*ℤ◌, +ℤ_idr, zero-*ℤ}
use borrow.Author.Tests.{lt-ltb, le-ltb}
use Rattle.integer.specs.Sum.{sum}
use Rattle.integer.proofs.Ring.{ring, con, K, ◌⊕◌, ◌⊖◌, ◌⊗◌, ◌≐◌}
use Rattle.integer.proofs.Sum.{sum_last, sum_first, sum_cong, sum_zero, sum-add, sum_transpose}
use Rattle.problem.specs.Model.{state_at, model_sum}
use Rattle.problem.specs.Cost.{total}
use Rattle.problem.specs.Dual.{input_slope, adjoint, carried, state_slope}

module _ (n m : ℕ) (A B : ℕ → ℕ → ℤ) (w start : ℕ → ℤ) (u x y : ℕ → ℕ → ℤ) where
  -- the parts of step k: of the states before it, of its inputs, of the drift, and of the states after it
  abbrev before : ℕ → ℤ
  before k = sum n (λ i. adjoint n A y k i *ℤ state_at start x k i)

  abbrev inputs : ℕ → ℤ
  inputs k = sum m (λ j. input_slope n B y k j *ℤ u k j)

  abbrev drift : ℕ → ℤ
  drift k = sum n (λ i. y k i *ℤ w i)

  abbrev after : ℕ → ℤ
  after k = sum n (λ i. negsuc 4095 *ℤ y k i *ℤ x k i)

  -- the two sums in S
  abbrev from_states : ℕ → ℕ → ℤ
  from_states k i = sum n (λ j. A i j *ℤ state_at start x k j)

  abbrev from_inputs : ℕ → ℕ → ℤ
  from_inputs k i = sum m (λ j. B i j *ℤ u k j)

  of_step : (k : ℕ) → sum n (λ i. y k i *ℤ (model_sum n m A B w (state_at start x k) (u k) i -ℤ pos 4096 *ℤ x k i))
      ≡ before k +ℤ (inputs k +ℤ (drift k +ℤ after k))
  unfolding model_sum input_slope adjoint
  of_step k =
      sum_cong n _ _
      (λ i h. ring 5 (λ y a b w x. y ⊗ (a ⊕ b ⊕ w ⊖ K 4096 ⊗ x) ≐ y ⊗ a ⊕ (y ⊗ b ⊕ (y ⊗ w ⊕ con (negsuc 4095) ⊗ y ⊗ x))) tt
      (y k i) (from_states k i) (from_inputs k i) (w i) (x k i))
      ∙ sum-add n (λ i. y k i *ℤ from_states k i) _
      ∙ ap₂ (λ (p q : ℤ). p +ℤ q) (sum_transpose n n (y k) (state_at start x k) A)
      (sum-add n (λ i. y k i *ℤ from_inputs k i) _
      ∙ ap₂ (λ (p q : ℤ). p +ℤ q) (sum_transpose n m (y k) (u k) B) (sum-add n (λ i. y k i *ℤ w i) (λ i. negsuc 4095 *ℤ y k i *ℤ x k i)))

  -- the states of step k, as the step after it takes them up: none does after the last step
  abbrev taken : ℕ → ℕ → ℤ
  taken N k = sum n (λ i. carried n N A y k i *ℤ x k i)

  taken_next : (N k : ℕ) → k + 1 < N → taken N k ≡ before (k + 1)
  unfolding carried state_at
  taken_next N k h =
      sum_cong n _ _
      (λ i l. ap₂ (λ (p q : ℤ). p *ℤ q) (ap (λ (t : Bool). cond t (adjoint n A y (k + 1) i) (pos 0)) (lt-ltb (k + 1) N h))
      (ap (λ (j : ℕ). state_at start x j i) (sym (add-one k))))

  taken_last : (M : ℕ) → taken (M + 1) M ≡ pos 0
  unfolding carried
  taken_last M = sum_zero n _ (λ i h. simp (le-ltb (M + 1) (M + 1) (omega arith), zero-*ℤ))

  taken-sum : (M : ℕ) → before 0 +ℤ sum (M + 1) (taken (M + 1)) ≡ sum (M + 1) before
  taken-sum M =
      ap (λ (z : ℤ). before 0 +ℤ z)
      (sum_last M (taken (M + 1)) ∙ ap₂ (λ (p q : ℤ). p +ℤ q) (sum_cong M _ _ (λ k h. taken_next (M + 1) k (omega arith))) (taken_last M)
      ∙ +ℤ_idr (sum M (λ k. before (k + 1))))
      ∙ sym (sum_first M before)

  slopes_sum : (N k : ℕ) → sum n (λ i. state_slope n N A y k i *ℤ x k i) ≡ after k +ℤ taken N k
  unfolding state_slope
  slopes_sum N k =
      sum_cong n _ _ (λ i h. ring 3 (λ a b c. (a ⊕ b) ⊗ c ≐ a ⊗ c ⊕ b ⊗ c) tt (negsuc 4095 *ℤ y k i) (carried n N A y k i) (x k i))
      ∙ sum-add n (λ i. negsuc 4095 *ℤ y k i *ℤ x k i) _

  lagrangian_from : (M : ℕ) →
      sum (M + 1) (λ k. sum n (λ i. y k i *ℤ (model_sum n m A B w (state_at start x k) (u k) i -ℤ pos 4096 *ℤ x k i)))
      ≡ total n m (M + 1) (λ k j. input_slope n B y k j *ℤ u k j) (λ k i. state_slope n (M + 1) A y k i *ℤ x k i)
      +ℤ (sum (M + 1) drift +ℤ sum n (λ j. adjoint n A y 0 j *ℤ start j))
  unfolding total state_at
  lagrangian_from M =
      let N = M + 1 in
      sum_cong N _ _ (λ k h. of_step k)
      ∙ sum-add N before _ ∙ ap (λ (z : ℤ). sum N before +ℤ z) (sum-add N inputs _ ∙ ap (λ (z : ℤ). sum N inputs +ℤ z) (sum-add N drift after))
      ∙ ap (λ (z : ℤ). z +ℤ (sum N inputs +ℤ (sum N drift +ℤ sum N after))) (sym (taken-sum M))
      ∙ ring 5 (λ b t i d a. (b ⊕ t) ⊕ (i ⊕ (d ⊕ a)) ≐ (i ⊕ (a ⊕ t)) ⊕ (d ⊕ b)) tt (before 0) (sum N (taken N)) (sum N inputs) (sum N drift) (sum N after)
      ∙ ap (λ (z : ℤ). z +ℤ (sum N drift +ℤ before 0))
      (ap (λ (z : ℤ). sum N inputs +ℤ z) (sym (sum-add N after (taken N)) ∙ sum_cong N _ _ (λ k h. sym (slopes_sum N k)))
      ∙ sym (sum-add N inputs (λ k. sum n (λ i. state_slope n N A y k i *ℤ x k i))))

  pub lagrangian : (N : ℕ) → 1 ≤ N →
      sum N (λ k. sum n (λ i. y k i *ℤ (model_sum n m A B w (state_at start x k) (u k) i -ℤ pos 4096 *ℤ x k i)))
      ≡ total n m N (λ k j. input_slope n B y k j *ℤ u k j) (λ k i. state_slope n N A y k i *ℤ x k i)
      +ℤ (sum N drift +ℤ sum n (λ j. adjoint n A y 0 j *ℤ start j))
  lagrangian zero h = let z : ⊥ = omega arith in absurd z
  lagrangian (suc M) h = rw (← add-one M) (lagrangian_from M)
