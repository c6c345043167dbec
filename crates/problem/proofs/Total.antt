-- Sums over a plan's numbers.
use Prim.Native.Nat.{ℕ, zero, suc, ◌<◌}
use mathlib.Core.Path.{◌≡◌, sym, ◌∙◌, ap₂}
use native.Mathlib.Omega.{arith}
use native.Mathlib.Decide.{dec_le}
use lib.IntN.{ℤ, pos, ◌+ℤ◌, ◌-ℤ◌, ◌*ℤ◌}
use Rattle.integer.specs.Order.{◌≼◌}
use Rattle.integer.specs.Sum.{sum}
use Rattle.integer.proofs.Parts.{plus}
use Rattle.integer.proofs.Ring.{ring, mul-add, ◌⊕◌, ◌⊖◌, ◌≐◌}
use Rattle.integer.proofs.Order.{order, add-le, add_nonneg}
use Rattle.integer.proofs.Sum.{sum_cong, sum-add, sum-sub, sum-mul, sum-le}
use Rattle.problem.specs.Cost.{total}

module _ (n m horizon : ℕ) where
  pub total_cong : (f g f' g' : ℕ → ℕ → ℤ) → ((k j : ℕ) → k < horizon → j < m → f k j ≡ f' k j) →
      ((k i : ℕ) → k < horizon → i < n → g k i ≡ g' k i) → total n m horizon f g ≡ total n m horizon f' g'
  unfolding total
  total_cong f g f' g' a b =
      sum_cong horizon _ _ (λ k h. ap₂ (λ (p q : ℤ). p +ℤ q) (sum_cong m (f k) (f' k) (λ j. a k j h)) (sum_cong n (g k) (g' k) (λ i. b k i h)))

  pub total-add : (f g f' g' : ℕ → ℕ → ℤ) →
      total n m horizon (λ k j. f k j +ℤ f' k j) (λ k i. g k i +ℤ g' k i) ≡ total n m horizon f g +ℤ total n m horizon f' g'
  unfolding total
  total-add f g f' g' =
      sum_cong horizon _ _
      (λ k h. ap₂ (λ (p q : ℤ). p +ℤ q) (sum-add m (f k) (f' k)) (sum-add n (g k) (g' k))
      ∙ ring 4 (λ a b c d. (a ⊕ b) ⊕ (c ⊕ d) ≐ (a ⊕ c) ⊕ (b ⊕ d)) tt (sum m (f k)) (sum m (f' k)) (sum n (g k)) (sum n (g' k)))
      ∙ sum-add horizon (λ k. sum m (f k) +ℤ sum n (g k)) (λ k. sum m (f' k) +ℤ sum n (g' k))

  pub total-sub : (f g f' g' : ℕ → ℕ → ℤ) →
      total n m horizon (λ k j. f k j -ℤ f' k j) (λ k i. g k i -ℤ g' k i) ≡ total n m horizon f g -ℤ total n m horizon f' g'
  unfolding total
  total-sub f g f' g' =
      sum_cong horizon _ _
      (λ k h. ap₂ (λ (p q : ℤ). p +ℤ q) (sum-sub m (f k) (f' k)) (sum-sub n (g k) (g' k))
      ∙ ring 4 (λ a b c d. (a ⊖ b) ⊕ (c ⊖ d) ≐ (a ⊕ c) ⊖ (b ⊕ d)) tt (sum m (f k)) (sum m (f' k)) (sum n (g k)) (sum n (g' k)))
      ∙ sum-sub horizon (λ k. sum m (f k) +ℤ sum n (g k)) (λ k. sum m (f' k) +ℤ sum n (g' k))

  pub total-mul : (c : ℤ) (f g : ℕ → ℕ → ℤ) → total n m horizon (λ k j. c *ℤ f k j) (λ k i. c *ℤ g k i) ≡ c *ℤ total n m horizon f g
  unfolding total
  total-mul c f g =
      sum_cong horizon _ _
      (λ k h. ap₂ (λ (p q : ℤ). p +ℤ q) (sum-mul m c (f k)) (sum-mul n c (g k)) ∙ sym (mul-add c (sum m (f k)) (sum n (g k))))
      ∙ sum-mul horizon c (λ k. sum m (f k) +ℤ sum n (g k))

  pub total-le : (f g f' g' : ℕ → ℕ → ℤ) → ((k j : ℕ) → k < horizon → j < m → f k j ≼ f' k j) →
      ((k i : ℕ) → k < horizon → i < n → g k i ≼ g' k i) → total n m horizon f g ≼ total n m horizon f' g'
  unfolding total
  total-le f g f' g' a b =
      sum-le horizon _ _ (λ k h. add-le (sum-le m (f k) (f' k) (λ j l. a k j h l)) (sum-le n (g k) (g' k) (λ i l. b k i h l)))

-- ---- Terms from 0 on: so is their sum, and each is at most the sum

sum_nonneg : (n : ℕ) (f : ℕ → ℤ) → ((j : ℕ) → j < n → pos 0 ≼ f j) → pos 0 ≼ sum n f
unfolding sum
sum_nonneg zero f h = omega (arith, order)
sum_nonneg (suc n) f h = add_nonneg (sum_nonneg n f (λ j p. h j (omega arith))) (h n (omega arith))

sum_term : (n : ℕ) (f : ℕ → ℤ) → ((j : ℕ) → j < n → pos 0 ≼ f j) → (j : ℕ) → j < n → f j ≼ sum n f
unfolding sum
sum_term zero f h j p = let z : ⊥ = omega arith in absurd z
sum_term (suc n) f h j p = go (dec_le (suc j) n) (sum_term n f (λ i l. h i (omega arith)) j)
  where
    go : Dec (j < n) → (j < n → f j ≼ sum n f) → f j ≼ sum n f +ℤ f n
    go (yes l) before = let a = before l in let b = h n (omega arith) in omega (arith, order, plus (sum n f) (f n))
    go (no l) before =
        let last : j ≡ n = omega arith in
        rw last (let a = sum_nonneg n f (λ i l. h i (omega arith)) in omega (arith, order, plus (sum n f) (f n)))

module _ (n m horizon : ℕ) (f g : ℕ → ℕ → ℤ) (inputs : (k j : ℕ) → k < horizon → j < m → pos 0 ≼ f k j)
    (states : (k i : ℕ) → k < horizon → i < n → pos 0 ≼ g k i) where
  step_nonneg : (k : ℕ) → k < horizon → pos 0 ≼ sum m (f k) +ℤ sum n (g k)
  step_nonneg k h = add_nonneg (sum_nonneg m (f k) (λ j. inputs k j h)) (sum_nonneg n (g k) (λ i. states k i h))

  pub total_nonneg : pos 0 ≼ total n m horizon f g
  unfolding total
  total_nonneg = sum_nonneg horizon _ step_nonneg

  step-below : (k : ℕ) → k < horizon → sum m (f k) +ℤ sum n (g k) ≼ total n m horizon f g
  unfolding total
  step-below k h = sum_term horizon (λ k. sum m (f k) +ℤ sum n (g k)) step_nonneg k h

  pub input-below : (k j : ℕ) → k < horizon → j < m → f k j ≼ total n m horizon f g
  input-below k j h l =
      let a = sum_term m (f k) (λ j. inputs k j h) j l in
      let b = sum_nonneg n (g k) (λ i. states k i h) in
      let c = step-below k h in
      omega (arith, order, plus (sum m (f k)) (sum n (g k)))

  pub state-below : (k i : ℕ) → k < horizon → i < n → g k i ≼ total n m horizon f g
  state-below k i h l =
      let a = sum_term n (g k) (λ i. states k i h) i l in
      let b = sum_nonneg m (f k) (λ j. inputs k j h) in
      let c = step-below k h in
      omega (arith, order, plus (sum m (f k)) (sum n (g k)))
