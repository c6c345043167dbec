-- Sums over places and over steps: ten places a step are 4 inputs and 6 states.
use Prim.Native.Nat.{ℕ, zero, suc, ◌+◌, ◌*◌, ◌<◌, ◌≤◌}
use mathlib.Core.Path.{◌≡◌, ◌∙◌, ap}
use native.Mathlib.Omega.{arith}
use native.Mathlib.Nat.{mul-le-mul_right}
use lib.IntN.{ℤ, nat_abs, ◌+ℤ◌}
use Rattle.integer.specs.Sum.{sum}
use Rattle.integer.proofs.Sizes.{size-add}
use Rattle.integer.proofs.Sum.{sum_split, sum_cong, size-sum}
use Rattle.problem.specs.Cost.{total}

-- d places a step, in one sum or step by step
pub sum-steps : (d N : ℕ) (h : ℕ → ℤ) → sum (d * N) h ≡ sum N (λ k. sum d (λ c. h (d * k + c)))
unfolding sum
sum-steps d zero h = let e : d * 0 ≡ 0 = omega arith in ap (λ (n : ℕ). sum n h) e
sum-steps d (suc N) h =
    let e : d * suc N ≡ d * N + d = omega arith in
    ap (λ (n : ℕ). sum n h) e ∙ sum_split (d * N) d h ∙ ap (λ (z : ℤ). z +ℤ sum d (λ c. h (d * N + c))) (sum-steps d N h)

pub total_places : (N : ℕ) (h : ℕ → ℤ) → sum (10 * N) h ≡ total 6 4 N (λ k j. h (10 * k + j)) (λ k i. h (10 * k + (4 + i)))
unfolding total
total_places N h = sum-steps 10 N h ∙ sum_cong N _ _ (λ k l. sum_split 4 6 (λ c. h (10 * k + c)))

pub size-total : (N : ℕ) {B : ℕ} (f g : ℕ → ℕ → ℤ) → N ≤ 12 → ((k j : ℕ) → k < N → j < 4 → nat_abs (f k j) ≤ B) → ((k i : ℕ) → k < N → i < 6 → nat_abs (g k i) ≤ B) →
    nat_abs (total 6 4 N f g) ≤ 120 * B
unfolding total
size-total N {B} f g l a b =
    let h = size-sum N (4 * B + 6 * B) (λ k. sum 4 (f k) +ℤ sum 6 (g k))
    (λ k m. size-add (sum 4 (f k)) (sum 6 (g k)) (size-sum 4 B (f k) (λ j. a k j m)) (size-sum 6 B (g k) (λ i. b k i m))) in
    omega (arith, h, mul-le-mul_right (4 * B + 6 * B) l)
