-- Sums of natural numbers: f 0 + f 1 + .. + f (n − 1).
use Prim.Native.Nat.{ℕ, zero, suc, ◌+◌, ◌<◌}
use mathlib.Core.Path.{◌≡◌, refl, ap₂}
use mathlib.Core.Logic.{⊎_elim}
use native.Mathlib.Omega.{arith}
use Rattle.integer.proofs.Places.{lt_or_le}

unfoldable pub sum_ℕ : ℕ → (ℕ → ℕ) → ℕ
sum_ℕ zero f = 0
sum_ℕ (suc n) f = sum_ℕ n f + f n

pub sum_ℕ_cong : (n : ℕ) (f g : ℕ → ℕ) → ((p : ℕ) → p < n → f p ≡ g p) → sum_ℕ n f ≡ sum_ℕ n g
unfolding sum_ℕ
sum_ℕ_cong zero f g h = refl
sum_ℕ_cong (suc n) f g h = ap₂ ◌+◌ (sum_ℕ_cong n f g (λ p l. h p (omega arith))) (h n (omega arith))

-- sums that differ in one term
pub sum_ℕ_but_one : (n k : ℕ) (f g : ℕ → ℕ) → k < n → ((p : ℕ) → (p ≡ k → ⊥) → f p ≡ g p) → sum_ℕ n f + g k ≡ sum_ℕ n g + f k
unfolding sum_ℕ
sum_ℕ_but_one zero k f g l h = let z : ⊥ = omega arith in absurd z
sum_ℕ_but_one (suc n) k f g l h =
    ⊎_elim
    (λ below. omega (arith, sum_ℕ_but_one n k f g below h, h n (λ e. omega arith)))
    (λ last. let e : k ≡ n = omega arith in rw e (omega (arith, sum_ℕ_cong n f g (λ p m. h p (λ d. omega arith)))))
    (lt_or_le k n)
