-- Limiting.
use Prim.Native.Nat.{ℕ, ◌≤◌}
use mathlib.Core.Path.{◌≡◌, refl}
use mathlib.Core.Bool.{Bool, true, false, cond}
use native.Mathlib.Omega.{arith}
use lib.IntN.{ℤ, nat_abs}
use lib.Signed.{lt_z, clash_ℤ as clash}
use Rattle.integer.specs.Order.{◌≼◌, ◌≺◌}
use Rattle.integer.specs.Limited.{limited}
use Rattle.integer.proofs.Order.{order}
use Rattle.integer.proofs.Sizes.{size_parts}

-- by the two tests
pub by_tests : (lo hi x : ℤ) (P : ℤ → Type 0) → (x ≺ lo → P lo) → (lo ≼ x → hi ≺ x → P hi) → (lo ≼ x → x ≼ hi → P x) → P (limited lo hi x)
unfolding limited
by_tests lo hi x P f g h = go (lt_z x lo) (lt_z hi x) refl refl
  where
    go : (s t : Bool) → lt_z x lo ≡ s → lt_z hi x ≡ t → P (cond s lo (cond t hi x))
    go true t e d = f (omega (arith, order))
    go false true e d = g (omega (arith, order)) (omega (arith, order))
    go false false e d = h (omega (arith, order)) (omega (arith, order))

pub limited-low : (lo hi x : ℤ) → lo ≼ hi → lo ≼ limited lo hi x
limited-low lo hi x l = by_tests lo hi x (λ z. lo ≼ z) (λ _. omega (arith, order)) (λ _ _. l) (λ h _. h)

pub limited-high : (lo hi x : ℤ) → lo ≼ hi → limited lo hi x ≼ hi
limited-high lo hi x l = by_tests lo hi x (λ z. z ≼ hi) (λ _. l) (λ _ _. omega (arith, order)) (λ _ h. h)

pub limited-below : (lo hi x : ℤ) → x ≺ lo → limited lo hi x ≡ lo
limited-below lo hi x h = by_tests lo hi x (λ z. z ≡ lo) (λ _. refl) (λ l _. clash h l) (λ l _. clash h l)

pub limited-above : (lo hi x : ℤ) → lo ≼ x → hi ≺ x → limited lo hi x ≡ hi
limited-above lo hi x l h = by_tests lo hi x (λ z. z ≡ hi) (λ k. clash k l) (λ _ _. refl) (λ _ k. clash h k)

pub limited-inside : (lo hi x : ℤ) → lo ≼ x → x ≼ hi → limited lo hi x ≡ x
limited-inside lo hi x l h = by_tests lo hi x (λ z. z ≡ x) (λ k. clash k l) (λ _ k. clash k h) (λ _ _. refl)

-- from a limit on
pub limited_top : (lo hi x : ℤ) → lo ≼ hi → hi ≼ x → limited lo hi x ≡ hi
limited_top lo hi x l h = by_tests lo hi x (λ z. z ≡ hi) (λ k. omega (arith, order)) (λ _ _. refl) (λ a b. omega (arith, order))

pub limited_bottom : (lo hi x : ℤ) → lo ≼ hi → x ≼ lo → limited lo hi x ≡ lo
limited_bottom lo hi x l h = by_tests lo hi x (λ z. z ≡ lo) (λ _. refl) (λ a b. omega (arith, order)) (λ a b. omega (arith, order))

pub size-limited : (lo hi x : ℤ) {B : ℕ} → nat_abs lo ≤ B → nat_abs hi ≤ B → nat_abs (limited lo hi x) ≤ B
size-limited lo hi x {B} l h =
    by_tests lo hi x (λ z. nat_abs z ≤ B) (λ _. l) (λ _ _. h) (λ a b. omega (arith, order, size_parts lo, size_parts hi, size_parts x))
