-- How large slopes are.
use Prim.Native.Nat.{ℕ, ◌+◌, ◌*◌, ◌-◌, ◌≤◌}
use mathlib.Core.Bool.{Bool, true, false, cond}
use mathlib.Core.List.{List}
use native.Mathlib.Omega.{arith}
use native.Mathlib.Nat.{le_refl, le_trans}
use lib.Dec.{ltb}
use lib.IntN.{ℤ, pos, negsuc, nat_abs, ◌*ℤ◌}
use Rattle.integer.specs.Places.{at, Bounded, Steps}
use Rattle.integer.proofs.Sizes.{size-add, size-mul}
use Rattle.integer.proofs.Places.{steps-bounded}
use Rattle.commands.specs.Ranges.{most_entry, most_multiplier}
use Rattle.problem.specs.Dual.{input_slope, adjoint, carried, state_slope}
use Rattle.primal.specs.Padded.{state_matrix, input_matrix, padded}
use Rattle.primal.proofs.ProductSizes.{size_products}
use Rattle.dual.specs.Slopes.{by_place, most_slope}
use Rattle.dual.proofs.ByPlace.{slope_at}

pub size-input_slope : {b y : List ℤ} → Bounded most_entry b → Bounded most_multiplier y → (k j : ℕ) →
    nat_abs (input_slope 6 (input_matrix b) (padded y) k j) ≤ 6 * (most_multiplier * most_entry)
unfolding input_slope
size-input_slope hb hy k j = size_products hy hb 6 (λ i. 6 * k + i) (λ i. 4 * i + j)

pub size-adjoint : {a y : List ℤ} → Bounded most_entry a → Bounded most_multiplier y → (k j : ℕ) →
    nat_abs (adjoint 6 (state_matrix a) (padded y) k j) ≤ 6 * (most_multiplier * most_entry)
unfolding adjoint
size-adjoint ha hy k j = size_products hy ha 6 (λ q. 6 * k + q) (λ q. 6 * q + j)

size-carried : {a y : List ℤ} → Bounded most_entry a → Bounded most_multiplier y → (horizon k i : ℕ) →
    nat_abs (carried 6 horizon (state_matrix a) (padded y) k i) ≤ 6 * (most_multiplier * most_entry)
unfolding carried
size-carried {a} {y} ha hy horizon k i = go (ltb (k + 1) horizon)
  where
    go : (t : Bool) → nat_abs (cond t (adjoint 6 (state_matrix a) (padded y) (k + 1) i) (pos 0)) ≤ 6 * (most_multiplier * most_entry)
    go true = size-adjoint ha hy (k + 1) i
    go false = omega arith

pub size-scaled : {y : List ℤ} → Bounded most_multiplier y → (p : ℕ) → nat_abs (negsuc 4095 *ℤ at y p) ≤ 4096 * most_multiplier
size-scaled {y} hy p = size-mul (negsuc 4095) (at y p) (le_refl 4096) (hy.each p)

pub size-state_slope : {a y : List ℤ} → Bounded most_entry a → Bounded most_multiplier y → (horizon k i : ℕ) →
    nat_abs (state_slope 6 horizon (state_matrix a) (padded y) k i) ≤ most_slope
unfolding state_slope
size-state_slope {a} {y} ha hy horizon k i =
    size-add (negsuc 4095 *ℤ padded y k i) (carried 6 horizon (state_matrix a) (padded y) k i)
    (size-scaled hy (6 * k + i)) (size-carried ha hy horizon k i)

size-by_place : {B : ℕ} (f g : ℕ → ℕ → ℤ) → ((k j : ℕ) → nat_abs (f k j) ≤ B) → ((k i : ℕ) → nat_abs (g k i) ≤ B) →
    (k c : ℕ) → nat_abs (by_place f g k c) ≤ B
unfolding by_place
size-by_place {B} f g hf hg k c = go (ltb c 4)
  where
    go : (t : Bool) → nat_abs (cond t (f k c) (g k (c - 4))) ≤ B
    go true = hf k c
    go false = hg k (c - 4)

pub slopes_bounded : {a b y s : List ℤ} (horizon : ℕ) → Bounded most_entry a → Bounded most_entry b → Bounded most_multiplier y →
    Steps 10 horizon (slope_at a b y horizon) s → Bounded most_slope s
slopes_bounded horizon ha hb hy steps =
    steps-bounded 10 horizon _ _ (omega arith) steps
    (λ k c _ _. size-by_place _ _ (λ k j. le_trans (size-input_slope hb hy k j) (omega arith)) (size-state_slope ha hy horizon) k c)
