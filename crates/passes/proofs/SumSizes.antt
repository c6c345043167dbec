-- What the inputs force, residuals and pulls: how large they are.
use Prim.Native.Nat.{ℕ, ◌+◌, ◌*◌, ◌≤◌}
use mathlib.Core.List.{List}
use native.Mathlib.Omega.{arith}
use native.Mathlib.Nat.{le_refl, le_trans}
use lib.IntN.{ℤ, pos, nat_abs, ◌*ℤ◌}
use Rattle.integer.specs.Places.{at, Bounded, Steps}
use Rattle.integer.specs.Sum.{sum}
use Rattle.integer.proofs.Sizes.{size-add, size-sub, size-mul}
use Rattle.integer.proofs.Sum.{size-sum}
use Rattle.integer.proofs.Places.{steps-bounded}
use Rattle.commands.specs.Ranges.{most_entry, most_drift, most_number, most_multiplier}
use Rattle.primal.specs.Padded.{padded, padded_plan}
use Rattle.primal.specs.Ranges.{most_forcing, most_sum, most_residual}
use Rattle.primal.proofs.ProductSizes.{size_products, size_units}
use Rattle.primal.proofs.ModelSizes.{from_states, from_inputs, size_from_states}
use Rattle.passes.specs.Sums.{most_forced, forcing, sum_by, residual_by, pull}

-- ---- What the inputs force

pub size-forcing : {b drift v : List ℤ} → Bounded most_entry b → Bounded most_drift drift → Bounded most_number v → (k i : ℕ) →
    nat_abs (forcing b drift v k i) ≤ most_forced
size-forcing {b} {drift} {v} hb hw hv k i =
    let most : most_drift ≤ most_forcing = omega arith in
    size-add (from_inputs b v k i) (at drift i) (size_products hb hv 4 (λ j. 4 * i + j) (λ j. 10 * k + j)) (le_trans (hw.each i) most)

-- what `force` gives
pub forced_bounded : {b drift v f : List ℤ} (horizon : ℕ) → Bounded most_entry b → Bounded most_drift drift → Bounded most_number v →
    Steps 6 horizon (forcing b drift v) f → Bounded most_forced f
forced_bounded horizon hb hw hv steps = steps-bounded 6 horizon _ _ (omega arith) steps (λ k i _ _. size-forcing hb hw hv k i)

-- ---- S and residuals

module _ {a forced start v : List ℤ} (ha : Bounded most_entry a) (hf : Bounded most_forced forced) (hs : Bounded most_number start)
    (hv : Bounded most_number v) (k i : ℕ) where
  pub size-sum_by : nat_abs (sum_by a forced start v k i) ≤ most_sum
  size-sum_by =
      size-add (from_states a start v k i) (padded forced k i) (size_from_states ha hs hv k i) (hf.each (6 * k + i))

  pub size-residual_by : nat_abs (residual_by a forced start v k i) ≤ most_residual
  size-residual_by = size-sub (sum_by a forced start v k i) (pos 4096 *ℤ (padded_plan v).x k i) size-sum_by (size_units hv (10 * k + (4 + i)))

-- ---- Pulls

abbrev pub most_pull : ℕ
most_pull = most_multiplier * most_residual + 2048 * most_multiplier

pub size-pull : (y e : ℤ) → nat_abs y ≤ most_multiplier → nat_abs e ≤ most_residual → nat_abs (pull y e) ≤ most_pull
size-pull y e hy he =
    size-sub (y *ℤ e) (pos 2048 *ℤ pos (nat_abs y)) (size-mul y e hy he) (size-mul (pos 2048) (pos (nat_abs y)) (le_refl 2048) hy)

-- the pull at a place, the pulls of a step, and of all steps, which `ascend` gives
abbrev pub pull_at : List ℤ → List ℤ → List ℤ → List ℤ → List ℤ → ℕ → ℕ → ℤ
pull_at a forced start v y k i = pull (padded y k i) (residual_by a forced start v k i)

module _ {a forced start v y : List ℤ} (ha : Bounded most_entry a) (hf : Bounded most_forced forced) (hs : Bounded most_number start)
    (hv : Bounded most_number v) (hy : Bounded most_multiplier y) where
  pub size-pull-at : (k i : ℕ) → nat_abs (pull_at a forced start v y k i) ≤ most_pull
  size-pull-at k i = size-pull (padded y k i) (residual_by a forced start v k i) (hy.each (6 * k + i)) (size-residual_by ha hf hs hv k i)

  pub size-step_pulls : (k : ℕ) → nat_abs (sum 6 (pull_at a forced start v y k)) ≤ 6 * most_pull
  size-step_pulls k = size-sum 6 most_pull _ (λ i _. size-pull-at k i)

  pub size_pulls : (horizon : ℕ) → horizon ≤ 12 → nat_abs (sum horizon (λ k. sum 6 (pull_at a forced start v y k))) ≤ 72 * most_pull
  size_pulls horizon h = le_trans (size-sum horizon (6 * most_pull) _ (λ k _. size-step_pulls k)) (omega arith)
