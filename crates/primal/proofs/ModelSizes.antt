-- S and the residuals at padded places, and how large they are.
use Prim.Native.Nat.{ℕ, zero, suc, ◌+◌, ◌*◌, ◌≤◌}
use mathlib.Core.List.{List}
use native.Mathlib.Omega.{arith}
use lib.IntN.{ℤ, pos, nat_abs, ◌+ℤ◌, ◌-ℤ◌, ◌*ℤ◌}
use Rattle.integer.specs.Places.{at, Bounded, Steps}
use Rattle.integer.specs.Sum.{sum}
use Rattle.integer.proofs.Sizes.{size-add, size-sub, size-mul}
use Rattle.integer.proofs.Sum.{size-sum}
use Rattle.integer.proofs.Places.{steps-bounded}
use Rattle.commands.specs.Ranges.{most_entry, most_number}
use Rattle.problem.specs.Model.{state_at, model_sum}
use Rattle.primal.specs.Padded.{state_matrix, input_matrix, padded_plan}
use Rattle.primal.specs.Ranges.{most_forcing, most_sum, most_residual}
use Rattle.primal.proofs.ProductSizes.{size_products, size_units}

size-state_at : {start v : List ℤ} → Bounded most_number start → Bounded most_number v → (k j : ℕ) → nat_abs (state_at (at start) (padded_plan v).x k j) ≤ most_number
unfolding state_at
size-state_at hs hv zero j = hs.each j
size-state_at hs hv (suc k) j = hv.each (10 * k + (4 + j))

-- what the states and the inputs add to S of x(k+1,i); S; the residual
abbrev pub from_states : List ℤ → List ℤ → List ℤ → ℕ → ℕ → ℤ
from_states a start v k i = sum 6 (λ j. state_matrix a i j *ℤ state_at (at start) (padded_plan v).x k j)

abbrev pub from_inputs : List ℤ → List ℤ → ℕ → ℕ → ℤ
from_inputs b v k i = sum 4 (λ j. input_matrix b i j *ℤ (padded_plan v).u k j)

abbrev pub model_at : List ℤ → List ℤ → List ℤ → List ℤ → List ℤ → ℕ → ℕ → ℤ
model_at a b drift start v k i =
    model_sum 6 4 (state_matrix a) (input_matrix b) (at drift) (state_at (at start) (padded_plan v).x k) ((padded_plan v).u k) i

abbrev pub residual_at : List ℤ → List ℤ → List ℤ → List ℤ → List ℤ → ℕ → ℕ → ℤ
residual_at a b drift start v k i = model_at a b drift start v k i -ℤ pos 4096 *ℤ (padded_plan v).x k i

pub size_from_states : {a start v : List ℤ} → Bounded most_entry a → Bounded most_number start → Bounded most_number v → (k i : ℕ) →
    nat_abs (from_states a start v k i) ≤ 6 * (most_entry * most_number)
size_from_states {a} {start} {v} ha hs hv k i =
    size-sum 6 (most_entry * most_number) _
    (λ j _. size-mul (state_matrix a i j) (state_at (at start) (padded_plan v).x k j) (ha.each (6 * i + j)) (size-state_at hs hv k j))

module _ {a b drift start v : List ℤ} (ha : Bounded most_entry a) (hb : Bounded most_entry b) (hw : Bounded most_forcing drift)
    (hs : Bounded most_number start) (hv : Bounded most_number v) (k i : ℕ) where
  pub size_both : nat_abs (from_states a start v k i +ℤ from_inputs b v k i) ≤ 10 * (most_entry * most_number)
  size_both =
      size-add (from_states a start v k i) (from_inputs b v k i) (size_from_states ha hs hv k i)
      (size_products hb hv 4 (λ j. 4 * i + j) (λ j. 10 * k + j))

  pub size_model : nat_abs (model_at a b drift start v k i) ≤ most_sum
  unfolding model_sum
  size_model = size-add (from_states a start v k i +ℤ from_inputs b v k i) (at drift i) size_both (hw.each i)

  pub size-residual : nat_abs (residual_at a b drift start v k i) ≤ most_residual
  size-residual = size-sub (model_at a b drift start v k i) (pos 4096 *ℤ (padded_plan v).x k i) size_model (size_units hv (10 * k + (4 + i)))

-- what `residuals` gives
pub residuals_bounded : {a b drift start v e : List ℤ} (horizon : ℕ) → Bounded most_entry a → Bounded most_entry b → Bounded most_forcing drift →
    Bounded most_number start → Bounded most_number v → Steps 6 horizon (residual_at a b drift start v) e → Bounded most_residual e
residuals_bounded horizon ha hb hw hs hv steps =
    steps-bounded 6 horizon _ _ (omega arith) steps (λ k i _ _. size-residual ha hb hw hs hv k i)
