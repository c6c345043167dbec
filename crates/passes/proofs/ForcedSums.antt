-- With what the inputs of v force, the residuals are those of the model.
use Prim.Native.Nat.{ℕ, ◌<◌}
use mathlib.Core.Path.{◌≡◌, sym, ap, ◌∙◌}
use mathlib.Core.List.{List}
use lib.IntN.{ℤ, pos, ◌+ℤ◌, ◌-ℤ◌, ◌*ℤ◌, +ℤ_assoc}
use Rattle.integer.specs.Places.{at, Steps}
use Rattle.problem.specs.Model.{model_sum}
use Rattle.primal.specs.Padded.{padded_plan}
use Rattle.primal.proofs.ModelSizes.{from_states, from_inputs, model_at, residual_at}
use Rattle.passes.specs.Sums.{forcing, sum_by, residual_by}

module _ (a b drift start v : List ℤ) {forced : List ℤ} {horizon : ℕ} (steps : Steps 6 horizon (forcing b drift v) forced) (k i : ℕ)
    (hk : k < horizon) (hi : i < 6) where
  pub model_forced : sum_by a forced start v k i ≡ model_at a b drift start v k i
  unfolding model_sum
  model_forced =
      ap (λ (z : ℤ). from_states a start v k i +ℤ z) (steps.each k i hk hi)
      ∙ sym (+ℤ_assoc (from_states a start v k i) (from_inputs b v k i) (at drift i))

  pub sum_forced : residual_by a forced start v k i ≡ residual_at a b drift start v k i
  sum_forced = ap (λ (z : ℤ). z -ℤ pos 4096 *ℤ (padded_plan v).x k i) model_forced
