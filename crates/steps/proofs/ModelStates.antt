-- The states that the model gives from inputs, and what a candidate is dropped for: both depend only on numbers within the sizes.
use Prim.Native.Nat.{ℕ, zero, suc, ◌<◌}
use mathlib.Core.Path.{◌≡◌, refl, ap, ap₂}
use mathlib.Core.Bool.{◌||◌}
use native.Mathlib.Omega.{arith}
use lib.IntN.{ℤ}
use Rattle.integer.proofs.Tests.{any_cong}
use Rattle.problem.specs.Model.{Problem, Plan, state_at, model_sum, rounded}
use Rattle.problem.proofs.Congruence.{model_cong}
use Rattle.steps.specs.Steps.{model_states, exceeds, dropped}

pub model_states_lem : (q : Problem) (u : ℕ → ℕ → ℤ) (k i : ℕ) →
    model_states q u k i ≡ rounded (model_sum q.n q.m q.A q.B q.w (state_at q.start (model_states q u) k) (u k) i)
unfolding model_states state_at
model_states_lem q u zero i = refl
model_states_lem q u (suc k) i = refl

pub model_states_cong : (q : Problem) (u w : ℕ → ℕ → ℤ) → ((k j : ℕ) → k < q.horizon → j < q.m → u k j ≡ w k j) →
    (k i : ℕ) → k < q.horizon → i < q.n → model_states q u k i ≡ model_states q w k i
unfolding model_states
model_states_cong q u w same zero i h l = ap rounded (model_cong q.n q.m _ _ _ _ _ _ _ i (λ j _. refl) (λ j. same zero j h))
model_states_cong q u w same (suc k) i h l =
    ap rounded
    (model_cong q.n q.m _ _ _ _ _ _ _ i (λ j. model_states_cong q u w same k j (omega arith)) (λ j. same (suc k) j h))

pub dropped_cong : (q : Problem) (v w : Plan) → ((k j : ℕ) → k < q.horizon → j < q.m → v.u k j ≡ w.u k j) →
    ((k i : ℕ) → k < q.horizon → i < q.n → v.x k i ≡ w.x k i) → dropped q v ≡ dropped q w
unfolding dropped
dropped_cong q v w inputs states =
    any_cong q.horizon _ _
    (λ k h. ap₂ ◌||◌ (any_cong q.m _ _ (λ j l. ap (exceeds (q.input_term k j)) (inputs k j h l)))
    (any_cong q.n _ _ (λ i l. ap (exceeds (q.state_term k i)) (states k i h l))))
