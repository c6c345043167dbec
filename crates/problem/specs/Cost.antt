-- Document 01, "Limits and cost".
use Rattle.std.specs.Prelude.{ℕ, ◌+◌, ◌*◌, ◌<◌, ◌≡◌, List, length, ℤ, ◌+ℤ◌, ◌-ℤ◌, ◌*ℤ◌}
use Rattle.integer.specs.Order.{◌≼◌}
use Rattle.integer.specs.Sum.{sum}
use Rattle.tape.specs.declared.Tape.{Tape}
use Rattle.problem.specs.declared.Term.{Term}
use Rattle.problem.specs.Model.{Problem, Plan, problem_of, plan_of, sum_at, rounded}

-- The sum over a plan's numbers: of f k j for u(k,j), and of g k i for x(k+1,i).
unfoldable pub total : ℕ → ℕ → ℕ → (ℕ → ℕ → ℤ) → (ℕ → ℕ → ℤ) → ℤ
total n m horizon f g = sum horizon (λ k. sum m (f k) +ℤ sum n (g k))

abbrev pub square : ℤ → ℤ
square a = a *ℤ a

-- P (v − r)².
unfoldable pub cost : Term → ℤ → ℤ
cost t v = t.penalty *ℤ square (v -ℤ t.reference)

-- K.
unfoldable pub plan_cost : Problem → Plan → ℤ
plan_cost q v =
    total q.n q.m q.horizon (λ k j. cost (q.input_term k j) (v.u k j)) (λ k i. cost (q.state_term k i) (v.x k i))

abbrev pub Within : Term → ℤ → Type 0
Within t v = (t.low ≼ v) × (v ≼ t.high)

-- Every state meets the model, and every number lies in its limits: the plan follows the tape.
pub record Follows (q : Problem) (v : Plan) : Type 0 where
  pub inputs-within : (k j : ℕ) → k < q.horizon → j < q.m → Within (q.input_term k j) (v.u k j)
  pub states_meet : (k i : ℕ) → k < q.horizon → i < q.n → v.x k i ≡ rounded (sum_at q v k i)
  pub states-within : (k i : ℕ) → k < q.horizon → i < q.n → Within (q.state_term k i) (v.x k i)

-- The same of N(n+m) whole numbers.
pub record FollowsTape (t : Tape) (v : List ℤ) : Type 0 where
  pub long : length v ≡ t.horizon * (t.n + t.m)
  pub follows : Follows (problem_of t) (plan_of t.n t.m v)

-- The cost of a lent plan.
abbrev pub cost_of : Tape → List ℤ → ℤ
cost_of t v = plan_cost (problem_of t) (plan_of t.n t.m v)
