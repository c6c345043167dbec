-- Document 02, request 9: W, the residuals' coefficient matrix times 1/(2P) times its transpose. Rows and columns are residuals, by
-- step and then state.
use Rattle.std.specs.Prelude.{ℕ, zero, suc, ◌+◌, ◌/◌, ◌%◌, cond, eqb, ℤ, pos, negsuc, ◌*ℤ◌, Float}
use Rattle.problem.specs.Model.{Problem}
use Rattle.banded.specs.Floats.{float, zero_float, sum_from, ◌⊗◌, ◌⊘◌}
use Rattle.banded.specs.Elimination.{Matrix}

-- The coefficients of u(s,c) and of x(s+1,c) in the residual e(k,i); the law `residual-terms` says that they are.
unfoldable pub input_coefficient : (ℕ → ℕ → ℤ) → ℕ → ℕ → ℕ → ℕ → ℤ
input_coefficient B k i s c = cond (eqb s k) (B i c) (pos 0)

unfoldable pub state_coefficient : (ℕ → ℕ → ℤ) → ℕ → ℕ → ℕ → ℕ → ℤ
state_coefficient A k i s c = cond (eqb s k) (cond (eqb c i) (negsuc 4095) (pos 0)) (cond (eqb (s + 1) k) (A i c) (pos 0))

-- The product of two coefficients divided by 2P.
unfoldable pub share : ℤ → ℤ → ℤ → Float
share x y penalty = float x ⊗ float y ⊘ float (pos 2 *ℤ penalty)

-- What u(s,c) and x(s+1,c) give to W in the row of e(k,i) and the column of e(l,j); the penalties are those of step s.
abbrev pub input_share : (ℕ → ℕ → ℤ) → (ℕ → ℤ) → ℕ → ℕ → ℕ → ℕ → ℕ → ℕ → Float
input_share B penalty k i l j s c = share (input_coefficient B k i s c) (input_coefficient B l j s c) (penalty c)

abbrev pub state_share : (ℕ → ℕ → ℤ) → (ℕ → ℤ) → ℕ → ℕ → ℕ → ℕ → ℕ → ℕ → Float
state_share A penalty k i l j s c = share (state_coefficient A k i s c) (state_coefficient A l j s c) (penalty c)

-- The sum, from 0.0, over the plan numbers of the first steps in plan order: a step's inputs, then its states.
unfoldable pub weight_to : Problem → ℕ → ℕ → ℕ → ℕ → ℕ → Float
weight_to q k i l j zero = zero_float
weight_to q k i l j (suc s) =
    sum_from (sum_from (weight_to q k i l j s) q.m (input_share q.B (λ c. (q.input_term s c).penalty) k i l j s)) q.n
    (state_share q.A (λ c. (q.state_term s c).penalty) k i l j s)

unfoldable pub weights : Problem → Matrix
weights q a b = weight_to q (a / q.n) (a % q.n) (b / q.n) (b % q.n) q.horizon
