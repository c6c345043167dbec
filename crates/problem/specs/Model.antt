-- Document 01, "The furnace as the tape gives it": the problem that a tape poses, plans, and the model.
use Rattle.std.specs.Prelude.{ℕ, zero, suc, ◌+◌, ◌*◌, List, ℤ, pos, ◌+ℤ◌, ◌-ℤ◌, ◌*ℤ◌}
use Rattle.integer.specs.Places.{at}
use Rattle.integer.specs.Quotient.{◌÷◌}
use Rattle.integer.specs.Sum.{sum}
use Rattle.tape.specs.declared.Tape.{Tape}
use Rattle.problem.specs.declared.Term.{Term}
use Rattle.tape.specs.Tape.{reference_at}

-- n states, m inputs, N steps; A, B, w and x(0); and the terms of u(k,j) and of x(k+1,i), by k and j or i.
pub record Problem : Type 0 where
  pub n : ℕ
  pub m : ℕ
  pub horizon : ℕ
  pub A : ℕ → ℕ → ℤ
  pub B : ℕ → ℕ → ℤ
  pub w : ℕ → ℤ
  pub start : ℕ → ℤ
  pub input_term : ℕ → ℕ → Term
  pub state_term : ℕ → ℕ → Term

-- The term of a column at a step. P = 4096 h.
abbrev pub column_term : Tape → ℕ → ℕ → Term
column_term t column k = record {
  penalty = pos 4096 *ℤ at t.weight column;
  low = at t.low column;
  high = at t.high column;
  reference = reference_at t column k;
}

-- Columns are states 0 to n−1, then inputs n to n+m−1.
abbrev pub problem_of : Tape → Problem
problem_of t = record {
  n = t.n;
  m = t.m;
  horizon = t.horizon;
  A = λ i j. at t.a (6 * i + j);
  B = λ i j. at t.b (4 * i + j);
  w = at t.drift;
  start = at t.start;
  input_term = λ k j. column_term t (t.n + j) k;
  state_term = λ k i. column_term t i k;
}

-- A plan's numbers: `u k j` is u(k,j), `x k i` is x(k+1,i).
pub record Plan : Type 0 where
  pub u : ℕ → ℕ → ℤ
  pub x : ℕ → ℕ → ℤ

-- A lent plan holds u(0), x(1), u(1), x(2) and so on: the places of u(k,j) and of x(k+1,i).
abbrev pub input_place : ℕ → ℕ → ℕ → ℕ → ℕ
input_place n m k j = k * (n + m) + j

abbrev pub state_place : ℕ → ℕ → ℕ → ℕ → ℕ
state_place n m k i = k * (n + m) + (m + i)

abbrev pub plan_of : ℕ → ℕ → List ℤ → Plan
plan_of n m v = record { u = λ k j. at v (input_place n m k j); x = λ k i. at v (state_place n m k i) }

-- Lent multipliers are step by step.
abbrev pub multipliers_of : ℕ → List ℤ → ℕ → ℕ → ℤ
multipliers_of n y k i = at y (k * n + i)

-- x(k,i): x(0) is the start.
unfoldable pub state_at : (ℕ → ℤ) → (ℕ → ℕ → ℤ) → ℕ → ℕ → ℤ
state_at start x zero i = start i
state_at start x (suc k) i = x k i

-- S of state i, from the states x and the inputs u of a step.
unfoldable pub model_sum : ℕ → ℕ → (ℕ → ℕ → ℤ) → (ℕ → ℕ → ℤ) → (ℕ → ℤ) → (ℕ → ℤ) → (ℕ → ℤ) → ℕ → ℤ
model_sum n m A B w x u i = sum n (λ j. A i j *ℤ x j) +ℤ sum m (λ j. B i j *ℤ u j) +ℤ w i

-- The state that S gives.
unfoldable pub rounded : ℤ → ℤ
rounded S = (S +ℤ pos 2048) ÷ pos 4096

-- S of x(k+1,i) in a plan, and the residual e(k,i).
abbrev pub sum_at : Problem → Plan → ℕ → ℕ → ℤ
sum_at q v k i = model_sum q.n q.m q.A q.B q.w (state_at q.start v.x k) (v.u k) i

unfoldable pub residual : Problem → Plan → ℕ → ℕ → ℤ
residual q v k i = sum_at q v k i -ℤ pos 4096 *ℤ v.x k i
