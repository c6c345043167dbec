-- Document 01, "What demand 3 compares", by document 02, request 7: a rival may lie between whole units. Its numbers are multiples of 1/D
-- for a whole D from 1, and stand here as whole numbers V, each for V / D.
use Rattle.std.specs.Prelude.{ℕ, ◌+◌, ◌*◌, ◌<◌, ◌≡◌, List, length, ℤ, pos, neg_ℤ, ◌*ℤ◌}
use Rattle.integer.specs.Order.{◌≼◌}
use Rattle.problem.specs.declared.Term.{Term}
use Rattle.problem.specs.Model.{Problem, plan_of, residual}
use Rattle.problem.specs.Cost.{plan_cost, Within}

-- A term, and a problem, in units of 1/D: lo, hi, r, w and x(0) are D times as large. P, A and B stay.
abbrev pub finer_term : ℤ → Term → Term
finer_term D t = record { penalty = t.penalty; low = D *ℤ t.low; high = D *ℤ t.high; reference = D *ℤ t.reference }

abbrev pub finer : ℤ → Problem → Problem
finer D q = record {
  n = q.n;
  m = q.m;
  horizon = q.horizon;
  A = q.A;
  B = q.B;
  w = λ i. D *ℤ q.w i;
  start = λ i. D *ℤ q.start i;
  input_term = λ k j. finer_term D (q.input_term k j);
  state_term = λ k i. finer_term D (q.state_term k i);
}

-- A rival in units of 1/D: N(n+m) numbers, each in its limits, and each residual from −2048 to 2048, ends included.
pub record Rival (q : Problem) (D : ℤ) (v : List ℤ) : Type 0 where
  pub from_one : pos 1 ≼ D
  pub long : length v ≡ q.horizon * (q.n + q.m)
  pub inputs-within : (k j : ℕ) → k < q.horizon → j < q.m → Within ((finer D q).input_term k j) ((plan_of q.n q.m v).u k j)
  pub states-within : (k i : ℕ) → k < q.horizon → i < q.n → Within ((finer D q).state_term k i) ((plan_of q.n q.m v).x k i)
  pub residuals_within : (k i : ℕ) → k < q.horizon → i < q.n →
      let e = residual (finer D q) (plan_of q.n q.m v) k i in
      (neg_ℤ (pos 2048 *ℤ D) ≼ e) × (e ≼ pos 2048 *ℤ D)

-- Its cost, the sum of P (V − D r)², in units of 1/D².
abbrev pub rival_cost : Problem → ℤ → List ℤ → ℤ
rival_cost q D v = plan_cost (finer D q) (plan_of q.n q.m v)
