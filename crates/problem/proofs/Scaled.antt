-- A problem with a function of each of its limits, references, drifts and starts: D times each is the problem in units of 1/D.
use mathlib.Core.Path.{◌≡◌}
use lib.IntN.{ℤ}
use Rattle.problem.specs.declared.Term.{Term}
use Rattle.problem.specs.Model.{Problem}

abbrev scaled_term : (ℤ → ℤ) → Term → Term
scaled_term f t = record { penalty = t.penalty; low = f t.low; high = f t.high; reference = f t.reference }

abbrev scaled : (ℤ → ℤ) → Problem → Problem
scaled f q = record {
  n = q.n;
  m = q.m;
  horizon = q.horizon;
  A = q.A;
  B = q.B;
  w = λ i. f (q.w i);
  start = λ i. f (q.start i);
  input_term = λ k j. scaled_term f (q.input_term k j);
  state_term = λ k i. scaled_term f (q.state_term k i);
}

-- equal functions give the same problem
pub scaled-same : (f g : ℤ → ℤ) → ((z : ℤ) → f z ≡ g z) → (q : Problem) → scaled f q ≡ scaled g q
scaled-same f g e q = λ i. scaled (λ z. e z i) q
