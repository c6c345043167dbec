-- The problem at padded places. Arrays hold the numbers of every step at fixed places, with 0 beyond the sizes: multipliers and
-- residuals of step k at 6k to 6k+5, a plan's inputs at 10k to 10k+3 and its states at 10k+4 to 10k+9.
use Rattle.std.specs.Prelude.{ℕ, ◌+◌, ◌*◌, List, get_or, ℤ, pos}
use Rattle.integer.specs.Places.{at}
use Rattle.problem.specs.declared.Term.{Term}
use Rattle.problem.specs.Model.{Problem, Plan}

abbrev pub state_matrix : List ℤ → ℕ → ℕ → ℤ
state_matrix a i j = at a (6 * i + j)

abbrev pub input_matrix : List ℤ → ℕ → ℕ → ℤ
input_matrix b i j = at b (4 * i + j)

-- multipliers, residuals
abbrev pub padded : List ℤ → ℕ → ℕ → ℤ
padded l k i = at l (6 * k + i)

abbrev pub padded_plan : List ℤ → Plan
padded_plan v = record { u = λ k j. at v (10 * k + j); x = λ k i. at v (10 * k + (4 + i)) }

-- the term of a plan number
abbrev pub term_of : ℤ → ℤ → ℤ → ℤ → Term
term_of penalty low high reference = record { penalty = penalty; low = low; high = high; reference = reference }

-- beyond the sizes: its weight is 0, so it costs nothing, and its limits leave only 0
abbrev pub blank_term : Term
blank_term = term_of (pos 0) (pos 0) (pos 0) (pos 0)

abbrev pub term_at : List Term → ℕ → Term
term_at terms p = get_or terms p blank_term

-- 6 states and 4 inputs
abbrev pub padded_problem : ℕ → List ℤ → List ℤ → List ℤ → List ℤ → List Term → Problem
padded_problem horizon a b drift start terms = record {
  n = 6;
  m = 4;
  horizon = horizon;
  A = state_matrix a;
  B = input_matrix b;
  w = at drift;
  start = at start;
  input_term = λ k j. term_at terms (10 * k + j);
  state_term = λ k i. term_at terms (10 * k + (4 + i));
}
