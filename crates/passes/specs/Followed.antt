-- What following the model from the inputs of a plan leaves.
use Rattle.std.specs.Prelude.{ℕ, ◌+◌, ◌*◌, ◌<◌, ◌≡◌, Option, is_none, IfSome, List, ℤ, ◌+ℤ◌, ◌*ℤ◌}
use Rattle.integer.specs.Places.{at}
use Rattle.integer.specs.Sum.{sum}
use Rattle.tape.specs.declared.Tape.{Tape}
use Rattle.tape.specs.Legal.{Legal}
use Rattle.problem.specs.Model.{problem_of, column_term}
use Rattle.problem.specs.Cost.{cost}
use Rattle.primal.specs.Padded.{padded, padded_plan}
use Rattle.primal.specs.Held.{BlankPlan}
use Rattle.steps.specs.Steps.{candidate, dropped}
use Rattle.steps.specs.Held.{InputsWithin, HeldUnless}
use Rattle.lookup.specs.Table.{term_in}

-- the lent arrays are those of the tape t, and of the inputs of v
pub record Lends (t : Tape) (table a forced start : List ℤ) (n horizon : ℕ) (v : List ℤ) : Type 0 where
  pub legal : Legal t
  pub states : n ≡ t.n
  pub steps : horizon ≡ t.horizon
  pub matrix : a ≡ t.a
  pub started : start ≡ t.start
  pub terms : (k i : ℕ) → k < 12 → i < t.n → term_in table (10 * k + (4 + i)) ≡ column_term t i k
  pub forces : (k i : ℕ) → k < t.horizon → i < t.n → padded forced k i ≡ sum t.m (λ j. at t.b (4 * i + j) *ℤ (padded_plan v).u k j) +ℤ at t.drift i
  pub within : InputsWithin (problem_of t) (padded_plan v).u
  pub blank : BlankPlan t.n t.m v

-- the candidate with the inputs u: whether it is dropped, and if not the plan l and what its states cost
pub record FollowedBy (t : Tape) (u : ℕ → ℕ → ℤ) (l : List ℤ) (r : Option ℤ) : Type 0 where
  pub same : is_none r ≡ dropped (problem_of t) (candidate (problem_of t) u)
  pub held : HeldUnless r t (candidate (problem_of t) u) l
  pub cost : IfSome r (λ total. total ≡ sum t.horizon (λ k. sum t.n (λ i. cost ((problem_of t).state_term k i) ((candidate (problem_of t) u).x k i))))
