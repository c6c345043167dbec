-- Document 02, request 6: what 10, 11 and 13 carry is the true reason of the refusal.
use Rattle.std.specs.Prelude.{ℕ, ◌+◌, ◌-◌, ◌<◌, ◌≡◌, cond, List, ◌⊎◌, ltb, ℤ, ◌-ℤ◌, Result, Ok, Err}
use Rattle.integer.specs.Order.{◌≺◌}
use Rattle.integer.specs.Places.{at}
use Rattle.tape.specs.Reading.{reading}
use Rattle.tape.specs.declared.refusal.Refusal.{Refusal}
use Rattle.tape.specs.declared.Tape.{Tape}
use Rattle.tape.specs.declared.refusal.Fault.{Fault}
use Rattle.tape.specs.declared.refusal.Span.{Span}
use Rattle.tape.specs.declared.refusal.Refusal.TheVariants.{OffModel, OverLimit, Wide}
use Rattle.problem.specs.Model.{Problem, Plan, problem_of, input_place, state_place, plan_of, sum_at, rounded}
use Rattle.problem.specs.Cost.{Within, Follows, cost_of}
use Rattle.problem.specs.Dual.{floor_of}
use Rattle.judge.specs.Judging.{judged}

-- The place of step k and column c in a plan: the number there is a state of x(k+1), or an input of u(k). Places are tested in their order.
abbrev pub place_of : Tape → ℕ → ℕ → ℕ
place_of t k c = cond (ltb c t.n) (state_place t.n t.m k c) (input_place t.n t.m k (c - t.n))

-- Two lists have the same numbers before a place.
abbrev pub SameBefore : ℕ → List ℤ → List ℤ → Type 0
SameBefore place a b = (p : ℕ) → p < place → at a p ≡ at b p

-- Every number before a place passes its tests.
pub record FollowsBefore (place : ℕ) (q : Problem) (v : Plan) : Type 0 where
  pub inputs-within : (k j : ℕ) → k < q.horizon → j < q.m → input_place q.n q.m k j < place → Within (q.input_term k j) (v.u k j)
  pub states_meet : (k i : ℕ) → k < q.horizon → i < q.n → state_place q.n q.m k i < place → v.x k i ≡ rounded (sum_at q v k i)
  pub states-within : (k i : ℕ) → k < q.horizon → i < q.n → state_place q.n q.m k i < place → Within (q.state_term k i) (v.x k i)

-- Judging s with a plan that has the same numbers up to and including a place gives no gap, whatever the rest and the multipliers.
pub record NoGapWith (s : List ℕ) (plan : List ℤ) (place : ℕ) : Type 0 where
  pub none : (other y : List ℤ) → SameBefore (place + 1) other plan → (gap : ℤ) → judged s other y ≡ Ok gap → ⊥

-- A fault is the first of the plan, and alone a reason to refuse it.
pub record FirstFault (s : List ℕ) (t : Tape) (plan : List ℤ) (fault : Fault) : Type 0 where
  pub step : fault.step < t.horizon
  pub column : fault.column < t.n + t.m
  pub found : fault.found ≡ at plan (place_of t fault.step fault.column)
  pub earlier : FollowsBefore (place_of t fault.step fault.column) (problem_of t) (plan_of t.n t.m plan)
  pub no_gap : NoGapWith s plan (place_of t fault.step fault.column)

-- 10: a state differs from what the model gives, and it gives that from the numbers before, whatever the others.
pub record OffTheModel (s : List ℕ) (t : Tape) (plan : List ℤ) (fault : Fault) : Type 0 where
  pub first : FirstFault s t plan fault
  pub state : fault.column < t.n
  pub due : (other : List ℤ) → SameBefore (place_of t fault.step fault.column) other plan →
      fault.due ≡ rounded (sum_at (problem_of t) (plan_of t.n t.m other) fault.step fault.column)
  pub differs : fault.found ≡ fault.due → ⊥

-- 11: a number is below lo of its column, or above hi, and that limit is told. A state meets the model there, else it were 10.
pub record OverTheLimit (s : List ℕ) (t : Tape) (plan : List ℤ) (fault : Fault) : Type 0 where
  pub first : FirstFault s t plan fault
  pub passed : ((fault.due ≡ at t.low fault.column) × (fault.found ≺ fault.due))
      ⊎ ((fault.due ≡ at t.high fault.column) × (fault.due ≺ fault.found))
  pub meets : fault.column < t.n → fault.found ≡ rounded (sum_at (problem_of t) (plan_of t.n t.m plan) fault.step fault.column)

-- 13: the plan follows the tape, and cost minus floor is above T.
pub record TooWide (t : Tape) (plan y : List ℤ) (span : Span) : Type 0 where
  pub follows : Follows (problem_of t) (plan_of t.n t.m plan)
  pub cost : span.cost ≡ cost_of t plan
  pub floor : span.floor ≡ floor_of t y
  pub above : t.wanted ≺ span.cost -ℤ span.floor

-- What an answer carries is its true reason.
pub record Reasoned (answer : Result ℤ Refusal) (s : List ℕ) (plan y : List ℤ) : Type 0 where
  pub off_model : (fault : Fault) → answer ≡ Err (OffModel fault) → OffTheModel s (reading s).tape plan fault
  pub over_limit : (fault : Fault) → answer ≡ Err (OverLimit fault) → OverTheLimit s (reading s).tape plan fault
  pub wide : (span : Span) → answer ≡ Err (Wide span) → TooWide (reading s).tape plan y span
