-- The candidate step by step: the model's states, their tests and their cost, from an array that holds the steps before and the inputs.
use Prim.Native.Nat.{ℕ, ◌+◌, ◌*◌, ◌<◌, ◌≤◌}
use mathlib.Core.Path.{◌≡◌, refl, sym, ◌∙◌, ap, ap₂}
use mathlib.Core.Bool.{Bool, false, ◌||◌}
use mathlib.Core.List.{List}
use mathlib.Core.Logic.{inr}
use native.Mathlib.Omega.{arith}
use lib.ListN.{length}
use lib.IntN.{ℤ, pos, ◌+ℤ◌, ◌*ℤ◌, +ℤ_assoc}
use Rattle.integer.specs.Places.{at, Bounded, Stretch}
use Rattle.integer.specs.Sum.{sum}
use Rattle.integer.specs.Tests.{any}
use Rattle.integer.proofs.Sum.{sum-none, sum_last, sum_cong}
use Rattle.integer.proofs.Tests.{not_outside, any_all, any_cong, any_more}
use Rattle.integer.proofs.Places.{stretch_cong, stretch_beside}
use Rattle.commands.specs.Ranges.{most_number}
use Rattle.tape.specs.declared.Tape.{Tape}
use Rattle.problem.specs.Model.{Problem, Plan, problem_of, state_at, model_sum, rounded}
use Rattle.problem.specs.Cost.{cost}
use Rattle.primal.specs.Padded.{padded_plan}
use Rattle.primal.specs.Held.{HeldPlan}
use Rattle.primal.proofs.Padding.{sum_products}
use Rattle.primal.proofs.HeldSteps.{states_before, held_start, held_next}
use Rattle.steps.specs.Steps.{model_states, candidate, exceeds}
use Rattle.steps.proofs.ModelStates.{model_states_lem}
use Rattle.passes.specs.Followed.{Lends}
use Rattle.passes.proofs.StepSums.{next_state, is_over, state_cost}

-- a number of step k is outside its limits
abbrev pub step_dropped : Problem → Plan → ℕ → Bool
step_dropped q v k =
    any q.m (λ j. exceeds (q.input_term k j) (v.u k j)) || any q.n (λ i. exceeds (q.state_term k i) (v.x k i))

-- what the states of step k cost
abbrev pub step_cost : Problem → Plan → ℕ → ℤ
step_cost q v k = sum q.n (λ i. cost (q.state_term k i) (v.x k i))

-- l holds the inputs u, and the candidate's states of the first k steps: they are within their limits, and cost `total`
pub record Begun (t : Tape) (u : ℕ → ℕ → ℤ) (k : ℕ) (l : List ℤ) (total : ℤ) : Type 0 where
  pub held : HeldPlan t.n t.m k (candidate (problem_of t) u) l
  pub inputs : (q j : ℕ) → j < t.m → (padded_plan l).u q j ≡ u q j
  pub kept : any k (step_dropped (problem_of t) (candidate (problem_of t) u)) ≡ false
  pub cost : total ≡ sum k (step_cost (problem_of t) (candidate (problem_of t) u))

module _ {t : Tape} {table a forced start : List ℤ} {n horizon : ℕ} {v : List ℤ} (lent : Lends t table a forced start n horizon v) where
  -- no step yet
  pub begun_none : Bounded most_number v → length v ≡ 120 → Begun t (padded_plan v).u 0 v (pos 0)
  unfolding any
  begun_none bounded long =
      record { held = held_start lent.blank bounded long; inputs = λ q j h. refl; kept = refl; cost = sym (sum-none _) }

  module _ {k : ℕ} {l : List ℤ} {total : ℤ} (begun : Begun t (padded_plan v).u k l total) (early : k < t.horizon) where
    -- the columns of A beyond the sizes are 0, and the states before the step are the candidate's
    before_are : (i : ℕ) → sum 6 (λ j. at t.a (6 * i + j) *ℤ state_at (at t.start) (padded_plan l).x k j)
        ≡ sum t.n (λ j. at t.a (6 * i + j) *ℤ state_at (at t.start) (model_states (problem_of t) (padded_plan v).u) k j)
    before_are i =
        sum_products t.n 6 _ _ lent.legal.states.1 (λ j h m. lent.legal.blank_a i j m (inr h))
        ∙ sum_cong t.n _ _
        (λ j h. ap (λ (z : ℤ). at t.a (6 * i + j) *ℤ z) (states_before (at t.start) k t.n begun.held.state j h))

    states_are : (i : ℕ) → i < t.n → next_state a forced start l k i ≡ model_states (problem_of t) (padded_plan v).u k i
    unfolding model_sum
    states_are i h =
        ap rounded
        (rw (lent.matrix, lent.started, lent.forces k i early h, before_are i, +ℤ_assoc))
        ∙ sym (model_states_lem (problem_of t) (padded_plan v).u k i)

    early_place : k < 12
    early_place = omega (arith, lent.legal.steps)

    -- what the loop of step k tested: inputs within their limits drop no step
    pub step-tested : {r : Bool} → r ≡ any n (is_over table a forced start l k) →
        r ≡ step_dropped (problem_of t) (candidate (problem_of t) (padded_plan v).u) k
    step-tested e =
        (rw lent.states at e)
        ∙ sym
        (ap₂ ◌||◌ (any_all t.m _ (λ j b. not_outside _ _ ((padded_plan v).u k j) (lent.within.each k j early b)))
        (any_cong t.n _ _ (λ i b. sym (ap₂ exceeds (lent.terms k i early_place b) (states_are i b)))))

    -- no state is over its limits, and all are stored in z
    pub step_begun : {z : List ℤ} {c : ℤ} → any n (is_over table a forced start l k) ≡ false → Bounded most_number z →
        Stretch (10 * k + 4) n (next_state a forced start l k) l z → c ≡ sum n (state_cost table a forced start l k) →
        Begun t (padded_plan v).u (k + 1) z (total +ℤ c)
    step_begun none bounded filled price =
        let stored = rw lent.states at filled in
        let few : (t.n ≤ 6) × (t.m ≤ 4) = (lent.legal.states.1, lent.legal.inputs.1) in
        let given : Stretch (10 * k) t.m ((padded_plan v).u k) l l = record { inside = begun.inputs k; outside = λ p h. refl; same = refl } in
        record {
          held = held_next few begun.held given (stretch_cong stored states_are) bounded;
          inputs = λ q j h. stretch_beside stored (10 * q + j) (λ b. omega (arith, few)) ∙ begun.inputs q j h;
          kept = any_more k _ begun.kept (sym (step-tested (sym none)));
          cost =
              ap₂ (λ (x y : ℤ). x +ℤ y) begun.cost
              ((rw lent.states at price)
              ∙ sum_cong t.n _ _ (λ i b. ap₂ cost (lent.terms k i early_place b) (states_are i b)))
              ∙ sym (sum_last k _);
        }
