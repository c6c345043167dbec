-- Document 01, "The rounds": the four steps of a round.
use Rattle.std.specs.Prelude.{ℕ, zero, suc, Bool, false, cond, ◌||◌, Option, Some, None, ℤ, pos, ◌+ℤ◌, ◌-ℤ◌, ◌*ℤ◌, neg_ℤ}
use Rattle.std.specs.Int.Signed.{le_z}
use Rattle.integer.specs.Limited.{limited}
use Rattle.integer.specs.Quotient.{◌÷◌}
use Rattle.integer.specs.Tests.{outside, any}
use Rattle.commands.specs.Ranges.{most_multiplier}
use Rattle.tape.specs.declared.Tape.{Tape}
use Rattle.problem.specs.declared.Term.{Term}
use Rattle.problem.specs.Model.{Problem, Plan, problem_of, model_sum, rounded}
use Rattle.problem.specs.Cost.{plan_cost}
use Rattle.problem.specs.Dual.{input_slope, state_slope, weightless, unweighted, floor, shows}
use Rattle.steps.specs.declared.verdict.Verdict.{Verdict}
use Rattle.steps.specs.declared.verdict.Verdict.TheVariants.{Proved, Impossible}

-- Limited to the multiplier range.
abbrev pub multiplier : ℤ → ℤ
multiplier y = limited (neg_ℤ (pos most_multiplier)) (pos most_multiplier) y

-- ---- 1. y~, from y and the y before it

unfoldable pub ahead : ℤ → ℤ → ℤ → ℤ
ahead k y previous = multiplier (y +ℤ ((k -ℤ pos 1) *ℤ (y -ℤ previous)) ÷ (k +ℤ pos 2))

-- ---- 2. The number with slope s that makes its part of the Lagrangian least; at P = 0 by the rule of the piece

unfoldable pub minimiser : Term → ℤ → ℤ
minimiser t s =
    cond (weightless t.penalty) (unweighted t.low t.high s)
    (limited t.low t.high ((pos 2 *ℤ t.penalty *ℤ t.reference -ℤ s +ℤ t.penalty) ÷ (pos 2 *ℤ t.penalty)))

abbrev pub minimisers : Problem → (ℕ → ℕ → ℤ) → Plan
minimisers q y = record {
  u = λ k j. minimiser (q.input_term k j) (input_slope q.n q.B y k j);
  x = λ k i. minimiser (q.state_term k i) (state_slope q.n q.horizon q.A y k i);
}

-- ---- 3. The candidate, and what the round says

-- x(k+1,i) as the model gives it from the start and the inputs u
unfoldable pub model_states : Problem → (ℕ → ℕ → ℤ) → ℕ → ℕ → ℤ
model_states q u zero i = rounded (model_sum q.n q.m q.A q.B q.w q.start (u zero) i)
model_states q u (suc k) i = rounded (model_sum q.n q.m q.A q.B q.w (model_states q u k) (u (suc k)) i)

abbrev pub candidate : Problem → (ℕ → ℕ → ℤ) → Plan
candidate q u = record { u = u; x = model_states q u }

-- v is outside lo to hi
abbrev pub exceeds : Term → ℤ → Bool
exceeds t v = outside t.low t.high v

-- A candidate is dropped where a number of it is outside lo to hi. Its states meet the model, so it follows the tape otherwise.
unfoldable pub dropped : Problem → Plan → Bool
dropped q v =
    any q.horizon
    (λ k. any q.m (λ j. exceeds (q.input_term k j) (v.u k j)) || any q.n (λ i. exceeds (q.state_term k i) (v.x k i)))

-- K minus the floor of the multipliers
abbrev pub gap : Problem → Plan → (ℕ → ℕ → ℤ) → ℤ
gap q v y = plan_cost q v -ℤ floor q y

-- It follows the tape and its gap under y is at most T: 'proved'. Otherwise, if y shows impossibility: 'impossible'.
unfoldable pub verdict : Tape → Plan → (ℕ → ℕ → ℤ) → Option Verdict
verdict t v y =
    cond (cond (dropped (problem_of t) v) false (le_z (gap (problem_of t) v y) t.wanted))
    (Some (Proved (gap (problem_of t) v y)))
    (cond (shows (problem_of t) y) (Some Impossible) None)

-- ---- 4. The next y, from y~ and its correction

unfoldable pub ascended : ℤ → ℤ → ℤ
ascended y correction = multiplier (y +ℤ correction)

-- command 50's correction, from the residual e of the numbers of 2
abbrev pub gain_correction : ℤ → ℤ → ℤ
gain_correction gain e = (e *ℤ gain +ℤ pos 32768) ÷ pos 65536
