-- The sums that the passes of a round bring along: the cost of the numbers of step 2, that of the candidate, and the bound on the floor.
use Prim.Native.Nat.{ℕ, ◌<◌}
use mathlib.Core.Path.{◌≡◌, sym, ◌∙◌, ap, ap₂}
use mathlib.Core.List.{List}
use native.Mathlib.Omega.{arith}
use lib.IntN.{ℤ, pos, nat_abs, ◌+ℤ◌, ◌-ℤ◌, ◌*ℤ◌, zero-*ℤ}
use Rattle.integer.specs.Order.{◌≼◌}
use Rattle.integer.specs.Places.{Steps}
use Rattle.integer.specs.Sum.{sum}
use Rattle.integer.proofs.Sum.{sum_cong, sum-add, sum_pad}
use Rattle.tape.specs.declared.Tape.{Tape}
use Rattle.tape.specs.Legal.{Legal}
use Rattle.problem.specs.declared.Term.{Term}
use Rattle.problem.specs.Model.{problem_of}
use Rattle.problem.specs.Cost.{total, cost, plan_cost}
use Rattle.problem.specs.Dual.{floor}
use Rattle.problem.proofs.Duality.{sound}
use Rattle.problem.proofs.Upper.{upper, pulls, floor-below_upper}
use Rattle.primal.specs.Padded.{padded, padded_plan}
use Rattle.primal.specs.Padded.{blank_term}
use Rattle.primal.specs.Terms.{TermsOf}
use Rattle.primal.specs.Held.{BlankMultipliers, BlankPlan, HeldPlan}
use Rattle.dual.specs.Slopes.{by_place}
use Rattle.steps.specs.Steps.{minimiser, minimisers}
use Rattle.steps.proofs.Blank.{minimiser-blank}
use Rattle.lookup.specs.Table.{RowsOf}
use Rattle.lookup.specs.Numbers.{input_number, state_number}
use Rattle.lookup.proofs.NumberSums.{inputs_cost, states_cost}
use Rattle.passes.specs.Sums.{forcing, residual_by}
use Rattle.passes.proofs.SumSizes.{pull_at}
use Rattle.passes.proofs.ForcedSums.{sum_forced}
use Rattle.rounds.proofs.Filled.{input_term_lem, state_term_lem, no_input_term, no_state_term, input-number, state-number, inputs-within, states-within, residual-is}

-- a blank term costs nothing at its number
blank-cost : {r : Term} (s : ℤ) → r ≡ blank_term → cost r (minimiser r s) ≡ pos 0
unfolding cost
blank-cost s e = rw (e, minimiser-blank s)

module _ (t : Tape) (legal : Legal t) (y : List ℤ) {all : List Term} {table v : List ℤ} (terms : TermsOf t all)
    (made : RowsOf all table)
    (steps : Steps 10 t.horizon (by_place (input_number table t.b y) (state_number t.horizon table t.a y)) v) where
  abbrev input_costs : (ℕ → ℕ → ℤ) → ℤ
  input_costs u = sum t.horizon (λ k. sum t.m (λ j. cost ((problem_of t).input_term k j) (u k j)))

  abbrev state_costs : (ℕ → ℕ → ℤ) → ℤ
  state_costs x = sum t.horizon (λ k. sum t.n (λ i. cost ((problem_of t).state_term k i) (x k i)))

  early : {k : ℕ} → k < t.horizon → k < 12
  early h = let e = legal.steps.1 in omega arith

  inputs-cost : sum t.horizon (inputs_cost table t.b y) ≡ input_costs (padded_plan v).u
  inputs-cost =
      let few = legal.inputs.1 in
      sum_cong t.horizon _ _
      (λ k h.
      sum_pad t.m 4 _ few (λ j m l. blank-cost _ (no_input_term t legal terms made k j (early h) m l))
      ∙ sum_cong t.m _ _ (λ j m. ap₂ cost (input_term_lem t legal terms made k j h m) (sym (input-number t legal terms made y steps k j h (omega arith)))))

  states-cost : sum t.horizon (states_cost t.horizon table t.a y) ≡ state_costs (padded_plan v).x
  states-cost =
      let few = legal.states.1 in
      sum_cong t.horizon _ _
      (λ k h.
      sum_pad t.n 6 _ few (λ i m l. blank-cost _ (no_state_term t legal terms made k i (early h) m l))
      ∙ sum_cong t.n _ _ (λ i m. ap₂ cost (state_term_lem t legal terms made k i (early h) m) (sym (state-number t legal terms made y steps k i h (omega arith)))))

  -- a plan with the inputs of v costs what they do, and its states
  pub plan_cost_lem : (x : ℕ → ℕ → ℤ) → sum t.horizon (inputs_cost table t.b y) +ℤ state_costs x ≡ plan_cost (problem_of t) (record { u = (padded_plan v).u; x = x })
  unfolding plan_cost total
  plan_cost_lem x = ap (λ (z : ℤ). z +ℤ state_costs x) inputs-cost ∙ sym (sum-add t.horizon _ _)

  -- the sum of y e − 2048 |y| over 6 states is that over n
  module _ {forced : List ℤ} (forces : Steps 6 t.horizon (forcing t.b t.drift v) forced) (none : BlankMultipliers t.n y)
      (blank : BlankPlan t.n t.m v) where
    abbrev pulled : ℤ
    pulled = sum t.horizon (λ k. sum 6 (pull_at t.a forced t.start v y k))

    pulls_are : pulled ≡ pulls (problem_of t) (padded y) (padded_plan v)
    pulls_are =
        let few = legal.states.1 in
        sum_cong t.horizon _ _
        (λ k h.
        sum_pad t.n 6 _ few (λ i m l. rw (none.each k i m l) (nothing (residual_by t.a forced t.start v k i)))
        ∙ sum_cong t.n _ _
        (λ i m. ap (λ (e : ℤ). padded y k i *ℤ e -ℤ pos 2048 *ℤ pos (nat_abs (padded y k i)))
        (sum_forced t.a t.b t.drift t.start v forces k i h (omega arith) ∙ residual-is t legal blank k i)))
      where
        nothing : (e : ℤ) → pos 0 *ℤ e -ℤ pos 2048 *ℤ pos 0 ≡ pos 0
        nothing e = rw (zero-*ℤ e)

    pub upper_sum : sum t.horizon (inputs_cost table t.b y) +ℤ sum t.horizon (states_cost t.horizon table t.a y) +ℤ pulled
        ≡ upper (problem_of t) (padded y) (padded_plan v)
    upper_sum =
        ap₂ (λ (a b : ℤ). a +ℤ b)
        (ap (λ (z : ℤ). sum t.horizon (inputs_cost table t.b y) +ℤ z) states-cost ∙ plan_cost_lem (padded_plan v).x) pulls_are

    -- so it is no less than the floor
    pub floor-below : HeldPlan t.n t.m t.horizon (minimisers (problem_of t) (padded y)) v →
        floor (problem_of t) (padded y) ≼ sum t.horizon (inputs_cost table t.b y) +ℤ sum t.horizon (states_cost t.horizon table t.a y) +ℤ pulled
    floor-below held =
        rw upper_sum
        (floor-below_upper (problem_of t) (padded y) (padded_plan v) (sound t legal) (inputs-within legal (padded y) held).each (states-within legal (padded y) held))
