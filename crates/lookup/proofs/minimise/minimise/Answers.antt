use Prim.Native.Nat.{◌+◌, ◌*◌}
use mathlib.Core.Path.{◌≡◌, sym, ◌∙◌}
use native.Mathlib.Omega.{arith}
use lib.IntN.{◌+ℤ◌}
use mir.Syntax.{w64}
use mir.Val.{to_z}
use Rattle.integer.specs.Sum.{sum}
use Rattle.integer.proofs.Sizes.{back, Formed}
use Rattle.integer.proofs.Sum.{sum-none}
use Rattle.integer.proofs.Places.{stretch_join, steps-none, steps_more}
use Rattle.dual.proofs.ByPlace.{place_input, place_state}
use Rattle.lookup.proofs.NumberSums.{inputs_cost, states_cost, call_added, size_inputs_cost, size_states_cost}
use Rattle.lookup.proofs.minimise.minimise.Goals as goal

pub loop-k-init : goal.loop-k-init
loop-k-init c =
    let e = c.requires.1 in
    (rw e, rw e (steps-none 10 120 _), sym (sum-none _), sym (sum-none _))

inputs_next : (c : goal.After-input_numbers-inputs) →
    let l = c.loop-k in
    let a = c.args in
    Formed (to_z w64 l.inputs-bits +ℤ back c.input_numbers-inputs.result) (sum (l.k + 1) (inputs_cost a.table.now a.b.now a.y.now))
inputs_next c =
    let l = c.loop-k in
    let a = c.args in
    let h = c.requires in
    let f = c.input_numbers-inputs in
    call_added 12 _ (size_inputs_cost h.2 a.b.now a.y.now) (omega arith) (omega arith) l.invariant.2 f.type_inv f.ensures.value

pub overflow_add-inputs : goal.overflow_add-inputs
overflow_add-inputs c = (inputs_next c).fits

states_next : (c : goal.After-state_numbers-states) →
    let l = c.loop-k in
    let a = c.args in
    Formed (to_z w64 l.states-bits +ℤ back c.state_numbers-states.result) (sum (l.k + 1) (states_cost a.horizon a.table.now a.a.now a.y.now))
states_next c =
    let l = c.loop-k in
    let a = c.args in
    let h = c.requires in
    let f = c.state_numbers-states in
    call_added 12 _ (size_states_cost h.2 a.horizon a.a.now a.y.now) (omega arith) (omega arith) l.invariant.3 f.type_inv f.ensures.value

pub overflow_add-states : goal.overflow_add-states
overflow_add-states c = (states_next c).fits

pub loop-k-preserved : goal.loop-k-preserved
loop-k-preserved c =
    let l = c.loop-k in
    let inputs = c.input_numbers-inputs.ensures.stretch in
    let states = c.state_numbers-states.ensures.stretch in (
      states.same ∙ inputs.same ∙ l.invariant.0,
      steps_more 10 l.k _ _ _ l.invariant.1
          (stretch_join (10 * l.k) 4 6 _ _ _ _ _ _ inputs states (place_input _ _ l.k) (λ i _. place_state _ _ l.k i)),
      (inputs_next c.before.before).is,
      (states_next c).is,
    )

pub returns : goal.returns
returns c =
    let l = c.loop-k in
    let e : l.k ≡ c.args.horizon = omega arith in
    record {
      steps = (rw e at l.invariant.1, l.invariant.0);
      inputs_value = rw e at l.invariant.2;
      states_value = rw e at l.invariant.3;
    }
