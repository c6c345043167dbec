use Prim.Native.Nat.{◌+◌, ◌*◌}
use native.Mathlib.Omega.{arith}
use lib.IntN.{◌+ℤ◌}
use Rattle.integer.specs.Places.{at}
use Rattle.integer.proofs.Sizes.{called, wider, back, element_is, Formed, formed}
use Rattle.problem.specs.Model.{model_sum}
use Rattle.primal.specs.Padded.{input_matrix}
use Rattle.primal.proofs.ProductSizes.{dotted}
use Rattle.primal.proofs.ModelSizes.{from_states, from_inputs, model_at, size_both, size_model}
use Rattle.primal.proofs.model.model_sum.Goals as goal

pub dot-inputs-requires : goal.dot-inputs-requires
dot-inputs-requires c =
    let p = c.requires in (
      omega arith,
      omega (arith, c.dot-arg-1.given),
      record { each = λ q h. omega (arith, c.dot-arg-2-1.given) },
      wider p.3 (omega arith),
      wider p.6 (omega arith),
    )

-- the states' part and the inputs'
both : (c : goal.After-dot-inputs) →
    let f = c.before.before.before in
    let a = f.args in
    Formed (back f.from_states-states.result +ℤ back c.dot-inputs.result) (from_states a.a.now a.start.now a.v.now a.k a.i +ℤ from_inputs a.b.now a.v.now a.k a.i)
both c =
    let s = c.before.before.before.before in
    let a = s.args in
    let h = s.requires in
    let f = c.from_states-states in
    let inputs = dotted 4 (input_matrix a.b.now a.i) a.v.now (λ j. 10 * a.k + j) c.dot-inputs.type_inv c.dot-inputs.ensures (λ j. omega arith) in
    formed (rw (called f.result f.type_inv, f.ensures, inputs)) (size_both h.2 h.3 h.4 h.5 h.6 a.k a.i) (omega arith)

pub overflow_add-result : goal.overflow_add-result
overflow_add-result c = (both c).fits

whole : (c : goal.After-result-1) →
    let f = c.before.before.before.before in
    let a = f.args in
    Formed (back (back f.from_states-states.result +ℤ back c.dot-inputs.result) +ℤ back (at a.drift.now a.i))
    (model_at a.a.now a.b.now a.drift.now a.start.now a.v.now a.k a.i)
unfolding model_sum
whole c =
    let s = c.before.before.before.before.before in
    let h = s.requires in
    formed (rw ((both c.before).is, element_is h.4 (omega arith) s.args.i))
    (size_model h.2 h.3 h.4 h.5 h.6 s.args.k s.args.i) (omega arith)

pub overflow_add-result-2 : goal.overflow_add-result-2
overflow_add-result-2 c = (whole c).fits

pub returns : goal.returns
returns c = (whole c).is
