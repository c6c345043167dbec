use Prim.Native.Nat.{◌+◌, ◌*◌}
use mathlib.Core.Path.{◌∙◌, ap}
use native.Mathlib.Omega.{arith}
use lib.IntN.{◌+ℤ◌}
use Rattle.integer.specs.Places.{at}
use Rattle.integer.proofs.Sizes.{called, back, element_is, Formed, formed}
use Rattle.problem.specs.Model.{rounded}
use Rattle.passes.specs.Sums.{sum_by}
use Rattle.passes.proofs.SumSizes.{size-sum_by}
use Rattle.passes.proofs.followed.next_state.Goals as goal

-- S
formed_sum : (c : goal.After-state_of-arg-1) →
    let a = c.args in
    Formed (back c.from_states.result +ℤ back (at a.forced.now (6 * a.k + a.i)))
    (sum_by a.a.now a.forced.now a.start.now a.plan.now a.k a.i)
formed_sum c =
    let s = c.before.before in
    let f = c.from_states in
    let h = s.requires in
    formed (rw (called f.result f.type_inv, f.ensures, element_is h.3 (omega arith) (6 * s.args.k + s.args.i)))
    (size-sum_by h.2 h.3 h.4 h.5 s.args.k s.args.i) (omega arith)

pub overflow_add-from_states : goal.overflow_add-from_states
overflow_add-from_states c = (formed_sum c).fits

pub state_of-requires : goal.state_of-requires
state_of-requires c =
    let s = c.before.before in
    let h = s.requires in
    rw (formed_sum c).is (omega (arith, size-sum_by h.2 h.3 h.4 h.5 s.args.k s.args.i))

pub returns : goal.returns
returns c = let f = c.state_of in called f.result f.type_inv ∙ f.ensures ∙ ap rounded (formed_sum c.before).is
