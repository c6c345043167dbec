use Prim.Native.Nat.{ℕ, ◌+◌, ◌*◌}
use mathlib.Core.Path.{◌≡◌, ◌∙◌, ap, ap₂, fun_ext}
use mathlib.Core.List.{◌++◌}
use native.Mathlib.Omega.{arith}
use lib.ListN.{length}
use Rattle.integer.specs.Places.{at}
use Rattle.integer.proofs.Sizes.{wider}
use Rattle.primal.specs.Padded.{padded_plan}
use Rattle.primal.specs.Lent.{listed}
use Rattle.solver.proofs.write.write_step.Goals as goal

pub write_numbers-requires : goal.write_numbers-requires
write_numbers-requires c = (omega arith, wider c.requires.4 (omega arith))

pub write_numbers-requires-2 : goal.write_numbers-requires-2
write_numbers-requires-2 c = (omega arith, wider c.requires.4 (omega arith))

pub returns : goal.returns
returns c =
    let a = c.args in
    let parts = c.split_at_mut-inputs.result in
    let plan = padded_plan a.v.now in
    let inputs : length parts.0.now ≡ a.m = omega arith in
    let states : length parts.1.now ≡ a.n = omega arith in
    let from : (λ i. at a.v.now (10 * a.k + 4 + i)) ≡ plan.x a.k = fun_ext (λ i. ap (at a.v.now) (omega arith)) in
    ap₂ ◌++◌ (c.write_numbers.ensures ∙ ap (λ (w : ℕ). listed w (plan.u a.k)) inputs)
    (c.write_numbers-2.ensures ∙ ap₂ listed states from)
