use Prim.Native.Nat.{◌+◌, ◌*◌}
use native.Mathlib.Omega.{arith}
use lib.IntN.{pos, ◌+ℤ◌, ◌-ℤ◌, ◌*ℤ◌}
use Rattle.integer.proofs.Sizes.{called, back, element_is, Formed, formed}
use Rattle.primal.specs.Padded.{padded, padded_plan}
use Rattle.primal.proofs.ProductSizes.{size_units}
use Rattle.passes.specs.Sums.{sum_by, residual_by}
use Rattle.passes.proofs.SumSizes.{size-sum_by, size-residual_by}
use Rattle.passes.proofs.ascend.residual_at.Goals as goal

summed : (c : goal.After-result-1) →
    let f = c.before in
    let a = f.args in
    Formed (back f.from_states.result +ℤ back (padded a.forced.now a.k a.i))
    (sum_by a.a.now a.forced.now a.start.now a.v.now a.k a.i)
summed c =
    let f = c.from_states in
    let a = c.args in
    let h = c.requires in
    formed (rw (called f.result f.type_inv, f.ensures, element_is h.3 (omega arith) (6 * a.k + a.i)))
    (size-sum_by h.2 h.3 h.4 h.5 a.k a.i) (omega arith)

pub overflow_add-result-2 : goal.overflow_add-result-2
overflow_add-result-2 c = (summed c).fits

scaled : (c : goal.After-result-2-1) →
    let a = c.args in
    Formed (pos 4096 *ℤ back ((padded_plan a.v.now).x a.k a.i)) (pos 4096 *ℤ (padded_plan a.v.now).x a.k a.i)
scaled c =
    let a = c.args in
    let h = c.requires.5 in
    let p = 10 * a.k + (4 + a.i) in
    formed (rw (element_is h (omega arith) p)) (size_units h p) (omega arith)

pub overflow_mul-result-3 : goal.overflow_mul-result-3
overflow_mul-result-3 c = (scaled c).fits

whole : (c : goal.After-result-2-1) →
    let f = c.before.before in
    let a = f.args in
    Formed (back (back f.from_states.result +ℤ back (padded a.forced.now a.k a.i))
    -ℤ back (pos 4096 *ℤ back ((padded_plan a.v.now).x a.k a.i)))
    (residual_by a.a.now a.forced.now a.start.now a.v.now a.k a.i)
whole c =
    let s = c.before.before.before in
    let h = s.requires in
    formed (rw ((summed c.before).is, (scaled c).is)) (size-residual_by h.2 h.3 h.4 h.5 s.args.k s.args.i) (omega arith)

pub overflow_sub-result : goal.overflow_sub-result
overflow_sub-result c = (whole c).fits

pub returns : goal.returns
returns c = (whole c).is
