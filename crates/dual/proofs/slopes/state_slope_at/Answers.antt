use Prim.Native.Nat.{◌+◌, ◌*◌}
use native.Mathlib.Omega.{arith}
use lib.IntN.{negsuc, ◌+ℤ◌, ◌*ℤ◌}
use Rattle.integer.proofs.Sizes.{called, back, element_is, Formed, formed}
use Rattle.problem.specs.Dual.{state_slope}
use Rattle.primal.specs.Padded.{state_matrix, padded}
use Rattle.dual.proofs.SlopeSizes.{size-scaled, size-state_slope}
use Rattle.dual.proofs.slopes.state_slope_at.Goals as goal

scaled : (c : goal.After-result-1) →
    let a = c.args in
    Formed (negsuc 4095 *ℤ back (padded a.y.now a.k a.i)) (negsuc 4095 *ℤ padded a.y.now a.k a.i)
scaled c =
    let a = c.args in
    let h = c.requires.4 in
    let p = 6 * a.k + a.i in
    formed (rw (element_is h (omega arith) p)) (size-scaled h p) (omega arith)

pub overflow_mul-result-2 : goal.overflow_mul-result-2
overflow_mul-result-2 c = (scaled c).fits

slope : (c : goal.After-carried_slope) →
    let a = c.args in
    Formed (back (negsuc 4095 *ℤ back (padded a.y.now a.k a.i)) +ℤ back c.carried_slope.result)
    (state_slope 6 a.horizon (state_matrix a.a.now) (padded a.y.now) a.k a.i)
unfolding state_slope
slope c =
    let f = c.carried_slope in
    let h = c.requires in
    formed (rw ((scaled c.before).is, called f.result f.type_inv, f.ensures)) (size-state_slope h.3 h.4 _ _ _) (omega arith)

pub overflow_add-result-2 : goal.overflow_add-result-2
overflow_add-result-2 c = (slope c).fits

pub returns : goal.returns
returns c = (slope c).is
