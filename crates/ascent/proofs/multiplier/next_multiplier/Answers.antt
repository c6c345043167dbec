use Prim.Native.Nat.{◌≤◌}
use mathlib.Core.Path.{◌≡◌, ◌∙◌}
use mathlib.Core.Bool.{true}
use native.Mathlib.Omega.{arith}
use lib.IntN.{nat_abs, ◌+ℤ◌}
use lib.Ieee.{of_bits, of_fields, odd, span, climb, size, units, neg}
use Rattle.integer.proofs.Sizes.{back_is, called, fits_by, size-add}
use Rattle.float.specs.Value.{finite}
use Rattle.float.proofs.Signs.{passed}
use Rattle.float.proofs.Finite.{finite_of, not_finite}
use Rattle.steps.specs.Steps.{ascended}
use Rattle.ascent.specs.Correction.{whole_nearest}
use Rattle.ascent.proofs.Nearing.{not_finite-next, top_next, bottom_next, within, nearest-size}
use Rattle.ascent.proofs.multiplier.next_multiplier.Goals as goal
use Rattle.ascent.proofs.multiplier.next_multiplier.Tie as tie
use Rattle.ascent.proofs.multiplier.next_multiplier.Reads as reads
use Rattle.ascent.proofs.multiplier.next_multiplier.Lts as lts

is_finite : (c : lts.Else1 tie.the-claims reads.Pre reads.Post) → finite c.args.d ≡ true
unfolding of_bits of_fields odd
is_finite c = finite_of c.args.d c.if-d.false

-- the whole number nearest to d, where both tests have passed
near : (c : goal.After-nearest) → nat_abs c.nearest.result ≤ 33554432
unfolding of_bits of_fields odd span climb size units neg
near c =
    let t = c.before in
    let d = t.args.d in
    rw c.nearest.ensures (nearest-size d (passed (is_finite t.before.before)) t.if-d-2.false t.if-d-3.false)

pub returns-then-d : goal.returns-then-d
unfolding of_bits of_fields odd span climb size units neg
returns-then-d c =
    let s = c.before in
    rw (back_is s.args.y s.requires (omega arith)) (not_finite-next s.args.y s.args.d s.requires (not_finite s.args.d (passed s.well_formed.1.0.1) c.if-d.true))

pub returns-then-d-2 : goal.returns-then-d-2
unfolding of_bits of_fields odd span climb size units neg
returns-then-d-2 c =
    let s = c.before.before in
    top_next s.args.y s.args.d s.requires (passed (is_finite c.before)) c.if-d-2.true

pub returns-then-d-3 : goal.returns-then-d-3
unfolding of_bits of_fields odd span climb size units neg
returns-then-d-3 c =
    let s = c.before.before.before in
    bottom_next s.args.y s.args.d s.requires (passed (is_finite c.before.before)) c.if-d-3.true

pub nearest-requires : goal.nearest-requires
unfolding of_bits of_fields odd span climb size units neg
nearest-requires c = within c.args.d (passed (is_finite c.before.before)) c.if-d-2.false c.if-d-3.false

pub overflow_add-y : goal.overflow_add-y
overflow_add-y c =
    let s = c.before.before.before.before in
    rw (back_is s.args.y s.requires (omega arith), back_is c.nearest.result (near c) (omega arith))
    (fits_by (s.args.y +ℤ c.nearest.result) (size-add s.args.y c.nearest.result s.requires (near c)) (omega arith))

pub returns : goal.returns
unfolding ascended whole_nearest
returns c =
    let s = c.before.before.before.before.before in
    let n = c.nearest in
    let k = near c.before in
    let y = s.args.y in
    called c.limit.result c.limit.type_inv
    ∙ rw (back_is n.result k (omega arith), back_is y s.requires (omega arith), back_is (y +ℤ n.result) (size-add y n.result s.requires k) (omega arith), n.ensures) at c.limit.ensures
