use Prim.Native.Nat.{◌+◌, ◌*◌, ◌/◌, ◌%◌, ◌<◌}
use mathlib.Core.Path.{refl, ◌∙◌}
use native.Mathlib.Omega.{arith}
use borrow.Author.Tests.{lt-ltb, le-ltb}
use Rattle.integer.proofs.Sizes.{called, element_is}
use Rattle.ascent.proofs.Places.{row_small}
use Rattle.ascent.proofs.band.multiplier_at.Goals as goal
use Rattle.ascent.proofs.band.multiplier_at.Tie as tie
use Rattle.ascent.proofs.band.multiplier_at.Reads as reads
use Rattle.ascent.proofs.band.multiplier_at.Lts as lts

-- the row of the place is one of 72
row : (c : lts.Then1 tie.the-claims reads.Pre reads.Post) → let a = c.args in a.p / 6 * a.n + a.p % 6 < 72
row c =
    let s = c.before in
    row_small s.args.p s.args.n s.requires.0 s.requires.1 (omega arith)

pub overflow_mul-p : goal.overflow_mul-p
overflow_mul-p c = omega (arith, row c.before)

pub overflow_add-p : goal.overflow_add-p
overflow_add-p c = omega (arith, row c.before)

pub offset_bounds-d-p : goal.offset_bounds-d-p
offset_bounds-d-p c = omega (arith, row c.before)

pub bounds-d-p : goal.bounds-d-p
bounds-d-p c = row c.before

pub next_multiplier-requires : goal.next_multiplier-requires
next_multiplier-requires c =
    let s = c.before.before.before in
    rw (element_is s.requires.2 (omega arith) s.args.p) (s.requires.2.each s.args.p)

pub returns-then-i-n : goal.returns-then-i-n
returns-then-i-n c =
    let s = c.before.before.before.before in
    let r = c.next_multiplier in
    rw (lt-ltb (s.args.p % 6) s.args.n (omega arith)) (called r.result r.type_inv ∙ rw (element_is s.requires.2 (omega arith) s.args.p) at r.ensures)

pub returns : goal.returns
returns c =
    let s = c.before in
    rw (le-ltb (s.args.p % 6) s.args.n (omega arith)) refl
