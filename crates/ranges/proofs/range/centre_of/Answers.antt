use Prim.Native.Nat.{◌≤◌}
use mathlib.Core.Path.{◌≡◌, ◌∙◌}
use mathlib.Core.Bool.{false}
use native.Mathlib.Omega.{arith}
use lib.IntN.{ℤ, pos, nat_abs, ◌-ℤ◌, ◌*ℤ◌}
use lib.Signed.{le_z}
use mir.Facts.{to_z-of_z}
use Rattle.integer.proofs.Sizes.{called, size-sub, back, back_is, Formed, formed}
use Rattle.commands.specs.Ranges.{most_number}
use Rattle.problem.specs.declared.Term.{Term}
use Rattle.problem.specs.Dual.{tilt}
use Rattle.primal.specs.Padded.{term_of}
use Rattle.ranges.specs.Range.{centre}
use Rattle.ranges.proofs.EndSizes.{size_double, size_place}
use Rattle.ranges.proofs.range.centre_of.Goals as goal
use Rattle.ranges.proofs.range.centre_of.Tie as tie
use Rattle.ranges.proofs.range.centre_of.Reads as reads
use Rattle.ranges.proofs.range.centre_of.Lts as lts

abbrev term : lts.Start tie.the-claims reads.Pre reads.Post → Term
term c = let a = c.args in term_of a.p a.low a.high a.r

-- 2P, and 2P v
double : (c : lts.Start tie.the-claims reads.Pre reads.Post) → Formed (pos 2 *ℤ back c.args.p) (pos 2 *ℤ c.args.p)
double c = formed (rw (to_z-of_z c.ranges.p)) (size_double c.args.p c.requires.0.penalty) (omega arith)

place : (c : lts.Start tie.the-claims reads.Pre reads.Post) (v : ℤ) → nat_abs v ≤ most_number → Formed (back (pos 2 *ℤ back c.args.p) *ℤ back v) (pos 2 *ℤ c.args.p *ℤ v)
place c v h = formed (rw ((double c).is, back_is v h (omega arith))) (size_place c.args.p v c.requires.0.penalty h) (omega arith)

third : (c : lts.Start tie.the-claims reads.Pre reads.Post) →
    let a = c.args in
    Formed (back (back (pos 2 *ℤ back a.p) *ℤ back a.r) -ℤ back a.s) (pos 2 *ℤ a.p *ℤ a.r -ℤ a.s)
third c =
    let a = c.args in
    let h = c.requires.0 in
    formed (rw ((place c a.r h.reference).is, to_z-of_z c.ranges.s))
    (size-sub (pos 2 *ℤ a.p *ℤ a.r) a.s (size_place a.p a.r h.penalty h.reference) c.requires.1) (omega arith)

-- ---- The two tests

low_is : (c : lts.After-tilt_at tie.the-claims reads.Pre reads.Post) → let b = c.before in back c.tilt_at.result ≡ tilt (term b) b.args.s b.args.low
unfolding tilt
low_is c =
    let f = c.ranges in
    called c.tilt_at.result c.tilt_at.type_inv ∙ rw (to_z-of_z f.p, to_z-of_z f.low, to_z-of_z f.r, to_z-of_z f.s) at c.tilt_at.ensures

high_is : (c : lts.After-tilt_at2 tie.the-claims reads.Pre reads.Post) → let b = c.before.before.before in back c.tilt_at-2.result ≡ tilt (term b) b.args.s b.args.high
unfolding tilt
high_is c =
    let f = c.ranges in
    called c.tilt_at-2.result c.tilt_at-2.type_inv ∙ rw (to_z-of_z f.p, to_z-of_z f.high, to_z-of_z f.r, to_z-of_z f.s) at c.tilt_at-2.ensures

low_left : (c : lts.Else1 tie.the-claims reads.Pre reads.Post) → let b = c.before.before in le_z (pos 0) (tilt (term b) b.args.s b.args.low) ≡ false
low_left c = rw (low_is c.before) at c.if-tilt_at-ge0.false

pub overflow_mul-result : goal.overflow_mul-result
overflow_mul-result c = (double c.before.before).fits

pub overflow_mul-result-then-tilt_at-ge0 : goal.overflow_mul-result-then-tilt_at-ge0
overflow_mul-result-then-tilt_at-ge0 c = let b = c.before.before in (place b b.args.low b.requires.0.low).fits

pub returns-then-tilt_at-ge0 : goal.returns-then-tilt_at-ge0
unfolding centre
returns-then-tilt_at-ge0 c =
    let b = c.before.before in
    let test = rw (low_is c.before) at c.if-tilt_at-ge0.true in
    (place b b.args.low b.requires.0.low).is ∙ rw test

pub overflow_mul-result-then-tilt_at-le0 : goal.overflow_mul-result-then-tilt_at-le0
overflow_mul-result-then-tilt_at-le0 c = (double c.before.before.before.before).fits

pub overflow_mul-result-then-tilt_at-le0-2 : goal.overflow_mul-result-then-tilt_at-le0-2
overflow_mul-result-then-tilt_at-le0-2 c = let b = c.before.before.before.before in (place b b.args.high b.requires.0.high).fits

pub returns-then-tilt_at-le0 : goal.returns-then-tilt_at-le0
unfolding centre
returns-then-tilt_at-le0 c =
    let b = c.before.before.before.before in
    let first = low_left c.before.before in
    let test = rw (high_is c.before) at c.if-tilt_at-le0.true in
    (place b b.args.high b.requires.0.high).is ∙ rw (first, test)

pub overflow_mul-result-2 : goal.overflow_mul-result-2
overflow_mul-result-2 c = (double c.before.before.before.before).fits

pub overflow_mul-result-3 : goal.overflow_mul-result-3
overflow_mul-result-3 c = let b = c.before.before.before.before in (place b b.args.r b.requires.0.reference).fits

pub overflow_sub-result : goal.overflow_sub-result
overflow_sub-result c = (third c.before.before.before.before).fits

pub returns : goal.returns
unfolding centre
returns c =
    let first = low_left c.before.before in
    let second = rw (high_is c.before) at c.if-tilt_at-le0.false in
    (third c.before.before.before.before).is ∙ rw (first, second)
