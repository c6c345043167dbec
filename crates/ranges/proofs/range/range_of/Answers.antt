use Prim.Native.Nat.{◌≤◌}
use mathlib.Core.Path.{◌≡◌, ◌∙◌}
use native.Mathlib.Omega.{arith}
use lib.IntN.{ℤ, pos, nat_abs, ◌+ℤ◌, ◌-ℤ◌, ◌*ℤ◌}
use mir.Facts.{to_z-of_z}
use Rattle.integer.specs.Limited.{limited}
use Rattle.integer.specs.Order.{◌≼◌}
use Rattle.integer.proofs.Parts.{times}
use Rattle.integer.proofs.Order.{order}
use Rattle.integer.proofs.Sizes.{fitting, fit, called, size-add, size-sub, back, Formed, formed}
use Rattle.integer.proofs.Tests.{not_at-most}
use Rattle.problem.specs.declared.Term.{Term}
use Rattle.primal.specs.Padded.{term_of}
use Rattle.ranges.specs.Range.{centre, reach, lowest, highest, range_of}
use Rattle.ranges.proofs.Ends.{range_promise}
use Rattle.ranges.proofs.EndSizes.{most_centre, size_double, size-centre, size-reach}
use Rattle.ranges.proofs.range.range_of.Goals as goal
use Rattle.ranges.proofs.range.range_of.Tie as tie
use Rattle.ranges.proofs.range.range_of.Reads as reads
use Rattle.ranges.proofs.range.range_of.Lts as lts

abbrev term : lts.Start tie.the-claims reads.Pre reads.Post tie.handed_clauses → Term
term c = let a = c.args in term_of a.p a.low a.high a.r

weighed : (c : lts.Else1 tie.the-claims reads.Pre reads.Post tie.handed_clauses) → pos 1 ≼ c.args.p
weighed c = omega (arith, fitting, fit c.ranges.p)

-- ---- What the code forms: the centre, the reach, 2P, and the two numbers that are divided by it

abbrev start : goal.After-reach_of-b → lts.Start tie.the-claims reads.Pre reads.Post tie.handed_clauses
start c = c.before.before.before

centre_is : (c : goal.After-centre_of-c) → let b = c.before.before in back c.centre_of-c.result ≡ centre (term b) b.args.s
centre_is c =
    let f = c.ranges in
    called c.centre_of-c.result c.centre_of-c.type_inv
    ∙ rw (to_z-of_z f.p, to_z-of_z f.low, to_z-of_z f.high, to_z-of_z f.r, to_z-of_z f.s) at c.centre_of-c.ensures

reach_is : (c : goal.After-reach_of-b) → let a = (start c).args in back c.reach_of-b.result ≡ reach a.p a.gap
reach_is c =
    let f = (start c).ranges in
    called c.reach_of-b.result c.reach_of-b.type_inv ∙ rw (to_z-of_z f.p, to_z-of_z f.gap) at c.reach_of-b.ensures

double : (c : lts.Start tie.the-claims reads.Pre reads.Post tie.handed_clauses) → Formed (pos 2 *ℤ back c.args.p) (pos 2 *ℤ c.args.p)
double c = formed (rw (to_z-of_z c.ranges.p)) (size_double c.args.p c.requires.0.penalty) (omega arith)

double_one : (c : goal.After-reach_of-b) → pos 1 ≼ pos 2 *ℤ (start c).args.p
double_one c = let p = (start c).args.p in omega (arith, order, weighed c.before.before, times (pos 2) p)

module _ (c : goal.After-reach_of-b) where
  abbrev s : lts.Start tie.the-claims reads.Pre reads.Post tie.handed_clauses
  s = start c

  abbrev middle : ℤ
  middle = centre (term s) s.args.s

  abbrev far : ℤ
  far = reach s.args.p s.args.gap

  middle_size : nat_abs middle ≤ most_centre
  middle_size = size-centre (term s) s.args.s s.requires.0 s.requires.1

  far_size : nat_abs far ≤ 134217728
  far_size = let p = weighed c.before.before in size-reach s.args.p s.args.gap (omega (arith, order)) s.requires.0.penalty s.requires.2 s.requires.3

  below : Formed (back c.centre_of-c.result -ℤ back c.reach_of-b.result) (middle -ℤ far)
  below = formed (rw (centre_is c.before, reach_is c)) (size-sub middle far middle_size far_size) (omega arith)

  above : Formed (back c.centre_of-c.result +ℤ back c.reach_of-b.result) (middle +ℤ far)
  above = formed (rw (centre_is c.before, reach_is c)) (size-add middle far middle_size far_size) (omega arith)

-- ---- The ends

low_is : (c : goal.After-limit) →
    let b = start c.before.before in
    let t = term b in
    back c.limit.result ≡ limited t.low t.high (lowest t b.args.s b.args.gap)
unfolding lowest
low_is c =
    let q = c.before in
    let r = q.before in
    let f = (start r).ranges in
    let e = called q.quotient.result q.quotient.type_inv ∙ rw ((below r).is, (double (start r)).is) at q.quotient.ensures in
    called c.limit.result c.limit.type_inv ∙ rw (e, to_z-of_z f.low, to_z-of_z f.high) at c.limit.ensures

high_is : (c : goal.After-limit-2) →
    let b = start c.before.before.before.before in
    let t = term b in
    back c.limit-2.result ≡ limited t.low t.high (highest t b.args.s b.args.gap)
unfolding highest
high_is c =
    let q = c.before in
    let r = q.before.before.before in
    let f = (start r).ranges in
    let e = called q.quotient_up.result q.quotient_up.type_inv ∙ rw ((above r).is, (double (start r)).is) at q.quotient_up.ensures in
    called c.limit-2.result c.limit-2.type_inv ∙ rw (e, to_z-of_z f.low, to_z-of_z f.high) at c.limit-2.ensures

-- ---- The needs

pub returns-then-p-le0 : goal.returns-then-p-le0
unfolding range_of
returns-then-p-le0 c =
    let b = c.before in
    let test = rw (to_z-of_z b.ranges.p) at c.if-p-le0.true in
    let p = range_promise (term b) b.args.s b.args.gap {range = record { low = back b.args.low; high = back b.args.high }} b.requires.2
    (rw (to_z-of_z b.ranges.low, to_z-of_z b.ranges.high, test)) in
    record { value = p.0; holds_near = p.1.0; tightest = p.1.1 }

pub reach_of-b-requires : goal.reach_of-b-requires
reach_of-b-requires c =
    let b = c.before.before in
    let p = weighed c.before in
    rw (to_z-of_z b.ranges.p, to_z-of_z b.ranges.gap) (omega (arith, order), b.requires.0.penalty, b.requires.2, b.requires.3)

pub overflow_mul-d : goal.overflow_mul-d
overflow_mul-d c = (double (start c)).fits

pub overflow_sub-c : goal.overflow_sub-c
overflow_sub-c c = (below c).fits

pub quotient-requires : goal.quotient-requires
quotient-requires c = rw (double (start c)).is (double_one c)

pub overflow_add-c : goal.overflow_add-c
overflow_add-c c = (above c.before.before).fits

pub quotient_up-requires : goal.quotient_up-requires
quotient_up-requires c = let r = c.before.before in rw (double (start r)).is (double_one r)

pub returns : goal.returns
unfolding range_of
returns c =
    let l = c.before.before in
    let r = l.before.before in
    let b = start r in
    let test = not_at-most b.args.p (pos 0) (let w = weighed r.before.before in omega (arith, order)) in
    let p = range_promise (term b) b.args.s b.args.gap {range = record { low = back l.limit.result; high = back c.limit-2.result }} b.requires.2
    (rw (low_is l, high_is c, test)) in
    record { value = p.0; holds_near = p.1.0; tightest = p.1.1 }
