use mathlib.Core.Path.{◌≡◌, ◌∙◌, ap₂}
use native.Mathlib.Omega.{arith}
use borrow.Author.Rules.{rules}
use lib.IntN.{ℤ, nat_abs, ◌-ℤ◌}
use mir.Facts.{to_z-of_z}
use Rattle.std.proofs.iter.Serving.{serving}
use Rattle.std.specs.Prelude.{◌≤◌, Some, option_map}
use Rattle.integer.proofs.Order.{order}
use Rattle.integer.proofs.Sizes.{called, size_parts, size-sub, back, back_is, Formed, formed}
use Rattle.problem.specs.Model.{problem_of}
use Rattle.problem.specs.Dual.{floor}
use Rattle.primal.specs.Padded.{padded}
use Rattle.dual.proofs.FloorPadding.{floor-padded}
use Rattle.dual.proofs.FloorSizes.{size-floor}
use Rattle.rounds.proofs.Weighing.{map_same}
use Rattle.rounds.proofs.verdict.weigh.Goals as goal
use Rattle.rounds.proofs.verdict.weigh.Tie as tie
use Rattle.rounds.proofs.verdict.weigh.Reads as reads
use Rattle.rounds.proofs.verdict.weigh.Lts as lts

floor_is : (c : lts.After-floor_of tie.the-claims reads.Pre reads.Post tie.handed_clauses) → back c.floor_of-floor.result ≡ floor (problem_of c.args.t.now) (padded c.args.y.now)
floor_is c =
    let h = c.requires.legal in
    called c.floor_of-floor.result c.floor_of-floor.type_inv
    ∙ c.floor_of-floor.ensures ∙ floor-padded c.args.t.now h.0 _ h.1 (padded c.args.y.now) h.2.each

gap : (c : lts.After-floor_of tie.the-claims reads.Pre reads.Post tie.handed_clauses) (k : ℤ) → nat_abs k ≤ 200540160000000000 →
    Formed (back k -ℤ back c.floor_of-floor.result) (k -ℤ floor (problem_of c.args.t.now) (padded c.args.y.now))
gap c k small =
    let h = c.requires.legal in
    let l = h.0 in
    formed (ap₂ (λ (a b : ℤ). a -ℤ b) (back_is k small (omega arith)) (floor_is c))
    (size-sub k (floor (problem_of c.args.t.now) (padded c.args.y.now)) small
    (rw (floor-padded c.args.t.now l _ h.1 (padded c.args.y.now) h.2.each)
    at (size-floor h.1.tables c.args.t.now.horizon l.steps.1 l.a l.b l.drift l.start h.3))) (omega arith)

-- the gap of a candidate that is kept
kept_gap : (c : lts.After-floor_of tie.the-claims reads.Pre reads.Post tie.handed_clauses) (k : ℤ) → c.args.cost ≡ Some k →
    Formed (back k -ℤ back c.floor_of-floor.result) (k -ℤ floor (problem_of c.args.t.now) (padded c.args.y.now))
kept_gap c k e = gap c k (rw e at c.requires.cost_bound)

pub map-requires : goal.map-requires
map-requires c = λ k e. search (rules, serving, (kept_gap c.before k e).fits)

pub returns : goal.returns
returns c =
    let f = c.before.before.before.before in
    let gaps : c.map.result ≡ option_map (λ k. back (back k -ℤ back c.floor_of-floor.result)) c.args.cost = search rules in
    let w = c.args.t.now.wanted in
    let r = c.requires.legal.0.wanted in
    let wanted = back_is w {B = 4294967295} (omega (arith, order, size_parts w)) (omega arith) in
    rw (gaps ∙ map_same _ _ c.args.cost (λ k e. (kept_gap f k e).is), wanted, to_z-of_z c.ranges.highest, floor_is f) at c.verdict_of.ensures
