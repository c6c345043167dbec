use mathlib.Core.Path.{◌≡◌, ◌∙◌, ap₂}
use mathlib.Core.Bool.{true, false}
use native.Mathlib.Omega.{arith}
use lib.IntN.{ℤ, ◌-ℤ◌}
use lib.Signed.{lt_z}
use Rattle.integer.proofs.Order.{order}
use Rattle.integer.proofs.Sizes.{called, size_parts, size-sub, back, back_is, Formed, formed}
use Rattle.tape.specs.declared.Tape.{Tape}
use Rattle.tape.specs.Legal.{Legal}
use Rattle.problem.specs.Model.{problem_of}
use Rattle.problem.specs.Cost.{plan_cost}
use Rattle.problem.specs.Dual.{floor}
use Rattle.primal.specs.Padded.{padded, padded_plan}
use Rattle.primal.proofs.Padding.{cost-padded, padded_tape, padded_terms}
use Rattle.primal.proofs.TermSums.{size_plan_cost}
use Rattle.dual.proofs.FloorPadding.{floor-padded}
use Rattle.dual.proofs.FloorSizes.{size-floor}
use Rattle.judge.specs.Judging.{gap_within}
use Rattle.judge.proofs.judge_gap.Goals as goal
use Rattle.judge.proofs.judge_gap.Goals.{After-tape_floor-floor}

-- the tape's cost and floor, of which the gap is formed
abbrev cost_at : After-tape_floor-floor → ℤ
cost_at c = plan_cost (problem_of c.args.t.now) (padded_plan c.args.v.now)

abbrev floor_at : After-tape_floor-floor → ℤ
floor_at c = floor (problem_of c.args.t.now) (padded c.args.y.now)

-- the padded problem's cost and floor are the tape's
cost_same : (c : After-tape_floor-floor) →
    plan_cost (padded_terms c.args.t.now c.requires.legal.0 c.args.terms.now c.requires.legal.1) (padded_plan c.args.v.now) ≡ cost_at c
cost_same c =
    let a = c.args in
    let h = c.requires in
    let l = h.legal.0.steps.1 in
    cost-padded a.t.now h.legal.0 a.terms.now h.legal.1 (padded_plan a.v.now)
    (λ k j m. h.bounded.1.input k j (omega arith)) (λ k i m. h.bounded.1.state k i (omega arith))

floor_same : (c : After-tape_floor-floor) → floor (padded_tape c.args.t.now c.args.terms.now) (padded c.args.y.now) ≡ floor_at c
floor_same c =
    let a = c.args in
    let h = c.requires in
    floor-padded a.t.now h.legal.0 a.terms.now h.legal.1 (padded a.y.now) h.bounded.3.each

cost_is : (c : After-tape_floor-floor) → back c.plan_cost-cost.result ≡ cost_at c
cost_is c = called c.plan_cost-cost.result c.plan_cost-cost.type_inv ∙ c.plan_cost-cost.ensures ∙ cost_same c

floor_is : (c : After-tape_floor-floor) → back c.tape_floor-floor.result ≡ floor_at c
floor_is c = called c.tape_floor-floor.result c.tape_floor-floor.type_inv ∙ c.tape_floor-floor.ensures

-- the gap fits: the cost is at most 2.1 · 10^17 in size, the floor 4.6 · 10^18
gap : (c : After-tape_floor-floor) → Formed (back c.plan_cost-cost.result -ℤ back c.tape_floor-floor.result) (cost_at c -ℤ floor_at c)
gap c =
    let t = c.args.t.now in
    let h = c.requires in
    let l = h.legal.0 in
    formed (ap₂ ◌-ℤ◌ (cost_is c) (floor_is c))
    (size-sub (cost_at c) (floor_at c) (rw (cost_same c) at (size_plan_cost h.legal.1.tables t.horizon l.steps.1 h.bounded.0))
    (rw (floor_same c) at (size-floor h.legal.1.tables t.horizon l.steps.1 l.a l.b l.drift l.start h.bounded.2))) (omega arith)

wanted_is : (t : Tape) → Legal t → back t.wanted ≡ t.wanted
wanted_is t l = let r = l.wanted in back_is t.wanted {B = 4294967295} (omega (arith, order, size_parts t.wanted)) (omega arith)

pub overflow_sub-gap : goal.overflow_sub-gap
overflow_sub-gap c = (gap c).fits

pub returns-then-t-gap : goal.returns-then-t-gap
unfolding gap_within
returns-then-t-gap c =
    let p = (goal.at.returns-then-t-gap c).After-tape_floor-floor in
    let wide : lt_z c.args.t.now.wanted (cost_at p -ℤ floor_at p) ≡ true = rw (wanted_is c.args.t.now c.requires.legal.0, (gap p).is) at c.if-t-gap.true in
    rw (cost_is p, floor_is p, wide)

pub returns : goal.returns
unfolding gap_within
returns c =
    let p = (goal.at.returns c).After-tape_floor-floor in
    let within : lt_z c.args.t.now.wanted (cost_at p -ℤ floor_at p) ≡ false = rw (wanted_is c.args.t.now c.requires.legal.0, (gap p).is) at c.if-t-gap.false in
    rw ((gap p).is, within)
