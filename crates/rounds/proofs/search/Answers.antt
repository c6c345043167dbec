use Prim.Native.Nat.{◌+◌, ◌*◌, ◌<◌, ◌≤◌}
use mathlib.Core.Path.{◌≡◌, refl, sym, ◌∙◌, ap, ap₂, subst, subst⁻¹}
use mathlib.Core.List.{List}
use lib.ListN.{replicate}
use native.Mathlib.Omega.{arith}
use borrow.Author.Rules.{rules}
use lib.IntN.{ℤ, pos, nat_abs, ◌+ℤ◌, ◌-ℤ◌}
use mir.Facts.{to_z-of_z}
use Rattle.std.specs.Prelude.{Option, Some, None, IfSome, option_map}
use Rattle.std.proofs.iter.Serving.{serving}
use Rattle.integer.specs.Order.{◌≼◌}
use Rattle.integer.specs.Places.{Bounded}
use Rattle.integer.proofs.Order.{order}
use Rattle.integer.proofs.Sizes.{called, size_parts, size-add, size-sub, back, back_is, Formed, formed}
use Rattle.commands.specs.Ranges.{most_gain}
use Rattle.tape.specs.declared.Tape.{Tape}
use Rattle.tape.specs.Legal.{Legal}
use Rattle.problem.specs.Model.{Plan, problem_of}
use Rattle.problem.specs.Cost as costs
use Rattle.integer.specs.Sum.{sum}
use Rattle.problem.specs.Dual.{floor, ceiling}
use Rattle.primal.specs.Padded.{padded, padded_plan}
use Rattle.primal.specs.Held.{HeldMultipliers, HeldPlan}
use Rattle.primal.proofs.Filled.{zeros-bounded}
use Rattle.primal.proofs.TermSizes.{most_cost}
use Rattle.steps.specs.declared.verdict.Verdict.TheVariants.{Proved}
use Rattle.steps.specs.Steps.{ahead, minimisers, candidate, verdict}
use Rattle.steps.specs.Held.{verdict_by}
use Rattle.banded.specs.Rows.{Factored}
use Rattle.lookup.proofs.NumberSums.{size_inputs_total, size_states_total}
use Rattle.passes.specs.Sums.{most_forced}
use Rattle.passes.specs.Followed.{Lends, FollowedBy}
use Rattle.passes.proofs.SumSizes.{most_pull, forced_bounded, size_pulls}
use Rattle.rounds.specs.Held.{NextHeld}
use Rattle.rounds.proofs.Filled.{held-ahead, held_numbers, inputs-within, state_term_lem, forces_are, gain-next}
use Rattle.rounds.proofs.Sums.{plan_cost_lem, floor-below}
use Rattle.rounds.proofs.Weighing.{map_same, size_mapped, Costed, costed, verdict-is, neither_early, proved_held}
use Rattle.rounds.proofs.Entered.{Begins, running_start, running_next, open_is, whole_is}
use Rattle.rounds.proofs.search.Goals as goal
use Rattle.rounds.proofs.search.Goals.{in-Some, in_default, then-may_answer+in-None, else-may_answer}
use Rattle.rounds.proofs.search.Goals.{In-loop-k, After-multipliers_ahead, After-minimise-costs, After-force, After-follow-followed, After-map-cost, After-map-least, After-weigh, After-next-state}

pub loop-k-init : goal.loop-k-init
loop-k-init c = rw (c.start-state.ensures.0, c.start-state.ensures.1) (running_start _)

module _ (c : In-loop-k) where
  abbrev t : Tape
  t = c.args.t.now

  legal : Legal t
  legal = c.requires.legal.0

  early : c.loop-k.k < t.rounds
  early = omega arith

  -- the round's number as an i64
  small : c.loop-k.k < 10000
  small = let r = legal.rounds in omega (arith, early)

  number_is : back (pos c.loop-k.k) ≡ pos c.loop-k.k
  number_is = back_is (pos c.loop-k.k) {B = 10000} (omega (arith, small)) (omega arith)

  gain_small : nat_abs t.gain ≤ most_gain
  gain_small =
      let h = legal.gain in
      omega (arith, order, size_parts t.gain)

  gain_is : back t.gain ≡ t.gain
  gain_is = back_is t.gain gain_small (omega arith)

pub multipliers_ahead-requires : goal.multipliers_ahead-requires
multipliers_ahead-requires c =
    let b = (goal.at.multipliers_ahead-requires c).In-loop-k in
    let h = b.loop-k.invariant.held in
    let l = small b in
    rw (number_is b) (omega (arith, order), omega (arith, order), (legal b).steps.1, h.bounded, h.bounded_previous, refl)

-- step 1
held : (c : After-multipliers_ahead) →
    let x = c.loop-k in
    HeldMultipliers c.args.t.now.n c.args.t.now.horizon (λ q i. ahead (pos x.k) (padded x.state.current q i) (padded x.state.previous q i)) c.multipliers_ahead.new.next
held c =
    let b = (goal.at.After-multipliers_ahead c).In-loop-k in
    let h = b.loop-k.invariant.held in
    held-ahead b.loop-k.k (legal b).states.1 h.blank h.blank_previous (rw (number_is b) at c.multipliers_ahead.ensures)

pub minimise-costs-requires : goal.minimise-costs-requires
minimise-costs-requires c =
    let p = goal.at.minimise-costs-requires c in
    let l = legal p.In-loop-k in
    (l.steps.1, refl, c.requires.rows_of.0.rows, l.a, l.b, (held p.After-multipliers_ahead).bounded)

-- step 2
module _ (c : After-minimise-costs) where
  abbrev here : In-loop-k
  here = (goal.at.After-minimise-costs c).In-loop-k

  abbrev y : List ℤ
  y = c.multipliers_ahead.new.next

  abbrev v : List ℤ
  v = c.minimise-costs.new.v

  stepped : HeldMultipliers (t here).n (t here).horizon (λ q i. ahead (pos here.loop-k.k) (padded here.loop-k.state.current q i) (padded here.loop-k.state.previous q i)) y
  stepped = held (goal.at.After-minimise-costs c).After-multipliers_ahead

  numbers : HeldPlan (t here).n (t here).m (t here).horizon (minimisers (problem_of (t here)) (padded y)) v
  numbers =
      let e = c.minimise-costs.ensures.steps in
      held_numbers (t here) (legal here) c.requires.legal.1 c.requires.rows_of.0 y e.0 stepped.blank e.1

  begins : Begins (t here) here.loop-k.k here.loop-k.state.current here.loop-k.state.previous y v
  begins = record { held = stepped; numbers = numbers }

pub force-requires : goal.force-requires
force-requires c =
    let p = goal.at.force-requires c in
    let l = legal p.In-loop-k in
    (l.steps.1, refl, l.b, l.drift, (numbers p.After-minimise-costs).bounded)

few : (c : After-force) → Bounded most_forced c.force.new.forced
few c =
    let p = goal.at.After-force c in
    let l = legal p.In-loop-k in
    forced_bounded c.args.t.now.horizon l.b l.drift (numbers p.After-minimise-costs).bounded c.force.ensures

pub ascend-pull-requires : goal.ascend-pull-requires
ascend-pull-requires c =
    let p = goal.at.ascend-pull-requires c in
    let b = p.In-loop-k in
    let d = p.After-minimise-costs in
    let l = legal b in
    rw (gain_is b) (record { horizon_bound = (l.steps.1, refl, gain_small b, (stepped d).bounded); bounded = (l.a, few p.After-force, l.start, (numbers d).bounded) })

pub next_by_band-next-requires : goal.next_by_band-next-requires
next_by_band-next-requires c =
    let p = goal.at.next_by_band-next-requires c in
    let m = p.After-minimise-costs in
    let f = subst (λ o. Factored c.args.t.now o) c.in-Some.is c.requires.rows_of.1 in
    record {
      legal = (legal p.In-loop-k, f.0, f.1, (stepped m).blank, (stepped m).bounded);
      blank_plan = ((numbers m).blank, (numbers m).bounded);
    }

pub follow-followed-requires : goal.follow-followed-requires
follow-followed-requires c =
    let p = goal.at.follow-followed-requires c in
    let d = p.After-minimise-costs in
    let l = legal p.In-loop-k in
    record {
      n_bound = (l.states.1, l.steps.1, (numbers d).long, (numbers d).bounded, c.requires.rows_of.0.rows);
      bounded = (l.a, few p.After-force, l.start);
    }

module _ (c : After-follow-followed) where
  abbrev at_forced : After-force
  at_forced = (goal.at.After-follow-followed c).After-force

  abbrev at_minimised : After-minimise-costs
  at_minimised = (goal.at.After-follow-followed c).After-minimise-costs

  abbrev round : In-loop-k
  round = (goal.at.After-follow-followed c).In-loop-k

  abbrev inputs : ℤ
  inputs = c.minimise-costs.result.inputs

  abbrev states : ℤ
  states = c.minimise-costs.result.states

  abbrev pull : ℤ
  pull = c.ascend-pull.result

  abbrev followed : Option ℤ
  followed = c.follow-followed.result

  size_inputs : nat_abs inputs ≤ 48 * most_cost
  size_inputs = rw c.minimise-costs.ensures.inputs_value (size_inputs_total c.requires.rows_of.0.rows (t round).horizon (legal round).steps.1 (t round).b (y at_minimised))

  size_states : nat_abs states ≤ 72 * most_cost
  size_states = rw c.minimise-costs.ensures.states_value (size_states_total c.requires.rows_of.0.rows (t round).horizon (legal round).steps.1 (t round).a (y at_minimised))

  size_pull : nat_abs pull ≤ 72 * most_pull
  size_pull =
      let l = legal round in
      rw c.ascend-pull.ensures.value
      (size_pulls l.a (few at_forced) l.start (numbers at_minimised).bounded (stepped at_minimised).bounded (t round).horizon l.steps.1)

  inputs_is : back inputs ≡ inputs
  inputs_is = back_is inputs size_inputs (omega arith)

  -- the candidate's cost, where it is kept
  abbrev whole : Option ℤ
  whole = option_map (λ x. inputs +ℤ x) followed

  summed : (x : ℤ) → followed ≡ Some x → Formed (back inputs +ℤ back x) (inputs +ℤ x)
  summed x e =
      let small = rw e at c.follow-followed.ensures.cost_bound in
      formed (rw (inputs_is, back_is x small (omega arith))) (size-add inputs x size_inputs small) (omega arith)

  size_whole : IfSome whole (λ x. nat_abs x ≤ 200540160000000000)
  size_whole = size_mapped (λ x. inputs +ℤ x) followed (λ x small. size-add inputs x size_inputs small) c.follow-followed.ensures.cost_bound

  -- the bound on the floor
  own : Formed (back inputs +ℤ back states) (inputs +ℤ states)
  own =
      formed (rw (inputs_is, back_is states size_states (omega arith))) (size-add inputs states size_inputs size_states) (omega arith)

  size_upper : nat_abs (inputs +ℤ states +ℤ pull) ≤ 48 * most_cost + 72 * most_cost + 72 * most_pull
  size_upper = size-add (inputs +ℤ states) pull (size-add inputs states size_inputs size_states) size_pull

  bound : Formed (back (back inputs +ℤ back states) +ℤ back pull) (inputs +ℤ states +ℤ pull)
  bound = formed (rw (own.is, called pull c.ascend-pull.type_inv)) size_upper (omega arith)

  abbrev upper : ℤ
  upper = inputs +ℤ states +ℤ pull

  gap : (x : ℤ) → whole ≡ Some x → Formed (back x -ℤ back (back (back inputs +ℤ back states) +ℤ back pull)) (x -ℤ upper)
  gap x e =
      let small = rw e at size_whole in
      formed (rw (back_is x small (omega arith), bound.is)) (size-sub x upper small size_upper) (omega arith)

  -- step 3: what the model gives from the inputs of step 2
  abbrev following_plan : Plan
  following_plan = candidate (problem_of (t round)) (padded_plan (v at_minimised)).u

  lends : Lends (t round) c.args.table.now (t round).a c.force.new.forced (t round).start (t round).n (t round).horizon (v at_minimised)
  lends = record {
    legal = legal round;
    states = refl;
    steps = refl;
    matrix = refl;
    started = refl;
    terms = state_term_lem (t round) (legal round) c.requires.legal.1 c.requires.rows_of.0;
    forces = forces_are (t round) (legal round) (v at_minimised) c.force.ensures;
    within = inputs-within (legal round) (padded (y at_minimised)) (numbers at_minimised);
    blank = (numbers at_minimised).blank;
  }

  followed_by : FollowedBy (t round) (padded_plan (v at_minimised)).u c.follow-followed.new.plan c.follow-followed.result
  followed_by = c.follow-followed.ensures.followed_by (t round) lends

  abbrev state_costs : ℤ
  state_costs = sum (t round).horizon (λ k. sum (t round).n (λ i. costs.cost ((problem_of (t round)).state_term k i) (following_plan.x k i)))

  kept : Costed (t round) following_plan c.follow-followed.new.plan whole
  kept =
      costed followed inputs followed_by
      (ap (λ (z : ℤ). z +ℤ state_costs) c.minimise-costs.ensures.inputs_value
      ∙ plan_cost_lem (t round) (legal round) (y at_minimised) c.requires.legal.1 c.requires.rows_of.0 c.minimise-costs.ensures.steps.0 following_plan.x)

  abbrev lowest : ℤ
  lowest = floor (problem_of (t round)) (padded (y at_minimised))

  decided : verdict_by (option_map (λ x. x -ℤ lowest) whole) (t round).wanted (ceiling (problem_of (t round))) lowest
      ≡ verdict (t round) following_plan (padded (y at_minimised))
  decided = verdict-is (t round) following_plan whole (padded (y at_minimised)) kept.same kept.cost

  below : lowest ≼ upper
  below =
      let e = c.minimise-costs.ensures in
      subst⁻¹ (λ (z : ℤ). lowest ≼ z)
      (ap₂ (λ (a b : ℤ). a +ℤ b) (ap₂ (λ (a b : ℤ). a +ℤ b) e.inputs_value e.states_value) c.ascend-pull.ensures.value)
      (floor-below (t round) (legal round) (y at_minimised) c.requires.legal.1 c.requires.rows_of.0 c.minimise-costs.ensures.steps.0
      c.force.ensures (stepped at_minimised).blank (numbers at_minimised).blank (numbers at_minimised))

  highest_is : back c.args.highest ≡ ceiling (problem_of (t round))
  highest_is = to_z-of_z c.ranges.highest ∙ c.requires.legal.2

  wanted_is : back (t round).wanted ≡ (t round).wanted
  wanted_is =
      let r = (legal round).wanted in
      back_is (t round).wanted {B = 4294967295} (omega (arith, order, size_parts (t round).wanted)) (omega arith)

  -- step 4, by either command
  next_held : NextHeld (t round) (y at_minimised) (v at_minimised) c.match-factored.next
  next_held =
      let Next : List ℤ → Type 0 = λ l. NextHeld (t round) (y at_minimised) (v at_minimised) l in
      elim c.match-factored.branch [
        | in-Some w ↦ subst⁻¹ Next w.next-is w.next_by_band-next.ensures
        | in_default w ↦ subst⁻¹ Next w.next-is
            (gain-next (t round) (legal round) (numbers at_minimised).blank (y at_minimised) c.force.ensures
            (subst (λ o. Factored (t round) o) w.in_default.is c.requires.rows_of.1)
            (stepped at_minimised).blank (rw (gain_is round) at c.ascend-pull.ensures.steps.0))
      ]

pub map-cost-requires : goal.map-cost-requires
map-cost-requires c = λ x e. search (rules, serving, (summed (goal.at.map-cost-requires c).After-follow-followed x e).fits)

pub overflow_add-upper : goal.overflow_add-upper
overflow_add-upper c = (own (goal.at.overflow_add-upper c).After-follow-followed).fits

pub overflow_add-upper-in-loop-k : goal.overflow_add-upper-in-loop-k
overflow_add-upper-in-loop-k c = (bound (goal.at.overflow_add-upper-in-loop-k c).After-follow-followed).fits

costs_are : (c : After-map-cost) → c.map-cost.result ≡ whole (goal.at.After-map-cost c).After-follow-followed
costs_are c =
    let f = (goal.at.After-map-cost c).After-follow-followed in
    let e : c.map-cost.result ≡ option_map (λ x. back (back (inputs f) +ℤ back x)) (followed f) = search rules in
    e ∙ map_same _ _ (followed f) (λ x h. (summed f x h).is)

pub map-least-requires : goal.map-least-requires
map-least-requires c =
    let p = goal.at.map-least-requires c in
    λ x e. search (rules, serving, (gap p.After-follow-followed x (sym (costs_are p.After-map-cost) ∙ e)).fits)

gaps_are : (c : After-map-least) →
    let f = (goal.at.After-map-least c).After-follow-followed in
    c.map-least.result ≡ option_map (λ x. x -ℤ upper f) (whole f)
gaps_are c =
    let p = goal.at.After-map-least c in
    let f = p.After-follow-followed in
    let e : c.map-least.result ≡ option_map (λ x. back (back x -ℤ back (back (back (inputs f) +ℤ back (states f)) +ℤ back (pull f)))) c.map-cost.result = search rules in
    e ∙ ap (option_map _) (costs_are p.After-map-cost) ∙ map_same _ _ (whole f) (λ x h. (gap f x h).is)

pub weigh-requires : goal.weigh-requires
weigh-requires c =
    let p = goal.at.weigh-requires c in
    let m = stepped p.After-minimise-costs in
    record {
      legal = (legal p.In-loop-k, c.requires.legal.1, m.blank, m.bounded);
      cost_bound = rw (costs_are p.After-map-cost) (size_whole p.After-follow-followed);
    }

weighed : (c : After-weigh) →
    let f = (goal.at.After-weigh c).After-follow-followed in
    c.weigh.result ≡ verdict (t (round f)) (following_plan f) (padded (y (at_minimised f)))
weighed c =
    let p = goal.at.After-weigh c in
    let f = p.After-follow-followed in
    rw (costs_are p.After-map-cost, highest_is f) at c.weigh.ensures ∙ decided f

pub returns-in-Some-Proved : goal.returns-in-Some-Proved
returns-in-Some-Proved c =
    let p = goal.at.returns-in-Some-Proved c in
    let f = p.After-follow-followed in
    let b = p.In-loop-k in
    let m = p.After-minimise-costs in
    let e = c.at_end.ensures in
    let v = c.in-Some-Proved in
    let same : back v.gap ≡ v.gap = search rules in
    let told = sym (weighed p.After-weigh) ∙ v.is ∙ ap Some (v.field-0-is ∙ ap Proved (sym same)) in
    let plan = proved_held (t b) (following_plan f) c.follow-followed.new.plan (whole f) _ _ _ _ (decided f ∙ told) (kept f).held in
    rw (e.0, e.1, e.2, v.gap-is)
    (record {
      t_value = whole_is (legal b) b.loop-k.invariant (early b) (begins m) _ told plan;
      bounded = (plan.bounded, (stepped m).bounded);
    })

pub returns-in-Some-Impossible : goal.returns-in-Some-Impossible
returns-in-Some-Impossible c =
    let p = goal.at.returns-in-Some-Impossible c in
    let b = p.In-loop-k in
    let m = p.After-minimise-costs in
    let e = c.impossible.ensures in
    let v = c.in-Some-Impossible in
    let told = sym (weighed p.After-weigh) ∙ v.is ∙ ap Some v.field-0-is in
    rw (e.0, e.1, e.2)
    (record {
      t_value = whole_is (legal b) b.loop-k.invariant (early b) (begins m) (replicate 120 (pos 0)) told tt;
      bounded = (zeros-bounded 120, (stepped m).bounded);
    })

-- the round gave no answer, by its verdict or by the bound alone
unanswered : (c : After-next-state) →
    let f = (goal.at.After-next-state c).After-follow-followed in
    verdict (t (round f)) (following_plan f) (padded (y (at_minimised f))) ≡ None
unanswered c =
    let p = goal.at.After-next-state c in
    let f = p.After-follow-followed in
    let b = p.In-loop-k in
    elim c.if-may_answer.branch [
      | then-may_answer+in-None w ↦ sym (rw (costs_are p.After-map-cost, highest_is f) at w.weigh.ensures ∙ decided f) ∙ w.in-None.is
      | else-may_answer w ↦
          sym (decided f)
          ∙ neither_early (whole f) (t b).wanted (ceiling (problem_of (t b))) (lowest f) (upper f) (below f)
          (rw (gaps_are p.After-map-least, wanted_is f, highest_is f, (bound f).is) at (sym c.may_answer.ensures ∙ w.if-may_answer.false))
    ]

pub loop-k-preserved : goal.loop-k-preserved
loop-k-preserved c =
    let p = goal.at.loop-k-preserved c in
    let b = p.In-loop-k in
    rw (c.next-state.ensures.0, c.next-state.ensures.1)
    (running_next (legal b) b.loop-k.invariant (early b) (begins p.After-minimise-costs) (unanswered p.After-next-state) (next_held p.After-follow-followed))

pub returns : goal.returns
returns c =
    let e = c.open.ensures in
    rw (e.0, e.1, e.2) (record {
      t_value = open_is c.requires.legal.0 c.loop-k.invariant (omega arith);
      bounded = (zeros-bounded 120, zeros-bounded 72);
    })
