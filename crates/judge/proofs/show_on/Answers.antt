use mathlib.Core.Path.{◌≡◌, refl, sym, ◌∙◌, ap}
use mathlib.Core.Bool.{false}
use native.Mathlib.Omega.{arith}
use borrow.Author.Tests.{eq-eqb, ne_eqb}
use Rattle.problem.specs.Model.{problem_of, multipliers_of}
use Rattle.problem.specs.Dual.{ceiling, shows}
use lib.Signed.{lt_z}
use Rattle.primal.proofs.Lengths.{count_fits}
use Rattle.primal.proofs.Held.{floor-held}
use Rattle.lent.specs.Checks.{wrong_multipliers}
use Rattle.judge.specs.Judging.{shown_on}
use Rattle.judge.proofs.show_on.Goals as goal
use Rattle.judge.proofs.show_on.Goals.{Else-is_any_outside, After-is_shown}

-- the multipliers passed their test
in_range : (c : Else-is_any_outside) → wrong_multipliers c.args.multipliers.now ≡ false
in_range c = sym c.is_any_outside.ensures ∙ c.if-is_any_outside.false

pub overflow_mul-horizon : goal.overflow_mul-horizon
overflow_mul-horizon c = let l = c.requires in count_fits c.args.t.now.horizon c.args.t.now.n l.steps.1 (omega arith)

pub returns-then-multipliers-horizon : goal.returns-then-multipliers-horizon
unfolding shown_on
returns-then-multipliers-horizon c = rw (ne_eqb _ _ c.if-multipliers-horizon.true)

pub returns-then-is_any_outside : goal.returns-then-is_any_outside
unfolding shown_on
returns-then-is_any_outside c = rw (eq-eqb _ _ c.if-multipliers-horizon.false, ← c.is_any_outside.ensures, c.if-is_any_outside.true)

pub padded_multipliers-y-requires : goal.padded_multipliers-y-requires
padded_multipliers-y-requires c = let l = c.requires in (l.states.1, l.steps.1, c.if-multipliers-horizon.false, in_range (goal.at.padded_multipliers-y-requires c).Else-is_any_outside)

-- what the padded multipliers show, the lent ones do
shown_is : (c : After-is_shown) → c.is_shown.result ≡ shows (problem_of c.args.t.now) (multipliers_of c.args.t.now.n c.args.multipliers.now)
shown_is c =
    let t = c.args.t.now in
    c.is_shown.ensures ∙ ap (lt_z (ceiling (problem_of t))) (floor-held t c.requires c.padded_multipliers-y.ensures)

pub returns-then-is_shown : goal.returns-then-is_shown
unfolding shown_on
returns-then-is_shown c =
    let e = shown_is (goal.at.returns-then-is_shown c).After-is_shown in
    rw (eq-eqb _ _ c.if-multipliers-horizon.false, in_range (goal.at.returns-then-is_shown c).Else-is_any_outside, sym e ∙ c.if-is_shown.true) refl

pub returns : goal.returns
unfolding shown_on
returns c =
    let e = shown_is (goal.at.returns c).After-is_shown in
    rw (eq-eqb _ _ c.if-multipliers-horizon.false, in_range (goal.at.returns c).Else-is_any_outside, sym e ∙ c.if-is_shown.false) refl
