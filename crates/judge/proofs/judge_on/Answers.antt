use Prim.Native.Nat.{◌+◌}
use mathlib.Core.Path.{◌≡◌, sym, ◌∙◌}
use mathlib.Core.Bool.{false}
use native.Mathlib.Omega.{arith}
use borrow.Author.Rules.{rules}
use borrow.Author.Tests.{eq-eqb, ne_eqb}
use Rattle.std.specs.Prelude.{Err}
use Rattle.primal.proofs.Lengths.{count_fits}
use Rattle.primal.proofs.Held.{floor-held, cost-held}
use Rattle.lent.specs.Checks.{wrong_multipliers}
use Rattle.judge.specs.Judging.{judged_on}
use Rattle.judge.proofs.judge_on.Goals as goal
use Rattle.judge.proofs.judge_on.Goals.{Else-is_any_outside}

in_range : (c : Else-is_any_outside) → wrong_multipliers c.args.multipliers.now ≡ false
in_range c = sym c.is_any_outside.ensures ∙ c.if-is_any_outside.false

pub overflow_mul-horizon : goal.overflow_mul-horizon
overflow_mul-horizon c =
    let t = c.args.t.now in
    let l = c.requires in
    count_fits t.horizon (t.n + t.m) l.steps.1 (omega arith)

pub returns-then-plan-horizon : goal.returns-then-plan-horizon
unfolding judged_on
returns-then-plan-horizon c = rw (ne_eqb _ _ c.if-plan-horizon.true)

pub returns-then-multipliers-horizon : goal.returns-then-multipliers-horizon
unfolding judged_on
returns-then-multipliers-horizon c = rw (eq-eqb _ _ c.if-plan-horizon.false, ne_eqb _ _ c.if-multipliers-horizon.true)

pub returns-then-is_any_outside : goal.returns-then-is_any_outside
unfolding judged_on
returns-then-is_any_outside c =
    rw (eq-eqb _ _ c.if-plan-horizon.false, eq-eqb _ _ c.if-multipliers-horizon.false, ← c.is_any_outside.ensures, c.if-is_any_outside.true)

pub padded_multipliers-y-requires : goal.padded_multipliers-y-requires
padded_multipliers-y-requires c =
    let l = c.requires in
    (l.states.1, l.steps.1, c.if-multipliers-horizon.false, in_range (goal.at.padded_multipliers-y-requires c).Else-is_any_outside)

pub returns-in_err-v : goal.returns-in_err-v
unfolding judged_on
returns-in_err-v c =
    let e : c.from_residual.result ≡ Err c.in_err-v.field-0.0 = search rules in
    rw (
      eq-eqb _ _ c.if-plan-horizon.false,
      eq-eqb _ _ c.if-multipliers-horizon.false,
      in_range (goal.at.returns-in_err-v c).Else-is_any_outside,
      c.in_err-v.ensures,
    ) e

pub judge_gap-requires : goal.judge_gap-requires
judge_gap-requires c =
    let y = c.padded_multipliers-y.ensures in
    let v = c.in_ok-v.ensures.1 in
    record {
      legal = (c.requires, c.terms_of-terms.ensures);
      bounded = (v.bounded, v.blank, y.bounded, y.blank);
    }

pub returns : goal.returns
unfolding judged_on
returns c =
    let t = c.args.t.now in
    rw (
      eq-eqb _ _ c.if-plan-horizon.false,
      eq-eqb _ _ c.if-multipliers-horizon.false,
      in_range (goal.at.returns c).Else-is_any_outside,
      c.in_ok-v.ensures.0,
      ← cost-held t c.requires c.in_ok-v.ensures.1,
      ← floor-held t c.requires c.padded_multipliers-y.ensures,
    ) c.judge_gap.ensures
