use mathlib.Core.Path.{◌≡◌, ◌∙◌}
use native.Mathlib.Omega.{arith}
use borrow.Author.Rules.{rules}
use Rattle.integer.proofs.Places.{step_room, steps-none, steps_more}
use Rattle.lent.proofs.LentMultipliers.{stretch_up_to, held}
use Rattle.lent.proofs.multipliers.padded_multipliers.Goals as goal

pub loop-k-init : goal.loop-k-init
loop-k-init c = (search rules, steps-none 6 72 _)

pub pad_step-requires : goal.pad_step-requires
pad_step-requires c =
    let s = c.args in
    omega (arith, step_room s.n c.loop-k.k s.horizon c.loop-k-test.true)

pub loop-k-preserved : goal.loop-k-preserved
loop-k-preserved c =
    let l = c.loop-k in
    let step = c.pad_step.ensures in (
      step.same ∙ l.invariant.0,
      steps_more 6 l.k _ _ _ l.invariant.1 (stretch_up_to _ _ 6 _ _ _ (omega arith) l.invariant.1.rest step),
    )

pub returns : goal.returns
returns c =
    let p = c.requires in
    let e : c.loop-k.k ≡ c.args.horizon = omega arith in
    held _ _ c.args.multipliers.now _ p.0 p.3 (rw e at c.loop-k.invariant.1)
