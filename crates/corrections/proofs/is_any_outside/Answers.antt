use mathlib.Core.Path.{◌≡◌, refl, sym, ap, ◌∙◌}
use native.Mathlib.Omega.{arith}
use lib.ListN.{length}
use Rattle.integer.specs.Tests.{any}
use Rattle.integer.proofs.Sizes.{called}
use Rattle.integer.proofs.Tests.{any_at, any_more}
use Rattle.corrections.proofs.is_any_outside.Invariants.{wrong}
use borrow.Author.Rules.{rules}
use Rattle.corrections.proofs.is_any_outside.Goals as goal

pub loop-x-init : goal.loop-x-init
unfolding any
loop-x-init c = refl

pub returns-then-is_outside : goal.returns-then-is_outside
returns-then-is_outside c =
    let t = c.is_outside in
    sym (any_at _ _ _ c.loop-x-test.true (ap wrong (sym (called _ (search rules))) ∙ sym t.ensures ∙ c.if-is_outside.true))

pub loop-x-preserved : goal.loop-x-preserved
loop-x-preserved c = any_more _ _ c.loop-x.invariant (ap wrong (sym (called _ (search rules))) ∙ sym c.is_outside.ensures ∙ c.if-is_outside.false)

pub returns : goal.returns
returns c =
    let e : c.loop-x.x-index ≡ length c.args.residuals.now = omega arith in
    sym (rw e at c.loop-x.invariant)
