use mathlib.Core.Path.{refl}
use native.Mathlib.Omega.{arith}
use Rattle.integer.proofs.Sizes.{called}
use Rattle.commands.specs.Format.{drift_command}
use Rattle.commands.proofs.Tests.{cut, uncut}
use Rattle.commands.proofs.drift.Goals as goal

pub returns-then-s-at-le5 : goal.returns-then-s-at-le5
unfolding drift_command
returns-then-s-at-le5 c = cut 5 c.args.s.now c.args.at _ (omega arith)

pub returns : goal.returns
unfolding drift_command
returns c =
    let a = c.args in
    let v = c.signed_at in
    uncut 5 a.s.now a.at (omega arith) (rw (called v.result v.type_inv, v.ensures.value, c.unsigned_at.ensures.0) refl)
