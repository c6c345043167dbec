use mathlib.Core.Path.{refl}
use native.Mathlib.Omega.{arith}
use Rattle.integer.proofs.Sizes.{called}
use Rattle.commands.specs.Format.{start_command}
use Rattle.commands.proofs.Tests.{cut, uncut}
use Rattle.commands.proofs.start.Goals as goal

pub returns-then-s-at-le3 : goal.returns-then-s-at-le3
unfolding start_command
returns-then-s-at-le3 c = cut 3 c.args.s.now c.args.at _ (omega arith)

pub returns : goal.returns
unfolding start_command
returns c =
    let a = c.args in
    let v = c.signed_at in
    uncut 3 a.s.now a.at (omega arith) (rw (called v.result v.type_inv, v.ensures.value, c.unsigned_at.ensures.0) refl)
