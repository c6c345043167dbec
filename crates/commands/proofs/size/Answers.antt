use mathlib.Core.Path.{refl}
use native.Mathlib.Omega.{arith}
use Rattle.commands.specs.Format.{size_command}
use Rattle.commands.proofs.Tests.{cut, uncut}
use Rattle.commands.proofs.size.Goals as goal

pub returns-then-s-at-le3 : goal.returns-then-s-at-le3
unfolding size_command
returns-then-s-at-le3 c = cut 3 c.args.s.now c.args.at _ (omega arith)

pub returns : goal.returns
unfolding size_command
returns c =
    let a = c.args in
    uncut 3 a.s.now a.at (omega arith)
    (rw (c.unsigned_at.ensures.0, c.unsigned_at-2.ensures.0, c.unsigned_at-3.ensures.0) refl)
