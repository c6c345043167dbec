use mathlib.Core.Path.{refl}
use native.Mathlib.Omega.{arith}
use mir.Syntax.{w64}
use mir.Facts.{to_z_pos}
use Rattle.commands.specs.Format.{rounds_command}
use Rattle.commands.proofs.Tests.{cut, uncut}
use Rattle.commands.proofs.rounds.Goals as goal

pub returns-then-s-at-le8 : goal.returns-then-s-at-le8
unfolding rounds_command
returns-then-s-at-le8 c = cut 8 c.args.s.now c.args.at _ (omega arith)

pub returns : goal.returns
unfolding rounds_command
returns c =
    let a = c.args in
    let gain = to_z_pos w64 {n = c.unsigned_at.result} (omega arith) in
    let wanted = to_z_pos w64 {n = c.unsigned_at-3.result} (omega arith) in
    uncut 8 a.s.now a.at (omega arith)
    (rw (gain, wanted, c.unsigned_at.ensures.0, c.unsigned_at-3.ensures.0, c.unsigned_at-2.ensures.0) refl)
