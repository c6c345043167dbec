use native.Mathlib.Omega.{arith}
use mir.Syntax.{w64}
use mir.Facts.{to_z_pos}
use Rattle.integer.proofs.Sizes.{called}
use Rattle.commands.specs.Format.{column_command}
use Rattle.commands.proofs.Tests.{cut, uncut}
use Rattle.commands.proofs.column.Goals as goal

pub returns-then-s-at-le8 : goal.returns-then-s-at-le8
unfolding column_command
returns-then-s-at-le8 c = cut 8 c.args.s.now c.args.at _ (omega arith)

pub returns : goal.returns
unfolding column_command
returns c =
    let a = c.args in
    let low = c.signed_at in
    let high = c.signed_at-2 in
    let reference = c.signed_at-3 in
    let weight = to_z_pos w64 {n = c.unsigned_at-2.result} (omega arith) in
    uncut 8 a.s.now a.at (omega arith)
    (rw (
      called low.result low.type_inv,
      called high.result high.type_inv,
      called reference.result reference.type_inv,
      weight,
      low.ensures.value,
      high.ensures.value,
      reference.ensures.value,
      c.unsigned_at-2.ensures.0,
      c.unsigned_at.ensures.0,
    ))
