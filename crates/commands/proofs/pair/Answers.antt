use native.Mathlib.Omega.{arith}
use mathlib.Core.Path.{ap}
use Rattle.integer.proofs.Sizes.{called}
use Rattle.commands.specs.declared.Command.TheVariants.{Give}
use Rattle.commands.specs.Format.{pair_command}
use Rattle.commands.proofs.Tests.{cut, uncut}
use Rattle.commands.proofs.pair.Goals as goal

pub returns-then-s-at-le4 : goal.returns-then-s-at-le4
unfolding pair_command
returns-then-s-at-le4 g c = λ entry told. cut 4 c.args.s.now c.args.at _ (omega arith)

pub returns : goal.returns
unfolding pair_command
returns g c =
    let v = c.signed_at in
    let made = rw (called v.result v.type_inv, v.ensures.value, c.unsigned_at-2.ensures.0, c.unsigned_at.ensures.0) at c.entry.ensures in
    λ entry told. uncut 4 c.args.s.now c.args.at (omega arith) (ap Give (told _ made))
