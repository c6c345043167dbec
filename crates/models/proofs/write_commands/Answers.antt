use Prim.Native.Nat.{◌+◌, ◌*◌, ◌<◌, ◌≤◌}
use mathlib.Core.Path.{◌≡◌, refl, sym, ap, ap₂, ◌∙◌}
use mathlib.Core.List.{◌++◌}
use native.Mathlib.Omega.{arith}
use lib.ListN.{length, get_or}
use lib.Ieee.{nan}
use Rattle.integer.proofs.Sizes.{called}
use Rattle.integer.proofs.Middle.{front_put}
use Rattle.models.specs.Models.{command, commands_from}
use Rattle.models.proofs.Output.{entry_command, command-length, commands_next}
use Rattle.models.proofs.write_commands.Goals as goal

pub loop-i-init : goal.loop-i-init
unfolding commands_from
loop-i-init c = refl

pub loop-i-preserved : goal.loop-i-preserved
unfolding command
loop-i-preserved c =
    let w = c.write_command in
    let l = c.loop-i in
    let a = c.args in
    let x = a.entries.now in
    let n = c.number_of-number in
    let h : l.i < length x = c.loop-i-test.true in
    let r : 5 * l.i + 5 ≤ length l.out = omega arith in
    let e : w.new.out ≡ entry_command a.byte a.columns l.i (get_or x l.i nan) =
    w.ensures ∙ ap (command a.byte a.columns l.i) (called n.result n.type_inv ∙ n.ensures.0) in
    let k : length w.new.out ≡ 5 = ap length e ∙ command-length a.byte a.columns l.i _ in
    let at : 5 * (l.i + 1) ≡ 5 * l.i + 5 = omega arith in
    rw at
    (front_put (5 * l.i) (5 * l.i + 5) 5 l.out refl r w.new.out k
    ∙ ap₂ ◌++◌ l.invariant e
    ∙ sym (commands_next a.byte a.columns x l.i h))
