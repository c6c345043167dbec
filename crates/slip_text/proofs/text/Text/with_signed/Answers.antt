use mathlib.Core.Path.{◌≡◌, sym}
use native.Mathlib.Omega.{arith}
use lib.IntN.{nat_abs}
use mir.Facts.{to_z-of_z}
use Rattle.integer.proofs.Sizes.{fitting, fit}
use Rattle.slip_text.proofs.Appending.{appended_then, appended_within}
use Rattle.slip_text.proofs.Digits.{signed_below, signed-from}
use Rattle.slip_text.proofs.text.Text.with_signed.Goals as goal

pub returns-then-x-lt0 : goal.returns-then-x-lt0
returns-then-x-lt0 c =
    let s = c.before.before.before.before in
    let e : c.size.result ≡ nat_abs s.args.x = rw (to_z-of_z s.ranges.x) at c.size.ensures in
    rw (signed_below s.args.x (omega (arith, fitting, fit s.ranges.x)), sym e) (appended_then c.with_byte-minus.ensures c.with_number.ensures)

pub returns : goal.returns
returns c =
    let s = c.before.before.before in
    let e : c.size-2.result ≡ nat_abs s.args.x = rw (to_z-of_z s.ranges.x) at c.size-2.ensures in
    rw (signed-from s.args.x (omega (arith, fitting, fit s.ranges.x)), sym e) (appended_within 21 (omega arith) c.with_number-2.ensures)
