use Prim.Native.Nat.{◌<◌, ◌^◌}
use mathlib.Core.Path.{◌≡◌, sym}
use lib.IntN.{ℤ}
use lib.Signed.{mag}
use mir.Syntax.{w32}
use mir.Val.{to_z, of_z}
use mir.Facts.{to_z-of_z}
use Rattle.slip_text.specs.Slip.{blank_and}
use Rattle.slip_text.proofs.Appending.{appended_none, appended_then}
use Rattle.slip_text.proofs.FirstLine.{four_each}
use Rattle.slip_text.proofs.lines.with_first.Goals as goal

-- a duty read from its bits
read : (z : ℤ) → mag z < 2 ^ 31 → to_z w32 (of_z w32 z) ≡ z
read z h = to_z-of_z {w = w32} {z = z} (record { sfits = h })

pub returns : goal.returns
returns c =
    let four = c.before.before in
    let three = four.before.before in
    let two = three.before.before in
    let one = two.before.before in
    let word = one.before.before in
    let a = word.args in
    let d = a.first in
    let r = one.struct_told-1.given in
    let last = appended_then three.with_duty-three.ensures (appended_then four.with_duty-four.ensures (appended_none _)) in
    let all = simp (read d.u0 r.0.1, read d.u1 r.1.0.1, read d.u2 r.1.1.0.1, read d.u3 r.1.1.1.0.1) at
    (appended_then one.with_duty-one.ensures (appended_then two.with_duty-two.ensures last)) in
    rw (sym (four_each blank_and a.m d.u0 d.u1 d.u2 d.u3)) (appended_then (appended_then word.with_word-named.ensures all) c.with_word.ensures)
