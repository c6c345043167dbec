use native.Mathlib.Omega.{arith}
use native.Mathlib.Nat.{le_refl}
use mathlib.Core.Path.{◌≡◌}
use lib.IntN.{pos}
use mir.Syntax.{w64}
use mir.Val.{to_z}
use mir.Facts.{to_z-of_z, to_z_pos}
use Rattle.integer.proofs.Encoding.{complement-below, complement-from}
use Rattle.integer.proofs.Sizes.{fitting, fit, fits_by, size-add, casts}
use Rattle.integer.proofs.bytes.twos_complement.Goals as goal

pub overflow_add-result : goal.overflow_add-result
overflow_add-result c =
    let a = c.args in
    let n : to_z w64 a.count ≡ pos a.count = to_z_pos w64 (omega arith) in
    rw (to_z-of_z c.ranges.number, n) (fits_by _ (size-add a.number (pos a.count) c.requires.0 (le_refl a.count)) (omega arith))

pub overflow_cast-result-then-number-lt0 : goal.overflow_cast-result-then-number-lt0
overflow_cast-result-then-number-lt0 c =
    let a = c.args in
    let f = c.ranges.number in
    let n : to_z w64 a.count ≡ pos a.count = to_z_pos w64 (omega arith) in
    let h = complement-below a.count a.number (omega (arith, fitting, fit f)) c.requires.0 in
    rw (to_z-of_z (overflow_add-result c), to_z-of_z f, n) (casts h.1 (rw (to_z-of_z f, n) at (overflow_add-result c)))

pub returns-then-number-lt0 : goal.returns-then-number-lt0
returns-then-number-lt0 c =
    let a = c.args in
    let f = c.ranges.number in
    let n : to_z w64 a.count ≡ pos a.count = to_z_pos w64 (omega arith) in
    rw (to_z-of_z (overflow_add-result c), to_z-of_z f, n) (complement-below a.count a.number (omega (arith, fitting, fit f)) c.requires.0).0

pub overflow_cast-result-2 : goal.overflow_cast-result-2
overflow_cast-result-2 c =
    let f = c.ranges.number in
    rw (to_z-of_z f) (casts (omega (arith, fitting, fit f)) f)

pub returns : goal.returns
returns c =
    let a = c.args in
    let f = c.ranges.number in
    rw (to_z-of_z f) (complement-from a.count a.number (omega (arith, fitting, fit f)))
