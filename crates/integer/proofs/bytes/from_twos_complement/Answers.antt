use native.Mathlib.Omega.{arith}
use Prim.Native.Nat.{◌*◌}
use mathlib.Core.Path.{◌≡◌}
use lib.IntN.{pos}
use mir.Syntax.{w64}
use mir.Val.{to_z}
use mir.Facts.{to_z-of_z, to_z_pos}
use borrow.Author.Tests.{lt-ltb, le-ltb}
use Rattle.integer.proofs.Parts.{minus}
use Rattle.integer.proofs.Sizes.{fitting}
use Rattle.integer.proofs.bytes.from_twos_complement.Goals as goal

pub returns-then-v-count : goal.returns-then-v-count
returns-then-v-count c =
    let a = c.args in
    rw (lt-ltb (2 * a.v) a.count (omega arith)) (to_z_pos w64 {n = a.v} (omega arith))

pub overflow_sub-result : goal.overflow_sub-result
overflow_sub-result c =
    let a = c.args in
    let v : to_z w64 a.v ≡ pos a.v = to_z_pos w64 (omega arith) in
    let n : to_z w64 a.count ≡ pos a.count = to_z_pos w64 (omega arith) in
    rw (v, n) (omega (arith, fitting, minus (pos a.v) (pos a.count)))

pub returns : goal.returns
returns c =
    let a = c.args in
    let v : to_z w64 a.v ≡ pos a.v = to_z_pos w64 (omega arith) in
    let n : to_z w64 a.count ≡ pos a.count = to_z_pos w64 (omega arith) in
    rw (to_z-of_z (overflow_sub-result c), v, n, le-ltb (2 * a.v) a.count (omega arith))
