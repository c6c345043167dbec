use Prim.Native.Nat.{◌≤◌, ◌*◌}
use mathlib.Core.Path.{refl}
use native.Mathlib.Nat.{mul-le-mul, mul-le-mul_right}
use native.Mathlib.Omega.{arith}
use Rattle.banded.proofs.rows.row_count.Goals as goal

pub overflow_mul-result : goal.overflow_mul-result
overflow_mul-result c =
    let h : c.args.horizon * c.args.n ≤ 12 * 6 = mul-le-mul c.requires.1 c.requires.0 in
    omega arith

pub returns : goal.returns
returns c = (refl, mul-le-mul_right c.args.n c.requires.1)
