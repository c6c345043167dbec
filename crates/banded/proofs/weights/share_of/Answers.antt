use mathlib.Core.Path.{refl}
use native.Mathlib.Omega.{arith}
use lib.IntN.{pos, ◌*ℤ◌}
use Rattle.integer.proofs.Sizes.{back_is}
use Rattle.banded.specs.Weights.{share}
use Rattle.float.proofs.Whole.{whole_fits}
use Rattle.banded.proofs.WeightLaws.{penalty-is, doubled_is, doubled_size}
use Rattle.banded.proofs.weights.share_of.Goals as goal

pub int_to_float-product : goal.int_to_float-product
int_to_float-product c =
    let x = c.args.x in
    rw (back_is x c.requires.0 (omega arith)) (whole_fits x (omega (arith, c.requires.0)))

pub int_to_float-product-2 : goal.int_to_float-product-2
int_to_float-product-2 c =
    let y = c.args.y in
    rw (back_is y c.requires.1 (omega arith)) (whole_fits y (omega (arith, c.requires.1)))

pub overflow_mul-result : goal.overflow_mul-result
overflow_mul-result c = (penalty-is c.args.h c.requires.2).fits

pub overflow_mul-result-2 : goal.overflow_mul-result-2
overflow_mul-result-2 c = (doubled_is c.args.h c.requires.2).fits

pub int_to_float-result : goal.int_to_float-result
int_to_float-result c =
    let h = c.args.h in
    let small = c.requires.2 in
    rw (doubled_is h small).is (whole_fits (pos 2 *ℤ (pos 4096 *ℤ h)) (omega (arith, doubled_size h small)))

pub returns : goal.returns
unfolding share
returns c =
    let start = c.before.before.before in
    rw (back_is start.args.x start.requires.0 (omega arith), back_is start.args.y start.requires.1 (omega arith), (doubled_is start.args.h start.requires.2).is) refl
