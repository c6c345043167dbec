use Prim.Native.Nat.{◌*◌, ◌≤◌}
use mathlib.Core.Path.{◌∙◌, ap}
use native.Mathlib.Omega.{arith}
use native.Mathlib.Nat.{le_refl}
use lib.IntN.{ℤ, pos, nat_abs, ◌*ℤ◌}
use Rattle.integer.proofs.Sizes.{called, size-mul, back, Formed, formed}
use Rattle.commands.specs.Ranges.{most_multiplier}
use Rattle.dual.proofs.ByPlace.{sizes_places}
use Rattle.dual.proofs.FloorSizes.{size-sizes}
use Rattle.dual.proofs.floor.allowance.Goals as goal

product : (c : goal.After-sizes_of) → Formed (pos 2048 *ℤ back c.sizes_of.result) (pos 2048 *ℤ c.sizes_of.result)
product c =
    let f = c.sizes_of in
    let most : nat_abs f.result ≤ 72 * most_multiplier = rw f.ensures (size-sizes _ (omega arith) c.requires.1) in
    formed (rw (called f.result f.type_inv)) (size-mul (pos 2048) f.result (le_refl 2048) most) (omega arith)

pub overflow_mul-result : goal.overflow_mul-result
overflow_mul-result c = (product c).fits

pub returns : goal.returns
returns c =
    let s = c.before in
    (product c).is ∙ ap (λ (z : ℤ). pos 2048 *ℤ z) (c.sizes_of.ensures ∙ sizes_places s.args.horizon s.args.y.now)
