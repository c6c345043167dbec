use mathlib.Core.Path.{◌∙◌}
use native.Mathlib.Omega.{arith}
use Rattle.integer.proofs.Limited.{size-limited}
use Rattle.integer.proofs.Sizes.{called}
use Rattle.banded_test.proofs.show_next.Goals as goal

-- a limited number is no larger than its limits
pub next_multiplier-requires : goal.next_multiplier-requires
next_multiplier-requires g c = rw (called c.limit.result c.limit.type_inv ∙ c.limit.ensures) (size-limited _ _ _ (omega arith) (omega arith))
