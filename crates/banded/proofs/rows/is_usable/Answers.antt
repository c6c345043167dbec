use mathlib.Core.Path.{◌∙◌}
use Rattle.banded.proofs.Stores.{zero_bits, infinite_bits, usable-is, unusable_is}
use Rattle.banded.proofs.rows.is_usable.Goals as goal

pub returns-then-x : goal.returns-then-x
returns-then-x c = rw infinite_bits (usable-is c.args.x (rw zero_bits at c.if-x.true))

pub returns-else-x : goal.returns-else-x
returns-else-x c = c.if-x.false ∙ unusable_is c.args.x (rw zero_bits at c.if-x.false)
