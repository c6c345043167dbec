use Rattle.std.proofs.Common.{rules}
use Rattle.integer.specs.Tests.{outside}
use Rattle.integer.proofs.number.is_outside.Goals as goal

pub returns-then-v-lo : goal.returns-then-v-lo
unfolding outside
returns-then-v-lo c = search rules

pub returns-else-v-lo : goal.returns-else-v-lo
unfolding outside
returns-else-v-lo c = search rules
