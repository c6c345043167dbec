use native.Mathlib.Omega.{arith}
use Rattle.numbers.proofs.Codes.{number-range}
use Rattle.numbers.proofs.code.Goals as goal

pub overflow_add-result : goal.overflow_add-result
overflow_add-result c = omega (arith, number-range c.args.why)
