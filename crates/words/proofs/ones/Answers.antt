use native.Mathlib.Omega.{arith}
use lib.Count.{ones-le}
use Rattle.words.proofs.Bits.{ones_count}
use Rattle.words.proofs.ones.Goals as goal

pub overflow_cast-result : goal.overflow_cast-result
overflow_cast-result c = record { fits = omega (arith, ones-le 64 c.args.word (omega arith)) }

pub returns : goal.returns
returns c = ones_count 64 c.args.word (omega arith)
