use Prim.Native.Nat.{◌+◌, ◌*◌}
use mathlib.Core.Path.{refl}
use borrow.Author.Rules.{rules}
use borrow.Author.Tests.{eq-eqb, ne_eqb}
use Rattle.integer.specs.Places.{at}
use Rattle.integer.proofs.Sizes.{called}
use Rattle.banded.specs.Weights.{input_coefficient}
use Rattle.banded.proofs.weights.input_coefficient.Goals as goal

pub returns-then-s-k : goal.returns-then-s-k
unfolding input_coefficient
returns-then-s-k c = rw (called (at c.args.b.now (4 * c.args.i + c.args.c)) (search rules), eq-eqb _ _ c.if-s-k.true) refl

pub returns : goal.returns
unfolding input_coefficient
returns c = rw (ne_eqb _ _ c.if-s-k.false) refl
