use Prim.Native.Nat.{◌+◌, ◌*◌}
use mathlib.Core.Path.{refl}
use borrow.Author.Rules.{rules}
use borrow.Author.Tests.{eq-eqb, ne_eqb}
use Rattle.integer.specs.Places.{at}
use Rattle.integer.proofs.Sizes.{called}
use Rattle.banded.specs.Weights.{state_coefficient}
use Rattle.banded.proofs.weights.state_coefficient.Goals as goal

pub returns-then-c-i : goal.returns-then-c-i
unfolding state_coefficient
returns-then-c-i c = rw (eq-eqb _ _ c.if-s-k.true, eq-eqb _ _ c.if-c-i.true) refl

pub returns-then-s-k : goal.returns-then-s-k
unfolding state_coefficient
returns-then-s-k c = rw (eq-eqb _ _ c.if-s-k.true, ne_eqb _ _ c.if-c-i.false) refl

pub returns-then-s-k-2 : goal.returns-then-s-k-2
unfolding state_coefficient
returns-then-s-k-2 c = rw (called (at c.args.a.now (6 * c.args.i + c.args.c)) (search rules), ne_eqb _ _ c.if-s-k.false, eq-eqb _ _ c.if-s-k-2.true) refl

pub returns : goal.returns
unfolding state_coefficient
returns c = rw (ne_eqb _ _ c.if-s-k.false, ne_eqb _ _ c.if-s-k-2.false) refl
