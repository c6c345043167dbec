use Prim.Native.Nat.{◌+◌}
use mathlib.Core.Path.{◌≡◌, refl, sym}
use native.Mathlib.Omega.{arith}
use Rattle.integer.proofs.Sizes.{called}
use Rattle.integer.specs.Tests.{any}
use Rattle.integer.proofs.Tests.{any_at, any_more}
use Rattle.tape.specs.Reading.{lacks_weight}
use Rattle.tape.proofs.Tape.lacks_weight.Invariants.{zero_at}
use Rattle.tape.proofs.Tape.lacks_weight.Goals as goal

pub returns-then-not-self : goal.returns-then-not-self
unfolding lacks_weight
returns-then-not-self c = rw c.if-not-self.true

pub loop-column-init : goal.loop-column-init
unfolding any
loop-column-init c = refl

pub returns-then-self-column-le0 : goal.returns-then-self-column-le0
unfolding lacks_weight
returns-then-self-column-le0 c =
    let t = c.args.self.now in
    let found = any_at (t.n + t.m) c.loop-column.column (zero_at t.weight) (omega arith) (rw (called _ c.t12-1.given) at c.if-self-column-le0.true) in
    rw (c.if-not-self.false, found)

pub loop-column-preserved : goal.loop-column-preserved
loop-column-preserved c =
    any_more c.loop-column.column (zero_at c.args.self.now.weight) c.loop-column.invariant (rw (called _ c.t12-1.given) at c.if-self-column-le0.false)

pub returns : goal.returns
unfolding lacks_weight
returns c =
    let t = c.args.self.now in
    let all : c.loop-column.column ≡ t.n + t.m = omega arith in
    rw (c.if-not-self.false) (sym (rw all at c.loop-column.invariant))
