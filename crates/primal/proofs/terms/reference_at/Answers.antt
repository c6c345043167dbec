use Prim.Native.Nat.{◌+◌, ◌*◌}
use mathlib.Core.Path.{◌∙◌}
use native.Mathlib.Omega.{arith}
use Rattle.integer.specs.Places.{at}
use Rattle.integer.proofs.Sizes.{back_is}
use Rattle.tape.specs.Tape.{step_reference}
use Rattle.primal.proofs.terms.reference_at.Goals as goal

pub returns-then-t-p : goal.returns-then-t-p
unfolding step_reference
returns-then-t-p c =
    let t = c.args.t.now in
    let p = 12 * c.args.column + c.args.k in
    rw (c.if-t-p.true) (back_is (at t.curves.reference p) (c.requires.0.curves.each p) (omega arith))

pub returns-else-t-p : goal.returns-else-t-p
unfolding step_reference
returns-else-t-p c =
    let t = c.args.t.now in
    rw (c.if-t-p.false) (back_is (at t.reference c.args.column) (c.requires.0.reference.each c.args.column) (omega arith))
