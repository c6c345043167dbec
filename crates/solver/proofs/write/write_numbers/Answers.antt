use Prim.Native.Nat.{◌+◌}
use mathlib.Core.Path.{◌≡◌}
use borrow.Author.Rules.{rules}
use native.Mathlib.Omega.{arith}
use lib.IntN.{pos}
use Rattle.integer.specs.Places.{at}
use Rattle.integer.proofs.Sizes.{back, bounded_fits}
use Rattle.integer.proofs.Places.{stretch_none, fill_store, fill_at}
use Rattle.primal.proofs.Lent.{listed-whole}
use Rattle.solver.proofs.write.write_numbers.Goals as goal

pub loop-j-init : goal.loop-j-init
loop-j-init c = stretch_none _ _ _

pub overflow_cast-part : goal.overflow_cast-part
overflow_cast-part c =
    let p = c.args.first + c.loop-j.j in
    let x = at c.args.from.now p in
    let is : back x ≡ x = search rules in
    rw is (bounded_fits c.requires.1 (omega arith) p)

pub loop-j-preserved : goal.loop-j-preserved
loop-j-preserved c =
    fill_store c.loop-j.invariant (omega arith) (search rules)

pub returns : goal.returns
returns c =
    let l = c.loop-j in
    listed-whole (pos 0) _ _ _ l.invariant.same (λ j h. fill_at l.invariant j (omega arith))
