use Prim.Native.Nat.{◌+◌, ◌*◌}
use mathlib.Core.Path.{◌≡◌, sym, ◌∙◌, ap}
use native.Mathlib.Omega.{arith}
use borrow.Author.Rules.{rules}
use borrow.Author.Tests.{lt-ltb, le-ltb}
use mir.Facts.{to_z-of_z}
use Rattle.integer.specs.Places.{at}
use Rattle.integer.proofs.Sizes.{back, bounded_fits}
use Rattle.primal.specs.Padded.{padded_plan}
use Rattle.solver.specs.Solving.{duty}
use Rattle.solver.proofs.Written.{first-inputs}
use Rattle.solver.proofs.duty_at.Goals as goal

pub overflow_cast-result : goal.overflow_cast-result
overflow_cast-result c =
    let x = at c.args.v.now c.args.j in
    let is : back x ≡ x = search rules in
    rw is (bounded_fits c.requires.2 (omega arith) c.args.j)

pub returns-then-j-m : goal.returns-then-j-m
unfolding duty
returns-then-j-m c =
    let a = c.args in
    let x = at a.v.now a.j in
    let is : back x ≡ x = search rules in
    let z : 10 * 0 + a.j ≡ a.j = omega arith in
    rw (lt-ltb _ _ c.if-j-m.true)
    (to_z-of_z (overflow_cast-result c) ∙ is
    ∙ sym (first-inputs a.n a.m a.horizon (padded_plan a.v.now) a.j c.requires.1 c.if-j-m.true ∙ ap (at a.v.now) z))

pub returns : goal.returns
unfolding duty
returns c = rw (le-ltb _ _ c.if-j-m.false)
