use mathlib.Core.Path.{◌≡◌, ap}
use native.Mathlib.Omega.{arith}
use lib.ListN.{length, length-set}
use borrow.Author.Rules.{rules}
use Rattle.integer.specs.Places.{at}
use Rattle.integer.proofs.Sizes.{element_is}
use Rattle.float.proofs.Whole.{whole_fits}
use Rattle.banded.specs.Floats.{float}
use Rattle.banded.proofs.Stores.{holds-none, holds_store}
use Rattle.corrections.proofs.right_sides.Goals as goal

pub loop-p-init : goal.loop-p-init
loop-p-init c = (search rules, holds-none _ _)

pub int_to_float-sides : goal.int_to_float-sides
int_to_float-sides c =
    let s = c.before.before.before.before in
    let p = c.loop-p.p in
    rw (element_is s.requires.1 (omega arith) p) (whole_fits (at s.args.residuals.now p) (omega (arith, s.requires.1.each p)))

pub loop-p-preserved : goal.loop-p-preserved
loop-p-preserved c =
    let l = c.loop-p in
    let s = c.before.before.before.before in
    (simp length-set l.invariant.0, holds_store _ l.p l.sides _ (omega arith) (ap float (element_is s.requires.1 (omega arith) l.p)) l.invariant.1)

pub returns : goal.returns
returns c =
    let e : c.loop-p.p ≡ length c.args.residuals.now = omega arith in
    rw e at c.loop-p.invariant.1
