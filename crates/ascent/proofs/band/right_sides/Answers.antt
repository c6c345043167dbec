use Prim.Native.Nat.{ℕ}
use mathlib.Core.Path.{◌≡◌, ap, ◌∙◌}
use native.Mathlib.Omega.{arith}
use lib.ListN.{length-set}
use borrow.Author.Rules.{rules}
use Rattle.integer.specs.Places.{at}
use Rattle.integer.proofs.Sizes.{element_is}
use Rattle.float.proofs.Whole.{whole_fits}
use Rattle.banded.specs.Floats.{float}
use Rattle.banded.proofs.Stores.{holds-none, holds_store}
use Rattle.ascent.proofs.band.right_sides.Goals as goal

pub loop-a-init : goal.loop-a-init
loop-a-init c = (search rules, holds-none _ _)

pub int_to_float-sides : goal.int_to_float-sides
int_to_float-sides c =
    let h = c.requires.3 in
    let p = c.place_of.result in
    rw (element_is h (omega arith) p) (whole_fits (at c.args.e.now p) (omega (arith, h.each p)))

pub loop-a-preserved : goal.loop-a-preserved
loop-a-preserved c =
    let l = c.loop-a in
    let s = c.before.before.before.before.before in
    let p = c.place_of in (
      simp length-set l.invariant.0,
      holds_store _ l.a l.sides _ (omega arith)
          (ap float (element_is s.requires.3 (omega arith) p.result) ∙ ap (λ (q : ℕ). float (at s.args.e.now q)) p.ensures.0)
          l.invariant.1,
    )

pub returns : goal.returns
returns c =
    let e : c.loop-a.a ≡ c.args.count = omega arith in
    rw e at c.loop-a.invariant.1
