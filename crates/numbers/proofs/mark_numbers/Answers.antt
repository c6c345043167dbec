use mathlib.Core.Path.{◌≡◌, sym, ◌∙◌}
use mathlib.Core.Bool.{false}
use mathlib.Core.List.{map}
use native.Mathlib.Omega.{arith}
use lib.ListN.{length-map, get_or-map}
use lib.Seq.{ext_get_or}
use lib.IntN.{pos}
use Rattle.integer.proofs.Places.{stretch_none, fill_store, fill_at}
use Rattle.integer.proofs.Sizes.{called}
use Rattle.numbers.specs.Numbers.{mark_number}
use Rattle.numbers.proofs.mark_numbers.Goals as goal

pub loop-p-init : goal.loop-p-init
loop-p-init c = stretch_none _ _ _

pub loop-p-preserved : goal.loop-p-preserved
loop-p-preserved c =
    fill_store c.loop-p.invariant (omega arith) (called c.mark_number.result c.mark_number.type_inv ∙ c.mark_number.ensures)

pub returns : goal.returns
returns c =
    let given = c.args.given.now in
    let e : c.loop-p.p ≡ 120 = omega arith in
    let s = rw e at c.loop-p.invariant in
    ext_get_or (pos 0) _ (map mark_number given) (s.same ∙ sym (length-map given mark_number ∙ c.requires))
    (λ i h. fill_at s i (omega (arith, s.same)) ∙ sym (get_or-map mark_number given i false))
