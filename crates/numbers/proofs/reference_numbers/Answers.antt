use mathlib.Core.Path.{◌∙◌}
use mathlib.Core.List.{map}
use native.Mathlib.Omega.{arith}
use lib.ListN.{replicate, length-map, length-replicate}
use lib.IntN.{pos}
use Rattle.integer.proofs.Filled.{filled_none, filled_more, filled_whole}
use Rattle.numbers.specs.Numbers.{mark_number}
use Rattle.numbers.proofs.reference_numbers.Goals as goal

pub returns : goal.returns
returns c =
    let curves = c.args.t.curves in
    filled_whole
    (filled_more 120 120 (map mark_number curves.given) (length-map curves.given mark_number ∙ (omega arith))
    (filled_more 0 120 curves.reference (omega arith) (filled_none 240 {out = replicate 240 (pos 0)} (length-replicate 240 (pos 0))) c.put.ensures)
    (rw c.mark_numbers-marks.ensures at c.put-2.ensures))
