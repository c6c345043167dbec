use mir.Facts.{to_z-of_z}
use Rattle.slip_text.proofs.lines.proved.Goals as goal

pub returns : goal.returns
returns c =
    let f = c.before in
    let g = f.before in
    let k = g.before in
    let gap = rw (to_z-of_z k.ranges.gap) at g.with_gap-bounded.ensures in
    c.with_ranges.ensures.holds _ (f.with_first-set.ensures.holds _ (gap.holds _ k.kind_and_rounds-entered.ensures.holds))
