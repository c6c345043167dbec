use Rattle.ascent.proofs.Ascended.{sides-held, band_ascended}
use Rattle.ascent.proofs.ascend_by_band.Goals as goal

pub returns : goal.returns
returns c =
    let h = c.requires in
    let count = c.row_count-count.ensures.0 in
    let t = c.args.t.now in
    let sides = sides-held t h.0 h.3 (rw count at c.right_sides-sides.ensures) in
    let solve = rw count at c.correction_of-d.ensures in
    band_ascended t h.0 h.3 h.1 (solve _ _ h.2 sides) c.multipliers_by_rows.ensures
