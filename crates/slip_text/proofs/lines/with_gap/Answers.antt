use mir.Facts.{to_z-of_z}
use Rattle.slip_text.proofs.Appending.{appended_then}
use Rattle.slip_text.proofs.lines.with_gap.Goals as goal

pub returns : goal.returns
returns c =
    let w = c.before.before.before in
    let gap = rw (to_z-of_z w.ranges.gap) at c.with_signed-numbered.ensures in
    appended_then (appended_then w.with_word-named.ensures gap) c.with_word.ensures
