use Rattle.slip_text.proofs.Appending.{appended_then}
use Rattle.slip_text.proofs.lines.refused_at.Goals as goal

pub returns : goal.returns
returns c =
    let w = c.before.before.before in
    let place = appended_then w.with_word-named.ensures c.with_number-placed.ensures in
    c.with_word.ensures.holds _ (place.holds _ w.refused_number-numbered.ensures.holds)
