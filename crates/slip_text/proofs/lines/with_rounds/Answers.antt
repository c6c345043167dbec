use Rattle.slip_text.proofs.Appending.{appended_then}
use Rattle.slip_text.proofs.lines.with_rounds.Goals as goal

pub returns : goal.returns
returns c = appended_then (appended_then c.with_word-named.ensures c.with_number-numbered.ensures) c.with_word.ensures
