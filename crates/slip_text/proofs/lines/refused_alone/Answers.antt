use Rattle.slip_text.proofs.lines.refused_alone.Goals as goal

pub returns : goal.returns
returns c = c.with_word.ensures.holds _ c.refused_number.ensures.holds
