use lib.ListN.{take}
use Rattle.slip_text.specs.Written.{Appended}
use Rattle.slip_text.proofs.text.Text.with_word.Given as goal

abbrev pub invariant-loop-b : goal.invariant-loop-b
invariant-loop-b l = Appended l.initial.text (take l.b-index l.word) l.b-index l.text
