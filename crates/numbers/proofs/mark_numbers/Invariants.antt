use lib.ListN.{replicate}
use lib.IntN.{pos}
use Rattle.integer.specs.Places.{Stretch}
use Rattle.commands.specs.Marks.{marked}
use Rattle.numbers.specs.Numbers.{mark_number}
use Rattle.numbers.proofs.mark_numbers.Given as goal

abbrev pub invariant-loop-p : goal.invariant-loop-p
invariant-loop-p l = Stretch 0 l.p (λ q. mark_number (marked l.fn.given q)) (replicate 120 (pos 0)) l.marks
