use lib.ListN.{replicate}
use lib.IntN.{pos}
use Rattle.integer.specs.Places.{Stretch}
use Rattle.ascent.specs.Held.{banded_next}
use Rattle.ascent.proofs.band.multipliers_by_rows.Given as goal

abbrev pub invariant-loop-p : goal.invariant-loop-p
invariant-loop-p l = Stretch 0 l.p (banded_next l.n l.y l.d) (replicate 72 (pos 0)) l.next
