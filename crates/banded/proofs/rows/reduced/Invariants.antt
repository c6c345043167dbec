use mathlib.Core.Path.{◌≡◌}
use lib.ListN.{length}
use Rattle.banded.specs.Rows.{Reduced}
use Rattle.banded.proofs.rows.reduced.Given as goal

abbrev pub invariant-loop-j : goal.invariant-loop-j
invariant-loop-j l = (length l.next ≡ 23) × Reduced l.j l.q l.f l.couplings l.x l.next
