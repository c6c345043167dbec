use Rattle.banded.proofs.Solving.{Side}
use Rattle.banded.proofs.solve.side_of.Given as goal

abbrev pub invariant-loop-p : goal.invariant-loop-p
invariant-loop-p l = Side l.band l.a l.factors l.s l.e l.p l.r
