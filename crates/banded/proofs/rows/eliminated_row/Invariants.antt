use mathlib.Core.Path.{◌≡◌}
use lib.ListN.{length}
use Rattle.banded.proofs.Reduction.{Reduction}
use Rattle.banded.proofs.rows.eliminated_row.Given as goal

abbrev pub invariant-loop-p : goal.invariant-loop-p
invariant-loop-p l =
    (length l.factors ≡ 11) × Reduction l.band l.a l.rows l.initial.y l.p l.y l.factors
