use mathlib.Core.Path.{◌≡◌}
use lib.ListN.{length}
use Rattle.problem.specs.Model.{problem_of}
use Rattle.banded.specs.Weights.{weights}
use Rattle.banded.specs.Rows.{KeptRows}
use Rattle.banded.proofs.eliminate.Given as goal

abbrev pub invariant-loop-p : goal.invariant-loop-p
invariant-loop-p l = (length l.rows ≡ 72) × KeptRows l.band (weights (problem_of l.t)) l.p l.rows
