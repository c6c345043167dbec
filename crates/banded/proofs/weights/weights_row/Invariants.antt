use mathlib.Core.Path.{◌≡◌}
use lib.ListN.{length}
use Rattle.problem.specs.Model.{problem_of}
use Rattle.banded.specs.Weights.{weights}
use Rattle.banded.proofs.WeightLaws.{FilledTo}
use Rattle.banded.proofs.weights.weights_row.Given as goal

abbrev pub invariant-loop-c : goal.invariant-loop-c
invariant-loop-c l =
    (length l.x ≡ 23) × FilledTo l.band (weights (problem_of l.t)) l.row l.c l.x
