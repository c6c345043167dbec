use Prim.Native.Nat.{◌<◌}
use mathlib.Core.Path.{◌≡◌}
use Rattle.problem.specs.Model.{problem_of}
use Rattle.banded.specs.Weights.{weight_to}
use Rattle.banded.proofs.weights.weight_of.Given as goal

abbrev pub invariant-loop-s : goal.invariant-loop-s
invariant-loop-s l =
    (l.i < l.n) × (l.j < l.n) × (l.sum ≡ weight_to (problem_of l.t) l.k l.i l.l l.j l.s)
