use Prim.Native.Nat.{◌+◌}
use mathlib.Core.List.{◌++◌}
use Rattle.primal.specs.Padded.{padded_plan}
use Rattle.primal.specs.Lent.{listed}
use Rattle.solver.proofs.Written.{WrittenSteps}
use Rattle.solver.proofs.write.write_plan.Given as goal

abbrev pub invariant-loop-k : goal.invariant-loop-k
invariant-loop-k l =
    WrittenSteps (l.n + l.m) l.k (λ q. listed l.m ((padded_plan l.v).u q) ++ listed l.n ((padded_plan l.v).x q)) l.initial.plan l.plan
