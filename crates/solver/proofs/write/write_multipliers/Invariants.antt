use Rattle.primal.specs.Padded.{padded}
use Rattle.primal.specs.Lent.{listed}
use Rattle.solver.proofs.Written.{WrittenSteps}
use Rattle.solver.proofs.write.write_multipliers.Given as goal

abbrev pub invariant-loop-k : goal.invariant-loop-k
invariant-loop-k l =
    WrittenSteps l.n l.k (λ q. listed l.n (padded l.y q)) l.initial.multipliers l.multipliers
