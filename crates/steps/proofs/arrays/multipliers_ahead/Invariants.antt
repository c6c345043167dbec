use Rattle.steps.specs.Steps.{ahead}
use Rattle.steps.proofs.Combined.{Combined}
use Rattle.steps.proofs.arrays.multipliers_ahead.Given as goal

abbrev pub invariant-loop-p : goal.invariant-loop-p
invariant-loop-p l =
    Combined (ahead l.k) l.y l.previous l.initial.next l.p l.next
