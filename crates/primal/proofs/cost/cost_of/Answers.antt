use Rattle.primal.proofs.TermSizes.{Near, distance, squared, weighted}
use Rattle.primal.proofs.cost.cost_of.Goals as goal

number : (c : goal.Start) → Near c.args.p c.args.v c.args.r
number c = let h = c.requires in record { penalty = h.0; number = h.2; reference = h.1 }

pub overflow_sub-d : goal.overflow_sub-d
overflow_sub-d c = (distance (number c)).fits

pub overflow_mul-result : goal.overflow_mul-result
overflow_mul-result c = (squared (number c)).fits

pub overflow_mul-result-2 : goal.overflow_mul-result-2
overflow_mul-result-2 c = (weighted (number c)).fits

pub returns : goal.returns
returns c = (weighted (number c)).is
