use Rattle.primal.proofs.TermSizes.{Near, distance}
use Rattle.dual.proofs.PieceSizes.{doubled, risen, tilted}
use Rattle.dual.proofs.pieces.tilt_at.Goals as goal

number : (c : goal.Start) → Near c.args.p c.args.v c.args.r
number c = let h = c.requires in record { penalty = h.0; number = h.1; reference = h.2 }

pub overflow_mul-result : goal.overflow_mul-result
overflow_mul-result c = (doubled (number c)).fits

pub overflow_sub-result : goal.overflow_sub-result
overflow_sub-result c = (distance (number c)).fits

pub overflow_mul-result-2 : goal.overflow_mul-result-2
overflow_mul-result-2 c = (risen (number c)).fits

pub overflow_add-result : goal.overflow_add-result
overflow_add-result c = (tilted (number c) c.args.s c.requires.3).fits

pub returns : goal.returns
returns c = (tilted (number c) c.args.s c.requires.3).is
