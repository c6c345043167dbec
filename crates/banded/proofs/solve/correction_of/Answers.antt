use Rattle.banded.proofs.Solving.{solved_all}
use Rattle.banded.proofs.solve.correction_of.Goals as goal

pub returns : goal.returns
returns c = λ w right b g. solved_all _ _ _ _ _ (c.solved_up.ensures w right b (c.sides_of-s.ensures w right b g))
