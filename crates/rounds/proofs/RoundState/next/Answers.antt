use mathlib.Core.Path.{refl}
use Rattle.rounds.proofs.RoundState.next.Goals as goal

pub returns : goal.returns
returns c = (refl, refl)
