use mathlib.Core.Path.{refl}
use Rattle.slip_text.specs.Slip.{text_of}
use Rattle.slip_text.proofs.text.Text.empty.Goals as goal

pub returns : goal.returns
unfolding text_of
returns c = (refl, record { is = refl })
