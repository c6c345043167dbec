use mathlib.Core.Path.{◌∙◌}
use lib.Ieee.{nan}
use Rattle.std.proofs.lemmas.List.{get_or-take}
use Rattle.primal.proofs.Lent.{listed-whole}
use Rattle.corrections.proofs.write_correction.Goals as goal

pub returns : goal.returns
returns c = λ w k.
    let d = c.correction_of-d in
    let h = d.ensures w _ k c.right_sides-sides.ensures in
    let copied = c.copy_from_slice.ensures in
    listed-whole nan _ _ _ (copied.len ∙ c.requires.1) (λ j l. rw copied.after (get_or-take _ _ j nan l) ∙ h.each j l)
