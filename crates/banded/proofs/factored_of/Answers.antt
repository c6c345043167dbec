use mathlib.Core.Path.{refl, sym, ◌∙◌}
use Rattle.banded.proofs.factored_of.Goals as goal

pub returns-then-eliminated : goal.returns-then-eliminated
returns-then-eliminated c =
    let h = c.eliminate-eliminated.ensures in
    (rw (c.if-t.true, sym h.0 ∙ c.if-eliminated.true) refl, h.1)

pub returns-else-eliminated : goal.returns-else-eliminated
returns-else-eliminated c = rw (c.if-t.true, sym c.eliminate-eliminated.ensures.0 ∙ c.if-eliminated.false) refl

pub returns-else-t : goal.returns-else-t
returns-else-t c = rw c.if-t.false refl
