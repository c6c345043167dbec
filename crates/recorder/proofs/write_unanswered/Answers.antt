use mathlib.Core.Path.{refl}
use Rattle.tape.specs.Refusals.{row}
use Rattle.recorder.proofs.Promise.{left_unanswered}
use Rattle.recorder.proofs.write_unanswered.Goals as goal

pub write_open-requires : goal.write_open-requires
write_open-requires c = (c.requires.1, c.requires.2, rw (rw c.carries.ensures at c.in-Rounds.is) at c.requires.0)

pub returns-in-Rounds : goal.returns-in-Rounds
returns-in-Rounds c =
    let w = c.write_open.ensures in
    rw (rw c.carries.ensures at c.in-Rounds.is) (record { value = refl; laboratory_after = w.laboratory_after; service_after = w.service_after })

pub returns : goal.returns
returns c =
    let a = c.args in
    rw (left_unanswered a.sizes a.why (row a.why).carries (rw c.carries.ensures at c.in_default.not-Rounds)) (record { value = refl; laboratory_after = refl; service_after = refl })
