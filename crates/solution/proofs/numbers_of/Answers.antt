use mathlib.Core.Path.{sym, ◌∙◌}
use Rattle.tape.specs.Reading.{reading}
use Rattle.tape.proofs.Told.{told_ok, told_err}
use Rattle.solution.proofs.TapeSizes.{refused_blank}
use Rattle.solution.proofs.numbers_of.Goals as goal

pub returns-in-Ok : goal.returns-in-Ok
returns-in-Ok c =
    sym (told_ok (reading c.args.tape.now) (sym c.read.ensures ∙ c.in-Ok.is)).1

pub returns-in-Err : goal.returns-in-Err
returns-in-Err c =
    let s = c.args.tape.now in
    c.blank.ensures ∙ sym (refused_blank s (told_err (reading s) (sym c.read.ensures ∙ c.in-Err.is)))
