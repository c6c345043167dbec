use mathlib.Core.Bool.{false}
use lib.ListN.{length, get_or-eq_default}
use borrow.Author.Tests.{le-ltb}
use Rattle.words.proofs.is_marked.Goals as goal

pub returns-else-place-marks : goal.returns-else-place-marks
returns-else-place-marks c = let a = c.args in rw (get_or-eq_default a.marks.now false c.if-place-marks.false) (le-ltb a.place (length a.marks.now) c.if-place-marks.false)
